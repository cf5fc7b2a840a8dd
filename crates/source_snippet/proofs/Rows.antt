-- Worked rows: whole messages.
use Rattle.std.proofs.Common.{◌≡◌, ◌≢◌, ◌<◌, ◌≤◌, List, [], ◌∷◌, refl, sym, ap, ◌∙◌, inl, inr, ℕ, lit≤, arith}
use Rattle.std.specs.Prelude.{◌⊎◌, codes, slice_index}
use Rattle.std.specs.Fmt.{digits}
use Rattle.std.specs.Str.{chars}
use Rattle.ucd_derived.proofs.Computing.{ucd_derived}
use Rattle.source_snippet.specs.Characters.{shown}
use Rattle.source_snippet.specs.Lines.{IsLineAt}
use Rattle.source_snippet.specs.Messages.{Numbered, Part, message}
use Rattle.source_snippet.specs.Underlines.{Row, marked}
use Rattle.source_snippet.specs.declared.message.Range.{Range}
use Rattle.source_snippet.specs.declared.message.Rank.{Rank}
use Rattle.source_snippet.specs.declared.message.Rank.TheVariants.{First, Second}

abbrev bytes : ℕ → ℕ → Range
bytes from to = record { start = from; end = to }

abbrev label : List Range → Rank → List ℕ → Row
label ranges rank text = record { ranges = ranges; rank = rank; text = text }

abbrev line : ℕ → List ℕ → List Row → Numbered
line number text rows = record { number = number; text = text; rows = rows }

abbrev wants_a_fragment-parts : List Part
wants_a_fragment-parts =
    record {
      title = codes "error: no rule matches this call of `set`";
      file = codes "calls.rs";
      line = 9;
      column = 6;
      lines = (line 9 (codes "set!(7 = x);") (label (bytes 5 6 ∷ []) First (codes "rule 1 wants `$n:ident` here") ∷ []) ∷ []);
      notes = [];
    }
    ∷ record {
      title = codes "note: rule 1 of `set`";
      file = codes "calls.rs";
      line = 1;
      column = 21;
      lines = (line 1 (codes "macro_rules! set { ($n:ident = $v:literal) => { let $n = $v; } }") (label (bytes 20 28 ∷ []) First [] ∷ []) ∷ []);
      notes = [];
    }
    ∷ []

wants_a_fragment : message wants_a_fragment-parts ≡ codes "error: no rule matches this call of `set`\n --> calls.rs:9:6\n  |\n9 | set!(7 = x);\n  |      ^ rule 1 wants `$n:ident` here\n  |\nnote: rule 1 of `set`\n --> calls.rs:1:21\n  |\n1 | macro_rules! set { ($n:ident = $v:literal) => { let $n = $v; } }\n  |                     ^^^^^^^^\n"
unfolding chars digits lib.Utf8.encode ucd_derived
wants_a_fragment = refl

abbrev another_rule_stops_before-parts : List Part
another_rule_stops_before-parts =
    record {
      title = codes "error: no rule matches this call of `pair`";
      file = codes "calls.rs";
      line = 10;
      column = 9;
      lines = (line 10 (codes "pair!(1 2);") (label (bytes 8 9 ∷ []) First (codes "rule 1 wants `;` here") ∷ []) ∷ []);
      notes = [];
    }
    ∷ record {
      title = codes "note: rule 1 of `pair`, which comes furthest";
      file = codes "calls.rs";
      line = 2;
      column = 29;
      lines = (line 2 (codes "macro_rules! pair { ($l:expr; $r:expr) => { ($l, $r) }; (none) => { () } }") (label (bytes 28 29 ∷ []) First [] ∷ []) ∷ []);
      notes = (codes "rule 2 stops at 10:7, `1`: it wants `none`" ∷ []);
    }
    ∷ []

another_rule_stops_before : message another_rule_stops_before-parts ≡ codes "error: no rule matches this call of `pair`\n  --> calls.rs:10:9\n   |\n10 | pair!(1 2);\n   |         ^ rule 1 wants `;` here\n   |\nnote: rule 1 of `pair`, which comes furthest\n  --> calls.rs:2:29\n   |\n 2 | macro_rules! pair { ($l:expr; $r:expr) => { ($l, $r) }; (none) => { () } }\n   |                             ^\n   = rule 2 stops at 10:7, `1`: it wants `none`\n"
unfolding chars digits lib.Utf8.encode ucd_derived
another_rule_stops_before = refl

abbrev wants_one_of_two-parts : List Part
wants_one_of_two-parts =
    record {
      title = codes "error: no rule matches this call of `row`";
      file = codes "calls.rs";
      line = 9;
      column = 21;
      lines = (line 9 (codes "let r = row!(a: 1   b: 2);") (label (bytes 20 21 ∷ []) First (codes "rule 1 wants `,` here, or the end of the argument") ∷ []) ∷ []);
      notes = [];
    }
    ∷ record {
      title = codes "note: rule 1 of `row`";
      file = codes "calls.rs";
      line = 1;
      column = 43;
      lines = (line 1 (codes "macro_rules! row { ($($f:ident: $v:literal),* $(,)?) => { [$($v),*] } }") (label (bytes 42 43 ∷ []) First [] ∷ []) ∷ []);
      notes = [];
    }
    ∷ []

wants_one_of_two : message wants_one_of_two-parts ≡ codes "error: no rule matches this call of `row`\n --> calls.rs:9:21\n  |\n9 | let r = row!(a: 1   b: 2);\n  |                     ^ rule 1 wants `,` here, or the end of the argument\n  |\nnote: rule 1 of `row`\n --> calls.rs:1:43\n  |\n1 | macro_rules! row { ($($f:ident: $v:literal),* $(,)?) => { [$($v),*] } }\n  |                                           ^\n"
unfolding chars digits lib.Utf8.encode ucd_derived
wants_one_of_two = refl

abbrev may_read_in_two_ways-parts : List Part
may_read_in_two_ways-parts =
    record {
      title = codes "error: no rule matches this call of `last`";
      file = codes "calls.rs";
      line = 12;
      column = 7;
      lines = (line 12 (codes "last!(p q);") (label (bytes 6 7 ∷ []) First (codes "rule 1 may read `p` as `$h:ident` or as `$t:ident`, so it matches nothing") ∷ []) ∷ []);
      notes = [];
    }
    ∷ record {
      title = codes "note: rule 1 of `last`";
      file = codes "calls.rs";
      line = 4;
      column = 24;
      lines = (line 4 (codes "macro_rules! last { ($($h:ident)* $t:ident) => { $t } }") (label (bytes 23 31 ∷ bytes 34 42 ∷ []) First [] ∷ []) ∷ []);
      notes = (codes "a matcher must not choose between a fragment and something else" ∷ []);
    }
    ∷ []

may_read_in_two_ways : message may_read_in_two_ways-parts ≡ codes "error: no rule matches this call of `last`\n  --> calls.rs:12:7\n   |\n12 | last!(p q);\n   |       ^ rule 1 may read `p` as `$h:ident` or as `$t:ident`, so it matches nothing\n   |\nnote: rule 1 of `last`\n  --> calls.rs:4:24\n   |\n 4 | macro_rules! last { ($($h:ident)* $t:ident) => { $t } }\n   |                        ^^^^^^^^   ^^^^^^^^\n   = a matcher must not choose between a fragment and something else\n"
unfolding chars digits lib.Utf8.encode ucd_derived
may_read_in_two_ways = refl

abbrev ends_too_early-parts : List Part
ends_too_early-parts =
    record {
      title = codes "error: no rule matches this call of `one`";
      file = codes "calls.rs";
      line = 15;
      column = 6;
      lines = (line 15 (codes "one!();") (label (bytes 5 6 ∷ []) First (codes "the argument ends here; rule 1 wants `$i:ident`") ∷ []) ∷ []);
      notes = [];
    }
    ∷ []

ends_too_early : message ends_too_early-parts ≡ codes "error: no rule matches this call of `one`\n  --> calls.rs:15:6\n   |\n15 | one!();\n   |      ^ the argument ends here; rule 1 wants `$i:ident`\n"
unfolding chars digits lib.Utf8.encode ucd_derived
ends_too_early = refl

abbrev made_by_another_call-parts : List Part
made_by_another_call-parts =
    record {
      title = codes "error: no rule matches this call of `row`";
      file = codes "calls.rs";
      line = 2;
      column = 52;
      lines = (line 2 (codes "macro_rules! outer { ($($t:tt)*) => { row!($($t)* ; ; ) } }") (label (bytes 51 52 ∷ []) First (codes "rule 1 of `row` wants `$f:ident` here, or the end of the argument") ∷ []) ∷ line 5 (codes "outer!(a: 1);") (label (bytes 0 5 ∷ []) Second (codes "in this call: `outer` gives `row ! (a : 1 ; ;)`") ∷ []) ∷ []);
      notes = [];
    }
    ∷ record {
      title = codes "note: rule 1 of `row`";
      file = codes "calls.rs";
      line = 1;
      column = 23;
      lines = (line 1 (codes "macro_rules! row { ($($f:ident: $v:literal),* $(,)?) => { [$($v),*] } }") (label (bytes 22 30 ∷ []) First [] ∷ []) ∷ []);
      notes = [];
    }
    ∷ []

made_by_another_call : message made_by_another_call-parts ≡ codes "error: no rule matches this call of `row`\n --> calls.rs:2:52\n  |\n2 | macro_rules! outer { ($($t:tt)*) => { row!($($t)* ; ; ) } }\n  |                                                    ^ rule 1 of `row` wants `$f:ident` here, or the end of the argument\n...\n5 | outer!(a: 1);\n  | ----- in this call: `outer` gives `row ! (a : 1 ; ;)`\n  |\nnote: rule 1 of `row`\n --> calls.rs:1:23\n  |\n1 | macro_rules! row { ($($f:ident: $v:literal),* $(,)?) => { [$($v),*] } }\n  |                       ^^^^^^^^\n"
unfolding chars digits lib.Utf8.encode ucd_derived
made_by_another_call = refl

-- ---- characters

-- a tab counts as four blanks
after_a_tab : marked (9 ∷ codes "ab") (label (bytes 2 3 ∷ []) First []) ≡ codes "     ^"
unfolding chars lib.Utf8.encode ucd_derived
after_a_tab = refl

-- U+202E, which turns the direction of what follows, as its mark, with as many marks under it
turn_by_mark : shown (97 ∷ 226 ∷ 128 ∷ 174 ∷ []) ≡ 97 ∷ 226 ∷ 159 ∷ 166 ∷ 85 ∷ 43 ∷ 50 ∷ 48 ∷ 50 ∷ 69 ∷ 226 ∷ 159 ∷ 167 ∷ []
unfolding chars lib.Utf8.encode ucd_derived
turn_by_mark = refl

under_a_mark : marked (97 ∷ 226 ∷ 128 ∷ 174 ∷ []) (label (bytes 1 4 ∷ []) Second (codes "a turn")) ≡ codes " -------- a turn"
unfolding chars lib.Utf8.encode ucd_derived
under_a_mark = refl

-- a carriage return and a line feed within a line are shown too
ends_by_mark : shown (13 ∷ 10 ∷ []) ≡ 226 ∷ 159 ∷ 166 ∷ 85 ∷ 43 ∷ 48 ∷ 48 ∷ 48 ∷ 68 ∷ 226 ∷ 159 ∷ 167 ∷ 226 ∷ 159 ∷ 166 ∷ 85 ∷ 43 ∷ 48 ∷ 48 ∷ 48 ∷ 65 ∷ 226 ∷ 159 ∷ 167 ∷ []
unfolding chars lib.Utf8.encode ucd_derived
ends_by_mark = refl

-- `é`, of two bytes, is one column
after_two_bytes : marked (195 ∷ 169 ∷ codes "ab") (label (bytes 2 3 ∷ []) First []) ≡ codes " ^"
unfolding chars lib.Utf8.encode ucd_derived
after_two_bytes = refl

-- an empty range has one mark, also at the end of the line, and so has one within a character
at_the_end : marked (codes "ab") (label (bytes 2 2 ∷ []) First []) ≡ codes "  ^"
unfolding chars lib.Utf8.encode ucd_derived
at_the_end = refl

within_a_character : marked (195 ∷ 169 ∷ []) (label (bytes 0 1 ∷ []) First []) ≡ codes "^"
unfolding chars lib.Utf8.encode ucd_derived
within_a_character = refl

-- ---- lines of a text

-- `a`, a line feed, `bc`, a carriage return, a line feed, `d`
abbrev three : List ℕ
three = 97 ∷ 10 ∷ 98 ∷ 99 ∷ 13 ∷ 10 ∷ 100 ∷ []

second-line : (k : ℕ) → 2 ≤ k → k < 4 → (k ≡ 2) ⊎ (k ≡ 3)
second-line k a b = grind arith

no_feed : (k : ℕ) → 2 ≤ k → k < 4 → slice_index three k ≢ 10
no_feed k a b e =
    elim (second-line k a b) [
      | inl i ↦ let f : 98 ≡ 10 = sym (ap (slice_index three) i) ∙ e in omega (arith, f)
      | inr i ↦ let f : 99 ≡ 10 = sym (ap (slice_index three) i) ∙ e in omega (arith, f)
    ]

-- the line in which byte 3 is begins at byte 2, and is `bc`
line_in_the_middle : IsLineAt three 3 2 (98 ∷ 99 ∷ [])
line_in_the_middle = record {
  before = lit≤ tt;
  begins = inr refl;
  is = refl;
  inside = lit≤ tt;
  ends = inr (inr (refl, refl));
  one = no_feed;
  no_other = λ k a b. no_feed k a (omega arith);
}
