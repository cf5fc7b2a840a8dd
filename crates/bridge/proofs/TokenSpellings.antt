-- A token of a text that is read as one leaf: its text, taken alone, spells the leaf.
use Rattle.std.proofs.Common.{◌≡◌, ℕ, ◌+◌, ◌-◌, ◌<◌, ◌≤◌, ◌^◌, true, false, ◌&&◌, List, [], ◌∷◌, ◌++◌, length, take, drop, subst, refl, sym, ap, ◌∙◌, arith, append_assoc, IsUtf8, sum_by, is_some}
use Rattle.std.specs.List.{slice_range}
use Rattle.std.specs.Prelude.{codes, nat_eq, Option, Some, None, IsSome}
use Rattle.std.specs.Str.{IsCharBoundary, bytes_eq, chars}
use Rattle.std.proofs.lemmas.Bool.Decides.{nat_tests}
use Rattle.std.proofs.lemmas.List.{drop_at, length-append, length-drop, length-take-le, take_at}
use Rattle.std.proofs.lemmas.Str.{IsUtf8-drop}
use Rattle.ucd_derived.specs.Binary.{is_xid_start, is_xid_continue}
use Rattle.ucd_derived.specs.XidContinueRanges.{xid_continue_ranges}
use Rattle.ucd_derived.specs.XidStartRanges.{xid_start_ranges}
use Rattle.ucd_table.specs.Rows.{in_ranges}
use Rattle.rustc_lexer.specs.Character.{is_ident, utf8_len}
use Rattle.rustc_lexer.specs.Cursors.{suffix_of}
use Rattle.rustc_lexer.specs.Lexing.{tokens_of}
use Rattle.rustc_lexer.specs.Seams.{stands_alone}
use Rattle.rustc_lexer.specs.Shapes.{HasByteShape, is_ended}
use Rattle.rustc_lexer.specs.TokensAt.{IsTokenAt}
use Rattle.rustc_lexer.specs.declared.token.DocStyle.TheVariants.{Outer, Inner}
use Rattle.rustc_lexer.specs.declared.token.LiteralKind.{LiteralKind}
use Rattle.rustc_lexer.specs.declared.token.LiteralKind.TheVariants as literal
use Rattle.rustc_lexer.specs.declared.token.Token.{Token}
use Rattle.rustc_lexer.specs.declared.token.TokenKind.{TokenKind}
use Rattle.rustc_lexer.specs.declared.token.TokenKind.TheVariants as kind
use Rattle.tt.specs.TokenLiterals.{IsLiteralToken, form_begin, form_end, inside_of, literal_in}
use Rattle.tt_data.specs.Displayed.{displayed_leaf}
use Rattle.tt_data.specs.Walk.{at_leaf}
use Rattle.tt_data.specs.declared.leaf.Ident.{Ident}
use Rattle.tt_data.specs.declared.leaf.IdentIsRaw.TheVariants as is_raw
use Rattle.tt_data.specs.declared.leaf.Leaf.{Leaf}
use Rattle.tt_data.specs.declared.leaf.Leaf.TheVariants as as_leaf
use Rattle.tt_data.specs.declared.leaf.LitKind.{LitKind}
use Rattle.tt_data.specs.declared.leaf.Punct.{Punct}
use Rattle.tt_data.specs.declared.span.Span.{Span}
use Rattle.bridge.specs.declared.reading.classify.TokenClass.{TokenClass}
use Rattle.bridge.specs.declared.reading.classify.TokenClass.TheVariants.{Blank, Name, Mark, Opening, Closing, QuotedName, Doc, Value, Neither}
use Rattle.bridge.specs.FastSpellings.{is_mark_char}
use Rattle.bridge.specs.Lengths.{IsShort}
use Rattle.bridge.specs.ReadSteps.{MayCut}
use Rattle.bridge.specs.Reading.{PlacedToken, range_of, step, written_at}
use Rattle.bridge.specs.Spelling.{is_that_leaf, leaf_spelling, root_name, same_form}
use Rattle.bridge.proofs.RootLemmas.{IsDollar, dollar_chars, named, stays}
use Rattle.bridge.specs.TokenSteps.{literal_form, literal_class, name_leaf, class_of, spacing_before, steps_of_class}
use Rattle.bridge.proofs.BackLemmas.{chars_one}
use Rattle.bridge.proofs.AgainLemmas.{literal_by}
use Rattle.bridge.proofs.CutLemmas.{boundary_in, may_cut}
use Rattle.bridge.proofs.FastSpellingLemmas.{mark_spelled, name_spelled, same_text, spelled_as}
use Rattle.bridge.proofs.SpellingLemmas.{told_of_one}
use Rattle.bridge.proofs.WordLemmas.{is_single_class}
use Rattle.rustc_lexer.proofs.TestLemmas.{no}

-- ---- kinds

alone_value : (k : LiteralKind) (n : ℕ) → is_single_class (literal_class (literal_form k) n) ≡ true → stands_alone (kind.Literal k n) ≡ true
alone_value (literal.Int base empty) n h = refl
alone_value (literal.Float base empty) n h = refl
alone_value (literal.Char true) n h = refl
alone_value (literal.Byte true) n h = refl
alone_value (literal.Str true) n h = refl
alone_value (literal.ByteStr true) n h = refl
alone_value (literal.CStr true) n h = refl
alone_value (literal.RawStr (Some m)) n h = refl
alone_value (literal.RawByteStr (Some m)) n h = refl
alone_value (literal.RawCStr (Some m)) n h = refl
alone_value (literal.GuardedStr (Some m)) n h = refl
alone_value _ n h = no h

-- tokens that are read as one leaf stand alone
single_alone : (k : TokenKind) → is_single_class (class_of k) ≡ true → stands_alone k ≡ true
single_alone (kind.Literal k n) h = alone_value k n h
single_alone kind.Whitespace h = no h
single_alone kind.RawLifetime h = no h
single_alone kind.UnknownPrefix h = no h
single_alone kind.UnknownPrefixLifetime h = no h
single_alone (kind.LineComment None) h = no h
single_alone (kind.LineComment (Some style)) h = no h
single_alone (kind.BlockComment None true) h = no h
single_alone (kind.BlockComment None false) h = no h
single_alone (kind.BlockComment (Some style) true) h = no h
single_alone (kind.BlockComment (Some style) false) h = no h
single_alone _ h = refl

-- what a class tells of its token: a mark is one of those that are spelled, a raw name is a raw identifier, and a value's
-- form is no error
abbrev Tells : TokenClass → TokenKind → Type 0
Tells (Mark c) k = is_mark_char c ≡ true
Tells (Name is_raw.Yes) k = k ≡ kind.RawIdent
Tells (Value f n) k = same_form f f ≡ true
Tells QuotedName k = k ≡ kind.Lifetime false
Tells _ k = Unit {0}

nat_same : (n : ℕ) → nat_eq n n ≡ true
nat_same n = grind (arith, nat_tests)

literal_tells : (k : LiteralKind) (n : ℕ) (t : TokenKind) → Tells (literal_class (literal_form k) n) t
literal_tells (literal.Int base empty) n t = refl
literal_tells (literal.Float base empty) n t = refl
literal_tells (literal.Char true) n t = refl
literal_tells (literal.Byte true) n t = refl
literal_tells (literal.Str true) n t = refl
literal_tells (literal.ByteStr true) n t = refl
literal_tells (literal.CStr true) n t = refl
literal_tells (literal.RawStr (Some m)) n t = nat_same m
literal_tells (literal.RawByteStr (Some m)) n t = nat_same m
literal_tells (literal.RawCStr (Some m)) n t = nat_same m
literal_tells (literal.GuardedStr (Some m)) n t = nat_same m
literal_tells _ n t = tt

kind_tells : (k : TokenKind) → Tells (class_of k) k
kind_tells (kind.Literal k n) = literal_tells k n (kind.Literal k n)
kind_tells kind.RawIdent = refl
kind_tells kind.Semi = refl
kind_tells kind.Comma = refl
kind_tells kind.Dot = refl
kind_tells kind.At = refl
kind_tells kind.Pound = refl
kind_tells kind.Tilde = refl
kind_tells kind.Question = refl
kind_tells kind.Colon = refl
kind_tells kind.Dollar = refl
kind_tells kind.Eq = refl
kind_tells kind.Bang = refl
kind_tells kind.Lt = refl
kind_tells kind.Gt = refl
kind_tells kind.Minus = refl
kind_tells kind.And = refl
kind_tells kind.Or = refl
kind_tells kind.Plus = refl
kind_tells kind.Star = refl
kind_tells kind.Slash = refl
kind_tells kind.Caret = refl
kind_tells kind.Percent = refl
kind_tells (kind.LineComment None) = tt
kind_tells (kind.LineComment (Some style)) = tt
kind_tells (kind.BlockComment None true) = tt
kind_tells (kind.BlockComment None false) = tt
kind_tells (kind.BlockComment (Some style) true) = tt
kind_tells (kind.BlockComment (Some style) false) = tt
kind_tells (kind.Lifetime true) = tt
kind_tells (kind.Lifetime false) = refl
kind_tells _ = tt

-- ---- a text that is one token

record OneToken (s : List ℕ) (t : Token) : Type 0 where
  utf8 : IsUtf8 s
  short : length s < 2 ^ 32
  sum : sum_by (λ (x : Token). x.len) (tokens_of (chars s)) ≡ length s
  one : tokens_of (chars s) ≡ t ∷ []

two_tokens : (cs : List ℕ) → length (tokens_of (36 ∷ 99 ∷ cs)) ≡ 1 → ⊥
unfolding is_xid_start is_xid_continue in_ranges xid_start_ranges xid_continue_ranges
two_tokens cs n = absurd (omega (arith, n))

-- a name that is one token stands for no root
no_dollar : (s : List ℕ) (t : Token) (i : Ident) → i.sym ≡ s → tokens_of (chars s) ≡ t ∷ [] → root_name i ≡ None
no_dollar s t i is one = go (root_name i) refl
  where
    go : (o : Option (List ℕ)) → root_name i ≡ o → o ≡ None
    go None h = refl
    go (Some name) h =
        let d : IsDollar i.sym = (named i name h).dollar in
        let same : 36 ∷ 99 ∷ chars d.rest ≡ chars s = sym (dollar_chars d.rest) ∙ ap chars (sym d.is ∙ is) in
        absurd (two_tokens (chars d.rest) (ap (λ cs. length (tokens_of cs)) same ∙ ap length one))

name_is : (s : List ℕ) (t : Token) (span : Span) → OneToken s t → class_of t.kind ≡ Name is_raw.No →
    leaf_spelling (as_leaf.Ident (record { sym = s; span = span; is_raw = is_raw.No })) ≡ Some s
name_is s t span o class =
    let i : Ident = record { sym = s; span = span; is_raw = is_raw.No } in
    spelled_as (as_leaf.Ident i) s (stays i (no_dollar s t i refl o.one)) refl
    (sym (told_of_one s t (as_leaf.Ident i) true o.utf8 o.short o.sum o.one
    (λ p more same. sym (ap (λ x. is_that_leaf (as_leaf.Ident i) (steps_of_class x p more)) class ∙ ap (bytes_eq s) same ∙ same_text s))))

raw_name_is : (s : List ℕ) (t : Token) (span : Span) → OneToken s t → class_of t.kind ≡ Name is_raw.Yes → HasByteShape kind.RawIdent s →
    leaf_spelling (as_leaf.Ident (record { sym = drop 2 s; span = span; is_raw = is_raw.Yes })) ≡ Some s
raw_name_is s t span o class shape =
    let i : Ident = record { sym = drop 2 s; span = span; is_raw = is_raw.Yes } in
    let shown : codes "r#" ++ drop 2 s ≡ s = ap (λ x. codes "r#" ++ drop 2 x) shape.is ∙ sym shape.is in
    spelled_as (as_leaf.Ident i) s (stays i refl) shown
    (sym (told_of_one s t (as_leaf.Ident i) true o.utf8 o.short o.sum o.one
    (λ p more same. sym (ap (λ x. is_that_leaf (as_leaf.Ident i) (steps_of_class x p more)) class ∙ ap (λ x. bytes_eq (drop 2 s) (drop 2 x)) same ∙ same_text (drop 2 s)))))

-- a literal is displayed as its token
literal_shown : (f : LitKind) (n : ℕ) (s : List ℕ) → IsLiteralToken f n s → literal_by f (inside_of f n s) (drop n s) ≡ s
literal_shown f n s w =
    let b : List ℕ = form_begin f in
    let e : List ℕ = form_end f in
    let inner : List ℕ = w.text ++ (e ++ w.suffix) in
    let long : n ≡ length b + (length w.text + length e) = w.starts ∙ length-append b (w.text ++ e) ∙ ap (λ k. length b + k) (length-append w.text e) in
    let behind : drop (length b) s ≡ inner = ap (drop (length b)) w.is ∙ drop_at b inner (length b) refl in
    let inside : inside_of f n s ≡ w.text =
    ap (take (n - length b - length e)) behind ∙ take_at w.text (e ++ w.suffix) (n - length b - length e) (omega (arith, long)) in
    let split : s ≡ (b ++ (w.text ++ e)) ++ w.suffix = w.is ∙ simp append_assoc in
    let last : drop n s ≡ w.suffix = ap (drop n) split ∙ drop_at (b ++ (w.text ++ e)) w.suffix n (sym w.starts) in
    ap (λ x. literal_by f x (drop n s)) inside ∙ ap (literal_by f w.text) last
    ∙ (let even : literal_by f w.text w.suffix ≡ b ++ inner = simp append_assoc in even) ∙ sym w.is

value_is : (f : LitKind) (n : ℕ) (s : List ℕ) (t : Token) (span : Span) → OneToken s t → class_of t.kind ≡ Value f n → IsLiteralToken f n s → same_form f f ≡ true →
    leaf_spelling (as_leaf.Literal (literal_in f n s span)) ≡ Some s
value_is f n s t span o class w form =
    let l : Leaf = as_leaf.Literal (literal_in f n s span) in
    let inside : List ℕ = inside_of f n s in
    spelled_as l s refl (literal_shown f n s w)
    (sym (told_of_one s t l true o.utf8 o.short o.sum o.one
    (λ p more same. sym (
    ap (λ x. is_that_leaf l (steps_of_class x p more)) class
    ∙ ap (λ x. same_form f f && (bytes_eq inside (inside_of f n x) && bytes_eq (drop n s) (drop n x))) same
    ∙ ap (λ u. u && (bytes_eq inside inside && bytes_eq (drop n s) (drop n s))) form
    ∙ ap (λ u. u && bytes_eq (drop n s) (drop n s)) (same_text inside) ∙ same_text (drop n s)))))

-- ---- what is read of a token

-- a token that is read as one leaf, by its class; but for a mark, it is what is displayed of the leaf
by_class : (class : TokenClass) (s : List ℕ) (t : Token) (p : PlacedToken) (more : List PlacedToken) (l : Leaf) → class_of t.kind ≡ class → p.text ≡ s →
    (is_single_class class ≡ true → length (displayed_leaf l) ≡ length s → IsShort l ≡ (length (displayed_leaf l) < 2 ^ 32) → OneToken s t) → Tells class t.kind → MayCut class s →
    (is_ended t.kind ≡ true → HasByteShape t.kind s) → steps_of_class class p more ≡ step (at_leaf l) ∷ [] → IsSome (leaf_spelling l)
by_class (Name is_raw.No) s t p more l class same one tells cut shape read =
    let span : Span = written_at (range_of p) in
    let i : Ident = record { sym = p.text; span = span; is_raw = is_raw.No } in
    let is : as_leaf.Ident i ≡ l = cc in
    ap (λ m. is_some (leaf_spelling m)) (sym is) ∙ ap (λ x. is_some (leaf_spelling (as_leaf.Ident (record { sym = x; span = span; is_raw = is_raw.No })))) same
    ∙ ap is_some (name_is s t span (one refl (ap (λ m. length (displayed_leaf m)) (sym is) ∙ ap length same) (ap IsShort (sym is) ∙ ap (λ m. length (displayed_leaf m) < 2 ^ 32) is)) class)
by_class (Name is_raw.Yes) s t p more l class same one tells cut shape read =
    let span : Span = written_at (range_of p) in
    let i : Ident = record { sym = drop 2 p.text; span = span; is_raw = is_raw.Yes } in
    let is : as_leaf.Ident i ≡ l = cc in
    let raw : HasByteShape kind.RawIdent s = subst (λ k. HasByteShape k s) tells (shape (ap is_ended tells)) in
    let shown : codes "r#" ++ drop 2 s ≡ s = ap (λ x. codes "r#" ++ drop 2 x) raw.is ∙ sym raw.is in
    ap (λ m. is_some (leaf_spelling m)) (sym is) ∙ ap (λ x. is_some (leaf_spelling (as_leaf.Ident (record { sym = drop 2 x; span = span; is_raw = is_raw.Yes })))) same
    ∙ ap is_some (raw_name_is s t span (one refl (ap (λ m. length (displayed_leaf m)) (sym is) ∙ ap (λ x. length (codes "r#" ++ drop 2 x)) same ∙ ap length shown)
    (ap IsShort (sym is) ∙ ap (λ m. length (displayed_leaf m) < 2 ^ 32) is)) class raw)
by_class (Mark c) s t p more l class same one tells cut shape read =
    let q : Punct = record { char = c; spacing = spacing_before more; span = written_at (range_of p) } in
    let is : as_leaf.Punct q ≡ l = cc in
    ap (λ m. is_some (leaf_spelling m)) (sym is) ∙ ap is_some (mark_spelled q tells)
by_class (Value f n) s t p more l class same one tells cut shape read =
    let span : Span = written_at (range_of p) in
    let is : as_leaf.Literal (literal_in f n p.text span) ≡ l = cc in
    ap (λ m. is_some (leaf_spelling m)) (sym is) ∙ ap (λ x. is_some (leaf_spelling (as_leaf.Literal (literal_in f n x span)))) same
    ∙ ap is_some (value_is f n s t span (one refl
    (ap (λ m. length (displayed_leaf m)) (sym is) ∙ ap (λ x. length (displayed_leaf (as_leaf.Literal (literal_in f n x span)))) same ∙ ap length (literal_shown f n s cut.1))
    (ap IsShort (sym is) ∙ ap (λ m. length (displayed_leaf m) < 2 ^ 32) is)) class cut.1 tells)
by_class Blank s t p more l class same one tells cut shape read = absurd (cc)
by_class (Opening k) s t p more l class same one tells cut shape read = absurd (cc)
by_class (Closing k) s t p more l class same one tells cut shape read = absurd (cc)
by_class QuotedName s t p more l class same one tells cut shape read = absurd (cc)
by_class (Doc Outer is_block) s t p more l class same one tells cut shape read = absurd (let n = ap length read in omega (arith, n))
by_class (Doc Inner is_block) s t p more l class same one tells cut shape read = absurd (let n = ap length read in omega (arith, n))
by_class Neither s t p more l class same one tells cut shape read = absurd (cc)

pub slice_long : (text : List ℕ) (at n : ℕ) → at + n ≤ length text → length (slice_range text at (at + n)) ≡ n
slice_long text at n l =
    let e : at + n - at ≡ n = omega arith in
    ap (λ k. length (take k (drop at text))) e ∙ length-take-le n (drop at text) (omega (arith, l, length-drop at text))

-- a token of a text, with what the lexer tells of it
pub leaf_has_spelling : (text : List ℕ) (at : ℕ) (t : Token) (more : List PlacedToken) (l : Leaf) → IsUtf8 text → length text < 2 ^ 32 → IsTokenAt text at t →
    (stands_alone t.kind ≡ true → tokens_of (chars (slice_range text at (at + t.len))) ≡ t ∷ []) →
    ((s : List ℕ) → IsUtf8 s → sum_by (λ (x : Token). x.len) (tokens_of (chars s)) ≡ length s) →
    (is_ended t.kind ≡ true → HasByteShape t.kind (slice_range text at (at + t.len))) → suffix_of t.kind ≤ t.len → IsCharBoundary text (at + suffix_of t.kind) →
    steps_of_class (class_of t.kind) (record { kind = t.kind; start = at; text = slice_range text at (at + t.len) }) more ≡ step (at_leaf l) ∷ [] →
    IsSome (leaf_spelling l)
leaf_has_spelling text at t more l u fits h alone sums shape within boundary read =
    let s : List ℕ = slice_range text at (at + t.len) in
    let long = slice_long text at t.len h.stop.0 in
    let cut = may_cut t.kind s h.utf8 shape (boundary_in text at t.len (suffix_of t.kind) within h.stop.0 boundary) in
    by_class (class_of t.kind) s t (record { kind = t.kind; start = at; text = s }) more l refl refl
    (λ single shown is. record { utf8 = h.utf8; short = omega (arith, long, fits, h.stop.0); sum = sums s h.utf8; one = alone (single_alone t.kind single) })
    (kind_tells t.kind) cut shape read

-- so it is in a text of any length, if the leaf is short
pub short_leaf_has_spelling : (text : List ℕ) (at : ℕ) (t : Token) (more : List PlacedToken) (l : Leaf) → IsUtf8 text → IsShort l → IsTokenAt text at t →
    (stands_alone t.kind ≡ true → tokens_of (chars (slice_range text at (at + t.len))) ≡ t ∷ []) →
    ((s : List ℕ) → IsUtf8 s → sum_by (λ (x : Token). x.len) (tokens_of (chars s)) ≡ length s) →
    (is_ended t.kind ≡ true → HasByteShape t.kind (slice_range text at (at + t.len))) → suffix_of t.kind ≤ t.len → IsCharBoundary text (at + suffix_of t.kind) →
    steps_of_class (class_of t.kind) (record { kind = t.kind; start = at; text = slice_range text at (at + t.len) }) more ≡ step (at_leaf l) ∷ [] →
    IsSome (leaf_spelling l)
short_leaf_has_spelling text at t more l u fits h alone sums shape within boundary read =
    let s : List ℕ = slice_range text at (at + t.len) in
    let cut = may_cut t.kind s h.utf8 shape (boundary_in text at t.len (suffix_of t.kind) within h.stop.0 boundary) in
    by_class (class_of t.kind) s t (record { kind = t.kind; start = at; text = s }) more l refl refl
    (λ single shown is. record {
      utf8 = h.utf8;
      short = (let low : length (displayed_leaf l) < 2 ^ 32 = subst (λ T. T) is fits in subst (λ n. n < 2 ^ 32) shown low);
      sum = sums s h.utf8;
      one = alone (single_alone t.kind single);
    })
    (kind_tells t.kind) cut shape read

-- the name behind the quote of a lifetime
pub name_has_spelling : (text : List ℕ) (at : ℕ) (t : Token) (span : Span) → IsUtf8 text → length (drop 1 (slice_range text at (at + t.len))) < 2 ^ 32 → IsTokenAt text at t →
    ((s : List ℕ) → IsUtf8 s → sum_by (λ (x : Token). x.len) (tokens_of (chars s)) ≡ length s) →
    ((cs : List ℕ) → is_ident cs ≡ true → tokens_of cs ≡ record { kind = kind.Ident; len = utf8_len cs } ∷ []) →
    (t.kind ≡ kind.Lifetime false → is_ident (drop 1 (chars (slice_range text at (at + t.len)))) ≡ true) →
    (is_ended t.kind ≡ true → HasByteShape t.kind (slice_range text at (at + t.len))) → suffix_of t.kind ≤ t.len → IsCharBoundary text (at + suffix_of t.kind) →
    class_of t.kind ≡ QuotedName → IsSome (leaf_spelling (name_leaf (drop 1 (slice_range text at (at + t.len))) is_raw.No span))
name_has_spelling text at t span u fits h sums one named shape within boundary class =
    let s : List ℕ = slice_range text at (at + t.len) in
    let r : List ℕ = drop 1 s in
    let lifetime : t.kind ≡ kind.Lifetime false = subst (λ x. Tells x t.kind) class (kind_tells t.kind) in
    let cut : MayCut QuotedName s =
    subst (λ x. MayCut x s) class (may_cut t.kind s h.utf8 shape (boundary_in text at t.len (suffix_of t.kind) within h.stop.0 boundary)) in
    let form : HasByteShape (kind.Lifetime false) s = subst (λ k. HasByteShape k s) lifetime (shape (ap is_ended lifetime)) in
    let split : s ≡ 39 ∷ r = form.is ∙ ap (λ x. 39 ∷ drop 1 x) (sym form.is) in
    let all : chars s ≡ 39 ∷ chars r = ap chars split ∙ chars_one 39 r (omega arith) in
    let is : is_ident (chars r) ≡ true = ap (λ cs. is_ident (drop 1 cs)) (sym all) ∙ named lifetime in
    let utf8 : IsUtf8 r = IsUtf8-drop s 1 h.utf8 cut in
    ap is_some (name_spelled (record { sym = r; span = span; is_raw = is_raw.No }) refl utf8 fits is (sums r utf8) (one (chars r) is))

-- which is short in a text that is
pub name_is_short : (text : List ℕ) (at : ℕ) (t : Token) → length text < 2 ^ 32 → IsTokenAt text at t → length (drop 1 (slice_range text at (at + t.len))) < 2 ^ 32
name_is_short text at t fits h =
    let s : List ℕ = slice_range text at (at + t.len) in
    omega (arith, slice_long text at t.len h.stop.0, fits, h.stop.0, length-drop 1 s)
