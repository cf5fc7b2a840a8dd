-- What is read from a text has spellings, token by token.
use Rattle.std.proofs.Common.{◌≡◌, ℕ, ◌+◌, ◌-◌, ◌<◌, ◌≤◌, ◌^◌, Bool, true, false, ◌&&◌, List, [], ◌∷◌, ◌++◌, length, take, drop, map, subst, refl, sym, ap, ◌∙◌, arith, IsUtf8, sum_by, is_some, if◌then◌else◌}
use Rattle.std.specs.List.{slice_range}
use Rattle.std.specs.Prelude.{codes, nat_eq, not, Option, Some, None, IsSome}
use Rattle.std.proofs.lemmas.Bool.Decides.{nat_tests}
use Rattle.std.specs.Char.{encode_utf8}
use Rattle.std.specs.Str.{IsCharBoundary, chars, is_utf8}
use Rattle.std.proofs.lemmas.List.{drop-drop}
use Rattle.ucd_derived.specs.Binary.{is_xid_start, is_xid_continue}
use Rattle.ucd_derived.specs.XidContinueRanges.{xid_continue_ranges}
use Rattle.ucd_derived.specs.XidStartRanges.{xid_start_ranges}
use Rattle.ucd_table.specs.Rows.{in_ranges}
use Rattle.rustc_lexer.specs.Character.{utf8_len}
use Rattle.rustc_lexer.specs.Cursors.{suffix_of}
use Rattle.rustc_lexer.specs.Lexing.{tokens_of}
use Rattle.rustc_lexer.specs.Literals.{with_escapes}
use Rattle.rustc_lexer.specs.Shapes.{HasByteShape, is_ended}
use Rattle.rustc_lexer.specs.TokensAt.{AreTokensFrom, IsTokenAt}
use Rattle.rustc_lexer.specs.declared.token.DocStyle.{DocStyle}
use Rattle.rustc_lexer.specs.declared.token.DocStyle.TheVariants.{Outer, Inner}
use Rattle.rustc_lexer.specs.declared.token.LiteralKind.{LiteralKind}
use Rattle.rustc_lexer.specs.declared.token.LiteralKind.TheVariants as literal
use Rattle.rustc_lexer.specs.declared.token.Token.{Token}
use Rattle.rustc_lexer.specs.declared.token.TokenKind.{TokenKind}
use Rattle.rustc_lexer.specs.declared.token.TokenKind.TheVariants as kind
use Rattle.tt.specs.TokenLiterals.{literal_in}
use Rattle.tt_data.specs.Forest.{Forest, empty, leaf, group}
use Rattle.tt_data.specs.Literals.{literal_of}
use Rattle.tt_data.specs.Walk.{Step, at_leaf, opens, closes, walk}
use Rattle.tt_data.specs.declared.leaf.IdentIsRaw.TheVariants as is_raw
use Rattle.tt_data.specs.declared.leaf.Leaf.{Leaf}
use Rattle.tt_data.specs.declared.leaf.Leaf.TheVariants as as_leaf
use Rattle.tt_data.specs.declared.leaf.LitKind.TheVariants as form
use Rattle.tt_data.specs.declared.delimiter.DelimiterKind.{DelimiterKind}
use Rattle.tt_data.specs.declared.leaf.Punct.{Punct}
use Rattle.tt_data.specs.declared.leaf.Spacing.{Spacing}
use Rattle.tt_data.specs.declared.leaf.Spacing.TheVariants.{Alone}
use Rattle.tt_data.specs.declared.span.Span.{Span}
use Rattle.bridge.specs.declared.reading.classify.TokenClass.{TokenClass}
use Rattle.bridge.specs.declared.reading.classify.TokenClass.TheVariants.{Blank, Name, Mark, Opening, Closing, QuotedName, Doc, Value, Neither}
use Rattle.bridge.specs.FastSpellings.{is_mark_char}
use Rattle.tt.specs.Building.{alone}
use Rattle.bridge.specs.Lengths.{IsShort}
use Rattle.bridge.specs.Pieces.{separated}
use Rattle.bridge.specs.Printing.{is_visible_step, left_out_from, print_of, unspelled, visible}
use Rattle.bridge.specs.ReadSteps.{MayCut}
use Rattle.bridge.specs.Reading.{IsReading, PlacedToken, TextStep, bad, placed_from, range_of, step, written_at}
use Rattle.bridge.specs.Spelling.{begins_with_name, is_spelled, leaf_spelling, quote_spelling, spelling}
use Rattle.tt.specs.Glued.{is_joint}
use Rattle.bridge.specs.Text.{is_char, is_punct, is_visible}
use Rattle.bridge.specs.TokenSteps.{doc_text, escaped, literal_form, literal_class, mark_leaf, name_in, name_leaf, class_of, spacing_before, steps_of, steps_of_class, text_steps}
use Rattle.bridge.proofs.CutLemmas.{boundary_in, may_cut}
use Rattle.bridge.proofs.DocLemmas.{doc_spelled, short_doc_spelled}
use Rattle.bridge.proofs.EscapedLemmas.{escaped_slice}
use Rattle.bridge.proofs.FastSpellingLemmas.{mark_spelled, quoted}
use Rattle.bridge.proofs.ShapeLemmas.{closing_spelled, opening_spelled}
use Rattle.rustc_lexer.proofs.TestLemmas.{no, told_of_any}

-- ---- steps that all have a spelling

-- each step is visible, and has a spelling before those that follow
abbrev pub AreSpelled : List Step → Type 0
AreSpelled [] = Unit {0}
AreSpelled (s ∷ more) = (is_visible_step s ≡ true) × IsSome (spelling s more) × AreSpelled more

-- what was read, faults aside
abbrev readable : List TextStep → List Step
readable [] = []
readable (step s ∷ more) = s ∷ readable more
readable (bad range ∷ more) = readable more

readable_all : (ss : List Step) → readable (map step ss) ≡ ss
readable_all [] = refl
readable_all (s ∷ more) = ap (λ l. s ∷ l) (readable_all more)

-- ---- sorts

-- a mark is no quote, and brackets are visible
abbrev Shows : TokenClass → Type 0
Shows (Mark c) = is_mark_char c ≡ true
Shows (Opening k) = is_visible k ≡ true
Shows (Closing k) = is_visible k ≡ true
Shows _ = Unit {0}

literal_shows : (k : LiteralKind) (n : ℕ) → Shows (literal_class (literal_form k) n)
literal_shows (literal.Int base bare) n = tt
literal_shows (literal.Float base bare) n = tt
literal_shows (literal.Char true) n = tt
literal_shows (literal.Byte true) n = tt
literal_shows (literal.Str true) n = tt
literal_shows (literal.ByteStr true) n = tt
literal_shows (literal.CStr true) n = tt
literal_shows (literal.RawStr (Some m)) n = tt
literal_shows (literal.RawByteStr (Some m)) n = tt
literal_shows (literal.RawCStr (Some m)) n = tt
literal_shows (literal.GuardedStr (Some m)) n = tt
literal_shows _ n = tt

kind_shows : (k : TokenKind) → Shows (class_of k)
kind_shows (kind.Literal k n) = literal_shows k n
kind_shows kind.Semi = refl
kind_shows kind.Comma = refl
kind_shows kind.Dot = refl
kind_shows kind.At = refl
kind_shows kind.Pound = refl
kind_shows kind.Tilde = refl
kind_shows kind.Question = refl
kind_shows kind.Colon = refl
kind_shows kind.Dollar = refl
kind_shows kind.Eq = refl
kind_shows kind.Bang = refl
kind_shows kind.Lt = refl
kind_shows kind.Gt = refl
kind_shows kind.Minus = refl
kind_shows kind.And = refl
kind_shows kind.Or = refl
kind_shows kind.Plus = refl
kind_shows kind.Star = refl
kind_shows kind.Slash = refl
kind_shows kind.Caret = refl
kind_shows kind.Percent = refl
kind_shows kind.OpenParen = refl
kind_shows kind.OpenBrace = refl
kind_shows kind.OpenBracket = refl
kind_shows kind.CloseParen = refl
kind_shows kind.CloseBrace = refl
kind_shows kind.CloseBracket = refl
kind_shows (kind.LineComment None) = tt
kind_shows (kind.LineComment (Some style)) = tt
kind_shows (kind.BlockComment None true) = tt
kind_shows (kind.BlockComment None false) = tt
kind_shows (kind.BlockComment (Some style) true) = tt
kind_shows (kind.BlockComment (Some style) false) = tt
kind_shows (kind.Lifetime true) = tt
kind_shows (kind.Lifetime false) = tt
kind_shows _ = tt

-- ---- what one token is read as

-- each leaf of some steps is one that fits
abbrev pub AreFit : (Leaf → Type 0) → List Step → Type 0
AreFit Fits [] = Unit {0}
AreFit Fits (at_leaf l ∷ more) = Fits l × AreFit Fits more
AreFit Fits (opens kind span ∷ more) = AreFit Fits more
AreFit Fits (closes kind span ∷ more) = AreFit Fits more

-- what is known of a token with this text: what it is read as where it is one leaf, the name of a lifetime, and the
-- literal of a doc comment have a spelling, where they fit
record HasSpellings (Fits : Leaf → Type 0) (k : TokenKind) (start : ℕ) (text : List ℕ) : Type 0 where
  pub leaf : (more : List PlacedToken) (l : Leaf) → Fits l → steps_of_class (class_of k) (record { kind = k; start = start; text = text }) more ≡ step (at_leaf l) ∷ [] → IsSome (leaf_spelling l)
  pub name : class_of k ≡ QuotedName → (span : Span) → Fits (name_leaf (drop 1 text) is_raw.No span) → IsSome (leaf_spelling (name_leaf (drop 1 text) is_raw.No span))
  pub comment : (style : DocStyle) (is_block : Bool) → class_of k ≡ Doc style is_block → (span : Span) →
      Fits (as_leaf.Literal (literal_of (escaped (doc_text is_block text)) [] form.Str span)) →
      IsSome (leaf_spelling (as_leaf.Literal (literal_of (escaped (doc_text is_block text)) [] form.Str span)))

mark_no_quote : (c : ℕ) → is_mark_char c ≡ true → nat_eq c 39 ≡ false
mark_no_quote c h = no_quote (nat_eq c 39) (told_of_any (λ x. not (nat_eq x 39)) c (codes ";,.@#~?:$=!<>-&|+*/^%") refl h)
  where
    no_quote : (u : Bool) → not u ≡ true → u ≡ false
    no_quote true e = no e
    no_quote false e = refl

some_spelled : (o : Option (List ℕ)) → IsSome o → is_spelled o ≡ true
some_spelled (Some text) h = refl
some_spelled None h = h

-- the leaves of an attribute but its literal
doc_name : (span : Span) → IsSome (leaf_spelling (name_leaf (codes "doc") is_raw.No span))
unfolding chars is_utf8 encode_utf8 is_xid_start is_xid_continue in_ranges xid_start_ranges xid_continue_ranges
doc_name span = refl

mark_some : (c : ℕ) (spacing : Spacing) (span : Span) → is_mark_char c ≡ true → IsSome (leaf_spelling (mark_leaf c spacing span))
mark_some c spacing span h = ap is_some (mark_spelled (record { char = c; spacing = spacing; span = span }) h)

-- what is put before steps that have spellings
module _ (Fits : Leaf → Type 0) (k : TokenKind) (start : ℕ) (text : List ℕ) (known : HasSpellings Fits k start text) (more : List PlacedToken)
    (rest : List TextStep) (later : AreFit Fits (readable rest) → AreSpelled (readable rest)) where
  abbrev here : PlacedToken
  here = record { kind = k; start = start; text = text }

  abbrev place : Span
  place = written_at (range_of here)

  by_class : (class : TokenClass) → class_of k ≡ class → Shows class → AreFit Fits (readable (steps_of_class class here more ++ rest))
      → AreSpelled (readable (steps_of_class class here more ++ rest))
  by_class Blank e s fit = later fit
  by_class (Name raw) e s fit = (refl, known.leaf more (name_leaf (name_in raw text) raw place) fit.0 (ap (λ x. steps_of_class x here more) e), later fit.1)
  by_class (Mark c) e s fit =
      let q : Punct = record { char = c; spacing = spacing_before more; span = place } in
      let some : IsSome (spelling (at_leaf (as_leaf.Punct q)) (readable rest)) =
      subst (λ u. IsSome (if u then quote_spelling (is_joint (spacing_before more) && begins_with_name (readable rest)) else leaf_spelling (as_leaf.Punct q)))
      (sym (mark_no_quote c s)) (mark_some c (spacing_before more) place s) in
      (refl, some, later fit.1)
  by_class (Opening d) e s fit = (s, opening_spelled d place (readable rest) s, later fit)
  by_class (Closing d) e s fit = (s, closing_spelled d place (readable rest) s, later fit)
  by_class QuotedName e s fit =
      let behind : Span = written_at (record { start = start + 1; «end» = start + length text }) in
      let name = known.name e behind fit.1.0 in
      (refl, ap (λ u. is_some (quote_spelling u)) (some_spelled (leaf_spelling (name_leaf (drop 1 text) is_raw.No behind)) name), (refl, name, later fit.1.1))
  by_class (Doc Outer is_block) e s fit =
      (refl, mark_some 35 Alone place refl, (refl, refl, (refl, doc_name place, (refl, mark_some 61 Alone place refl, (refl, known.comment Outer is_block e place fit.1.1.1.0, (refl, refl, later fit.1.1.1.1))))))
  by_class (Doc Inner is_block) e s fit = (
    refl,
    mark_some 35 Alone place refl,
    (
      refl,
      mark_some 33 Alone place refl,
      (
        refl,
        refl,
        (
          refl,
          doc_name place,
          (
            refl,
            mark_some 61 Alone place refl,
            (refl, known.comment Inner is_block e place fit.1.1.1.1.0, (refl, refl, later fit.1.1.1.1.1)),
          ),
        ),
      ),
    ),
  )
  by_class (Value f n) e s fit = (refl, known.leaf more (as_leaf.Literal (literal_in f n text place)) fit.0 (ap (λ x. steps_of_class x here more) e), later fit.1)
  by_class Neither e s fit = later fit

-- ---- all tokens

-- what the lexer tells of the tokens of a text
pub record TokenLaws (text : List ℕ) : Type 0 where
  pub begin : AreTokensFrom text 0 (tokens_of (chars text))
  pub here : (at : ℕ) (left : List Token) (t : Token) (ts : List Token) → AreTokensFrom text at left → left ≡ t ∷ ts → IsTokenAt text at t
  pub others : (at : ℕ) (left : List Token) (t : Token) (ts : List Token) → AreTokensFrom text at left → left ≡ t ∷ ts → AreTokensFrom text (at + t.len) ts
  pub shape : (at : ℕ) (t : Token) → IsTokenAt text at t → is_ended t.kind ≡ true → HasByteShape t.kind (slice_range text at (at + t.len))
  pub within : (at : ℕ) (t : Token) → IsTokenAt text at t → suffix_of t.kind ≤ t.len
  pub boundary : (at : ℕ) (t : Token) → IsTokenAt text at t → IsCharBoundary text (at + suffix_of t.kind)
  pub sums : (s : List ℕ) → IsUtf8 s → sum_by (λ (x : Token). x.len) (tokens_of (chars s)) ≡ length s
  pub escaped : (cs : List ℕ) → tokens_of (quoted (with_escapes cs))
      ≡ record { kind = kind.Literal (literal.Str true) (utf8_len (quoted (with_escapes cs))); len = utf8_len (quoted (with_escapes cs)) } ∷ []

-- what is known of those that are read as one leaf, of lifetimes and of doc comments
pub record LeafLaws (Fits : Leaf → Type 0) (text : List ℕ) : Type 0 where
  pub leaf : (at : ℕ) (t : Token) (more : List PlacedToken) (l : Leaf) → Fits l → IsTokenAt text at t →
      steps_of_class (class_of t.kind) (record { kind = t.kind; start = at; text = slice_range text at (at + t.len) }) more ≡ step (at_leaf l) ∷ [] → IsSome (leaf_spelling l)
  pub name : (at : ℕ) (t : Token) (span : Span) → Fits (name_leaf (drop 1 (slice_range text at (at + t.len))) is_raw.No span) → IsTokenAt text at t → class_of t.kind ≡ QuotedName →
      IsSome (leaf_spelling (name_leaf (drop 1 (slice_range text at (at + t.len))) is_raw.No span))
  pub comment : (at : ℕ) (t : Token) → IsTokenAt text at t → (style : DocStyle) (is_block : Bool) → class_of t.kind ≡ Doc style is_block → (span : Span) →
      Fits (as_leaf.Literal (literal_of (escaped (doc_text is_block (slice_range text at (at + t.len)))) [] form.Str span)) →
      IsSome (leaf_spelling (as_leaf.Literal (literal_of (escaped (doc_text is_block (slice_range text at (at + t.len)))) [] form.Str span)))

module _ (text : List ℕ) (laws : TokenLaws text) where
  may_cut_comment : (at : ℕ) (t : Token) → IsTokenAt text at t → (style : DocStyle) (is_block : Bool) → class_of t.kind ≡ Doc style is_block →
      MayCut (Doc style is_block) (slice_range text at (at + t.len))
  may_cut_comment at t h style is_block class =
      let s : List ℕ = slice_range text at (at + t.len) in
      subst (λ x. MayCut x s) class
      (may_cut t.kind s h.utf8 (laws.shape at t h) (boundary_in text at t.len (suffix_of t.kind) (laws.within at t h) h.stop.0 (laws.boundary at t h)))

  -- a comment of a text that is no longer than a text may be once it is escaped
  pub comment_spelled : length (escaped text) < 2 ^ 32 → (at : ℕ) (t : Token) → IsTokenAt text at t → (style : DocStyle) (is_block : Bool) → class_of t.kind ≡ Doc style is_block →
      (span : Span) → IsSome (leaf_spelling (as_leaf.Literal (literal_of (escaped (doc_text is_block (slice_range text at (at + t.len)))) [] form.Str span)))
  comment_spelled fits at t h style is_block class span =
      let s : List ℕ = slice_range text at (at + t.len) in
      let cut = may_cut_comment at t h style is_block class in
      doc_spelled is_block s span h.utf8 (omega (arith, escaped_slice text at (at + t.len) (omega (arith, h.stop.0)), fits)) cut.0 cut.1 laws.sums laws.escaped

  -- a comment whose literal is no longer
  pub short_comment_spelled : (at : ℕ) (t : Token) → IsTokenAt text at t → (style : DocStyle) (is_block : Bool) → class_of t.kind ≡ Doc style is_block → (span : Span) →
      IsShort (as_leaf.Literal (literal_of (escaped (doc_text is_block (slice_range text at (at + t.len)))) [] form.Str span)) →
      IsSome (leaf_spelling (as_leaf.Literal (literal_of (escaped (doc_text is_block (slice_range text at (at + t.len)))) [] form.Str span)))
  short_comment_spelled at t h style is_block class span fits =
      let cut = may_cut_comment at t h style is_block class in
      short_doc_spelled is_block (slice_range text at (at + t.len)) span h.utf8 fits cut.0 cut.1 laws.sums laws.escaped

  module _ (Fits : Leaf → Type 0) (leaves : LeafLaws Fits text) where
    known : (at : ℕ) (t : Token) → IsTokenAt text at t → HasSpellings Fits t.kind at (slice_range text at (at + t.len))
    known at t h = record {
      leaf = λ more l fit. leaves.leaf at t more l fit h;
      name = λ class span fit. leaves.name at t span fit h class;
      comment = leaves.comment at t h;
    }

    all_spelled : (at : ℕ) (ts : List Token) → AreTokensFrom text at ts → AreFit Fits (readable (steps_of (placed_from at (drop at text) ts)))
        → AreSpelled (readable (steps_of (placed_from at (drop at text) ts)))
    all_spelled at [] from = λ fit. tt
    all_spelled at (t ∷ more) from =
        let n : at + t.len - at ≡ t.len = omega arith in
        let told : HasSpellings Fits t.kind at (take t.len (drop at text)) =
        subst (λ k. HasSpellings Fits t.kind at (take k (drop at text))) n (known at t (laws.here at (t ∷ more) t more from refl)) in
        let others : List PlacedToken = placed_from (at + t.len) (drop t.len (drop at text)) more in
        let later : AreFit Fits (readable (steps_of others)) → AreSpelled (readable (steps_of others)) =
        subst (λ r. AreFit Fits (readable (steps_of (placed_from (at + t.len) r more))) → AreSpelled (readable (steps_of (placed_from (at + t.len) r more)))) (sym (drop-drop t.len at text))
        (all_spelled (at + t.len) more (laws.others at (t ∷ more) t more from refl)) in
        by_class Fits t.kind at (take t.len (drop at text)) told others (steps_of others) later (class_of t.kind) refl (kind_shows t.kind)

    pub read_spelled : (f : Forest) → IsReading (text_steps text) f → AreFit Fits (walk f) → AreSpelled (walk f)
    read_spelled f read =
        subst (λ ss. AreFit Fits ss → AreSpelled ss) (ap readable read ∙ readable_all (walk f)) (all_spelled 0 (tokens_of (chars text)) laws.begin)

-- where all leaves fit, those of some steps do
pub all_fit : (ss : List Step) → AreFit (λ l. Unit {0}) ss
all_fit [] = tt
all_fit (at_leaf l ∷ more) = (tt, all_fit more)
all_fit (opens kind span ∷ more) = all_fit more
all_fit (closes kind span ∷ more) = all_fit more

-- ---- what is printed

visible_all : (ss : List Step) → AreSpelled ss → visible ss ≡ ss
visible_all [] h = refl
visible_all (s ∷ more) h = ap (λ b. if b then s ∷ visible more else visible more) h.0 ∙ ap (λ l. s ∷ l) (visible_all more h.2)

some_left : (n : ℕ) (o : Option (List ℕ)) → IsSome o → unspelled n o ≡ []
some_left n (Some text) h = refl
some_left n None h = no h

none_left : (n : ℕ) (ss : List Step) → AreSpelled ss → left_out_from n ss ≡ []
none_left n [] h = refl
none_left n (s ∷ more) h = ap (λ l. l ++ left_out_from (n + 1) more) (some_left n (spelling s more) h.1) ∙ none_left (n + 1) more h.2

pub nothing_left_out : (ss : List Step) → AreSpelled ss → (print_of ss).left_out ≡ []
nothing_left_out ss h = ap (left_out_from 0) (visible_all ss h) ∙ none_left 0 ss h

-- ---- each `;` alone

spelling_same : (s : Step) (a b : List Step) → begins_with_name a ≡ begins_with_name b → spelling s a ≡ spelling s b
spelling_same (at_leaf (as_leaf.Ident i)) a b e = refl
spelling_same (at_leaf (as_leaf.Literal l)) a b e = refl
spelling_same (at_leaf (as_leaf.Punct p)) a b e =
    ap (λ u. if is_char "'" p then quote_spelling (is_joint p.spacing && u) else leaf_spelling (as_leaf.Punct p)) e
spelling_same (opens kind span) a b e = refl
spelling_same (closes kind span) a b e = refl

begins_same : (f : Forest) → begins_with_name (walk (separated f)) ≡ begins_with_name (walk f)
begins_same empty = refl
begins_same (leaf (as_leaf.Ident i) rest) = refl
begins_same (leaf (as_leaf.Literal l) rest) = refl
begins_same (leaf (as_leaf.Punct p) rest) = by_test (is_char ";" p)
  where
    by_test : (u : Bool) → begins_with_name (at_leaf (if u then alone (as_leaf.Punct p) else as_leaf.Punct p) ∷ walk (separated rest)) ≡ false
    by_test true = refl
    by_test false = refl
begins_same (group d inner rest) = refl

-- what stands behind a closing bracket
module _ (kind : DelimiterKind) (span : Span) (b c : List Step) where
  begins_behind : (a : List Step) → begins_with_name (a ++ (closes kind span ∷ c)) ≡ begins_with_name (a ++ (closes kind span ∷ b))
  begins_behind [] = refl
  begins_behind (at_leaf (as_leaf.Ident i) ∷ a) = refl
  begins_behind (at_leaf (as_leaf.Literal l) ∷ a) = refl
  begins_behind (at_leaf (as_leaf.Punct p) ∷ a) = refl
  begins_behind (opens k s ∷ a) = refl
  begins_behind (closes k s ∷ a) = refl

  behind_closing : (a : List Step) → AreSpelled (a ++ (closes kind span ∷ b)) → AreSpelled c → AreSpelled (a ++ (closes kind span ∷ c))
  behind_closing [] h later = (h.0, h.1, later)
  behind_closing (s ∷ a) h later =
      (h.0, ap is_some (spelling_same s (a ++ (closes kind span ∷ c)) (a ++ (closes kind span ∷ b)) (begins_behind a)) ∙ h.1, behind_closing a h.2 later)

  after_closing : (a : List Step) → AreSpelled (a ++ (closes kind span ∷ b)) → AreSpelled b
  after_closing [] h = h.2
  after_closing (s ∷ a) h = after_closing a h.2

leaf_alone : (l : Leaf) (more : List Step) → IsSome (spelling (at_leaf l) more) → IsSome (spelling (at_leaf (if is_punct ";" l then alone l else l)) more)
leaf_alone (as_leaf.Ident i) more h = h
leaf_alone (as_leaf.Literal l) more h = h
leaf_alone (as_leaf.Punct p) more h = by_test (is_char ";" p) refl
  where
    by_test : (u : Bool) → is_char ";" p ≡ u → IsSome (spelling (at_leaf (if u then alone (as_leaf.Punct p) else as_leaf.Punct p)) more)
    by_test false e = h
    by_test true e =
        let c : p.char ≡ 59 = grind (arith, nat_tests) in
        let mark : is_mark_char p.char ≡ true = ap is_mark_char c in
        subst (λ u. IsSome (if u then quote_spelling false else leaf_spelling (mark_leaf p.char Alone p.span))) (sym (mark_no_quote p.char mark)) (mark_some p.char Alone p.span mark)

pub separated_spelled : (f : Forest) → AreSpelled (walk f) → AreSpelled (walk (separated f))
separated_spelled empty h = tt
separated_spelled (leaf l rest) h =
    (refl, leaf_alone l (walk (separated rest)) (ap is_some (spelling_same (at_leaf l) (walk (separated rest)) (walk rest) (begins_same rest)) ∙ h.1), separated_spelled rest h.2)
separated_spelled (group d inner rest) h =
    let later = separated_spelled rest (after_closing d.kind d.close_span (walk rest) [] (walk inner) h.2) in
    (h.0, h.1, behind_closing d.kind d.close_span (walk rest) (walk (separated rest)) (walk inner) h.2 later)
