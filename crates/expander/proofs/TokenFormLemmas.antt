-- What a kind of token is read as, by named forms.
use Rattle.std.proofs.Common.{◌≡◌, ℕ, ◌+◌, Bool, true, false, List, [], ◌∷◌, length, map, drop, Option, Some, None, refl}
use Rattle.rustc_lexer.specs.declared.token.DocStyle.{DocStyle}
use Rattle.rustc_lexer.specs.declared.token.DocStyle.TheVariants.{Outer, Inner}
use Rattle.rustc_lexer.specs.declared.token.TokenKind.{TokenKind}
use Rattle.rustc_lexer.specs.declared.token.TokenKind.TheVariants as kind
use Rattle.tt.specs.TokenLiterals.{literal_in}
use Rattle.tt_data.specs.Walk.{at_leaf, closes, opens}
use Rattle.tt_data.specs.declared.delimiter.DelimiterKind.{DelimiterKind}
use Rattle.tt_data.specs.declared.delimiter.DelimiterKind.TheVariants.{Parenthesis, Brace, Bracket}
use Rattle.tt_data.specs.declared.leaf.IdentIsRaw.{IdentIsRaw}
use Rattle.tt_data.specs.declared.leaf.IdentIsRaw.TheVariants as is_raw
use Rattle.tt_data.specs.declared.leaf.Leaf.TheVariants as as_leaf
use Rattle.tt_data.specs.declared.leaf.LitKind.{LitKind}
use Rattle.tt_data.specs.declared.leaf.Spacing.TheVariants.{Joint}
use Rattle.bridge.specs.Reading.{PlacedToken, TextStep, bad, range_of, step, written_at}
use Rattle.bridge.specs.Text.{char}
use Rattle.bridge.specs.TokenSteps.{doc_steps, doc_text, is_mark, literal_form, literal_class, name_at, name_in, punct_at, class_of, spacing_before, steps_of_class}
use Rattle.expander.specs.PieceTokens.{is_blank_kind}

pub data Form : Type 0 where
  blank : Form
  name : IdentIsRaw → Form
  mark : ℕ → Form
  opening : DelimiterKind → Form
  closing : DelimiterKind → Form
  quoted_name : Form
  doc : DocStyle → Bool → Form
  value : LitKind → ℕ → Form
  neither : Form

abbrev pub form_steps : Form → PlacedToken → List PlacedToken → List TextStep
form_steps blank t more = []
form_steps (name raw) t more = step (name_at (name_in raw t.text) raw (written_at (range_of t))) ∷ []
form_steps (mark c) t more = step (punct_at c (spacing_before more) (written_at (range_of t))) ∷ []
form_steps (opening k) t more = step (opens k (written_at (range_of t))) ∷ []
form_steps (closing k) t more = step (closes k (written_at (range_of t))) ∷ []
form_steps quoted_name t more =
    step (punct_at (char "'") Joint (written_at (record { start = t.start; «end» = t.start + 1 })))
    ∷ step (name_at (drop 1 t.text) is_raw.No (written_at (record { start = t.start + 1; «end» = t.start + length t.text }))) ∷ []
form_steps (doc style is_block) t more = map step (doc_steps style (doc_text is_block t.text) (written_at (range_of t)))
form_steps (value f suffix_start) t more = step (at_leaf (as_leaf.Literal (literal_in f suffix_start t.text (written_at (range_of t))))) ∷ []
form_steps neither t more = bad (range_of t) ∷ []

abbrev pub is_mark_form : Form → Bool
is_mark_form (mark c) = true
is_mark_form _ = false

module _ (P : (PlacedToken → List PlacedToken → List TextStep) → Bool → Type 0) (h : (form : Form) → P (form_steps form) (is_mark_form form)) where
  by_literal : (o : Option LitKind) (n : ℕ) → P (steps_of_class (literal_class o n)) (is_mark (literal_class o n))
  by_literal None n = h neither
  by_literal (Some f) n = h (value f n)

  -- what holds of each form holds of each kind
  pub by_form : (k : TokenKind) → P (steps_of_class (class_of k)) (is_mark (class_of k))
  by_form kind.Whitespace = h blank
  by_form (kind.LineComment None) = h blank
  by_form (kind.LineComment (Some style)) = h (doc style false)
  by_form (kind.BlockComment None true) = h blank
  by_form (kind.BlockComment (Some style) true) = h (doc style true)
  by_form kind.Ident = h (name is_raw.No)
  by_form kind.RawIdent = h (name is_raw.Yes)
  by_form (kind.Lifetime false) = h quoted_name
  by_form (kind.Literal k suffix_start) = by_literal (literal_form k) suffix_start
  by_form kind.Semi = h (mark (char ";"))
  by_form kind.Comma = h (mark (char ","))
  by_form kind.Dot = h (mark (char "."))
  by_form kind.At = h (mark (char "@"))
  by_form kind.Pound = h (mark (char "#"))
  by_form kind.Tilde = h (mark (char "~"))
  by_form kind.Question = h (mark (char "?"))
  by_form kind.Colon = h (mark (char ":"))
  by_form kind.Dollar = h (mark (char "$"))
  by_form kind.Eq = h (mark (char "="))
  by_form kind.Bang = h (mark (char "!"))
  by_form kind.Lt = h (mark (char "<"))
  by_form kind.Gt = h (mark (char ">"))
  by_form kind.Minus = h (mark (char "-"))
  by_form kind.And = h (mark (char "&"))
  by_form kind.Or = h (mark (char "|"))
  by_form kind.Plus = h (mark (char "+"))
  by_form kind.Star = h (mark (char "*"))
  by_form kind.Slash = h (mark (char "/"))
  by_form kind.Caret = h (mark (char "^"))
  by_form kind.Percent = h (mark (char "%"))
  by_form kind.OpenParen = h (opening Parenthesis)
  by_form kind.OpenBrace = h (opening Brace)
  by_form kind.OpenBracket = h (opening Bracket)
  by_form kind.CloseParen = h (closing Parenthesis)
  by_form kind.CloseBrace = h (closing Brace)
  by_form kind.CloseBracket = h (closing Bracket)
  by_form _ = h neither

-- ---- blank tokens

-- they are read as nothing
pub blank_is_nothing : (k : TokenKind) (t : PlacedToken) (after : List PlacedToken) → is_blank_kind k ≡ true → steps_of_class (class_of k) t after ≡ []
blank_is_nothing kind.Whitespace t after h = refl
blank_is_nothing (kind.LineComment None) t after h = refl
blank_is_nothing (kind.BlockComment None true) t after h = refl
blank_is_nothing _ t after h = cc

-- and no others are
pub nothing_is_blank : (k : TokenKind) (t : PlacedToken) (after : List PlacedToken) → steps_of_class (class_of k) t after ≡ [] → is_blank_kind k ≡ true
nothing_is_blank kind.Whitespace t after e = refl
nothing_is_blank (kind.LineComment None) t after e = refl
nothing_is_blank (kind.LineComment (Some Outer)) t after e = cc
nothing_is_blank (kind.LineComment (Some Inner)) t after e = cc
nothing_is_blank (kind.BlockComment None true) t after e = refl
nothing_is_blank (kind.BlockComment (Some Outer) true) t after e = cc
nothing_is_blank (kind.BlockComment (Some Inner) true) t after e = cc
nothing_is_blank (kind.Lifetime true) t after e = cc
nothing_is_blank (kind.Lifetime false) t after e = cc
nothing_is_blank (kind.Literal k suffix_start) t after e = go (literal_form k) e
  where
    go : (o : Option LitKind) → steps_of_class (literal_class o suffix_start) t after ≡ [] → false ≡ true
    go None h = cc
    go (Some f) h = cc
nothing_is_blank _ t after e = cc
