-- The literal that a whole token is: the text inside letters, hashes and quotes, and the suffix.
use Rattle.std.specs.Prelude.{◌≡◌, ℕ, ◌-◌, List, ◌++◌, length, take, drop}
use Rattle.tt_data.specs.Displayed.{form_letters, form_hashes, form_quote}
use Rattle.tt_data.specs.Literals.{literal_of}
use Rattle.tt_data.specs.declared.leaf.LitKind.{LitKind}
use Rattle.tt_data.specs.declared.leaf.Literal.{Literal}
use Rattle.tt_data.specs.declared.span.Span.{Span}

-- what comes before the text of a literal: letters, hashes and a quote
abbrev pub form_begin : LitKind → List ℕ
form_begin form = form_letters form ++ form_hashes form ++ form_quote form

-- what comes after its text: a quote and hashes
abbrev pub form_end : LitKind → List ℕ
form_end form = form_quote form ++ form_hashes form

-- a token begins and ends as a literal of this form does, with its suffix from this byte on
pub record IsLiteralToken (form : LitKind) (suffix_start : ℕ) (token : List ℕ) : Type 0 where
  pub text : List ℕ
  pub suffix : List ℕ
  pub is : token ≡ form_begin form ++ (text ++ (form_end form ++ suffix))
  pub starts : suffix_start ≡ length (form_begin form ++ (text ++ form_end form))

-- what a token has between its quotes, where the suffix starts at this byte
abbrev pub inside_of : LitKind → ℕ → List ℕ → List ℕ
inside_of form suffix_start token = take (suffix_start - length (form_begin form) - length (form_end form)) (drop (length (form_begin form)) token)

-- the literal that a token is, where the suffix starts at this byte
abbrev pub literal_in : LitKind → ℕ → List ℕ → Span → Literal
literal_in form suffix_start token span = literal_of (inside_of form suffix_start token) (drop suffix_start token) form span
