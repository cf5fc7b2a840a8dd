-- Literals: the text between the quotes, and the suffix right after it.
use Rattle.std.specs.Prelude.{◌≡◌, ℕ, ◌-◌, ◌≤◌, List, ◌++◌, length, take, drop}
use Rattle.std.specs.Str.{IsCharBoundary}
use Rattle.std.proofs.Common.{◌∙◌, ap, arith, length-drop}
use Rattle.std.proofs.lemmas.List.{take-append-drop}
use Rattle.tt_data.specs.declared.span.Span.{Span}
use Rattle.tt_data.specs.declared.leaf.LitKind.{LitKind}

-- a literal: the text between its quotes, its suffix (empty if none), its form and its span
pub record LiteralParts : Type 0 where
  pub text : List ℕ
  pub suffix : List ℕ
  pub kind : LitKind
  pub span : Span

-- the literal of these parts
abbrev pub literal_of : List ℕ → List ℕ → LitKind → Span → LiteralParts
literal_of text suffix kind span = record { text = text; suffix = suffix; kind = kind; span = span }

-- the literal whose suffix is the last n bytes of a text
abbrev pub literal_in : List ℕ → ℕ → LitKind → Span → LiteralParts
literal_in all n kind span = literal_of (take (length all - n) all) (drop (length all - n) all) kind span

-- the last n bytes of a text are whole characters
abbrev pub HasSuffix : List ℕ → ℕ → Type 0
HasSuffix all n = (n ≤ length all) × IsCharBoundary all (length all - n)

-- a text cut n bytes before its end is joined again
pub put_together : {R : Type 0} (make : List ℕ → ℕ → R) (all : List ℕ) (n : ℕ) → n ≤ length all
    → make (take (length all - n) all ++ drop (length all - n) all) (length (drop (length all - n) all)) ≡ make all n
put_together make all n fits =
    let counted : length (drop (length all - n) all) ≡ n = omega (arith, length-drop (length all - n) all) in
    ap (λ t. make t (length (drop (length all - n) all))) (take-append-drop (length all - n) all) ∙ ap (make all) counted
