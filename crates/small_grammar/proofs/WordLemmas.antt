-- A text is one of some words exactly if it is one of those with its length.
use Rattle.std.proofs.Common.{◌≡◌, ℕ, Bool, true, false, ◌||◌, List, [], ◌∷◌, nat_eq, length, refl, sym, ap, ◌∙◌, if◌then◌else◌}
use Rattle.std.proofs.lemmas.Bool.{eq-eqb}
use Rattle.std.proofs.lemmas.Slice.Eq.{bytes_eq-Decides}
use Rattle.small_grammar.specs.Text.{same_text}
use Rattle.small_grammar.specs.Tokens.{is_among}

-- the words of this length
abbrev pub of_length : ℕ → List (List ℕ) → List (List ℕ)
of_length n [] = []
of_length n (w ∷ ws) = if nat_eq (length w) n then w ∷ of_length n ws else of_length n ws

not_true : (b : Bool) → (b ≡ true → true ≡ false) → b ≡ false
not_true true clash = clash refl
not_true false clash = refl

-- texts of two lengths differ
unlike : (text w : List ℕ) → nat_eq (length w) (length text) ≡ false → same_text text w ≡ false
unlike text w e =
    not_true (same_text text w)
    (λ h. sym (eq-eqb (length w) (length text) (sym (ap length ((bytes_eq-Decides text w).0 h)))) ∙ e)

-- a word more
one_more : (b : Bool) (text w : List ℕ) (ws vs : List (List ℕ)) → nat_eq (length w) (length text) ≡ b → is_among ws text ≡ is_among vs text → is_among (w ∷ ws) text ≡ is_among (if b then w ∷ vs else vs) text
one_more true text w ws vs e rest = ap (λ r. same_text text w || r) rest
one_more false text w ws vs e rest = ap (λ b. b || is_among ws text) (unlike text w e) ∙ rest

as_long : (ws : List (List ℕ)) (text : List ℕ) → is_among ws text ≡ is_among (of_length (length text) ws) text
as_long [] text = refl
as_long (w ∷ ws) text = one_more (nat_eq (length w) (length text)) text w ws (of_length (length text) ws) refl (as_long ws text)

-- only words of the text's length count
pub among_long : (ws : List (List ℕ)) (n : ℕ) (text : List ℕ) → length text ≡ n → is_among (of_length n ws) text ≡ is_among ws text
among_long ws n text e = sym (as_long ws text ∙ ap (λ m. is_among (of_length m ws) text) e)
