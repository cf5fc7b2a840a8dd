-- Lists to which values are added at the end. (For the loops over tokens and faults.)
use Rattle.std.proofs.Common.{◌≡◌, ℕ, ◌+◌, ◌<◌, List, [], ◌∷◌, ◌++◌, length, drop, get_or, refl, sym, ap, ◌∙◌, append_assoc, Option, Some}
use Rattle.std.specs.Prelude.{slice_get}
use Rattle.std.proofs.lemmas.List.{drop_more}
use Rattle.reply_json.specs.Lines.{origin_numbers}
use Rattle.std.proofs.lemmas.Option.{get_or_from_slice_get, slice_get_within}

-- one more, and then the rest
pub behind_one : {X : Type 0} → (front : List X) (a : X) (rest : List X)
    → (front ++ a ∷ []) ++ rest ≡ front ++ a ∷ rest
behind_one front a rest = append_assoc front (a ∷ []) rest

-- two more
pub behind_two : {X : Type 0} → (front : List X) (a b : X) (rest : List X)
    → ((front ++ a ∷ []) ++ b ∷ []) ++ rest ≡ front ++ a ∷ b ∷ rest
behind_two front a b rest = behind_one (front ++ a ∷ []) b rest ∙ behind_one front a (b ∷ rest)

-- three more
pub behind_three : {X : Type 0} → (front : List X) (a b d : X) (rest : List X)
    → (((front ++ a ∷ []) ++ b ∷ []) ++ d ∷ []) ++ rest ≡ front ++ a ∷ b ∷ d ∷ rest
behind_three front a b d rest =
    behind_one ((front ++ a ∷ []) ++ b ∷ []) d rest ∙ behind_two front a b (d ∷ rest)

-- what is left of a list begins with what stands there
pub left_at : {X : Type 0} → (xs : List X) (i : ℕ) (x : X) → slice_get xs i ≡ Some x
    → drop i xs ≡ x ∷ drop (i + 1) xs
left_at xs i x is =
    drop_more xs i x (slice_get_within xs i x is)
    ∙ ap (λ y. y ∷ drop (i + 1) xs) (get_or_from_slice_get xs i x x is)

-- tokens without a range have no numbers
pub none_left : (texts : List ℕ) → origin_numbers texts [] ≡ []
none_left [] = refl
none_left (t ∷ texts) = refl
