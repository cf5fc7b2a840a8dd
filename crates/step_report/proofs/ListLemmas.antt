-- Lists of which all is passed.
use Rattle.std.proofs.Common.{◌≡◌, ℕ, ◌+◌, ◌<◌, ◌≤◌, ◌∙◌, List, [], ◌∷◌, ◌++◌, length, drop, get_or}
use Rattle.std.proofs.Common.{append-nil, append_assoc, ap, map, sym}
use Rattle.std.proofs.lemmas.List.{drop_all, drop_more}

-- nothing is left of what F says of a list
pub all_told : {X Y : Type 0} → (F : List X → List Y) (xs : List X) (i : ℕ) (out total : List Y)
    → length xs ≤ i → F [] ≡ [] → out ++ F (drop i xs) ≡ total → out ≡ total
all_told F xs i out total past none so_far =
    sym (append-nil out)
    ∙ ap (λ l. out ++ l) (sym none ∙ ap F (sym (drop_all i xs past)))
    ∙ so_far

-- one more element, and those that are left
pub one_more_of : {X Y Z : Type 0} → (xs : List X) (i : ℕ) (x : X) (f : X → Y) (g : Y → Z)
    (out new total : List Z) → i < length xs → x ≡ get_or xs i x → new ≡ out ++ (g (f x) ∷ [])
    → out ++ map g (map f (drop i xs)) ≡ total → new ++ map g (map f (drop (i + 1) xs)) ≡ total
one_more_of xs i x f g out new total inside here added so_far =
    ap (λ l. l ++ map g (map f (drop (i + 1) xs))) added
    ∙ append_assoc out (g (f x) ∷ []) (map g (map f (drop (i + 1) xs)))
    ∙ ap (λ l. out ++ map g (map f l))
    (ap (λ y. y ∷ drop (i + 1) xs) here ∙ sym (drop_more xs i x inside))
    ∙ so_far

-- three parts that are added one after another
pub three_parts : (out one two a b c : List ℕ) → one ≡ out ++ a → two ≡ one ++ b
    → two ++ c ≡ out ++ (a ++ (b ++ c))
three_parts out one two a b c is_one is_two =
    ap (λ l. l ++ c) (is_two ∙ ap (λ l. l ++ b) is_one) ∙ append_assoc (out ++ a) b c
    ∙ append_assoc out a (b ++ c)
