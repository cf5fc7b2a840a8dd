-- Lists of items, one part after another.
use Rattle.std.proofs.Common.{◌≡◌, List, ◌∷◌, ◌++◌, map, sym, ap, ◌∙◌, append_assoc}
use Rattle.std.specs.Prelude.{flat_map}
use Rattle.std.proofs.lemmas.List.{map-append}

-- three lists, one after another
pub three_more : {X : Type 0} (a b c d x y z : List X) → b ≡ a ++ x → c ≡ b ++ y → d ≡ c ++ z
    → d ≡ a ++ (x ++ (y ++ z))
three_more a b c d x y z e f g =
    g ∙ (ap (λ (l : List _). l ++ z) (f ∙ ap (λ (l : List _). l ++ y) e)
    ∙ (append_assoc (a ++ x) y z ∙ append_assoc a x (y ++ z)))

-- what the first of some parts gives is there, and what the others give is left
pub next_part : {X Y : Type 0} (f : X → List Y) (a b : List Y) (x : X) (xs ys : List X)
    → ys ≡ x ∷ xs → b ≡ a ++ f x → b ++ flat_map f xs ≡ a ++ flat_map f ys
next_part f a b x xs ys e h =
    ap (λ (l : List _). l ++ flat_map f xs) h ∙ (append_assoc a (f x) (flat_map f xs)
    ∙ ap (λ (l : List _). a ++ flat_map f l) (sym e))

-- the same where what each part gives is mapped
pub next_tree : {X Y Z : Type 0} (h : Y → Z) (f : X → List Y) (a b : List Z) (x : X) (xs ys : List X)
    → ys ≡ x ∷ xs → b ≡ a ++ map h (f x) → b ++ map h (flat_map f xs) ≡ a ++ map h (flat_map f ys)
next_tree h f a b x xs ys e g =
    ap (λ (l : List _). l ++ map h (flat_map f xs)) g ∙ (append_assoc a (map h (f x)) (map h (flat_map f xs))
    ∙ (ap (λ (l : List _). a ++ l) (sym (map-append h (f x) (flat_map f xs)))
    ∙ ap (λ (l : List _). a ++ map h (flat_map f l)) (sym e)))
