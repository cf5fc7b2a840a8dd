-- Leaves that an iterator gives, as tokens.
use Rattle.std.proofs.Common.{◌≡◌, List, [], ◌∷◌, ◌++◌, map, ap, refl, Option, Some}
use Rattle.std.specs.Iterator.{Yields}
use Rattle.tt_data.specs.declared.leaf.Leaf.{Leaf}
use Rattle.tt_data.specs.declared.tree.TokenTree.TheVariants as token
use Rattle.tt_data.specs.Forest.{preorder}
use Rattle.tt.specs.Building.{leaves}

pub preorder-leaves : (ls : List Leaf) → preorder (leaves ls) ≡ map token.Leaf ls
preorder-leaves [] = refl
preorder-leaves (l ∷ more) = ap (λ t. token.Leaf l ∷ t) (preorder-leaves more)

-- one more call
pub yields_more : {S A : Type 0} (steps : S → Option A → S → Type 0) (s : S) (xs : List A) (t u : S) (x : A) → Yields steps s xs t
    → steps t (Some x) u → Yields steps s (xs ++ x ∷ []) u
yields_more steps s [] t u x same step = (u, rw same step, refl)
yields_more steps s (y ∷ xs) t u x given step = (given.0, given.1, yields_more steps given.0 xs t u x given.2 step)
