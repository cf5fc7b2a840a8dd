-- Trees put into a builder one by one.
use Rattle.std.proofs.Common.{◌≡◌, ◌≤◌, Some, sym, ◌∙◌, ap, subst, arith}
use Rattle.tt_data.specs.declared.delimiter.Delimiter.{Delimiter}
use Rattle.tt_data.specs.declared.leaf.Leaf.{Leaf}
use Rattle.tt_data.specs.declared.tree.Subtree.{Subtree}
use Rattle.tt_data.proofs.ForestLemmas.{joined_assoc}
use Rattle.tt_data.specs.Flat.{joined-empty}
use Rattle.tt_data.specs.Forest.{Forest, empty, leaf, group, joined, size}
use Rattle.tt.specs.Building.{Building, closed, extended, opened, pushed}
use Rattle.tt.specs.Elements.{IsNext}
use Rattle.tt.specs.declared.iter.TtElement.{TtElement}
use Rattle.tt.specs.declared.iter.TtElement.TheVariants as element

pub next_leaf : (f g : Forest) (tree : TtElement) (l : Leaf) → IsNext f (Some tree) g → tree ≡ element.Leaf l → f ≡ leaf l g
next_leaf f g tree l h e = subst (λ t. IsNext f (Some t) g) e h

pub next_group : (f g inner : Forest) (tree : TtElement) (s : Subtree) → IsNext f (Some tree) g → tree ≡ element.Subtree s inner →
    f ≡ group s.delimiter inner g
next_group f g inner tree s h e = (subst (λ t. IsNext f (Some t) g) e h).0

pub with_leaf : (b now : Building) (f g : Forest) (l : Leaf) → f ≡ leaf l g → now ≡ pushed b l → extended now g ≡ extended b f
with_leaf b now f g l e h =
    ap (λ x. extended x g) h
    ∙ ap (λ here. record b { here = here }) (joined_assoc b.here (leaf l empty) g)
    ∙ ap (extended b) (sym e)

pub with_group : (b begun filled now : Building) (f inner g : Forest) (d : Delimiter) → f ≡ group d inner g → begun ≡ opened b d.kind d.open_span →
    filled ≡ extended begun inner → now ≡ closed filled d.close_span → extended now g ≡ extended b f
with_group b begun filled now f inner g d e h i j =
    ap (λ x. extended x g) (j ∙ ap (λ x. closed x d.close_span) (i ∙ ap (λ x. extended x inner) h))
    ∙ ap (λ here. record b { here = here }) (joined_assoc b.here (group d inner empty) g)
    ∙ ap (extended b) (sym e)

pub less_by_leaf : (f g : Forest) (l : Leaf) → f ≡ leaf l g → size g ≤ size f
less_by_leaf f g l e = (let s = ap size e in omega (arith, s))

pub less_by_group : (f inner g : Forest) (d : Delimiter) → f ≡ group d inner g → size g ≤ size f
less_by_group f inner g d e = (let s = ap size e in omega (arith, s))

pub nothing_left : (b : Building) (f : Forest) → f ≡ empty → extended b f ≡ b
nothing_left b f e = ap (extended b) e ∙ ap (λ here. record b { here = here }) (joined-empty b.here)
