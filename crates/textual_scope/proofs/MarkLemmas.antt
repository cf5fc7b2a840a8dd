-- What the marks of a forest hold.
use Rattle.std.proofs.Common.{◌≡◌, ◌≤◌, ◌<◌, ℕ, refl, ap, ◌∙◌, arith, true, false, if◌then◌else◌}
use Rattle.tt_data.specs.Forest.{Forest, empty, leaf, group, size}
use Rattle.tt_data.specs.declared.leaf.Leaf.{Leaf}
use Rattle.tt_data.specs.declared.leaf.Leaf.TheVariants as as_leaf
use Rattle.expander_model.specs.Calls.{bare, from_crate, other, Marked, none, token, inside, call, is_colons, is_root, is_bang_group, mark_leaf, marked, unmarked}

-- a leaf in front is there again when the marks are taken off
unmark_leaf : (l : Leaf) (m : Marked) → unmarked (mark_leaf l m) ≡ leaf l (unmarked m)
unmark_leaf (as_leaf.Ident name) (token (as_leaf.Punct bang) (inside b a r)) =
    elim (is_bang_group bang b) as (λ t. unmarked (if t then call bare name bang b a r else token (as_leaf.Ident name) (token (as_leaf.Punct bang) (inside b a r)))
    ≡ leaf (as_leaf.Ident name) (leaf (as_leaf.Punct bang) (group b (unmarked a) (unmarked r)))) [ true ↦ refl | false ↦ refl ]
unmark_leaf (as_leaf.Punct first) (token (as_leaf.Punct second) (call bare name bang b a r)) =
    elim (is_colons first second) as (λ t. unmarked (if t then call (other first second) name bang b a r else token (as_leaf.Punct first) (token (as_leaf.Punct second) (call bare name bang b a r)))
    ≡ leaf (as_leaf.Punct first) (leaf (as_leaf.Punct second) (leaf (as_leaf.Ident name) (leaf (as_leaf.Punct bang) (group b (unmarked a) (unmarked r)))))) [ true ↦ refl | false ↦ refl ]
unmark_leaf (as_leaf.Ident crate) (call (other first second) name bang b a r) =
    elim (is_root crate) as (λ t. unmarked (if t then call (from_crate crate first second) name bang b a r else token (as_leaf.Ident crate) (call (other first second) name bang b a r))
    ≡ leaf (as_leaf.Ident crate) (leaf (as_leaf.Punct first) (leaf (as_leaf.Punct second) (leaf (as_leaf.Ident name) (leaf (as_leaf.Punct bang) (group b (unmarked a) (unmarked r))))))) [ true ↦ refl | false ↦ refl ]
unmark_leaf l m = refl

-- a forest's marks taken off give it back
pub unmarked-marked : (f : Forest) → unmarked (marked f) ≡ f
unmarked-marked empty = refl
unmarked-marked (leaf l rest) = unmark_leaf l (marked rest) ∙ ap (leaf l) (unmarked-marked rest)
unmarked-marked (group d a rest) = ap (λ x. group d x (unmarked (marked rest))) (unmarked-marked a) ∙ ap (group d a) (unmarked-marked rest)

-- each group, and each argument of a call, has this property
abbrev pub AllInside : (Marked → Type 0) → Marked → Type 0
AllInside P none = Unit {0}
AllInside P (token l m) = AllInside P m
AllInside P (inside d a m) = P a × AllInside P m
AllInside P (call path name bang d a m) = P a × AllInside P m

pub inside_leaf : (P : Marked → Type 0) (l : Leaf) (m : Marked) → AllInside P m → AllInside P (mark_leaf l m)
inside_leaf P (as_leaf.Ident name) (token (as_leaf.Punct bang) (inside b a r)) h =
    elim (is_bang_group bang b) as (λ t. AllInside P (if t then call bare name bang b a r else token (as_leaf.Ident name) (token (as_leaf.Punct bang) (inside b a r)))) [ true ↦ h | false ↦ h ]
inside_leaf P (as_leaf.Punct first) (token (as_leaf.Punct second) (call bare name bang b a r)) h =
    elim (is_colons first second) as (λ t. AllInside P (if t then call (other first second) name bang b a r else token (as_leaf.Punct first) (token (as_leaf.Punct second) (call bare name bang b a r)))) [ true ↦ h | false ↦ h ]
inside_leaf P (as_leaf.Ident crate) (call (other first second) name bang b a r) h =
    elim (is_root crate) as (λ t. AllInside P (if t then call (from_crate crate first second) name bang b a r else token (as_leaf.Ident crate) (call (other first second) name bang b a r))) [ true ↦ h | false ↦ h ]
inside_leaf P l m h = h

-- the marks of a forest with fewer than k tokens
pub record IsBelow (k : ℕ) (a : Marked) : Type 0 where
  pub less : size (unmarked a) < k
  pub same : marked (unmarked a) ≡ a

pub inside_marked : (k : ℕ) (f : Forest) → size f ≤ k → AllInside (IsBelow k) (marked f)
inside_marked k empty h = tt
inside_marked k (leaf l rest) h = inside_leaf (IsBelow k) l (marked rest) (inside_marked k rest (omega (arith, h)))
inside_marked k (group d inner rest) h =
    let is : unmarked (marked inner) ≡ inner = unmarked-marked inner in
    (record { less = omega (arith, h, ap size is); same = ap marked is }, inside_marked k rest (omega (arith, h)))
