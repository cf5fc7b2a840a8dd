-- Marked calls, found from left to right.
use Rattle.std.proofs.Common.{◌≡◌, refl, ap, ◌∙◌, true, false, if◌then◌else◌}
use Rattle.tt_data.specs.Forest.{Forest, empty, leaf, group}
use Rattle.tt_data.specs.declared.leaf.Leaf.{Leaf}
use Rattle.tt_data.specs.declared.leaf.Leaf.TheVariants as as_leaf
use Rattle.expander_model.specs.Calls.{bare, from_crate, other, Marked, token, inside, call, is_colons, is_root, is_bang_group, mark_leaf, marked, unmarked}

-- a leaf in front is there again when the marks are taken off
unmark_leaf : (l : Leaf) (m : Marked) → unmarked (mark_leaf l m) ≡ leaf l (unmarked m)
unmark_leaf (as_leaf.Ident name) (token (as_leaf.Punct bang) (inside b a r)) =
    elim (is_bang_group bang b) as (λ t. unmarked (if t then call bare name bang b a r else token (as_leaf.Ident name) (token (as_leaf.Punct bang) (inside b a r)))
    ≡ leaf (as_leaf.Ident name) (leaf (as_leaf.Punct bang) (group b (unmarked a) (unmarked r)))) [ true ↦ refl | false ↦ refl ]
unmark_leaf (as_leaf.Punct first) (token (as_leaf.Punct second) (call bare name bang b a r)) =
    elim (is_colons first second) as (λ t. unmarked (if t then call (other first second) name bang b a r else token (as_leaf.Punct first) (token (as_leaf.Punct second) (call bare name bang b a r)))
    ≡ leaf (as_leaf.Punct first) (leaf (as_leaf.Punct second) (leaf (as_leaf.Ident name) (leaf (as_leaf.Punct bang) (group b (unmarked a) (unmarked r)))))) [ true ↦ refl | false ↦ refl ]
unmark_leaf (as_leaf.Ident crate) (call (other first second) name bang b a r) =
    elim (is_root crate) as (λ t. unmarked (if t then call (from_crate crate first second) name bang b a r else token (as_leaf.Ident crate) (call (other first second) name bang b a r))
    ≡ leaf (as_leaf.Ident crate) (leaf (as_leaf.Punct first) (leaf (as_leaf.Punct second) (leaf (as_leaf.Ident name) (leaf (as_leaf.Punct bang) (group b (unmarked a) (unmarked r))))))) [ true ↦ refl | false ↦ refl ]
unmark_leaf l m = refl

-- a forest's marks taken off give it back
pub unmarked-marked : (f : Forest) → unmarked (marked f) ≡ f
unmarked-marked empty = refl
unmarked-marked (leaf l rest) = unmark_leaf l (marked rest) ∙ ap (leaf l) (unmarked-marked rest)
unmarked-marked (group d a rest) = ap (λ x. group d x (unmarked (marked rest))) (unmarked-marked a) ∙ ap (group d a) (unmarked-marked rest)
