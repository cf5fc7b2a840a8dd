-- Different forests have different walks.
use Rattle.std.proofs.Common.{◌≡◌, List, [], ◌∷◌, ◌++◌, refl, sym, ap, ◌∙◌, append_assoc}
use Rattle.tt_data.specs.declared.span.Span.{Span}
use Rattle.tt_data.specs.declared.delimiter.DelimiterKind.{DelimiterKind}
use Rattle.tt_data.specs.Forest.{Forest, empty, leaf, group, joined}
use Rattle.tt_data.specs.Walk.{Step, at_leaf, opens, closes, walk}
use Rattle.std.proofs.lemmas.List.{append-nil}
use Rattle.tt_data.specs.Flat.{joined-empty}
use Rattle.tt_data.proofs.ForestLemmas.{joined_assoc}

-- a group that is still open, with the trees before it in its list
record Opened : Type 0 where
  kind : DelimiterKind
  open_span : Span
  before : Forest

-- the forest that goes on with these steps, inside these groups and after these trees
abbrev regrown : List Step → List Opened → Forest → Forest
regrown [] groups here = here
regrown (at_leaf l ∷ more) groups here = regrown more groups (joined here (leaf l empty))
regrown (opens kind span ∷ more) groups here = regrown more (record { kind = kind; open_span = span; before = here } ∷ groups) empty
regrown (closes kind span ∷ more) [] here = here
regrown (closes kind span ∷ more) (o ∷ outer) here =
    regrown more outer (joined o.before (group (record { open_span = o.open_span; close_span = span; kind = o.kind }) here empty))

regrown-walk : (f : Forest) (more : List Step) (groups : List Opened) (here : Forest)
    → regrown (walk f ++ more) groups here ≡ regrown more groups (joined here f)
regrown-walk empty more groups here = rw (joined-empty here) refl
regrown-walk (leaf l rest) more groups here =
    regrown-walk rest more groups (joined here (leaf l empty)) ∙ ap (regrown more groups) (joined_assoc here (leaf l empty) rest)
regrown-walk (group d inner rest) more groups here =
    let opened : Opened = record { kind = d.kind; open_span = d.open_span; before = here } in
    let closing : List Step = closes d.kind d.close_span ∷ (walk rest ++ more) in
    ap (λ steps. regrown steps (opened ∷ groups) empty) (append_assoc (walk inner) (closes d.kind d.close_span ∷ walk rest) more)
    ∙ regrown-walk inner closing (opened ∷ groups) empty
    ∙ regrown-walk rest more groups (joined here (group d inner empty))
    ∙ ap (regrown more groups) (joined_assoc here (group d inner empty) rest)

forest-walk : (f : Forest) → regrown (walk f) [] empty ≡ f
forest-walk f = ap (λ steps. regrown steps [] empty) (sym (append-nil (walk f))) ∙ regrown-walk f [] [] empty

pub walk-injective : (f g : Forest) → walk f ≡ walk g → f ≡ g
walk-injective f g same = sym (forest-walk f) ∙ ap (λ steps. regrown steps [] empty) same ∙ forest-walk g
