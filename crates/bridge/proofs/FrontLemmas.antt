-- What comes after whole trees is read as if it were alone.
use Rattle.std.proofs.Common.{◌≡◌, Bool, true, false, cond, List, [], ◌∷◌, ◌++◌, map, refl, ap, sym, ◌∙◌}
use Rattle.std.specs.Prelude.{Err}
use Rattle.tt.specs.Building.{Opened}
use Rattle.tt_data.proofs.ForestLemmas.{joined_assoc}
use Rattle.tt_data.specs.Flat.{joined-empty}
use Rattle.tt_data.specs.Forest.{Forest, empty, leaf, group, joined}
use Rattle.tt_data.specs.Walk.{at_leaf, opens, closes, walk}
use Rattle.bridge.proofs.ReadingLemmas.{read_from-walk}
use Rattle.bridge.specs.Reading.{TextStep, step, bad, closed, read_from, reading, with_front}
use Rattle.bridge.specs.Text.{same_kind}
use Rattle.bridge.specs.declared.reading.outcome.ReadFaultKind.TheVariants.{CloserDoesNotFit}

-- trees put in front of the outermost list
abbrev below : Forest → List Opened → List Opened
below f [] = []
below f (o ∷ []) = record { kind = o.kind; open_span = o.open_span; before = joined f o.before } ∷ []
below f (o ∷ p ∷ more) = o ∷ below f (p ∷ more)

abbrev here_below : Forest → List Opened → Forest → Forest
here_below f [] here = joined f here
here_below f (o ∷ more) here = here

read_below : (f : Forest) (steps : List TextStep) (groups : List Opened) (here : Forest)
    → read_from steps (below f groups) (here_below f groups here) ≡ with_front f (read_from steps groups here)
read_below f [] [] here = refl
read_below f [] (o ∷ []) here = refl
read_below f [] (o ∷ p ∷ more) here = refl
read_below f (bad range ∷ steps) groups here = refl
read_below f (step (at_leaf l) ∷ steps) [] here =
    ap (read_from steps []) (joined_assoc f here (leaf l empty)) ∙ read_below f steps [] (joined here (leaf l empty))
read_below f (step (at_leaf l) ∷ steps) (o ∷ more) here = read_below f steps (o ∷ more) (joined here (leaf l empty))
read_below f (step (opens kind span) ∷ steps) [] here = read_below f steps (record { kind = kind; open_span = span; before = here } ∷ []) empty
read_below f (step (opens kind span) ∷ steps) (o ∷ more) here = read_below f steps (record { kind = kind; open_span = span; before = here } ∷ o ∷ more) empty
read_below f (step (closes kind span) ∷ steps) [] here = refl
read_below f (step (closes kind span) ∷ steps) (o ∷ []) here =
    ap (λ (g : Forest). cond (same_kind o.kind kind) (read_from steps [] g) (Err (record { kind = CloserDoesNotFit; range = span.range })))
    (joined_assoc f o.before (group (record { open_span = o.open_span; close_span = span; kind = o.kind }) here empty))
    ∙ go (same_kind o.kind kind) (read_below f steps [] (closed o here span))
  where
    go : (b : Bool) → read_from steps [] (joined f (closed o here span)) ≡ with_front f (read_from steps [] (closed o here span))
        → cond b (read_from steps [] (joined f (closed o here span))) (Err (record { kind = CloserDoesNotFit; range = span.range }))
        ≡ with_front f (cond b (read_from steps [] (closed o here span)) (Err (record { kind = CloserDoesNotFit; range = span.range })))
    go true e = e
    go false e = refl
read_below f (step (closes kind span) ∷ steps) (o ∷ p ∷ more) here =
    go (same_kind o.kind kind) (read_below f steps (p ∷ more) (closed o here span))
  where
    go : (b : Bool) → read_from steps (below f (p ∷ more)) (closed o here span) ≡ with_front f (read_from steps (p ∷ more) (closed o here span))
        → cond b (read_from steps (below f (p ∷ more)) (closed o here span)) (Err (record { kind = CloserDoesNotFit; range = span.range }))
        ≡ with_front f (cond b (read_from steps (p ∷ more) (closed o here span)) (Err (record { kind = CloserDoesNotFit; range = span.range })))
    go true e = e
    go false e = refl

-- a text of which whole trees are known is read from behind them
pub reads_behind : (f : Forest) (more : List TextStep) → reading (map step (walk f) ++ more) ≡ with_front f (reading more)
reads_behind f more = read_from-walk f more [] empty ∙ ap (read_from more []) (sym (joined-empty f)) ∙ read_below f more [] empty
