-- The computed reading is the defined one: a forest's walk, or the first reading fault.
use Rattle.std.proofs.Common.{◌≡◌, List, [], ◌∷◌, ◌++◌, Bool, true, false, refl, sym, ap, ◌∙◌, append_assoc, map}
use Rattle.std.proofs.lemmas.List.{append-nil, map-append}
use Rattle.std.specs.Prelude.{Result, Ok, Err, if◌then◌else◌}
use Rattle.tt.specs.Building.{Opened}
use Rattle.tt_data.proofs.ForestLemmas.{joined_assoc, walk-joined}
use Rattle.tt_data.specs.Flat.{joined-empty}
use Rattle.tt_data.specs.Forest.{Forest, empty, leaf, group, joined}
use Rattle.tt_data.specs.Walk.{Step, at_leaf, opens, closes, walk}
use Rattle.tt_data.specs.declared.delimiter.DelimiterKind.{DelimiterKind}
use Rattle.tt_data.specs.declared.delimiter.DelimiterKind.TheVariants.{Parenthesis, Brace, Bracket, Invisible}
use Rattle.tt_data.specs.declared.span.Span.{Span}
use Rattle.bridge.specs.Reading.{DoesNotFit, IsFault, IsReading, TextStep, bad, bad_at, closed, closer_at, left_open, read_from, reading, step, walk_open}
use Rattle.bridge.specs.Text.{same_kind}
use Rattle.bridge.specs.declared.reading.outcome.ReadFault.{ReadFault}
use Rattle.bridge.specs.declared.reading.outcome.ReadFaultKind.TheVariants.{CloserDoesNotFit}

pub same_kind-self : (k : DelimiterKind) → same_kind k k ≡ true
same_kind-self Parenthesis = refl
same_kind-self Brace = refl
same_kind-self Bracket = refl
same_kind-self Invisible = refl

same_kind-true : (j k : DelimiterKind) → same_kind j k ≡ true → j ≡ k
same_kind-true Parenthesis Parenthesis e = refl
same_kind-true Brace Brace e = refl
same_kind-true Bracket Bracket e = refl
same_kind-true Invisible Invisible e = refl
same_kind-true _ _ e = cc

same_kind-false : (j k : DelimiterKind) → same_kind j k ≡ false → j ≡ k → ⊥
same_kind-false j k e h = let f : same_kind j k ≡ true = rw (← h) (same_kind-self j) in cc

differs : (j k : DelimiterKind) → (j ≡ k → ⊥) → same_kind j k ≡ false
differs j k h = by_test (same_kind j k) refl
  where
    by_test : (b : Bool) → same_kind j k ≡ b → same_kind j k ≡ false
    by_test true e = absurd (h (same_kind-true j k e))
    by_test false e = e

-- after the walk of a forest, that forest has been read
pub read_from-walk : (f : Forest) (more : List TextStep) (groups : List Opened) (here : Forest)
    → read_from (map step (walk f) ++ more) groups here ≡ read_from more groups (joined here f)
read_from-walk empty more groups here = rw (joined-empty here) refl
read_from-walk (leaf l rest) more groups here =
    read_from-walk rest more groups (joined here (leaf l empty)) ∙ ap (read_from more groups) (joined_assoc here (leaf l empty) rest)
read_from-walk (group d inner rest) more groups here =
    let o : Opened = record { kind = d.kind; open_span = d.open_span; before = here } in
    let e : map step (walk inner ++ (closes d.kind d.close_span ∷ walk rest)) ++ more
    ≡ map step (walk inner) ++ (step (closes d.kind d.close_span) ∷ (map step (walk rest) ++ more)) =
    ap (λ s. s ++ more) (map-append step (walk inner) (closes d.kind d.close_span ∷ walk rest))
    ∙ append_assoc (map step (walk inner)) (step (closes d.kind d.close_span) ∷ map step (walk rest)) more in
    ap (λ s. read_from s (o ∷ groups) empty) e
    ∙ read_from-walk inner (step (closes d.kind d.close_span) ∷ (map step (walk rest) ++ more)) (o ∷ groups) empty
    ∙ rw (same_kind-self d.kind)
    (read_from-walk rest more groups (joined here (group d inner empty))
    ∙ ap (read_from more groups) (joined_assoc here (group d inner empty) rest))

-- after a walk that leaves groups open, these are open
read_from-walk_open : (groups : List Opened) (here : Forest) (more : List TextStep)
    → read_from (map step (walk_open groups here) ++ more) [] empty ≡ read_from more groups here
read_from-walk_open [] here more = read_from-walk here more [] empty
read_from-walk_open (o ∷ outer) here more =
    ap (λ s. read_from s [] empty)
    (ap (λ s. s ++ more) (map-append step (walk_open outer o.before) (opens o.kind o.open_span ∷ walk here))
    ∙ append_assoc (map step (walk_open outer o.before)) (step (opens o.kind o.open_span) ∷ map step (walk here)) more)
    ∙ read_from-walk_open outer o.before (step (opens o.kind o.open_span) ∷ (map step (walk here) ++ more))
    ∙ read_from-walk here more (o ∷ outer) empty

-- what a walk is of is read
pub reading-walk : (steps : List TextStep) (f : Forest) → IsReading steps f → reading steps ≡ Ok f
reading-walk steps f e = ap reading (e ∙ sym (append-nil (map step (walk f)))) ∙ read_from-walk f [] [] empty

-- a first fault is told
pub reading-fault : (steps : List TextStep) (fault : ReadFault) → IsFault steps fault → reading steps ≡ Err fault
reading-fault steps fault (bad_at groups here range more e) = ap reading e ∙ read_from-walk_open groups here (bad range ∷ more)
reading-fault steps fault (closer_at groups here kind span more e h) =
    ap reading e ∙ read_from-walk_open groups here (step (closes kind span) ∷ more) ∙ told groups h
  where
    told : (gs : List Opened) → DoesNotFit kind gs
        → read_from (step (closes kind span) ∷ more) gs here ≡ Err (record { kind = CloserDoesNotFit; range = span.range })
    told [] n = refl
    told (o ∷ outer) n = rw (differs o.kind kind n) refl
reading-fault steps fault (left_open o outer here e) =
    ap reading (e ∙ sym (append-nil (map step (walk_open (o ∷ outer) here)))) ∙ read_from-walk_open (o ∷ outer) here []

pub walk_open-joined : (groups : List Opened) (here g : Forest) → walk_open groups (joined here g) ≡ walk_open groups here ++ walk g
walk_open-joined [] here g = walk-joined here g
walk_open-joined (o ∷ outer) here g =
    ap (λ s. walk_open outer o.before ++ (opens o.kind o.open_span ∷ s)) (walk-joined here g)
    ∙ sym (append_assoc (walk_open outer o.before) (opens o.kind o.open_span ∷ walk here) (walk g))

-- one more step, put behind the walk so far
moved : (so_far : List Step) (s : Step) (now : List Step) (more : List TextStep) → now ≡ so_far ++ (s ∷ [])
    → map step so_far ++ (step s ∷ more) ≡ map step now ++ more
moved so_far s now more e =
    sym (ap (λ w. map step w ++ more) e
    ∙ ap (λ w. w ++ more) (map-append step so_far (s ∷ []))
    ∙ append_assoc (map step so_far) (step s ∷ []) more)

pub closed_walk : (o : Opened) (outer : List Opened) (here : Forest) (kind : DelimiterKind) (span : Span) → o.kind ≡ kind
    → walk_open outer (closed o here span) ≡ walk_open (o ∷ outer) here ++ (closes kind span ∷ [])
closed_walk o outer here kind span same =
    walk_open-joined outer o.before (group (record { open_span = o.open_span; close_span = span; kind = o.kind }) here empty)
    ∙ rw same (simp append_assoc)

-- what is computed, as it is defined
IsOutcome : List TextStep → Result Forest ReadFault → Type 0
IsOutcome all (Ok f) = IsReading all f
IsOutcome all (Err fault) = IsFault all fault

at_closer : (all : List TextStep) (r s : Result Forest ReadFault) (b : Bool) → (b ≡ true → IsOutcome all r)
    → (b ≡ false → IsOutcome all s) → IsOutcome all (if b then r else s)
at_closer all r s true fits other = fits refl
at_closer all r s false fits other = other refl

outcome : (all steps : List TextStep) (groups : List Opened) (here : Forest) → all ≡ map step (walk_open groups here) ++ steps
    → IsOutcome all (read_from steps groups here)
unfolding IsOutcome
outcome all [] [] here e = e ∙ append-nil (map step (walk here))
outcome all [] (o ∷ outer) here e = left_open o outer here (e ∙ append-nil (map step (walk_open (o ∷ outer) here)))
outcome all (step (at_leaf l) ∷ more) groups here e =
    outcome all more groups (joined here (leaf l empty))
    (e ∙ moved (walk_open groups here) (at_leaf l) (walk_open groups (joined here (leaf l empty))) more
    (walk_open-joined groups here (leaf l empty)))
outcome all (step (opens kind span) ∷ more) groups here e =
    outcome all more (record { kind = kind; open_span = span; before = here } ∷ groups) empty
    (e ∙ moved (walk_open groups here) (opens kind span) _ more refl)
outcome all (step (closes kind span) ∷ more) [] here e = closer_at [] here kind span more e tt
outcome all (step (closes kind span) ∷ more) (o ∷ outer) here e =
    at_closer all _ _ (same_kind o.kind kind)
    (λ same. outcome all more outer (closed o here span)
    (e ∙ moved (walk_open (o ∷ outer) here) (closes kind span) (walk_open outer (closed o here span)) more
    (closed_walk o outer here kind span (same_kind-true o.kind kind same))))
    (λ other. closer_at (o ∷ outer) here kind span more e (same_kind-false o.kind kind other))
outcome all (bad range ∷ more) groups here e = bad_at groups here range more e

-- what is read is what the walk is of, and a fault that is told is the first
pub walk-reading : (steps : List TextStep) (f : Forest) → reading steps ≡ Ok f → IsReading steps f
unfolding IsOutcome
walk-reading steps f e = let is : IsOutcome steps (reading steps) = outcome steps steps [] empty refl in rw e at is

pub fault-reading : (steps : List TextStep) (fault : ReadFault) → reading steps ≡ Err fault → IsFault steps fault
unfolding IsOutcome
fault-reading steps fault e = let is : IsOutcome steps (reading steps) = outcome steps steps [] empty refl in rw e at is
