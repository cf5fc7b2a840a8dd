-- A walk passes the calls of trees from left to right.
use Rattle.std.proofs.Common.{◌≡◌, ◌<◌, ℕ, List, [], ◌∷◌, ◌++◌, append_assoc, append-nil, refl, sym, ap, ◌∙◌, arith, true}
use Rattle.std.specs.Prelude.{Some, None, filter}
use Rattle.tt_data.specs.Forest.{Forest, leaf, group, joined, size}
use Rattle.tt_data.specs.Lent.{leaf_lent}
use Rattle.tt_data.specs.declared.delimiter.Delimiter.{Delimiter}
use Rattle.tt_data.specs.declared.leaf.Ident.{Ident}
use Rattle.tt_data.specs.declared.leaf.Leaf.{Leaf}
use Rattle.tt_data.specs.declared.leaf.Punct.{Punct}
use Rattle.bridge.specs.declared.printing.event.TokenEvent.{TokenEvent}
use Rattle.bridge.specs.declared.printing.event.TokenEvent.TheVariants as as_step
use Rattle.expander_model.specs.Calls.{Path, bare, from_crate, other, Marked, call, marked}
use Rattle.expander_model.specs.CallSteps.{bare_call, call_at, call_behind_colons, crate_call}
use Rattle.expander_model.specs.Expansion.{before_group}
use Rattle.expander_model.specs.Pieces.{first_start}
use Rattle.expander_model.specs.WalkSteps.{GoesOn, groups_of}
use Rattle.expander_model.specs.declared.call.Call.{Call}
use Rattle.expander_model.specs.declared.tree_walk.TreeWalk.{TreeWalk}
use Rattle.expander_scope.specs.Turns.{steps_in}
use Rattle.expander_scope.proofs.CallLemmas.{no_call}
use Rattle.expander_scope.proofs.TurnLemmas.{IsCall, call_is_call, call_smaller, is_open, neither}
use Rattle.call_expansion.specs.Around.{begin_of, calls_around, calls_in, contains, place_of}
use Rattle.call_expansion.specs.Passing.{Passes, calls_behind, calls_from, calls_left, turns_left}
use Rattle.call_expansion.specs.declared.around.CallPlace.{CallPlace}
use Rattle.call_expansion.proofs.ListLemmas.{filter-append}

-- ---- the calls that trees begin with

open_calls : (path : Path) (name : Ident) (bang : Punct) (d : Delimiter) (a rest : Marked) → is_open path ≡ true
    → calls_in (call path name bang d a rest) ≡ place_of path name d ∷ (calls_in a ++ calls_in rest)
open_calls bare name bang d a rest e = refl
open_calls (from_crate crate p q) name bang d a rest e = refl
open_calls (other p q) name bang d a rest e = cc

-- where a call begins
first_of_call : (path : Path) (name : Ident) (bang : Punct) (f g : Forest) → is_open path ≡ true → f ≡ joined (before_group path name bang) g
    → first_start f ≡ begin_of path name
first_of_call bare name bang f g e is = ap first_start is
first_of_call (from_crate crate p q) name bang f g e is = ap first_start is
first_of_call (other p q) name bang f g e is = cc

-- the call that trees begin with comes first, then those from its group on
pub call_place : (f : Forest) (c : Call) → call_at f ≡ Some c → (start stop : ℕ) → start ≡ first_start f
    → ((d : Delimiter) (inner rest : Forest) → c.from_group ≡ group d inner rest → stop ≡ d.close_span.range.«end»)
    → calls_in (marked f) ≡ record { name = c.name.span.range; range = record { start = start; «end» = stop } } ∷ calls_in (marked c.from_group)
call_place f c e start stop starts stops =
    let k : IsCall f c true = call_is_call f c e in
    let begins : begin_of k.path c.name ≡ start = sym (starts ∙ first_of_call k.path c.name k.bang f c.from_group k.is_so k.opening) in
    let ends : k.brackets.close_span.range.«end» ≡ stop = sym (stops k.brackets c.argument c.rest k.group_is) in
    let place : place_of k.path c.name k.brackets ≡ record { name = c.name.span.range; range = record { start = start; «end» = stop } } =
    λ i. record { name = c.name.span.range; range = record { start = begins i; «end» = ends i } } in
    ap calls_in k.marks ∙ open_calls k.path c.name k.bang k.brackets (marked c.argument) (marked c.rest) k.is_so
    ∙ ap (λ g. place_of k.path c.name k.brackets ∷ calls_in (marked g)) (sym k.group_is)
    ∙ ap (λ (p : CallPlace). p ∷ calls_in (marked c.from_group)) place

-- a leaf that begins neither is passed
leaf_calls : (f rest : Forest) (l : Leaf) → call_at f ≡ None → call_behind_colons f ≡ None → f ≡ leaf l rest → calls_in (marked f) ≡ calls_in (marked rest)
leaf_calls f rest l none colons is =
    let both = neither (crate_call (leaf l rest)) (bare_call (leaf l rest)) (sym (ap call_at is) ∙ none) in
    ap (λ g. calls_in (marked g)) is ∙ ap calls_in (no_call l rest both.0 both.1 (sym (ap call_behind_colons is) ∙ colons))

-- ---- turns of a walk

-- where the innermost list goes on
goes_left : (old new : TreeWalk) (rest : Forest) → calls_in (marked old.here) ≡ calls_in (marked rest) → new.here ≡ rest → groups_of new ≡ groups_of old
    → calls_left new ≡ calls_left old
goes_left old new rest same here groups =
    ap (λ f. calls_from f (groups_of new)) here ∙ ap (calls_from rest) groups ∙ ap (λ cs. cs ++ calls_behind (groups_of old)) (sym same)

-- nothing is added where no call is passed
passes_none : (at : ℕ) (old new : TreeWalk) (calls : List CallPlace) → calls_left new ≡ calls_left old → turns_left new < turns_left old → Passes at old new calls calls
passes_none at old new calls same less = record { calls = ap (λ cs. calls ++ filter (contains at) cs) same; less = less }

pub passes_call : (at : ℕ) (old new : TreeWalk) (before after : List CallPlace) (c : Call) (p : CallPlace) → call_at old.here ≡ Some c
    → calls_in (marked old.here) ≡ p ∷ calls_in (marked c.from_group) → new.here ≡ c.from_group → groups_of new ≡ groups_of old
    → after ≡ before ++ filter (contains at) (p ∷ []) → Passes at old new before after
passes_call at old new before after c p e is here groups pushed =
    let left : p ∷ calls_left new ≡ calls_left old =
    ap (λ f. p ∷ calls_from f (groups_of new)) here ∙ ap (λ gs. p ∷ calls_from c.from_group gs) groups ∙ ap (λ cs. cs ++ calls_behind (groups_of old)) (sym is) in
    record {
      calls =
          ap (λ cs. cs ++ filter (contains at) (calls_left new)) pushed
          ∙ append_assoc before (filter (contains at) (p ∷ [])) (filter (contains at) (calls_left new))
          ∙ ap (λ cs. before ++ cs) (sym (filter-append (contains at) (p ∷ []) (calls_left new)) ∙ ap (filter (contains at)) left);
      less = omega (arith, ap size here, ap steps_in groups, call_smaller old.here c e);
    }

pub passes_leaf : (at : ℕ) (old new : TreeWalk) (calls : List CallPlace) (l : Leaf) (rest : Forest) → call_at old.here ≡ None → call_behind_colons old.here ≡ None
    → old.here ≡ leaf l rest → new.here ≡ rest → groups_of new ≡ groups_of old → Passes at old new calls calls
passes_leaf at old new calls l rest none colons is here groups =
    passes_none at old new calls (goes_left old new rest (leaf_calls old.here rest l none colons is) here groups)
    (omega (arith, ap size here, ap size is, ap steps_in groups))

step_calls : (old new : TreeWalk) (s : TokenEvent) → call_at old.here ≡ None → call_behind_colons old.here ≡ None → GoesOn old (Some s) new → calls_left old ≡ calls_left new
step_calls old new (as_step.Leaf l) none colons (first, groups) =
    ap (λ cs. cs ++ calls_behind (groups_of old)) (leaf_calls old.here new.here (leaf_lent l) none colons first) ∙ ap (calls_from new.here) (sym groups)
step_calls old new (as_step.Opens kind span) none colons e =
    ap (λ f. calls_from f (groups_of old)) e.first
    ∙ append_assoc (calls_in (marked new.here)) (calls_in (marked e.behind)) (calls_behind (groups_of old))
    ∙ ap (calls_from new.here) (sym e.groups)
step_calls old new (as_step.Closes kind span) none colons (at_end, groups) =
    ap (λ f. calls_from f (groups_of old)) at_end ∙ ap calls_behind groups

step_less : (old new : TreeWalk) (s : TokenEvent) → GoesOn old (Some s) new → turns_left new < turns_left old
step_less old new (as_step.Leaf l) (first, groups) = omega (arith, ap size first, ap steps_in groups)
step_less old new (as_step.Opens kind span) e = omega (arith, ap size e.first, ap steps_in e.groups)
step_less old new (as_step.Closes kind span) (at_end, groups) = omega (arith, ap size at_end, ap steps_in groups)

pub passes_step : (at : ℕ) (old new : TreeWalk) (calls : List CallPlace) (s : TokenEvent) → call_at old.here ≡ None → call_behind_colons old.here ≡ None
    → GoesOn old (Some s) new → Passes at old new calls calls
passes_step at old new calls s none colons goes =
    passes_none at old new calls (sym (step_calls old new s none colons goes)) (step_less old new s goes)

-- its beginning
pub begins_walk : (at : ℕ) (w : TreeWalk) (trees : Forest) → w.here ≡ trees → groups_of w ≡ [] → filter (contains at) (calls_left w) ≡ calls_around at trees
begins_walk at w trees here groups =
    ap (filter (contains at)) (ap (λ f. calls_from f (groups_of w)) here ∙ ap (calls_from trees) groups ∙ append-nil (calls_in (marked trees)))
