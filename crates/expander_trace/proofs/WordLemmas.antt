-- A walk passes the events of trees, and finds the keywords of definitions among them.
use Rattle.std.proofs.Common.{◌≡◌, ◌∙◌, List, [], ◌∷◌, ◌++◌, append_assoc, append-nil, Bool, true, false, refl, sym, ap}
use Rattle.std.specs.Prelude.{◌||◌, Some, None}
use Rattle.std.specs.List.{list_any}
use Rattle.tt_data.specs.Forest.{Forest}
use Rattle.tt_data.specs.Walk.{Step, closes, opens, walk}
use Rattle.bridge.specs.TokenEvents.{step_of}
use Rattle.bridge.specs.declared.printing.event.TokenEvent.{TokenEvent}
use Rattle.bridge.specs.declared.printing.event.TokenEvent.TheVariants as as_step
use Rattle.expander_model.specs.Faults.{is_definition_word}
use Rattle.expander_model.specs.WalkSteps.{GoesOn, groups_of}
use Rattle.expander_model.specs.declared.tree_walk.Around.{Around}
use Rattle.expander_model.specs.declared.tree_walk.TreeWalk.{TreeWalk}

-- the events behind the innermost group, and so on
abbrev pub events_behind : List Around → List Step
events_behind [] = []
events_behind (a ∷ around) = closes a.kind a.close_span ∷ (walk a.behind ++ events_behind around)

-- those that are left
abbrev pub events_left : TreeWalk → List Step
events_left w = walk w.here ++ events_behind (groups_of w)

abbrev pub has_word : List Step → Bool
has_word steps = list_any is_definition_word steps

pub words_first : (w : TreeWalk) (trees : Forest) → w.here ≡ trees → groups_of w ≡ [] → has_word (events_left w) ≡ has_word (walk trees)
words_first w trees here groups =
    ap has_word (ap (λ f. walk f ++ events_behind (groups_of w)) here ∙ ap (λ gs. walk trees ++ events_behind gs) groups ∙ append-nil (walk trees))

pub next_event : (w next : TreeWalk) (s : TokenEvent) → GoesOn w (Some s) next → events_left w ≡ step_of s ∷ events_left next
next_event w next (as_step.Leaf l) (first, groups) =
    ap (λ f. walk f ++ events_behind (groups_of w)) first ∙ ap (λ gs. step_of (as_step.Leaf l) ∷ (walk next.here ++ events_behind gs)) (sym groups)
next_event w next (as_step.Opens kind span) e =
    ap (λ f. walk f ++ events_behind (groups_of w)) e.first
    ∙ (λ i. opens (e.kind_is i) (e.span_is i)
    ∷ append_assoc (walk next.here) (closes e.brackets.kind e.brackets.close_span ∷ walk e.behind) (events_behind (groups_of w)) i)
    ∙ ap (λ k. step_of (as_step.Opens kind span) ∷ (walk next.here ++ (closes k e.brackets.close_span ∷ (walk e.behind ++ events_behind (groups_of w))))) e.kind_is
    ∙ ap (λ gs. step_of (as_step.Opens kind span) ∷ (walk next.here ++ events_behind gs)) (sym e.groups)
next_event w next (as_step.Closes kind span) (at_end, groups) =
    ap (λ f. walk f ++ events_behind (groups_of w)) at_end ∙ ap events_behind groups

pub no_event : (w next : TreeWalk) → GoesOn w None next → events_left w ≡ []
no_event w next (at_end, groups) = ap (λ f. walk f ++ events_behind (groups_of w)) at_end ∙ ap events_behind groups

or_false : (a b : Bool) → a ≡ false → (a || b) ≡ b
or_false false b e = refl
or_false true b e = cc

or_true : (a b : Bool) → a ≡ true → (a || b) ≡ true
or_true true b e = refl
or_true false b e = cc

-- the next is no keyword
pub words_more : (w next : TreeWalk) (s : TokenEvent) (b : Bool) → GoesOn w (Some s) next → has_word (events_left w) ≡ b → is_definition_word (step_of s) ≡ false → has_word (events_left next) ≡ b
words_more w next s b goes e other = sym (or_false (is_definition_word (step_of s)) (has_word (events_left next)) other) ∙ sym (ap has_word (next_event w next s goes)) ∙ e

-- it is one
pub words_here : (w next : TreeWalk) (s : TokenEvent) (b : Bool) → GoesOn w (Some s) next → has_word (events_left w) ≡ b → is_definition_word (step_of s) ≡ true → true ≡ b
words_here w next s b goes e is = sym (or_true (is_definition_word (step_of s)) (has_word (events_left next)) is) ∙ sym (ap has_word (next_event w next s goes)) ∙ e

-- nothing is left
pub words_none : (w next : TreeWalk) (b : Bool) → GoesOn w None next → has_word (events_left w) ≡ b → false ≡ b
words_none w next b goes e = sym (ap has_word (no_event w next goes)) ∙ e
