-- Parts of steps, one after another, and what is added to a trace.
use Rattle.std.proofs.Common.{◌≡◌, ◌<◌, ◌∙◌, ℕ, List, [], ◌∷◌, ◌++◌, append_assoc, append-nil, Bool, true, false, refl, sym, ap, map, arith, if◌then◌else◌}
use Rattle.std.specs.Prelude.{Option, Some, None, nat_eq, nat_lt}
use Rattle.expander_model.specs.Held.{Numbered}
use Rattle.expander_model.specs.declared.scope_rules.ScopeRules.{ScopeRules}
use Rattle.expander_trace.specs.Numbered.{step_numbered}
use Rattle.expander_trace.specs.Parts.{Part, cost_of, cut_off, part_of, part_within, room_behind, with_step}
use Rattle.expander_trace.specs.Passing.{Adds, IsAdded}
use Rattle.expander_trace.specs.Steps.{Step}
use Rattle.expander_trace.specs.declared.limits.Cut.{Cut}
use Rattle.expander_trace.specs.declared.limits.Cut.TheVariants as cuts
use Rattle.expander_trace.specs.declared.limits.Limits.{Limits}
use Rattle.expander_trace.specs.declared.limits.Room.{Room}
use Rattle.expander_trace.specs.declared.step.Trace.{Trace}

-- ---- parts

-- no steps, with this left
abbrev bare : {D : Type 0} → Limits → Option Cut → Part D
bare left c = record { steps = []; room = record { left = left; cut = c } }

-- one part after another
abbrev joined_parts : {D : Type 0} → Part D → Part D → Part D
joined_parts p q = record { steps = p.steps ++ q.steps; room = q.room }

module _ {D : Type 0} (rules : ScopeRules) where
  -- the part that begins with a step, before another part
  abbrev first_of : Limits → Step D → Bool → Bool → Part D → Part D
  first_of left s x y more = if x then cut_off left cuts.Steps else if y then cut_off left cuts.Tokens else with_step s more

  first_append : (left : Limits) (s : Step D) (x y : Bool) (p q : Part D) (more : List (Step D)) → q ≡ joined_parts p (part_of rules p.room more)
      → first_of left s x y q ≡ joined_parts (first_of left s x y p) (part_of rules (first_of left s x y p).room more)
  first_append left s true y p q more h = refl
  first_append left s false true p q more h = refl
  first_append left s false false p q more h = ap (with_step s) h

  part_append : (left : Limits) (c : Option Cut) (a b : List (Step D))
      → part_within rules left c (a ++ b) ≡ joined_parts (part_within rules left c a) (part_of rules (part_within rules left c a).room b)
  part_append left (Some why) a b = refl
  part_append left None [] b = refl
  part_append left None (s ∷ a) b =
      let r : Room = room_behind rules left s in
      first_append left s (nat_eq left.steps 0) (nat_lt left.tokens (cost_of s.attempt)) (part_within rules r.left r.cut a) (part_within rules r.left r.cut (a ++ b)) b
      (part_append r.left r.cut a b)

  -- of nothing nothing is left out
  part_none : (left : Limits) (c : Option Cut) → part_within {D = D} rules left c [] ≡ bare left c
  part_none left None = refl
  part_none left (Some why) = refl

  -- where nothing more is traced, nothing is added
  part_cut : (left : Limits) (c : Option Cut) (why : Cut) (steps : List (Step D)) → c ≡ Some why → part_within rules left c steps ≡ bare left c
  part_cut left c why steps e = ap (λ x. part_within rules left x steps) e ∙ ap (bare left) (sym e)

-- ---- what is added to a trace

module _ (rules : ScopeRules) where
  pub adds_then : (old mid new : Trace) (a b : List (Step Numbered)) → Adds rules old mid a → Adds rules mid new b → Adds rules old new (a ++ b)
  adds_then old mid new a b f g =
      let p : Part Numbered = part_of rules old.room a in
      let e = part_append rules old.room.left old.room.cut a b in
      let same : part_of rules mid.room b ≡ part_of rules p.room b = ap (λ r. part_of rules r b) f.room_is in
      record {
        steps_are = g.steps_are ∙ ap (λ xs. xs ++ (part_of rules mid.room b).steps) f.steps_are
            ∙ append_assoc (map step_numbered old.steps.items) p.steps (part_of rules mid.room b).steps
            ∙ ap (λ (r : Part Numbered). map step_numbered old.steps.items ++ (p.steps ++ r.steps)) same
            ∙ ap (λ (r : Part Numbered). map step_numbered old.steps.items ++ r.steps) (sym e);
        room_is = g.room_is ∙ ap (λ (r : Part Numbered). r.room) same ∙ ap (λ (r : Part Numbered). r.room) (sym e);
      }

  -- a part without steps that leaves all that is left
  adds_bare : (t : Trace) (p : Part Numbered) → p ≡ bare t.room.left t.room.cut → IsAdded t t p
  adds_bare t p e = record {
    steps_are = sym (append-nil (map step_numbered t.steps.items)) ∙ ap (λ (q : Part Numbered). map step_numbered t.steps.items ++ q.steps) (sym e);
    room_is = ap (λ (q : Part Numbered). q.room) (sym e);
  }

  -- nothing is added, and so much is left
  pub adds_rest : (t : Trace) (left : Limits) (p : Part Numbered) → p ≡ bare left None → t.room.left ≡ left → t.room.cut ≡ None → IsAdded t t p
  adds_rest t left p e is none = adds_bare t p (e ∙ (λ i. bare (sym is i) (sym none i)))

  pub adds_none : (t : Trace) → Adds rules t t []
  adds_none t = adds_bare t (part_of rules t.room []) (part_none rules t.room.left t.room.cut)

  pub adds_cut : (t : Trace) (why : Cut) (steps : List (Step Numbered)) → t.room.cut ≡ Some why → Adds rules t t steps
  adds_cut t why steps e = adds_bare t (part_of rules t.room steps) (part_cut rules t.room.left t.room.cut why steps e)

  -- nothing is added, and the reason is noted
  pub adds_off : (old new : Trace) (why : Cut) (p : Part Numbered) → p ≡ cut_off old.room.left why → new.steps ≡ old.steps → new.room.left ≡ old.room.left → new.room.cut ≡ Some why
      → IsAdded old new p
  adds_off old new why p e steps left c = record {
    steps_are = ap (λ (v : _). map step_numbered v.items) steps ∙ sym (append-nil (map step_numbered old.steps.items)) ∙ ap (λ (q : Part Numbered). map step_numbered old.steps.items ++ q.steps) (sym e);
    room_is = (λ i. record { left = left i; cut = c i }) ∙ ap (λ (q : Part Numbered). q.room) (sym e);
  }

  -- ---- a step

  abbrev behind_of : Limits → Step Numbered → List (Step Numbered) → Part Numbered
  behind_of left s more = part_within rules (room_behind rules left s).left (room_behind rules left s).cut more

  -- the part that begins with a step
  abbrev part_with : Room → Step Numbered → List (Step Numbered) → Part Numbered
  part_with room s more =
      if nat_eq room.left.steps 0 then cut_off room.left cuts.Steps
      else if nat_lt room.left.tokens (cost_of s.attempt) then cut_off room.left cuts.Tokens
      else with_step s (behind_of room.left s more)

  part_step : (room : Room) (s : Step Numbered) (more : List (Step Numbered)) → room.cut ≡ None → part_of rules room (s ∷ more) ≡ part_with room s more
  part_step room s more e = ap (λ c. part_within rules room.left c (s ∷ more)) e

  not_zero : (n : ℕ) → 0 < n → nat_eq n 0 ≡ false
  not_zero n h = grind (arith, h)

  -- there is room for a step
  pub part_first : (room : Room) (s : Step Numbered) (more : List (Step Numbered)) → room.cut ≡ None → 0 < room.left.steps → nat_lt room.left.tokens (cost_of s.attempt) ≡ false
      → part_of rules room (s ∷ more) ≡ with_step s (behind_of room.left s more)
  part_first room s more e steps tokens =
      part_step room s more e ∙ rw (not_zero room.left.steps steps) (rw tokens refl)

  -- no step is left
  pub part_full : (room : Room) (s : Step Numbered) (more : List (Step Numbered)) → room.cut ≡ None → room.left.steps ≡ 0 → part_of rules room (s ∷ more) ≡ cut_off room.left cuts.Steps
  part_full room s more e steps =
      let none : nat_eq room.left.steps 0 ≡ true = rw steps refl in
      part_step room s more e ∙ rw none refl

  -- too many tokens are put out for it
  pub part_large : (room : Room) (s : Step Numbered) (more : List (Step Numbered)) → room.cut ≡ None → 0 < room.left.steps → nat_lt room.left.tokens (cost_of s.attempt) ≡ true
      → part_of rules room (s ∷ more) ≡ cut_off room.left cuts.Tokens
  part_large room s more e steps tokens = part_step room s more e ∙ rw (not_zero room.left.steps steps) (rw tokens refl)

  -- a step was added, and then those behind it
  pub adds_step : (old mid new : Trace) (s : Step Numbered) (more : List (Step Numbered)) → old.room.cut ≡ None → 0 < old.room.left.steps
      → nat_lt old.room.left.tokens (cost_of s.attempt) ≡ false → map step_numbered mid.steps.items ≡ map step_numbered old.steps.items ++ s ∷ []
      → IsAdded mid new (behind_of old.room.left s more) → Adds rules old new (s ∷ more)
  adds_step old mid new s more e steps tokens pushed h =
      let q : Part Numbered = behind_of old.room.left s more in
      let is = part_first old.room s more e steps tokens in
      record {
        steps_are = h.steps_are ∙ ap (λ xs. xs ++ q.steps) pushed ∙ append_assoc (map step_numbered old.steps.items) (s ∷ []) q.steps
            ∙ ap (λ (r : Part Numbered). map step_numbered old.steps.items ++ r.steps) (sym is);
        room_is = h.room_is ∙ ap (λ (r : Part Numbered). r.room) (sym is);
      }

  -- what is behind a step is what was added behind it
  pub behind_is : (mid : Trace) (left : Limits) (b : Bool) (steps : List (Step Numbered)) → mid.room.left ≡ left → mid.room.cut ≡ None
      → (if b then cut_off mid.room.left cuts.Definitions else part_of rules mid.room steps) ≡ part_within rules left (if b then Some cuts.Definitions else None) steps
  behind_is mid left true steps e none = ap (λ l. cut_off l cuts.Definitions) e
  behind_is mid left false steps e none = λ i. part_within rules (e i) (none i) steps
