use Rattle.std.proofs.Common.{arith, ◌≡◌, refl, reverse, ◌∷◌}
use Rattle.std.proofs.Math.Nat.{min-le_right}
use Rattle.std.proofs.lemmas.List.{length-set}
use Rattle.tt_data.specs.declared.delimiter.Delimiter.{Delimiter}
use Rattle.tt.specs.Building.{count_in}
use Rattle.tt.specs.BuilderTokens.{groups_of, IsHeld}
use Rattle.tt.proofs.HeldMarks.{marks_closed}
use Rattle.tt.proofs.Closings.{IsTreeAt-closed}
use Rattle.tt.proofs.Points.{start_counts}
use Rattle.tt.proofs.Settled.{IsSettled-closed}
use Rattle.tt.proofs.Held.{IsHeld-closed, here_of-closed, groups_of-closed, reverse-popped}
use Rattle.tt.proofs.top_subtree.builder.TopSubtreeBuilder.close.Goals as goal

-- the opening that was taken off is the innermost
innermost : (c : goal.After-self-3-1) → reverse c.self.inside.openings.items ≡ c.in-Some.opening ∷ reverse c.pop.new.self.items
innermost c = reverse-popped c.self.inside.openings.items c.pop.new.self.items c.in-Some.opening c.in-Some.ensures.items

held : (c : goal.After-self-3-1) → IsHeld c.self.inside.tokens (c.in-Some.opening ∷ reverse c.pop.new.self.items)
held c = rw (innermost c) at c.self.invariant.0

abbrev delimiter_of : (c : goal.After-self-3-1) → Delimiter
delimiter_of c = record { open_span = c.in-Some.opening.open_span; close_span = c.args.close_span; kind = c.in-Some.opening.kind }

pub invariant_of-self-2 : goal.invariant_of-self-2
invariant_of-self-2 c =
    let tokens = c.self.inside.tokens in
    let still = IsHeld-closed tokens c.in-Some.opening (reverse c.pop.new.self.items) (delimiter_of c) (held c) in
    let settled =
    IsSettled-closed c.self.inside.settled.count tokens c.in-Some.opening (reverse c.pop.new.self.items) (delimiter_of c) (held c)
    (rw (innermost c) at c.self.invariant.3) in
    rw (c.set_head.ensures, c.count.ensures, c.len.ensures) (
      still,
      rw length-set c.self.invariant.1,
      IsTreeAt-closed tokens c.in-Some.opening (reverse c.pop.new.self.items) _ (held c),
      rw c.earlier-self-inside.ensures.count settled,
      rw c.earlier-self-inside.ensures.count (min-le_right c.self.inside.settled.count c.in-Some.opening.at.count),
      marks_closed tokens _ c.in-Some.opening (reverse c.pop.new.self.items) c.self.inside.last_closed c.self.inside.settled _
          c.earlier-self-inside.ensures.one (rw (innermost c) at c.self.invariant.5),
    )

pub returns-clause-ok : goal.returns-clause-ok
returns-clause-ok c =
    let tokens = c.self.inside.tokens in
    let here = here_of-closed tokens c.in-Some.opening (reverse c.pop.new.self.items) (delimiter_of c) (held c) in
    let groups = groups_of-closed tokens c.in-Some.opening (reverse c.pop.new.self.items) (delimiter_of c) (held c) in
    rw (← c.self.view_is, c.set_head.ensures, c.count.ensures, c.len.ensures) (rw (here, groups, innermost c) refl)

pub returns-clause-last : goal.returns-clause-last
returns-clause-last c =
    let tokens = c.self.inside.tokens in
    let place : count_in (groups_of tokens (c.in-Some.opening ∷ reverse c.pop.new.self.items)) ≡ c.in-Some.opening.at.count =
    omega (arith, start_counts tokens (c.in-Some.opening ∷ reverse c.pop.new.self.items) (held c)) in
    rw (← c.self.view_is) (rw (innermost c, place) refl)

pub set_head-requires : goal.set_head-requires
set_head-requires c = (rw (reverse-popped c.self.inside.openings.items c.pop.new.self.items c.in-Some.opening c.in-Some.ensures.items) at c.self.invariant.5).heads.0
