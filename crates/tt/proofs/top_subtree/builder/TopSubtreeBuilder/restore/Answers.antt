use Rattle.std.proofs.Common.{◌≡◌, ◌+◌, ℕ, ◌∙◌, ap, sym, refl, arith, reverse, length, take, IsSome}
use Rattle.std.proofs.lemmas.List.{length-take, length-take-le}
use Rattle.tt.specs.Building.{Point, cut_in}
use Rattle.tt.specs.BuilderTokens.{here_of, groups_of}
use Rattle.tt.proofs.HeldMarks.{marks_cut}
use Rattle.tt.proofs.Points.{Restored, restored_items, some_mapped}
use Rattle.tt.proofs.Settled.{settled_here}
use Rattle.tt.proofs.top_subtree.builder.TopSubtreeBuilder.restore.Goals as goal

abbrev point : goal.After-mark-2-1 → Point
point c = record { tokens = c.restore_point.inside.tokens; depth = c.restore_point.inside.depth }

-- what is left after the cut
left : (c : goal.After-mark-2-1)
    → Restored c.self.inside.tokens (reverse c.self.inside.openings.items) (reverse (take (point c).depth c.self.inside.openings.items)) (point c)
left c =
    let os = reverse c.self.inside.openings.items in
    let valid : IsSome (cut_in (point c) (groups_of c.self.inside.tokens os) (here_of c.self.inside.tokens os)) =
    rw (← c.restore_point.view_is, c.as_slice-openings.ensures.value) at (c.in-Some.ensures.valid.0 refl) in
    restored_items _ _ (point c) c.self.inside.top c.self.invariant.0 ((some_mapped _ (cut_in (point c) (groups_of c.self.inside.tokens os) (here_of c.self.inside.tokens os))).1 valid)

counted : (c : goal.After-mark-2-1) → c.in-Some.mark.count ≡ (point c).tokens + 1
counted c = rw (← c.restore_point.view_is) at c.in-Some.ensures.mark.1

pub invariant_of-self : goal.invariant_of-self
invariant_of-self c =
    let n : ℕ = (point c).tokens + 1 in
    let tokens = c.self.inside.tokens in
    let all : c.in-Some.mark.count ≡ length (take n tokens) = counted c ∙ sym (length-take-le n tokens (left c).fits) in
    let held = rw (← counted c) at (left c).held in
    rw (c.cut_back.ensures, c.truncate.ensures.items) (
      held,
      omega (arith, c.self.invariant.1, length-take c.in-Some.mark.count tokens),
      tt,
      settled_here _ _ _ held (all ∙ ap (λ k. length (take k tokens)) (sym (counted c))),
      tt,
      marks_cut tokens c.self.inside.openings.items (point c).depth _ _ c.in-Some.mark c.in-Some.ensures.mark.0 held c.self.invariant.5,
    )

pub returns-clause-ok : goal.returns-clause-ok
returns-clause-ok c =
    rw (← c.restore_point.view_is, ← c.self.view_is, (left c).cut_is, c.cut_back.ensures, c.truncate.ensures.items, counted c) refl
