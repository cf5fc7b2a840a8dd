use Rattle.std.proofs.Common.{◌≡◌, [], sym, arith}
use Rattle.std.proofs.lemmas.Bool.{eqb-true}
use Rattle.std.proofs.lemmas.List.{nil_from_length, length-set}
use Rattle.std.specs.Vec.{vec_len}
use Rattle.tt.proofs.Groups.{with_head_token}
use Rattle.tt.proofs.HeldMarks.{top_head}
use Rattle.tt.proofs.top_subtree.builder.TopSubtreeBuilder.build.Goals as goal

pub invariant_of-result : goal.invariant_of-result
invariant_of-result c =
    let counted : vec_len c.self.inside.openings ≡ 0 = eqb-true _ 0 (sym c.if-not-is_empty.ensures) in
    let none : c.self.inside.openings.items ≡ [] = nil_from_length _ (omega (arith, counted, c.self.inside.openings.ok.0)) in
    let held = rw none at c.self.invariant.0 in
    rw (c.set_head.ensures, c.start.ensures) (
      with_head_token c.self.inside.tokens c.self.inside.top _ (omega (arith, c.len.ensures)) held.0 held.1,
      rw length-set c.self.invariant.1,
    )

pub set_head-requires : goal.set_head-requires
set_head-requires c = rw c.start.ensures (top_head _ _ c.self.invariant.5.heads)
