use Rattle.std.proofs.Common.{◌≡◌, ◌∷◌, [], refl, arith, ap, length, length-append, reverse}
use Rattle.token_bytes.specs.Items.{items}
use Rattle.tt.specs.Walking.{left_in}
use Rattle.tt.proofs.NestingLemmas.{left, stacked}
use Rattle.tt.proofs.top_subtree.transform.leave.Goals as goal

pub returns-clause-left : goal.returns-clause-left
returns-clause-left c = λ _.
    let tokens = items c.args.walk.now.left in
    let kept = c.in-Some.kept in
    let outer = reverse c.pop.new.self.items in
    let turned : reverse c.args.walk.now.outer.items ≡ kept ∷ outer = stacked c.pop.new.self.items c.args.walk.now.outer.items kept c.in-Some.ensures.items in
    let l = left tokens kept outer (rw turned at c.requires.at_end) (rw turned at c.requires.nested) in (
      (record { close_span = kept.close_span; rest = left_in tokens outer }, rw turned l.around_is, refl, c.in-Ok.ensures.ok),
      l.nested,
      omega (arith, ap length c.in-Some.ensures.items, length-append c.pop.new.self.items (kept ∷ [])),
    )
