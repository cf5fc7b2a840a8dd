-- One round follows another.
use Rattle.std.proofs.Common.{◌≡◌, ℕ, suc, ◌+◌, ap, ◌∙◌, arith}
use Rattle.crate_imports.specs.Rounds.{after_round, after_rounds}
use Rattle.crate_walk.specs.Modules.{files_of}
use Rattle.crate_imports.proofs.offered.known_of.Goals as goal

pub loop-n-init : goal.loop-n-init
unfolding after_rounds
loop-n-init c = c.new-known.ensures

pub loop-n-preserved : goal.loop-n-preserved
unfolding after_rounds
loop-n-preserved c =
    let more : suc c.loop-n.n ≡ c.loop-n.n + 1 = omega arith in
    c.in_ok-known.ensures
    ∙ ap (after_round (files_of c.args.modules.now) c.args.tree.now.parents.items c.args.tree.now.declared.items) c.loop-n.invariant
    ∙ ap (λ (n : ℕ). after_rounds n (files_of c.args.modules.now) c.args.tree.now.parents.items c.args.tree.now.declared.items) more
