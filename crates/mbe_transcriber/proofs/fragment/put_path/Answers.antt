-- One more tree is appended, and in the end all are.
use Rattle.std.proofs.Common.{sym, ap}
use Rattle.tt.specs.Building.{extended}
use Rattle.tt.specs.Views.{forest}
use Rattle.mbe_transcriber.specs.Filling.{with_colons}
use Rattle.mbe_transcriber.proofs.PuttingLemmas.{left-added, left-lacks, all-added, none-left, handed}
use Rattle.mbe_transcriber.proofs.fragment.put_path.Goals as goal

pub loop-tree-init : goal.loop-tree-init
loop-tree-init c = ap (λ f. extended c.args.out.now.tree (with_colons c.args.span f)) c.iter-rest.ensures

pub loop-tree-preserved : goal.loop-tree-preserved
loop-tree-preserved c =
    left-added c.args.out.now.tree c.loop-tree.out.tree c.put_next.new.out.tree c.args.span c.loop-tree.rest (forest c.in-Some.tree) c.next_as_view.new.self
    (with_colons c.args.span (forest c.args.trees)) (sym c.in-Some.ensures.tree) c.in-Some.ensures.rest
    c.in_ok-put_next.ensures.added c.loop-tree.invariant

pub returns-in_err-put_next-clause-tokens : goal.returns-in_err-put_next-clause-tokens
returns-in_err-put_next-clause-tokens c = λ e.
    left-lacks c.args.out.now.tree c.loop-tree.out.tree c.args.span c.loop-tree.rest (forest c.in-Some.tree) c.next_as_view.new.self
    (with_colons c.args.span (forest c.args.trees)) (sym c.in-Some.ensures.tree) c.in-Some.ensures.rest c.loop-tree.invariant
    (c.in_err-put_next.ensures.tokens (handed c.from_residual.result _ c.from_residual.ensures.1 e))

pub returns-clause-added : goal.returns-clause-added
returns-clause-added c =
    all-added c.args.out.now.tree c.loop-tree.out.tree c.args.span c.loop-tree.rest (with_colons c.args.span (forest c.args.trees))
    (none-left c.loop-tree.rest c.in_default.ensures.tree) c.loop-tree.invariant
