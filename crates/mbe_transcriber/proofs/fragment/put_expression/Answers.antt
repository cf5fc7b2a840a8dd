use Rattle.std.proofs.Common.{◌∙◌, sym}
use Rattle.std.proofs.lemmas.Result.{on_ok_weaker}
use Rattle.tt.specs.Views.{forest}
use Rattle.mbe_transcriber.proofs.PuttingLemmas.{bare-added, bare-lacks, full-lacks, handed}
use Rattle.mbe_transcriber.proofs.fragment.put_expression.Goals as goal

pub returns-then-stands_alone-clause-added : goal.returns-then-stands_alone-clause-added
returns-then-stands_alone-clause-added c =
    on_ok_weaker c.put_alone.result
    (λ e. bare-added c.args.out.now.tree c.put_alone.new.out.tree c.args.span (forest c.args.trees) (sym c.stands_alone.ensures ∙ c.if-stands_alone.true) e)
    c.put_alone.ensures.added

pub returns-then-stands_alone-clause-tokens : goal.returns-then-stands_alone-clause-tokens
returns-then-stands_alone-clause-tokens c = λ e.
    bare-lacks c.args.out.now.tree c.args.span (forest c.args.trees) (sym c.stands_alone.ensures ∙ c.if-stands_alone.true) (c.put_alone.ensures.tokens e)

pub returns-in_err-open-clause-tokens : goal.returns-in_err-open-clause-tokens
returns-in_err-open-clause-tokens c = λ e.
    full-lacks c.args.out.now.tree c.args.span (forest c.args.trees) (sym c.stands_alone.ensures ∙ c.if-stands_alone.false)
    (c.in_err-open.ensures.tokens.0 (handed c.from_residual.result _ c.from_residual.ensures.1 e))
