use Rattle.std.proofs.Common.{◌∙◌, sym}
use Rattle.std.proofs.lemmas.Result.{on_ok_weaker}
use Rattle.tt.specs.Views.{forest}
use Rattle.mbe_transcriber.proofs.PuttingLemmas.{not-between, between, between-lacks, next-lacks, handed}
use Rattle.mbe_transcriber.proofs.fragment.put_next.Goals as goal

pub returns-in_err-extend_with_tt-clause-tokens : goal.returns-in_err-extend_with_tt-clause-tokens
returns-in_err-extend_with_tt-clause-tokens c = λ e.
    next-lacks c.args.out.now.tree c.args.span (forest c.args.tree) c.args.rest.now
    (c.in_err-extend_with_tt.ensures.tokens.0 (handed c.from_residual.result _ c.from_residual.ensures.1 e))

pub returns-then-has_colons-clause-added : goal.returns-then-has_colons-clause-added
returns-then-has_colons-clause-added c =
    on_ok_weaker c.put_colons.result
    (λ e. between c.args.out.now.tree c.extend_with_tt.new.self.tree c.put_colons.new.out.tree c.args.span (forest c.args.tree) c.args.rest.now
    (sym c.has_colons.ensures ∙ c.if-has_colons.true) c.in_ok-extend_with_tt.ensures.ok e)
    c.put_colons.ensures.added

pub returns-then-has_colons-clause-tokens : goal.returns-then-has_colons-clause-tokens
returns-then-has_colons-clause-tokens c = λ e.
    between-lacks c.args.out.now.tree c.extend_with_tt.new.self.tree c.args.span (forest c.args.tree) c.args.rest.now
    (sym c.has_colons.ensures ∙ c.if-has_colons.true) c.in_ok-extend_with_tt.ensures.ok (c.put_colons.ensures.tokens e)

pub returns-clause-added : goal.returns-clause-added
returns-clause-added c =
    not-between c.args.out.now.tree c.extend_with_tt.new.self.tree c.args.span (forest c.args.tree) c.args.rest.now
    (sym c.has_colons.ensures ∙ c.if-has_colons.false) c.in_ok-extend_with_tt.ensures.ok
