use Rattle.std.proofs.lemmas.Result.{on_ok_weaker}
use Rattle.mbe_transcriber.proofs.PuttingLemmas.{colons-added, colons-lack}
use Rattle.mbe_transcriber.proofs.fragment.put_colons.Goals as goal

pub returns-clause-added : goal.returns-clause-added
returns-clause-added c =
    on_ok_weaker c.push-2.result
    (λ e. colons-added c.args.out.now.tree c.push.new.self.tree c.push-2.new.self.tree c.args.span c.colon.result c.colon-2.result
    c.colon.ensures c.colon-2.ensures c.in_ok-push.ensures.ok e)
    c.push-2.ensures.ok

pub returns-clause-tokens : goal.returns-clause-tokens
returns-clause-tokens c = λ e. colons-lack c.args.out.now.tree c.push.new.self.tree c.args.span c.colon.result c.in_ok-push.ensures.ok (c.push-2.ensures.tokens.0 e)
