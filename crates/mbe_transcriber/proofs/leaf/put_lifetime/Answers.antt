use Rattle.std.proofs.lemmas.Result.{on_ok_weaker}
use Rattle.mbe_transcriber.proofs.LeafLemmas.{pair-added, pair-lacks}
use Rattle.mbe_transcriber.proofs.leaf.put_lifetime.Goals as goal

pub returns-clause-added : goal.returns-clause-added
returns-clause-added c =
    on_ok_weaker c.push-2.result
    (λ e. pair-added c.args.out.now.tree c.push.new.self.tree c.push-2.new.self.tree _ _ c.in_ok-push.ensures.ok e)
    c.push-2.ensures.ok

pub returns-clause-tokens : goal.returns-clause-tokens
returns-clause-tokens c = λ e. pair-lacks c.args.out.now.tree c.push.new.self.tree _ c.in_ok-push.ensures.ok (c.push-2.ensures.tokens.0 e)
