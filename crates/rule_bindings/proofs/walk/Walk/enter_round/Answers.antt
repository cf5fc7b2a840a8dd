use Rattle.std.proofs.Common.{arith, refl}
use Rattle.rule_bindings.proofs.WalkLemmas.{in-round}
use Rattle.rule_bindings.proofs.walk.Walk.enter_round.Goals as goal

pub returns-clause-left : goal.returns-clause-left
returns-clause-left c = λ m.
    in-round m c.args.self.now.rounds.items c.push-4.new.self.items c.args.self.now.tasks.items
    c.push.new.self.items c.push-2.new.self.items c.push-3.new.self.items c.args.it _
    c.in_ok-push-3.ensures.items c.in_ok-push-2.ensures.items c.in_ok-push.ensures.items
    c.in_ok-push-4.ensures.items refl (omega (arith, c.if-it-eq0.false)) (omega arith)
