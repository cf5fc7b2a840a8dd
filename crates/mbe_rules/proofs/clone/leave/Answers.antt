use Rattle.std.proofs.Common.{refl, ap, ◌∙◌, arith}
use Rattle.std.proofs.lemmas.List.{nil_from_length}
use Rattle.mbe_rules.specs.Copying.{weight_around}
use Rattle.mbe_rules.proofs.CloneLemmas.{weight-push, at-last, at-end}
use Rattle.mbe_rules.proofs.CountLemmas.{count_ops}
use Rattle.mbe_rules.proofs.clone.leave.Goals as goal

pub returns-in_default-clause-same : goal.returns-in_default-clause-same
returns-in_default-clause-same c =
    let none = c.in_default.ensures.cases.0 in
    let ok = c.args.nest.around.ok in
    at-last c.args.nest c.requires (nil_from_length _ (omega (arith, none, ok)))

pub returns-clause-same : goal.returns-clause-same
returns-clause-same c =
    at-end c.args.nest (record { copies = c.push.new.self; rest = c.in-Some.list.rest; around = c.pop.new.self })
    c.pop.new.self.items c.in-Some.list c.enclosed.result c.requires c.in-Some.ensures.items c.enclosed.ensures c.in_ok-push.ensures.items refl refl

pub returns-clause-less : goal.returns-clause-less
returns-clause-less c =
    let around = ap weight_around c.in-Some.ensures.items ∙ weight-push c.pop.new.self.items c.in-Some.list in
    let ended = ap count_ops c.requires in
    omega (arith, around, ended)
