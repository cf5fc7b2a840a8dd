use Rattle.std.proofs.Common.{◌≡◌, refl, ap, ◌∙◌, length, arith}
use Rattle.std.proofs.lemmas.List.{nil_from_length}
use Rattle.tt_data.specs.Forest.{size}
use Rattle.mbe_rules.specs.Lists.{weight_around}
use Rattle.mbe_rules.proofs.ListLemmas.{weight-push, at-last, at-end}
use Rattle.mbe_rules.proofs.parse.items.leave.Goals as goal

pub returns-in_default-clause-read : goal.returns-in_default-clause-read
returns-in_default-clause-read c edition m =
    let none : length c.args.nest.around.items ≡ 0 = omega (arith, c.in_default.ensures.cases.0, c.args.nest.around.ok) in
    at-last edition m c.args.nest c.requires (nil_from_length _ none)

pub returns-clause-read : goal.returns-clause-read
returns-clause-read c edition m =
    at-end edition m c.args.nest (record { before = c.push.new.self; rest = c.in-Some.list.rest; around = c.pop.new.self })
    c.pop.new.self.items c.in-Some.list c.enclosed.result c.requires c.in-Some.ensures.items c.enclosed.ensures c.in_ok-push.ensures.items refl refl

pub returns-clause-less : goal.returns-clause-less
returns-clause-less c =
    let around = ap weight_around c.in-Some.ensures.items ∙ weight-push c.pop.new.self.items c.in-Some.list in
    let ended = ap size c.requires in
    omega (arith, around, ended)
