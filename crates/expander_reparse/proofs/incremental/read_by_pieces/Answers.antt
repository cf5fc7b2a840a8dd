use Rattle.std.proofs.Common.{◌≡◌, [], rules}
use Rattle.expander_reparse.specs.Reparsing.{IsReparse}
use Rattle.expander_reparse.proofs.MadeLemmas.{made_theirs}
use Rattle.expander_reparse.proofs.SegmentBuilderLemmas.{made_all, no_item}
use Rattle.expander_reparse.proofs.PieceReadingLemmas.{all_passed}
use Rattle.expander_reparse.proofs.incremental.read_by_pieces.Goals as goal

pub with_last-requires-clause-passing : goal.with_last-requires-clause-passing
with_last-requires-clause-passing c = (c.args.held.now, search rules)

pub returns-in_default-clause-met : goal.returns-in_default-clause-met
returns-in_default-clause-met c =
    let p : IsReparse c.args.held.now c.args.text.now c.loop-context.at c.loop-context.left.now c.pass_next.new.now = search rules in
    c.with_last.ensures.met c.args.held.now p.met

pub returns-clause-read : goal.returns-clause-read
returns-clause-read c =
    let p : IsReparse c.args.held.now c.args.text.now c.loop-context.at c.loop-context.left.now c.end.new.self = c.in_ok-end.ensures.passing c.args.held.now c.loop-context.invariant.0 in
    let none : c.loop-context.left.now ≡ [] = no_item c.loop-context.left.now (search rules) in
    let all = all_passed c.args.text.now c.loop-context.at c.loop-context.left.now c.end.new.self.own.items none p.passed in
    (all.0, all.1.0, all.1.1, p.listed)

pub returns-clause-theirs : goal.returns-clause-theirs
returns-clause-theirs c =
    let p : IsReparse c.args.held.now c.args.text.now c.loop-context.at c.loop-context.left.now c.end.new.self = c.in_ok-end.ensures.passing c.args.held.now c.loop-context.invariant.0 in
    made_theirs (record { list = c.end.new.self.list }) c.end.new.self.own.items
    (made_all c.args.held.now c.args.text.now c.loop-context.at c.loop-context.left.now c.end.new.self p c.in_ok-end.ensures.none)
