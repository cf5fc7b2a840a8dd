use Rattle.std.proofs.Common.{◌≡◌, length, refl, rules}
use Rattle.expander_reparse.specs.Reparsing.{IsBegun}
use Rattle.expander_reparse.specs.declared.segment.CachedSegment.{CachedSegment}
use Rattle.expander_reparse.proofs.SegmentBuilderLemmas.{ended_empty, ended_held, no_item}
use Rattle.expander_reparse.proofs.segment_builder.Reparse.end.Goals as goal

pub returns-clause-passing : goal.returns-clause-passing
returns-clause-passing c = λ held p.
    let h : CachedSegment = record { first = c.replace-begun.result.first; segment = c.in_ok-segment.segment } in
    let begun : IsBegun c.args.text.now c.args.at c.args.left.now c.replace-begun.new.dest = search rules in
    ended_held held c.args.text.now c.args.at c.args.left.now c.args.self.now _ h p refl (search rules) (search rules) (search rules) (search rules) begun (search rules) (search rules)

pub returns-then-is_empty-clause-passing : goal.returns-then-is_empty-clause-passing
returns-then-is_empty-clause-passing c = λ held p.
    let begun : IsBegun c.args.text.now c.args.at c.args.left.now c.replace-begun.new.dest = search rules in
    let none : length c.args.self.now.begun.parts.items ≡ 0 = search rules in
    ended_empty held c.args.text.now c.args.at c.args.left.now c.args.self.now _ p refl refl (no_item c.args.self.now.begun.parts.items none) begun (search rules) (search rules)
