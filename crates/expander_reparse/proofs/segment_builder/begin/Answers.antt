use Rattle.std.proofs.Common.{length, refl, rules}
use Rattle.expander_reparse.specs.declared.segment_builder.OpenSegment.{OpenSegment}
use Rattle.expander_reparse.proofs.SegmentLemmas.{just_begun}
use Rattle.expander_reparse.proofs.segment_builder.begin.Goals as goal

pub returns-clause-begun : goal.returns-clause-begun
returns-clause-begun c = λ text here.
    let b : OpenSegment = record { first = c.args.first; from = c.args.from; tokens = length c.args.left.now; parts = c.new.result } in
    just_begun text c.args.from c.args.left.now b refl refl (search rules) here
