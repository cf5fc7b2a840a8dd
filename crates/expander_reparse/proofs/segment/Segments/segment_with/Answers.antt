use Rattle.std.proofs.Common.{rules}
use Rattle.expander_reparse.proofs.SegmentBuilderLemmas.{held_stretch}
use Rattle.expander_reparse.proofs.ListLemmas.{stands_at}
use Rattle.expander_reparse.proofs.segment.Segments.segment_with.Goals as goal

pub returns-then-low-len : goal.returns-then-low-len
returns-then-low-len c =
    held_stretch c.args.self.now c.loop-high.low c.index-then-low-len.result.now c.requires
    (stands_at c.args.self.now.list.items c.loop-high.low c.index-then-low-len.result.now (search rules) c.index-then-low-len.ensures)
