use Rattle.std.proofs.Common.{◌≡◌, drop, fold, map, max}
use Rattle.std.specs.List.{flat_map}
use Rattle.source_snippet.specs.Messages.{numbers_in, part_of}
use Rattle.source_snippet.proofs.layout.greatest.Given as goal

abbrev pub invariant-loop-section : goal.invariant-loop-section
invariant-loop-section l =
    fold max l.most (flat_map numbers_in (map part_of (drop l.section-index l.all)))
    ≡ fold max 0 (flat_map numbers_in (map part_of l.all))
