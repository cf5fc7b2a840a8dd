use Rattle.std.proofs.Common.{◌≡◌, ◌++◌, drop, string_bytes, flat_map, map}
use Rattle.source_snippet.specs.Messages.{bar, part_lines, part_of}
use Rattle.source_snippet.proofs.layout.push_sections.Given as goal

abbrev pub invariant-loop-section : goal.invariant-loop-section
invariant-loop-section l =
    string_bytes l.out ++ flat_map (λ q. bar l.width ++ part_lines l.width q) (map part_of (drop l.section-index l.others))
    ≡ string_bytes l.initial.out ++ flat_map (λ q. bar l.width ++ part_lines l.width q) (map part_of l.others)
