use Rattle.std.proofs.Common.{◌≡◌, ◌++◌, drop, string_bytes, flat_map, map}
use Rattle.source_snippet.specs.Messages.{label_line}
use Rattle.source_snippet.specs.Underlines.{row_of}
use Rattle.source_snippet.proofs.layout.push_quoted.Given as goal

abbrev pub invariant-loop-label : goal.invariant-loop-label
invariant-loop-label l =
    string_bytes l.out ++ flat_map (label_line l.width l.quoted.text.now) (map row_of (drop l.label-index l.label-items))
    ≡ string_bytes l.initial.out ++ flat_map (label_line l.width l.quoted.text.now) (map row_of l.label-items)
