use Rattle.std.proofs.Common.{◌≡◌, ◌++◌, codes, drop, string_bytes, flat_map, map}
use Rattle.source_snippet.specs.Messages.{line_of, numbered}
use Rattle.source_snippet.proofs.layout.push_all_quoted.Given as goal

abbrev pub invariant-loop-quoted : goal.invariant-loop-quoted
invariant-loop-quoted l =
    string_bytes l.out ++ flat_map (λ m. codes "...\n" ++ numbered l.width m) (map line_of (drop l.quoted-index l.others))
    ≡ string_bytes l.initial.out ++ flat_map (λ m. codes "...\n" ++ numbered l.width m) (map line_of l.others)
