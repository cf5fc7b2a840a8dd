use Rattle.std.proofs.Common.{◌≡◌, ◌++◌, length, replicate, string_bytes}
use Rattle.std.specs.List.{flat_map}
use Rattle.source_snippet.specs.Characters.{shown_character}
use Rattle.source_snippet.proofs.shown.push_under.Given as goal

abbrev pub invariant-loop-c : goal.invariant-loop-c
invariant-loop-c l = string_bytes l.out ≡ string_bytes l.initial.out ++ replicate (length (flat_map shown_character l.yielded)) l.mark
