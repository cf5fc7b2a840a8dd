use Rattle.std.proofs.Common.{◌≡◌, ◌++◌, drop, string_bytes, flat_map}
use Rattle.step_report.specs.Shown.{shown_character}
use Rattle.step_report.proofs.shown.push_characters.Given as given

-- the bytes so far and those of the characters that are left are all
abbrev pub invariant-loop-c : given.invariant-loop-c
invariant-loop-c l =
    string_bytes l.out ++ flat_map shown_character (drop l.c-index l.characters)
    ≡ string_bytes l.initial.out ++ flat_map shown_character l.characters
