use Rattle.std.proofs.Common.{◌≡◌, ◌++◌, drop, string_bytes}
use Rattle.replay_script.specs.Told.{origin_lines}
use Rattle.replay_script.proofs.tell.push_origins.Given as goal

abbrev pub invariant-loop-i : goal.invariant-loop-i
invariant-loop-i l =
    string_bytes l.told ++ origin_lines (drop l.i l.found.origins) (drop l.i l.found.texts)
    ≡ string_bytes l.fn.told ++ origin_lines l.found.origins l.found.texts
