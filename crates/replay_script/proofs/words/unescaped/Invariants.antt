use Rattle.std.proofs.Common.{◌≡◌, drop}
use Rattle.replay_script.specs.LineReads.{left_of}
use Rattle.replay_script.specs.Words.{unescaped}
use Rattle.replay_script.proofs.words.unescaped.Given as goal

abbrev pub invariant-loop-byte : goal.invariant-loop-byte
invariant-loop-byte l = left_of l.is_escape l.bytes.items (drop l.byte-index l.text) ≡ unescaped l.text
