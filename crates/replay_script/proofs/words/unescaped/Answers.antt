use Rattle.replay_script.proofs.LineLemmas.{none_left}
use Rattle.replay_script.proofs.words.unescaped.Goals as goal

pub returns-in_default : goal.returns-in_default
returns-in_default c =
    none_left c.as_bytes-byte-items.result.now c.args.text.now c.as_bytes-byte-items.ensures.value c.loop-byte.byte-index c.loop-byte.is_escape c.loop-byte.bytes.items c.loop-byte-test.true
    c.loop-byte.invariant (rw c.in_default.is at c.in_ok-next.ensures)
