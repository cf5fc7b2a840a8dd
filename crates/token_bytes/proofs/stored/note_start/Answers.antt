use Rattle.std.proofs.Common.{arith}
use Rattle.token_bytes.proofs.StartLemmas.{noted}
use Rattle.token_bytes.proofs.stored.note_start.Goals as goal

pub returns-then-count-len : goal.returns-then-count-len
returns-then-count-len c = λ ts are le is.
    noted _ c.args.starts.now.items c.push.new.self.items c.args.byte c.args.count ts c.push.ensures.items are
    (omega (arith, c.if-count-eq0.true, c.if-count-len.true, c.len.ensures, c.args.starts.now.ok.0)) le is
