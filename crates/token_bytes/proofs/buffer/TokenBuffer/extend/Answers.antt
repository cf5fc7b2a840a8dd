use Rattle.token_bytes.proofs.MarkLemmas.{first_marked}
use Rattle.token_bytes.proofs.buffer.TokenBuffer.extend.Goals as goal

pub cut_back-requires : goal.cut_back-requires
cut_back-requires c = first_marked c.end-end.result c.args.self.now c.store_all.new.self c.end-end.ensures c.in-Err.ensures.err
