use Rattle.std.proofs.Common.{arith}
use Rattle.rustc_lexer.proofs.RawFormLemmas.{hashes_fit}
use Rattle.rustc_lexer.proofs.raw_str.read_hashes.Goals as goal

pub overflow_cast-result : goal.overflow_cast-result
overflow_cast-result c = let l = hashes_fit _ _ c.utf8.text c.count_hashes-n.ensures.read.value in omega (arith, l, c.requires)
