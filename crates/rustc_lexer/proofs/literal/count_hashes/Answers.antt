use Rattle.std.proofs.Common.{arith, refl}
use Rattle.rustc_lexer.proofs.ReadLemmas.{hashes_in_bytes}
use Rattle.rustc_lexer.proofs.TokenLemmas.{bytes_passed}
use Rattle.rustc_lexer.proofs.literal.count_hashes.Goals as goal

pub overflow_sub-n : goal.overflow_sub-n
overflow_sub-n c = omega (arith, bytes_passed c.args.text.now _ _ c.utf8.text c.skip_while-rest.utf8 c.skip_while-rest.ensures)

pub returns-clause-read : goal.returns-clause-read
returns-clause-read c = record {
  value = hashes_in_bytes _ _ _ c.utf8.text c.skip_while-rest.utf8 c.skip_while-rest.ensures refl;
  rest = c.skip_while-rest.ensures;
  utf8 = c.skip_while-rest.utf8;
}
