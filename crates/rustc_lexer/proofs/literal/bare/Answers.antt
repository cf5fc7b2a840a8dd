use Rattle.std.proofs.Common.{ap}
use Rattle.rustc_lexer.specs.declared.token.TokenKind.TheVariants.{Literal}
use Rattle.rustc_lexer.proofs.ReadLemmas.{bytes_read}
use Rattle.rustc_lexer.proofs.literal.bare.Goals as goal

pub returns : goal.returns
returns c = λ n e. record {
  value = ap (Literal c.args.kind) (bytes_read _ _ n _ c.utf8.text c.utf8.rest e c.bytes_before-suffix_start.ensures);
  rest = e;
  utf8 = c.utf8.rest;
}
