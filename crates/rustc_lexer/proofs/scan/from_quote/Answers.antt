use Rattle.std.proofs.Common.{Some, None, chars, ◌∙◌, ap, subst}
use Rattle.memchr.specs.Find.{IsFirstByte, is_byte}
use Rattle.rustc_lexer.proofs.FirstByteLemmas.{from_found, from_none, quote_is_ascii}
use Rattle.rustc_lexer.proofs.scan.from_quote.Goals as goal

pub returns-in-Some : goal.returns-in-Some
returns-in-Some c =
    let found = subst (λ hay. IsFirstByte (is_byte 34) hay (Some c.in-Some.i)) c.as_bytes.ensures.value c.in-Some.ensures in
    ap chars c.range_from.ensures.value ∙ from_found (is_byte 34) c.args.text.now c.in-Some.i quote_is_ascii c.utf8.text found

pub returns-in-None : goal.returns-in-None
returns-in-None c =
    let none = subst (λ hay. IsFirstByte (is_byte 34) hay None) c.as_bytes.ensures.value c.in-None.ensures in
    ap chars c.range_from-in-None.ensures.value ∙ from_none (is_byte 34) c.args.text.now quote_is_ascii c.utf8.text none
