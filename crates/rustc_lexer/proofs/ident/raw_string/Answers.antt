use Rattle.std.proofs.Common.{chars, subst}
use Rattle.std.specs.Option.{is_some}
use Rattle.rustc_lexer.specs.Literals.{literal, raw_form}
use Rattle.rustc_lexer.specs.Scanned.{IsRead}
use Rattle.rustc_lexer.specs.declared.token.LiteralKind.TheVariants.{RawStr}
use Rattle.rustc_lexer.proofs.ReadLemmas.{literal_read}
use Rattle.rustc_lexer.proofs.ident.raw_string.Goals as goal

pub returns : goal.returns
returns c =
    let told = c.raw_form-n_hashes.result.0 in
    literal_read raw_form is_some RawStr 1 c.behind.ensures c.raw_form-n_hashes.ensures
    (λ n e. subst (λ whole. IsRead (literal whole (RawStr told) n (chars c.args.text.now)) c.args.text.now c.literal.result.0 c.literal.result.1.now)
    c.is_some.ensures (c.literal.ensures n e))
