use Rattle.std.proofs.Common.{chars, subst}
use Rattle.rustc_lexer.specs.Literals.{literal}
use Rattle.rustc_lexer.specs.Scanned.{IsRead}
use Rattle.rustc_lexer.specs.declared.token.LiteralKind.TheVariants.{GuardedStr}
use Rattle.rustc_lexer.proofs.HashReadLemmas.{string_read}
use Rattle.rustc_lexer.proofs.first_token.guarded.Goals as goal

pub returns : goal.returns
returns c =
    let told = c.guarded_form-n_hashes.result.0 in
    string_read _ _ _ _ _ told _ c.requires.opening c.guarded_form-n_hashes.ensures
    (λ m e. subst (λ whole. IsRead (literal whole (GuardedStr told) m (chars c.args.text.now)) c.args.text.now c.literal.result.0 c.literal.result.1.now)
    c.is_some.ensures (c.literal.ensures m e))
