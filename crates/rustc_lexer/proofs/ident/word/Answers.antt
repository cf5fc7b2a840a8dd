use Rattle.std.proofs.Common.{◌<◌, subst, sym}
use Rattle.rustc_lexer.proofs.StartLemmas.{ends_word}
use Rattle.rustc_lexer.proofs.WordLemmas.{unmarked_read}
use Rattle.rustc_lexer.proofs.ident.word.Goals as goal

pub returns : goal.returns
returns c =
    let next = ends_word _ _ c.start_of.ensures c.if-start_of-eq63.false in
    let low = subst (λ n. n < 128) (sym (c.first_byte.ensures.ascii next.low)) next.low in
    unmarked_read _ _ _ c.requires.start (c.skip_ascii-rest.ensures.stops low) c.skip_ascii-rest.utf8 c.first_byte.ensures.ascii c.first_byte.ensures.beyond next.none
