use Rattle.rustc_lexer.proofs.WordLemmas.{plain_read}
use Rattle.rustc_lexer.proofs.ident.plain_word.Goals as goal

pub returns : goal.returns
returns c =
    plain_read _ _ _ _ c.requires c.skip_while-rest.ensures c.skip_while-rest.utf8 c.first_byte.ensures.ascii c.first_byte.ensures.beyond c.word_kind.ensures
