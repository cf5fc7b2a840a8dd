use Rattle.std.proofs.Common.{sym}
use Rattle.rustc_lexer.proofs.CursorLemmas.{guarded_read, guarded_unended}
use Rattle.rustc_lexer.proofs.ReadLemmas.{retold}
use Rattle.rustc_lexer.proofs.literal.guarded_body.Goals as goal

pub returns : goal.returns
returns c =
    guarded_read _ _ _ _ _ _ c.behind.ensures (retold (sym c.if-not-terminated.false) c.string_body-terminated.ensures)
    c.skip_closing.ensures.rest c.skip_identifier.ensures c.skip_identifier.utf8

pub returns-then-not-terminated : goal.returns-then-not-terminated
returns-then-not-terminated c =
    guarded_unended _ _ _ _ c.behind.ensures (retold (sym c.if-not-terminated.true) c.string_body-terminated.ensures)
