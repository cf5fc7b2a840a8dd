use Rattle.std.proofs.Common.{◌∙◌, sym}
use Rattle.rustc_lexer.proofs.ReadLemmas.{retold}
use Rattle.rustc_lexer.proofs.BodyLemmas.{raw_whole}
use Rattle.rustc_lexer.proofs.literal.raw_form.Goals as goal

pub returns : goal.returns
returns c =
    retold c.hashes_of.ensures
    (raw_whole _ _ _ _ _ _ c.count_hashes-n.ensures.read (sym c.first.ensures ∙ c.if-first-ne34.false) c.behind-2.ensures c.raw_body-terminated.ensures)
