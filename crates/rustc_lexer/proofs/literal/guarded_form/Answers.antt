use Rattle.std.proofs.Common.{◌∙◌, ap}
use Rattle.rustc_lexer.specs.Literals.{hashes_of}
use Rattle.rustc_lexer.proofs.HashReadLemmas.{form_read}
use Rattle.rustc_lexer.proofs.ReadLemmas.{retold}
use Rattle.rustc_lexer.proofs.literal.guarded_form.Goals as goal

pub returns : goal.returns
returns c =
    retold (c.hashes_of.ensures ∙ ap (λ whole. hashes_of whole c.args.n) c.is_closed.ensures)
    (form_read _ _ _ _ _ _ _ c.behind.ensures c.string_body-terminated.ensures c.skip_closing-missing.ensures.missing c.skip_closing-missing.ensures.rest c.skip_closing-missing.ensures.utf8)
