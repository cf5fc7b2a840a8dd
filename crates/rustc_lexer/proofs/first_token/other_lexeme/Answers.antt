use Rattle.std.proofs.Common.{◌∙◌, ◌==◌, ap, chars, sym}
use Rattle.rustc_lexer.proofs.FrontRowLemmas.{by_hash, no_comment, read_as}
use Rattle.rustc_lexer.proofs.HashReadLemmas.{plain_past}
use Rattle.rustc_lexer.proofs.ReadLemmas.{is_other}
use Rattle.rustc_lexer.proofs.first_token.other_lexeme.Goals as goal

pub returns-then-c-eq47-clause-plain : goal.returns-then-c-eq47-clause-plain
returns-then-c-eq47-clause-plain c =
    plain_past _ c.utf8.text (ap (λ x. x == 35) (sym c.first-c.ensures ∙ c.if-c-eq47.true)) c.requires.plain c.slash.ensures

pub returns-then-c-eq35-clause-read : goal.returns-then-c-eq35-clause-read
returns-then-c-eq35-clause-read c = read_as (by_hash (chars c.args.text.now) (sym c.first-c.ensures ∙ c.if-c-eq35.true)) c.hash.ensures.read

pub returns-else-c-eq35-clause-read : goal.returns-else-c-eq35-clause-read
returns-else-c-eq35-clause-read c =
    read_as (no_comment (chars c.args.text.now) (is_other 47 _ _ c.first-c.ensures c.if-c-eq47.false) (is_other 35 _ _ c.first-c.ensures c.if-c-eq35.false)) c.begun_by.ensures

pub returns-else-c-eq35-clause-plain : goal.returns-else-c-eq35-clause-plain
returns-else-c-eq35-clause-plain c =
    plain_past _ c.utf8.text (is_other 35 _ _ c.first-c.ensures c.if-c-eq35.false) c.requires.plain c.begun_by.ensures
