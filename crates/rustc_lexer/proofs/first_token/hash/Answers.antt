use Rattle.std.proofs.Common.{◌∙◌, arith, chars, refl, sym}
use Rattle.rustc_lexer.proofs.FrontRowLemmas.{read_as}
use Rattle.rustc_lexer.proofs.HashReadLemmas.{alone_row, is_guarded, none_guarded, plain_far, plain_next, run_known}
use Rattle.rustc_lexer.proofs.first_token.hash.Goals as goal

pub returns-then-behind_run-text-clause-plain : goal.returns-then-behind_run-text-clause-plain
returns-then-behind_run-text-clause-plain c =
    plain_next _ _ _ c.utf8.text c.behind.utf8 c.requires.first c.behind.ensures (c.requires.plain.plain c.if-behind_run-text.true) c.requires.plain.hashed

pub returns-then-first-eq34-clause-read : goal.returns-then-first-eq34-clause-read
returns-then-first-eq34-clause-read c =
    read_as (is_guarded _ _ _ c.requires.first c.count_hashes-n.ensures.read (sym c.first.ensures ∙ c.if-first-eq34.true)) c.guarded.ensures

pub returns-then-first-eq34-clause-plain : goal.returns-then-first-eq34-clause-plain
returns-then-first-eq34-clause-plain c = plain_far _ c.utf8.text (omega (arith, c.if-behind_run-text.false)) c.guarded.ensures

pub returns-clause-read : goal.returns-clause-read
returns-clause-read c =
    read_as (alone_row (chars c.args.text.now) (none_guarded _ _ _ c.count_hashes-n.ensures.read (λ e. c.if-first-eq34.false (c.first.ensures ∙ e))))
    (record { value = refl; rest = c.behind-2.ensures; utf8 = c.behind-2.utf8 })

pub returns-clause-plain : goal.returns-clause-plain
returns-clause-plain c =
    plain_next _ _ _ c.utf8.text c.behind-2.utf8 c.requires.first c.behind-2.ensures
    (none_guarded _ _ _ c.count_hashes-n.ensures.read (λ e. c.if-first-eq34.false (c.first.ensures ∙ e))) (run_known _ _ _ c.utf8.text c.count_hashes-n.ensures.read)
