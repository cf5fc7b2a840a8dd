use Rattle.std.proofs.Common.{◌∙◌, chars, refl, sym}
use Rattle.rustc_lexer.proofs.FrontRowLemmas.{read_as}
use Rattle.rustc_lexer.proofs.HashReadLemmas.{plain_past}
use Rattle.rustc_lexer.proofs.StartLemmas.{no_hash, start_alone, start_white, starts_word, word_same, word_starts}
use Rattle.rustc_lexer.proofs.first_token.first_lexeme.Goals as goal

pub returns-in-46-clause-read : goal.returns-in-46-clause-read
returns-in-46-clause-read c =
    read_as (start_alone (chars c.args.text.now) _ c.first_byte-b.ensures.ascii (sym c.start_of.ensures ∙ c.in-46.is))
    (record { value = c.one_char_kind.ensures; rest = c.behind.ensures; utf8 = c.behind.utf8 })

pub word-requires-clause-start : goal.word-requires-clause-start
word-requires-clause-start c =
    word_starts (chars c.args.text.now) _
    (starts_word (chars c.args.text.now) _ c.first_byte-b.ensures.ascii (sym c.start_of.ensures ∙ c.in-97.is))

pub returns-in-97-clause-read : goal.returns-in-97-clause-read
returns-in-97-clause-read c =
    read_as
    (word_same (chars c.args.text.now) _
    (starts_word (chars c.args.text.now) _ c.first_byte-b.ensures.ascii (sym c.start_of.ensures ∙ c.in-97.is))) c.word.ensures

pub returns-in-32-clause-read : goal.returns-in-32-clause-read
returns-in-32-clause-read c =
    read_as (start_white (chars c.args.text.now) _ c.first_byte-b.ensures.ascii (sym c.start_of.ensures ∙ c.in-32.is))
    (record { value = refl; rest = c.skip_while.ensures; utf8 = c.skip_while.utf8 })

pub returns-in-46-clause-plain : goal.returns-in-46-clause-plain
returns-in-46-clause-plain c =
    plain_past _ c.utf8.text (no_hash (chars c.args.text.now) _ _ c.first_byte-b.ensures.ascii (sym c.start_of.ensures ∙ c.in-46.is) refl) c.requires.plain (returns-in-46-clause-read c)

pub returns-in-97-clause-plain : goal.returns-in-97-clause-plain
returns-in-97-clause-plain c =
    plain_past _ c.utf8.text (no_hash (chars c.args.text.now) _ _ c.first_byte-b.ensures.ascii (sym c.start_of.ensures ∙ c.in-97.is) refl) c.requires.plain (returns-in-97-clause-read c)

pub returns-in-32-clause-plain : goal.returns-in-32-clause-plain
returns-in-32-clause-plain c =
    plain_past _ c.utf8.text (no_hash (chars c.args.text.now) _ _ c.first_byte-b.ensures.ascii (sym c.start_of.ensures ∙ c.in-32.is) refl) c.requires.plain (returns-in-32-clause-read c)
