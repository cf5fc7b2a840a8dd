use Rattle.std.proofs.Common.{◌∙◌, chars, refl, sym}
use Rattle.rustc_lexer.proofs.FrontRowLemmas.{by_white, by_letter, by_digit, by_sign, read_as}
use Rattle.rustc_lexer.proofs.first_token.begun_by.Goals as goal

pub returns-then-is_whitespace : goal.returns-then-is_whitespace
returns-then-is_whitespace c =
    read_as (by_white (chars c.args.text.now) _ c.requires.first (sym c.is_whitespace.ensures ∙ c.if-is_whitespace.true))
    (record { value = refl; rest = c.skip_while.ensures; utf8 = c.skip_while.utf8 })

pub returns-then-is_id_start : goal.returns-then-is_id_start
returns-then-is_id_start c =
    read_as (by_letter (chars c.args.text.now) _ c.requires.first (sym c.is_whitespace.ensures ∙ c.if-is_whitespace.false) (sym c.is_id_start.ensures ∙ c.if-is_id_start.true))
    c.word.ensures

pub returns-then-is_digit : goal.returns-then-is_digit
returns-then-is_digit c =
    read_as (by_digit (chars c.args.text.now) _ c.requires.first (sym c.is_whitespace.ensures ∙ c.if-is_whitespace.false)
    (sym c.is_id_start.ensures ∙ c.if-is_id_start.false) (sym c.is_digit.ensures ∙ c.if-is_digit.true)) c.numeral.ensures

pub returns-else-is_digit : goal.returns-else-is_digit
returns-else-is_digit c =
    read_as (by_sign (chars c.args.text.now) _ c.requires.first (sym c.is_whitespace.ensures ∙ c.if-is_whitespace.false)
    (sym c.is_id_start.ensures ∙ c.if-is_id_start.false) (sym c.is_digit.ensures ∙ c.if-is_digit.false)) c.sign.ensures
