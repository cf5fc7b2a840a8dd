use Rattle.std.proofs.Common.{◌∙◌, chars, sym}
use Rattle.rustc_lexer.proofs.FrontRowLemmas.{read_as}
use Rattle.rustc_lexer.proofs.WordLemmas.{c_string, c_raw, c_plain}
use Rattle.rustc_lexer.proofs.ident.c_word.Goals as goal

pub returns-then-begins : goal.returns-then-begins
returns-then-begins c = read_as (c_string (chars c.args.text.now) (sym c.begins.ensures ∙ c.if-begins.true)) c.c_string.ensures

pub returns-then-begins_raw_c_string : goal.returns-then-begins_raw_c_string
returns-then-begins_raw_c_string c =
    read_as (c_raw (chars c.args.text.now) (sym c.begins.ensures ∙ c.if-begins.false) (sym c.begins_raw_c_string.ensures ∙ c.if-begins_raw_c_string.true))
    c.raw_c_string.ensures

pub returns-else-begins_raw_c_string : goal.returns-else-begins_raw_c_string
returns-else-begins_raw_c_string c =
    read_as (c_plain (chars c.args.text.now) (sym c.begins.ensures ∙ c.if-begins.false) (sym c.begins_raw_c_string.ensures ∙ c.if-begins_raw_c_string.false))
    c.plain_word.ensures
