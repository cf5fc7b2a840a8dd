use Rattle.std.proofs.Common.{◌∙◌, chars, sym}
use Rattle.rustc_lexer.proofs.FrontRowLemmas.{read_as}
use Rattle.rustc_lexer.proofs.WordLemmas.{b_byte, b_string, b_raw, b_plain}
use Rattle.rustc_lexer.proofs.ident.b_word.Goals as goal

pub returns-then-begins : goal.returns-then-begins
returns-then-begins c = read_as (b_byte (chars c.args.text.now) (sym c.begins.ensures ∙ c.if-begins.true)) c.byte.ensures

pub returns-then-begins-2 : goal.returns-then-begins-2
returns-then-begins-2 c =
    read_as (b_string (chars c.args.text.now) (sym c.begins.ensures ∙ c.if-begins.false) (sym c.begins-else-begins.ensures ∙ c.if-begins-2.true)) c.byte_string.ensures

pub returns-then-begins_raw_byte_string : goal.returns-then-begins_raw_byte_string
returns-then-begins_raw_byte_string c =
    read_as (b_raw (chars c.args.text.now) (sym c.begins.ensures ∙ c.if-begins.false) (sym c.begins-else-begins.ensures ∙ c.if-begins-2.false)
    (sym c.begins_raw_byte_string.ensures ∙ c.if-begins_raw_byte_string.true)) c.raw_byte_string.ensures

pub returns-else-begins_raw_byte_string : goal.returns-else-begins_raw_byte_string
returns-else-begins_raw_byte_string c =
    read_as (b_plain (chars c.args.text.now) (sym c.begins.ensures ∙ c.if-begins.false) (sym c.begins-else-begins.ensures ∙ c.if-begins-2.false)
    (sym c.begins_raw_byte_string.ensures ∙ c.if-begins_raw_byte_string.false)) c.plain_word.ensures
