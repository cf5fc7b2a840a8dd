use Rattle.std.proofs.Common.{◌∙◌, chars, sym}
use Rattle.rustc_lexer.proofs.FrontRowLemmas.{read_as}
use Rattle.rustc_lexer.proofs.WordLemmas.{r_marked, r_raw, r_plain}
use Rattle.rustc_lexer.proofs.ident.r_word.Goals as goal

pub returns-then-begins_raw_word : goal.returns-then-begins_raw_word
returns-then-begins_raw_word c =
    read_as (r_marked (chars c.args.text.now) (sym c.begins_raw_word.ensures ∙ c.if-begins_raw_word.true)) c.marked_word.ensures

pub returns-then-begins_raw_string : goal.returns-then-begins_raw_string
returns-then-begins_raw_string c =
    read_as (r_raw (chars c.args.text.now) (sym c.begins_raw_word.ensures ∙ c.if-begins_raw_word.false) (sym c.begins_raw_string.ensures ∙ c.if-begins_raw_string.true))
    c.raw_string.ensures

pub returns-else-begins_raw_string : goal.returns-else-begins_raw_string
returns-else-begins_raw_string c =
    read_as (r_plain (chars c.args.text.now) (sym c.begins_raw_word.ensures ∙ c.if-begins_raw_word.false) (sym c.begins_raw_string.ensures ∙ c.if-begins_raw_string.false))
    c.plain_word.ensures
