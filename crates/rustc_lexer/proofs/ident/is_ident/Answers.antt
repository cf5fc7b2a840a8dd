use Rattle.std.proofs.Common.{◌≡◌, ◌∙◌, true, chars, rules}
use Rattle.rustc_lexer.specs.Character.{is_id_start, is_id_continue}
use Rattle.rustc_lexer.proofs.CursorLemmas.{all_passed}
use Rattle.rustc_lexer.proofs.ident.is_ident.Goals as goal

pub returns-then-is_id_start : goal.returns-then-is_id_start
returns-then-is_id_start c =
    let start : is_id_start c.in-Some.c ≡ true = search rules in
    rw (c.in-Some.ensures.chars, start)
    (c.is_empty.ensures ∙ all_passed is_id_continue _ (chars c.in-Some.after.now) c.skip_while.utf8 c.skip_while.ensures)
