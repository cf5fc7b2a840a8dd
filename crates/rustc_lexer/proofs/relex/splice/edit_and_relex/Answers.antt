use Rattle.std.proofs.Common.{subst, ◌∙◌, string_bytes, IsUtf8}
use Rattle.rustc_lexer.proofs.SplicedLemmas.{changed, start_stays, undone}
use Rattle.rustc_lexer.proofs.relex.splice.edit_and_relex.Goals as goal

pub relex_tokens-requires-clause-changed : goal.relex_tokens-requires-clause-changed
relex_tokens-requires-clause-changed c =
    changed _ _ _ _ _ _ _ _ _ _ _ _ _ c.deref.utf8 c.deref.ensures c.deref-2.ensures c.as_slice.ensures
    c.requires.start c.requires.stop c.requires.order c.requires.small c.in_ok-gone.ensures.text c.requires.tokens c.find_start-found.ensures.begun c.find_start-found.ensures.scan

pub returns-in-Ok-clause-kept : goal.returns-in-Ok-clause-kept
unfolding changed
returns-in-Ok-clause-kept c =
    c.in-Ok.ensures.kept (changed _ _ _ _ _ _ _ _ _ _ _ _ _ c.deref.utf8 c.deref.ensures c.deref-2.ensures c.as_slice.ensures
    c.requires.start c.requires.stop c.requires.order c.requires.small c.in_ok-gone.ensures.text c.requires.tokens c.find_start-found.ensures.begun c.find_start-found.ensures.scan)

pub put_back-requires-clause-start : goal.put_back-requires-clause-start
put_back-requires-clause-start c =
    let text = string_bytes c.args.text.now in
    let u : IsUtf8 text = subst IsUtf8 c.deref.ensures c.deref.utf8 in
    start_stays text (string_bytes c.replace.new.text) c.args.start c.args.stop c.args.replacement.now u c.utf8.replacement c.requires.stop c.requires.start.0 c.in_ok-gone.ensures.text

pub returns-clause-err : goal.returns-clause-err
returns-clause-err c =
    let text = string_bytes c.args.text.now in
    let new = string_bytes c.replace.new.text in
    c.put_back.ensures ∙ undone text new c.deref-in-Err.result.now c.args.start c.args.stop c.args.replacement.now c.in_ok-gone.ensures.text
    (c.deref-in-Err.ensures ∙ c.in_ok-gone.ensures.gone) c.requires.order c.requires.stop.0
