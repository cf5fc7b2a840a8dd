use Rattle.std.proofs.Common.{sym, ◌∙◌}
use Rattle.std.proofs.lemmas.Slice.Eq.{bytes_eq-Decides}
use Rattle.code_layout.proofs.WordLemmas.{word_is}
use Rattle.code_layout.proofs.words.is_word.Goals as goal
use Rattle.code_layout.proofs.words.is_word.Goals.{then-eq, else-eq}

pub returns-then-eq-2 : goal.returns-then-eq-2
returns-then-eq-2 c =
    elim c.if-eq.branch [
      | then-eq w ↦ word_is c.args.word.now c.args.kind c.args.text.now _ c.joins.result
          ((c.equal_tokens.ensures.kinds c.args.word.now.kind c.args.kind).0 (sym c.eq.ensures ∙ w.if-eq.true))
          ((bytes_eq-Decides c.args.word.now.text.now c.args.text.now).0 (sym w.eq-then-eq.ensures ∙ sym w.value-is ∙ c.if-eq-2.true)) c.joins.ensures
      | else-eq w ↦ cc
    ]
