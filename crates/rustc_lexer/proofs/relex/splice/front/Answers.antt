use Rattle.rustc_lexer.proofs.RelexLemmas.{next_boundary, next_fits}
use Rattle.rustc_lexer.proofs.NearLemmas.{front_from}
use Rattle.rustc_lexer.proofs.relex.splice.front.Goals as goal

pub overflow_add-next : goal.overflow_add-next
overflow_add-next c =
    next_fits c.args.text.now _ _ _ _ c.utf8.text c.requires.small c.requires.tokens c.loop-k-test.true c.loop-k.invariant.at

pub is_clear_from-requires-clause-at : goal.is_clear_from-requires-clause-at
is_clear_from-requires-clause-at c =
    next_boundary c.args.text.now _ _ _ _ c.utf8.text c.requires.tokens c.loop-k-test.true c.loop-k.invariant.at

pub loop-k-init : goal.loop-k-init
loop-k-init c = record {
  at = c.requires.near.1;
  clear = c.requires.clear;
  count = front_from c.args.text.now c.args.tokens.now c.args.start c.args.near c.utf8.text c.requires.start c.requires.tokens c.requires.near c.requires.clear;
}
