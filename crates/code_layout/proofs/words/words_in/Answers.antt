use Rattle.code_layout.proofs.WordLemmas.{word_added}
use Rattle.code_layout.proofs.words.words_in.Goals as goal

pub text_at-requires : goal.text_at-requires
text_at-requires c =
    c.next_token.ensures.here _ _ _ _ _ c.utf8.text c.loop-token.invariant.stand c.in-Some.ensures.steps

pub loop-token-preserved : goal.loop-token-preserved
loop-token-preserved c = record {
  stand = c.next_token.ensures.others _ _ _ _ _ c.utf8.text c.loop-token.invariant.stand c.in-Some.ensures.steps;
  words =
      word_added c.args.text.now c.loop-token.at c.in-Some.token _ _ c.in-Some.ensures.steps c.loop-token.before _ _ _ _
      c.loop-token.invariant.words c.text_at.ensures c.in_ok-push_word.ensures;
}
