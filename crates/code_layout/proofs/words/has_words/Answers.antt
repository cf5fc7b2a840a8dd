use Rattle.code_layout.proofs.WordLemmas.{both_go_on, none_left}
use Rattle.code_layout.proofs.words.has_words.Goals as goal

pub text_at-requires : goal.text_at-requires
text_at-requires c =
    c.next_token.ensures.here _ _ _ _ _ c.utf8.text c.loop-token.invariant.stand c.in-Some.ensures.steps

pub loop-token-preserved : goal.loop-token-preserved
loop-token-preserved c =
    let on = both_go_on c.args.text.now c.loop-token.at c.in-Some.token _ _ c.in-Some.ensures.steps c.loop-token.before _ _ _
    c.text_at.ensures (c.passes.ensures.passed c.if-not-passes.false) in
    record {
      stand = c.next_token.ensures.others _ _ _ _ _ c.utf8.text c.loop-token.invariant.stand c.in-Some.ensures.steps;
      same = (λ h. on.0 (c.loop-token.invariant.same.0 h), λ h. c.loop-token.invariant.same.1 (on.1 h));
    }

pub returns : goal.returns
returns c =
    let none = none_left c.loop-token.before _ _ c.loop-token.left.words.now c.is_empty.result c.in-None.ensures.steps.0 c.is_empty.ensures in
    (λ h. c.loop-token.invariant.same.1 (none.1 h), λ h. none.0 (c.loop-token.invariant.same.0 h))
