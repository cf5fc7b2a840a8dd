use Rattle.expander_sources.proofs.AddingLemmas.{adds_keyword}
use Rattle.expander_sources.proofs.rooting.push_keyword.Goals as goal

pub returns-clause-ok : goal.returns-clause-ok
returns-clause-ok c =
    adds_keyword c.push-3.result _ _ _ _ _ c.args.is_macro c.args.at c.if-is_macro.false c.in_ok-word_at-2.ensures.word c.in_ok-push.ensures.ok
    c.punct_at.ensures c.push-3.ensures.ok
