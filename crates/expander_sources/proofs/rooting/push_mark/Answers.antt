use Rattle.expander_sources.proofs.AddingLemmas.{adds_mark}
use Rattle.expander_sources.proofs.rooting.push_mark.Goals as goal

pub returns-clause-ok : goal.returns-clause-ok
returns-clause-ok c =
    adds_mark c.close.result _ _ _ _ _ _ _ _ c.args.edition c.args.at c.punct_at.ensures c.in_ok-push.ensures.ok c.in_ok-open.ensures.ok
    c.edition_word.ensures c.in_ok-word_at.ensures.word c.in_ok-push-2.ensures.ok c.close.ensures.ok
