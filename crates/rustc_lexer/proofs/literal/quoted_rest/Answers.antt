use Rattle.rustc_lexer.proofs.BodyLemmas.{quoted_broken, quoted_escape}
use Rattle.rustc_lexer.proofs.ReadLemmas.{is_other, leads_on}
use Rattle.rustc_lexer.proofs.literal.quoted_rest.Goals as goal

pub returns-in-10 : goal.returns-in-10
returns-in-10 c =
    quoted_broken _ _ _ _ c.loop-c.invariant.1 c.in-Some.ensures.utf8.0 c.in-Some.ensures.chars c.in-10.is (is_other 39 _ _ c.first.ensures c.if-first-ne39.true)

pub loop-c-preserved-in-92-1 : goal.loop-c-preserved-in-92-1
loop-c-preserved-in-92-1 c =
    (c.behind-rest.utf8, leads_on c.loop-c.invariant.1 (quoted_escape _ _ _ _ c.in-Some.ensures.chars c.in-92.is c.behind-rest.ensures))
