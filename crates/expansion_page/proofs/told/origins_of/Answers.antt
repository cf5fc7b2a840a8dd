use Rattle.std.proofs.Common.{sym}
use Rattle.expansion_page.proofs.ToldLemmas.{origins_more}
use Rattle.expansion_page.proofs.told.origins_of.Goals as goal

pub loop-i-preserved : goal.loop-i-preserved
loop-i-preserved c =
    origins_more c.loop-i.origins.items c.push.new.self.items c.args.expansion.now.origins c.args.expansion.now.texts c.loop-i.i
    c.in-Some.origin.range c.in-Some.origin.text c.shown_origin.result (sym c.in-Some.ensures.range) (sym c.in-Some.ensures.text)
    c.loop-i.invariant c.shown_origin.ensures c.in_ok-push.ensures.items
