-- The one name that is bound is this one.
use Rattle.std.proofs.Common.{◌∙◌, sym, arith}
use Rattle.mbe_matcher.proofs.BoundLemmas.{bound-alone}
use Rattle.mbe_matcher.proofs.bindings.Bindings.is_alone.Goals as goal

pub returns-then-len-eq1 : goal.returns-then-len-eq1
returns-then-len-eq1 c = λ e.
    bound-alone c.args.name.now c.args.self.now.bound.items c.index.result.now (omega (arith, c.args.self.now.bound.ok.0, c.len.ensures, c.if-len-eq1.true)) c.index.ensures (sym c.is_same.ensures ∙ e)
