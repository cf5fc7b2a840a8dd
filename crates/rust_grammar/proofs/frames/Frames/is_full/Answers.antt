use Rattle.std.proofs.Common.{length, sym, ◌∙◌}
use Rattle.std.proofs.lemmas.Bool.{eqb-true}
use Rattle.rust_grammar.proofs.FrameLemmas.{is-full-open, is-full-by, below-full}
use Rattle.rust_grammar.proofs.frames.Frames.is_full.Goals as goal

pub returns-then-is_full : goal.returns-then-is_full
returns-then-is_full c =
    c.if-is_full.true ∙ is-full-open c.self.inside.open.items c.self.inside.kept.items c.args.self.now c.self.view_is c.self.invariant.0 (eqb-true _ _ (sym c.if-is_full.ensures.value))

pub returns-else-is_full : goal.returns-else-is_full
returns-else-is_full c =
    is-full-by c.self.inside.open.items c.self.inside.kept.items c.args.self.now c.self.view_is c.self.invariant.0
    (below-full (length c.self.inside.open.items) c.if-is_full.ensures.fits c.if-is_full.ensures.value) c.is_full-else-is_full.ensures.fits
    c.is_full-else-is_full.result c.is_full-else-is_full.ensures.value
