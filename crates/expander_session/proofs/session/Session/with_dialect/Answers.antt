use Rattle.std.proofs.Common.{◌<◌, ◌^◌, List, arith, length, subst, sym, ℕ}
use Rattle.expander_model.specs.World.{world}
use Rattle.expander_session.proofs.session.Session.with_dialect.Goals as goal

pub invariant_of-result : goal.invariant_of-result
invariant_of-result g c = (
  subst (λ (text : List ℕ). length text < 2 ^ 32) (sym c.in_ok-text.ensures) c.requires,
  c.new-3.ensures.right (world (g.G.FragmentGrammar.answer c.args.grammar) c.args.edition c.args.dialect) c.args.edition c.args.depth,
  omega (arith, c.new-3.ensures.given),
)
