use Rattle.std.proofs.Common.{◌≤◌, ◌/◌, ◌^◌, sym, ap, ◌∙◌, subst, arith}
use Rattle.std.specs.Prelude.{bit_and}
use Rattle.std.proofs.lemmas.Bool.{leb-true}
use Rattle.rust_grammar.specs.Classes.{class_of}
use Rattle.rust_grammar.proofs.StartLemmas.{class-below, starts_miss}
use Rattle.rust_grammar.proofs.cursor.Cursor.misses.Goals as goal

pub overflow_shr-starts : goal.overflow_shr-starts
overflow_shr-starts c = (let same = c.self.invariant in let below = class-below c.self.inside.trees in omega (arith, same, below))

pub returns-then-starts-self-eq0 : goal.returns-then-starts-self-eq0
returns-then-starts-self-eq0 c deep ed =
    starts_miss ed c.args.self.now c.args.levels c.args.place c.self.inside.class c.requires
    (subst (λ s. s / 2 ^ 60 ≤ c.args.levels) c.starts_at-starts.ensures (leb-true _ _ deep))
    (c.self.invariant ∙ ap class_of c.self.view_is)
    (ap (λ s. bit_and (s / 2 ^ c.self.inside.class) 1) (sym c.starts_at-starts.ensures) ∙ c.if-starts-self-eq0.true)
