use Rattle.std.proofs.Common.{◌∷◌, reverse, subst}
use Rattle.rust_grammar.specs.Opened.{AreOpen}
use Rattle.rust_grammar.proofs.FrameLemmas.{not-off, not-on, last-first, closed-bare, closed-kept}
use Rattle.rust_grammar.proofs.frames.Frames.close.Goals as goal

pub invariant_of-self-then-not-last : goal.invariant_of-self-then-not-last
invariant_of-self-then-not-last c =
    closed-bare c.in_ok-last.last (reverse c.pop.new.self.items) (reverse c.self.inside.kept.items) (not-off c.in_ok-last.last.keeps c.if-not-last.true)
    (subst (λ os. AreOpen os (reverse c.self.inside.kept.items))
    (last-first c.self.inside.open.items c.pop.new.self.items c.in_ok-last.last c.in_ok-last.ensures.items) c.self.invariant)

pub invariant_of-self-2 : goal.invariant_of-self-2
invariant_of-self-2 c =
    let keeps = not-on c.in_ok-last.last.keeps c.if-not-last.false in
    let front = last-first c.self.inside.open.items c.pop.new.self.items c.in_ok-last.last c.in_ok-last.ensures.items in
    let kept = last-first c.self.inside.kept.items c.pop-2.new.self.items c.in-Some.kept c.in-Some.ensures.items in
    closed-kept c.in_ok-last.last (reverse c.pop.new.self.items) c.in-Some.kept (reverse c.pop-2.new.self.items) keeps
    (subst (AreOpen (c.in_ok-last.last ∷ reverse c.pop.new.self.items)) kept (subst (λ os. AreOpen os (reverse c.self.inside.kept.items)) front c.self.invariant))
