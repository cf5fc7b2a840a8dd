-- The text goes from the end of the chain of its class.
use Rattle.std.proofs.Common.{refl, ◌≡◌, ◌∙◌, ◌%◌, ap, arith, length}
use Rattle.token_bytes.specs.Numbers.{class_of}
use Rattle.token_bytes.proofs.LinkLemmas.{linked_fewer}
use Rattle.token_bytes.proofs.text_chains.TextChains.pop.Goals as goal

pub returns-clause-linked : goal.returns-clause-linked
returns-clause-linked c =
    let old = c.args.self.now in
    let size : c.len.result ≡ length old.last.items = omega (arith, c.len.ensures, old.last.ok.0) in
    let class : c.class_of-class.result ≡ class_of (length old.last.items) c.args.text.now =
    c.class_of-class.ensures.class ∙ ap (λ n. c.mix_of.result % n) size ∙ ap (λ m. m % length old.last.items) c.mix_of.ensures in
    linked_fewer old _ c.args._texts.now c.args.text.now c.pop.new.self.items c.class_of-class.result c.in-Some.before c.requires.linked class
    (omega (arith, c.class_of-class.ensures.within, size)) c.in-Some.ensures.items refl refl
