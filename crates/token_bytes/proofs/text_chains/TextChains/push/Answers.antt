-- The text goes to the end of the chain of its class.
use Rattle.std.proofs.Common.{refl, ◌≡◌, ◌∙◌, ◌%◌, suc, ap, arith, length, set}
use Rattle.std.proofs.lemmas.List.{length_push}
use Rattle.std.specs.Prelude.{Err, Ok, OnErr, Result}
use Rattle.token_bytes.specs.Numbers.{class_of}
use Rattle.token_bytes.proofs.LinkLemmas.{linked_more, linked_same}
use Rattle.token_bytes.proofs.text_chains.TextChains.push.Goals as goal

pub returns-in_err-push-clause-err : goal.returns-in_err-push-clause-err
returns-in_err-push-clause-err c = on_err c.from_residual.result (linked_same c.args.self.now _ c.args._texts.now refl c.in_err-push.ensures.items c.requires.linked) where
  on_err : {T E : Type 0} {P : Type 0} (r : Result T E) → P → OnErr r P
  on_err (Ok t) p = tt
  on_err (Err e) p = p

pub returns-clause-ok : goal.returns-clause-ok
returns-clause-ok c =
    let old = c.args.self.now in
    let size : c.len.result ≡ length old.last.items = omega (arith, c.len.ensures, old.last.ok.0) in
    let class : c.class_of-class.result ≡ class_of (length old.last.items) c.args.text.now =
    c.class_of-class.ensures.class ∙ ap (λ n. c.args.mix % n) size ∙ ap (λ m. m % length old.last.items) c.requires.mix in
    let counts : c.len-2.result ≡ suc (length c.args._texts.now) =
    omega (arith, c.len-2.ensures, c.push.new.self.ok.0, ap length c.in_ok-push.ensures.items, length_push old.before.items c.index.result.now, c.requires.linked.count) in
    linked_more old _ c.args._texts.now c.args.text.now c.class_of-class.result c.index.result.now c.requires.linked class
    (omega (arith, c.class_of-class.ensures.within, size)) c.index.ensures (ap (set old.last.items c.class_of-class.result) counts) c.in_ok-push.ensures.items
