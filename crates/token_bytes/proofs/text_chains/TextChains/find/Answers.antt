-- The search goes along the chain of the text's class.
use Rattle.std.proofs.Common.{◌≡◌, ◌∙◌, ◌-◌, ◌%◌, ℕ, [], suc, ap, sym, subst, arith, length, get_or}
use Rattle.std.proofs.lemmas.Bool.{false≢true}
use Rattle.std.proofs.lemmas.List.{get_or_read}
use Rattle.std.specs.Cmp.Lexicographic.{bytes_decides}
use Rattle.token_bytes.specs.Numbers.{class_of}
use Rattle.token_bytes.proofs.LinkLemmas.{Reached, find_back, find_first, find_next}
use Rattle.token_bytes.proofs.TableLemmas.{number_absent, number_there}
use Rattle.token_bytes.proofs.text_chains.TextChains.find.Goals as goal

pub loop-count-init : goal.loop-count-init
loop-count-init c =
    let last = c.args.self.now.last in
    let size : c.len.result ≡ length last.items = omega (arith, c.len.ensures, last.ok.0) in
    let class : c.class_of.result ≡ class_of (length last.items) c.args.text.now =
    c.class_of.ensures.class ∙ ap (λ n. c.args.mix % n) size ∙ ap (λ m. m % length last.items) c.requires.mix in
    find_first c.args.self.now c.args.texts.now c.requires.linked c.args.text.now c.class_of.result c.index-count.result.now class
    (omega (arith, c.class_of.ensures.within, size)) c.index-count.ensures

pub offset_bounds-texts-at : goal.offset_bounds-texts-at
offset_bounds-texts-at c =
    let e : c.loop-count.count ≡ suc (c.loop-count.count - 1) = omega (arith, c.loop-count-test.true) in
    let below = (c.loop-count.invariant.here (c.loop-count.count - 1) e).0 in
    omega (arith, below)

pub bounds-texts-at : goal.bounds-texts-at
bounds-texts-at c =
    let e : c.loop-count.count ≡ suc (c.loop-count.count - 1) = omega (arith, c.loop-count-test.true) in
    (c.loop-count.invariant.here (c.loop-count.count - 1) e).0

pub returns-then-eq : goal.returns-then-eq
returns-then-eq c =
    let at : ℕ = c.loop-count.count - 1 in
    let e : c.loop-count.count ≡ suc at = omega (arith, c.loop-count-test.true) in
    let below = (c.loop-count.invariant.here at e).0 in
    let found : c.args.text.now ≡ c.index-texts-at.result = (bytes_decides c.args.text.now c.index-texts-at.result).0 (sym c.eq.ensures ∙ c.if-eq.true) in
    sym (number_there c.args.text.now c.args.texts.now at c.requires.distinct below
    (sym (get_or_read c.args.texts.now at c.index-texts-at.result below c.index-texts-at.is []) ∙ sym found))

pub loop-count-smaller : goal.loop-count-smaller
loop-count-smaller c =
    let at : ℕ = c.loop-count.count - 1 in
    let e : c.loop-count.count ≡ suc at = omega (arith, c.loop-count-test.true) in
    let h = find_back c.args.self.now c.args.texts.now c.requires.linked c.args.text.now at c.index-count-in-loop-count.result.now
    (subst (Reached c.args.self.now c.args.texts.now c.requires.linked c.args.text.now) e c.loop-count.invariant) c.index-count-in-loop-count.ensures in
    omega (arith, h, e)

pub loop-count-preserved : goal.loop-count-preserved
loop-count-preserved c =
    let at : ℕ = c.loop-count.count - 1 in
    let text = c.args.text.now in
    let table = c.args.texts.now in
    let e : c.loop-count.count ≡ suc at = omega (arith, c.loop-count-test.true) in
    let below = (c.loop-count.invariant.here at e).0 in
    let read = get_or_read table at c.index-texts-at.result below c.index-texts-at.is [] in
    let other : get_or table at [] ≡ text → ⊥ =
    λ is. false≢true (sym c.if-eq.false ∙ c.eq.ensures ∙ (bytes_decides text c.index-texts-at.result).1 (sym (read ∙ is))) in
    find_next c.args.self.now table c.requires.linked text at c.index-count-in-loop-count.result.now
    (subst (Reached c.args.self.now table c.requires.linked text) e c.loop-count.invariant) c.index-count-in-loop-count.ensures other

pub returns : goal.returns
returns c =
    sym (number_absent c.args.text.now c.args.texts.now
    (λ i below is. omega (arith, c.loop-count.invariant.within i below is, c.loop-count-test.false)))
