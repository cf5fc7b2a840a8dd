use Rattle.std.proofs.Common.{◌≡◌, ◌∙◌, ap, arith, sym}
use Rattle.std.specs.Prelude.{None, Some}
use Rattle.tt_data.specs.Forest.{size}
use Rattle.expander_model.specs.Splitting.{end_alone}
use Rattle.expander_model.proofs.ApartLemmas.{apart_at_first, apart_leaf, apart_group, apart_end, apart_done, fits_tail}
use Rattle.expander_model.proofs.split.ends_alone.Goals as goal

pub loop-element-init : goal.loop-element-init
loop-element-init c = rw (c.new-puts.ensures.items, c.iter-rest.ensures ∙ c.token_trees.ensures) (apart_at_first c.args.tree.now.inner)

pub overflow_sub-at : goal.overflow_sub-at
overflow_sub-at c =
    let most : c.len-most.result ≡ size c.args.tree.now.inner = c.len-most.ensures.len ∙ ap size (c.remaining.ensures ∙ c.iter-rest.ensures ∙ c.token_trees.ensures) in
    let left : c.len.result ≡ size c.next.new.self = c.len.ensures.len ∙ ap size c.remaining-in-Some-end_alone.ensures in
    let fits = fits_tail c.args.tree.now.inner c.loop-element.rest c.next.new.self c.in-Leaf.leaf c.loop-element.puts.items (rw c.in-Leaf.is at c.in-Some.ensures.steps) c.loop-element.invariant in
    omega arith

pub loop-element-preserved-in-Continue-1 : goal.loop-element-preserved-in-Continue-1
loop-element-preserved-in-Continue-1 c =
    let most : c.len-most.result ≡ size c.args.tree.now.inner = c.len-most.ensures.len ∙ ap size (c.remaining.ensures ∙ c.iter-rest.ensures ∙ c.token_trees.ensures) in
    let left : c.len.result ≡ size c.next.new.self = c.len.ensures.len ∙ ap size c.remaining-in-Some-end_alone.ensures in
    let next = rw c.in-Leaf.is at c.in-Some.ensures.steps in
    let fits = fits_tail c.args.tree.now.inner c.loop-element.rest c.next.new.self c.in-Leaf.leaf c.loop-element.puts.items next c.loop-element.invariant in
    let ends : end_alone c.in-Leaf.leaf ≡ Some c.in-Some-end_alone.leaf = sym c.end_alone.ensures ∙ c.in-Some-end_alone.is in
    apart_end c.args.tree.now.inner c.loop-element.rest c.next.new.self c.in-Leaf.leaf c.loop-element.puts.items c.push.new.self.items _ next ends
    c.in_ok-push.ensures.items (omega arith) c.loop-element.invariant

pub loop-element-preserved-in_default-end_alone : goal.loop-element-preserved-in_default-end_alone
loop-element-preserved-in_default-end_alone c =
    let none : end_alone c.in-Leaf.leaf ≡ None = sym c.end_alone.ensures ∙ c.in_default-end_alone.is in
    apart_leaf c.args.tree.now.inner c.loop-element.rest c.next.new.self c.in-Leaf.leaf c.loop-element.puts.items (rw c.in-Leaf.is at c.in-Some.ensures.steps) none c.loop-element.invariant

pub loop-element-preserved : goal.loop-element-preserved
loop-element-preserved c =
    let next = rw c.in_default-element.is at c.in-Some.ensures.steps in
    apart_group c.args.tree.now.inner c.loop-element.rest c.next.new.self _ c.loop-element.puts.items next.0 c.loop-element.invariant

pub returns : goal.returns
returns c = apart_done c.args.tree.now c.loop-element.puts.items c.loop-element.rest c.in_default.ensures.steps.0 c.loop-element.invariant
