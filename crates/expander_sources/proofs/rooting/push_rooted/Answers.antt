use Rattle.std.proofs.Common.{◌∙◌, ap, length, subst}
use Rattle.std.specs.Prelude.{Option, Some, None}
use Rattle.bridge.specs.declared.printing.event.TokenEvent.{TokenEvent}
use Rattle.bridge.specs.declared.printing.event.TokenEvent.TheVariants as as_event
use Rattle.tt.specs.Building.{extended}
use Rattle.expander_model.specs.WalkSteps.{GoesOn}
use Rattle.expander_sources.specs.Rooting.{rooted}
use Rattle.expander_sources.proofs.RootingLemmas.{will_close, will_end, will_leaf, will_open}
use Rattle.expander_sources.proofs.rooting.push_rooted.Goals as goal

pub loop-walk-preserved-in-Continue-branch-3 : goal.loop-walk-preserved-in-Continue-branch-3
loop-walk-preserved-in-Continue-branch-3 c =
    let now : GoesOn c.loop-walk.walk (Some (as_event.Leaf c.in-Leaf.leaf)) c.next.new.self =
    subst (λ (o : Option TokenEvent). GoesOn c.loop-walk.walk o c.next.new.self) (c.in-Some.is ∙ ap Some c.in-Leaf.is) c.in_ok-event.ensures in
    will_leaf c.args.root.now (extended c.args.tree.now.tree (rooted c.args.root.now c.args.trees.now)) (length c.args.tree.now.tree.groups) _ _ _ _ _ _ _ _
    c.loop-walk.invariant now.0 now.1 c.in_ok-push_leaf-in-Leaf.ensures.puts

pub loop-walk-preserved-in-Continue-branch-4 : goal.loop-walk-preserved-in-Continue-branch-4
loop-walk-preserved-in-Continue-branch-4 c =
    let now : GoesOn c.loop-walk.walk (Some (as_event.Opens c.in-Opens.kind c.in-Opens.span)) c.next.new.self =
    subst (λ (o : Option TokenEvent). GoesOn c.loop-walk.walk o c.next.new.self) (c.in-Some.is ∙ ap Some c.in-Opens.is) c.in_ok-event.ensures in
    will_open c.args.root.now (extended c.args.tree.now.tree (rooted c.args.root.now c.args.trees.now)) (length c.args.tree.now.tree.groups) _ _ _ _ _ now.brackets _ _ _ _
    c.loop-walk.invariant now.first now.kind_is now.span_is now.groups c.in_ok-open-in-Opens.ensures.ok

pub loop-walk-preserved : goal.loop-walk-preserved
loop-walk-preserved c =
    let now : GoesOn c.loop-walk.walk (Some (as_event.Closes c.in-Closes.field-0 c.in-Closes.span)) c.next.new.self =
    subst (λ (o : Option TokenEvent). GoesOn c.loop-walk.walk o c.next.new.self) (c.in-Some.is ∙ ap Some c.in-Closes.is) c.in_ok-event.ensures in
    will_close c.args.root.now (extended c.args.tree.now.tree (rooted c.args.root.now c.args.trees.now)) (length c.args.tree.now.tree.groups) _ _ _ _ _ _ _ _
    c.loop-walk.invariant now.0 now.1 c.in_ok-close-in-Closes.ensures.ok

pub returns-clause-ok : goal.returns-clause-ok
returns-clause-ok c =
    let now : GoesOn c.loop-walk.walk None c.next.new.self =
    subst (λ (o : Option TokenEvent). GoesOn c.loop-walk.walk o c.next.new.self) c.in_default.is c.in_ok-event.ensures in
    will_end c.args.root.now (extended c.args.tree.now.tree (rooted c.args.root.now c.args.trees.now)) (length c.args.tree.now.tree.groups) _ _ _
    c.loop-walk.invariant now.0 now.1
