use Rattle.std.proofs.Common.{◌≡◌, rules}
use Rattle.expander_session.specs.Memos.{tree_of}
use Rattle.expander_session.proofs.evaluate.emit_output.Goals as goal

pub returns-in_ok-clone-in-Part-clause-steps : goal.returns-in_ok-clone-in-Part-clause-steps
returns-in_ok-clone-in-Part-clause-steps g c = λ holds.
    let same : c.emit_cached.new.steps ≡ c.args.steps.now = rw c.if-branch.false at c.in_ok-emit_cached-in-Part.ensures in
    let tree : c.in_ok-clone-in-Part.field-0.value ≡ tree_of c.args.plain.value = search rules in
    rw (same, tree) at c.emit_anew.ensures.steps

pub returns-in_ok-clone-in-Part-clause-holds : goal.returns-in_ok-clone-in-Part-clause-holds
returns-in_ok-clone-in-Part-clause-holds g c = λ holds.
    let tree : c.in_ok-clone-in-Part.field-0.value ≡ tree_of c.args.plain.value = search rules in
    rw tree at c.emit_anew.ensures.holds
