use Rattle.std.proofs.Common.{arith, ◌≡◌, ◌∙◌, ◌++◌, ◌∷◌, [], sym, None, Some, map}
use Rattle.std.proofs.lemmas.Grind.{common_steps}
use Rattle.serde_json.specs.View.{view}
use Rattle.client_texts.specs.Params.{change_of}
use Rattle.client_texts.specs.Views.{change_view}
use Rattle.client_texts.proofs.ChangeLemmas.{all_read, none_read, one_more}
use Rattle.client_texts.proofs.change.changes_of.Goals as goal

pub returns-in_default : goal.returns-in_default
returns-in_default c =
    let none : change_of (view c.value-item.result) ≡ None = sym c.in_default.ensures in
    sym (none_read (map change_view c.loop-value.changes.items) c.args.values.now
    c.loop-value.value-index c.value-item.result (omega (arith, c.loop-value-test.true))
    c.value-item.is none)
    ∙ c.loop-value.invariant

pub loop-value-init : goal.loop-value-init
loop-value-init c = grind (arith, common_steps)

pub loop-value-preserved : goal.loop-value-preserved
loop-value-preserved c =
    let one : change_of (view c.value-item.result) ≡ Some (change_view c.in-Some.change) =
    sym c.in-Some.ensures in
    let all : map change_view c.push.new.self.items
    ≡ map change_view c.loop-value.changes.items ++ change_view c.in-Some.change ∷ [] =
    grind (arith, common_steps) in
    rw all (sym (one_more (map change_view c.loop-value.changes.items) c.args.values.now
    c.loop-value.value-index c.value-item.result (change_view c.in-Some.change)
    (omega (arith, c.loop-value-test.true)) c.value-item.is one)
    ∙ c.loop-value.invariant)

pub returns : goal.returns
returns c =
    sym (all_read (map change_view c.loop-value.changes.items) c.args.values.now
    c.loop-value.value-index (omega (arith, c.loop-value-test.false)))
    ∙ c.loop-value.invariant
