-- Each step writes its part, and all that they write is the whole text.
use Rattle.std.proofs.Common.{◌≡◌, ◌++◌, List, ℕ, sym, ap, ◌∙◌, append-nil, arith}
use Rattle.std.proofs.lemmas.List.{at_drop_all}
use Rattle.crate_walk.specs.Joining.{written}
use Rattle.crate_walk.proofs.JoinLemmas.{is_whole}
use Rattle.crate_walk.proofs.whole_text.joined.Goals as goal

pub returns : goal.returns
returns c =
    let texts = c.args.texts.now in
    let steps = c.args.steps.now in
    let parts = c.loop-step.parts.items in
    let out = c.loop-step.out.items in
    let e = at_drop_all (written texts parts) steps c.loop-step.step-index (omega arith) in
    is_whole texts steps out
    (sym (append-nil out) ∙ (ap (λ (l : List ℕ). out ++ l) (sym e) ∙ c.loop-step.invariant))
