-- The list of the name is taken out, goes on, and is bound again.
use Rattle.std.proofs.Common.{◌∙◌, sym, ap, [], ◌∷◌}
use Rattle.mbe_matcher.specs.Bindings.{bind, rounds}
use Rattle.mbe_matcher.specs.Bound.{map_of, standing_for, values_of}
use Rattle.mbe_matcher.specs.Collecting.{Running, after_all, run_through}
use Rattle.mbe_matcher.specs.Threads.{rounds_of}
use Rattle.mbe_matcher.proofs.BoundLemmas.{standing-Rounds}
use Rattle.mbe_matcher.proofs.RunLemmas.{bound-same, run-rounds}
use Rattle.mbe_matcher.proofs.bind.Open.begin_more.Goals as goal

pub returns : goal.returns
returns c = λ os.
    let n = c.args.name.now in
    let k = c.args.kind in
    let f = c.args.trees.now in
    let (b, e) = c.requires.alone in
    let start = c.args.self.now.rounds in
    let vs = values_of c.take_values.result.items in
    let around = map_of c.args.self.now.around in
    let m = map_of c.take_values.new.self in
    let end = c.pass.new.self in
    let ran =
    c.in_ok-pass.ensures ∙ ap (λ x. run_through k f (vs, x, c.replace.result)) (c.replace_alone.ensures.old n b e)
    ∙ ap (λ m. run_through k f (vs, b, m)) c.replace.ensures.value in
    let last = c.replace_alone-2.ensures.new n _ (c.replace_alone.ensures.new n b e) in
    let bound = c.in_ok-bind.ensures ∙ ap (λ x. bind n x m) (standing-Rounds end.values) in
    let same = c.take_values.ensures.others (rounds vs) ∙ bound-same n (rounds vs) around c.take_values.ensures.values in
    ap (λ h. (h, (map_of c.bind.new.self, end.number) ∷ os)) last
    ∙ ap (λ a. ((n, standing_for end.last) ∷ [], (a, end.number) ∷ os)) bound
    ∙ ap (λ (x : Running). ((n, x.1) ∷ [], (bind n (rounds x.0) m, x.2) ∷ os)) ran
    ∙ run-rounds n k f m vs b start os
    ∙ ap (λ a. after_all (rounds_of n k f) ((n, b) ∷ [], (a, start) ∷ os)) same
    ∙ ap (λ h. after_all (rounds_of n k f) (h, (around, start) ∷ os)) (sym e)
