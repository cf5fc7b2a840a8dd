-- The only entry has another binding.
use Rattle.std.proofs.Common.{◌∙◌, ◌≡◌, ap, arith, length, [], ◌∷◌, get_or, slice_set}
use Rattle.mbe_matcher.specs.Bound.{entries_of, standing_for}
use Rattle.mbe_matcher.proofs.BoundLemmas.{entry-alone}
use Rattle.mbe_matcher.proofs.bindings.Bindings.replace_alone.Goals as goal

pub index_mut-requires : goal.index_mut-requires
index_mut-requires c =
    let (n, b, e) = c.requires in
    let (x, one, _, _) = entry-alone n b c.args.self.now.bound.items e in
    let len : length c.args.self.now.bound.items ≡ 1 = ap length one in
    omega (arith, len, c.args.self.now.bound.ok.0)

pub returns-clause-new : goal.returns-clause-new
returns-clause-new c = λ n b e.
    let (x, one, name, _) = entry-alone n b c.args.self.now.bound.items e in
    let here = c.index_mut.ensures.value ∙ ap (λ l. get_or l 0 c.index_mut.result.now) one in
    ap (λ l. entries_of (slice_set l 0 (record { name = c.index_mut.result.now.name; binding = c.replace.new.dest }))) one
    ∙ ap (λ m. (m, standing_for c.replace.new.dest) ∷ []) (ap (λ y. y.name.now) here ∙ name)
    ∙ ap (λ y. (n, standing_for y) ∷ []) c.replace.ensures.after

pub returns-clause-old : goal.returns-clause-old
returns-clause-old c = λ n b e.
    let (x, one, _, same) = entry-alone n b c.args.self.now.bound.items e in
    let here = c.index_mut.ensures.value ∙ ap (λ l. get_or l 0 c.index_mut.result.now) one in
    ap standing_for (c.replace.ensures.value ∙ ap (λ y. y.binding) here) ∙ same
