-- The moves of the entries are made one after another.
use Rattle.std.proofs.Common.{◌≡◌, ◌∙◌, sym, ap, [], reverse, arith}
use Rattle.std.proofs.lemmas.List.{nil_from_length}
use Rattle.std.specs.List.{flat_map}
use Rattle.mbe_matcher.specs.Collecting.{after_all, collected_of}
use Rattle.mbe_matcher.specs.Threads.{moves_of, steps_of}
use Rattle.mbe_matcher.proofs.CollectingLemmas.{popped, all-made}
use Rattle.mbe_matcher.proofs.bind.bindings_of.Goals as goal

pub loop-entry-preserved : goal.loop-entry-preserved
loop-entry-preserved c =
    ap (after_all (flat_map steps_of (reverse c.pop.new.self.items))) c.in_ok-add_entry.ensures
    ∙ popped c.loop-entry.entries.items c.pop.new.self.items c.in-Some.entry (collected_of c.loop-entry.collected) c.in-Some.ensures.items
    ∙ c.loop-entry.invariant

pub returns : goal.returns
returns c =
    let none : c.loop-entry.entries.items ≡ [] =
    nil_from_length c.loop-entry.entries.items (omega (arith, c.in_default.ensures.cases.0, c.loop-entry.entries.ok.0)) in
    all-made c.in_ok-entries.entries.items (moves_of c.args.last) (collected_of c.new-collected.result) (collected_of c.loop-entry.collected)
    c.in_ok-entries.ensures c.new-collected.ensures
    (sym (ap (λ l. after_all (flat_map steps_of (reverse l)) (collected_of c.loop-entry.collected)) none) ∙ c.loop-entry.invariant)
