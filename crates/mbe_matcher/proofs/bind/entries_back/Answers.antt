-- The entry's moves come between those before it and those after it.
use Rattle.std.proofs.Common.{◌∙◌, sym, ap, ◌++◌, reverse}
use Rattle.std.proofs.lemmas.List.{append_assoc}
use Rattle.std.specs.List.{flat_map}
use Rattle.mbe_matcher.specs.Threads.{moves_of, steps_of}
use Rattle.mbe_matcher.specs.declared.thread.Entry.TheViews.{out-Entry}
use Rattle.mbe_matcher.proofs.CollectingLemmas.{one-more, up-to}
use Rattle.mbe_matcher.proofs.bind.entries_back.Goals as goal

pub loop-next-preserved : goal.loop-next-preserved
loop-next-preserved c =
    let es = c.loop-next.entries.items in
    let e = c.in-Some.entry in
    let before = (out-Entry e.now).before in
    ap (λ l. moves_of before ++ flat_map steps_of (reverse l)) c.in_ok-push.ensures.items
    ∙ ap (λ l. moves_of before ++ l) (one-more es e)
    ∙ sym (append_assoc (moves_of before) (steps_of e) (flat_map steps_of (reverse es)))
    ∙ ap (λ l. l ++ flat_map steps_of (reverse es)) (up-to e.now)
    ∙ ap (λ o. moves_of o ++ flat_map steps_of (reverse es)) (sym c.in-Some.is)
    ∙ c.loop-next.invariant
