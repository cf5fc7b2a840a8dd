-- One event more each time.
use Rattle.std.proofs.Common.{◌≡◌, ℕ, ◌+◌, List, [], ◌∷◌, ◌++◌, Option, take, sym, ap, ◌∙◌, subst, arith}
use Rattle.std.proofs.lemmas.List.{take_more}
use Rattle.std.proofs.lemmas.Slice.Zip.{all_zipped_more}
use Rattle.std.specs.List.{AllZip}
use Rattle.crate_walk.specs.declared.event.Event.{Event}
use Rattle.program_files.specs.ModuleEnds.{IsEndOf}
use Rattle.program_files.proofs.module_ends.file_text.Goals as goal

pub loop-event-preserved : goal.loop-event-preserved
loop-event-preserved c =
    let e = c.args.expansion.now in
    let events = c.args.events.now in
    let i = c.loop-event.event-index in
    let event : Event = c.event-item.result in
    let ends = c.loop-event.ends.items in
    let last : Option ℕ = c.end_of.result in
    let more =
    all_zipped_more (IsEndOf e) (take i events) ends event last c.loop-event.invariant (c.end_of.ensures e c.in_ok-found.ensures) in
    let taken : take (i + 1) events ≡ take i events ++ event ∷ [] =
    take_more events i event (omega arith) ∙ ap (λ (x : Event). take i events ++ x ∷ []) (sym c.event-item.is) in
    subst (λ (l : List (Option ℕ)). AllZip (IsEndOf e) (take (i + 1) events) l) (sym c.in_ok-push.ensures.items)
    (subst (λ (l : List Event). AllZip (IsEndOf e) l (ends ++ last ∷ [])) (sym taken) more)
