use Rattle.std.proofs.Common.{◌∙◌, ◌++◌, ◌∷◌, [], List, map, ap, sym, subst}
use Rattle.std.proofs.lemmas.List.{map-append}
use Rattle.mbe_matcher.specs.SeenStates.{IsIndex, number_of_state}
use Rattle.mbe_matcher.specs.declared.same_state.Seen.{Seen}
use Rattle.mbe_matcher.proofs.seen_states.SeenStates.push.Goals as goal

pub invariant_of-self-2 : goal.invariant_of-self-2
invariant_of-self-2 c =
    let number = λ (x : Seen). number_of_state x.thread in
    let old = c.self.inside.all.items in
    subst (IsIndex c.push-2.new.self)
    (ap (λ n. map number old ++ (n ∷ [])) c.number_of_state.ensures ∙ sym (map-append number old (c.args.seen ∷ [])) ∙ ap (map number) (sym c.in_ok-push-3.ensures.items))
    (c.in_ok-push-2.ensures (map number old) (subst (λ (xs : List Seen). IsIndex c.in_ok-index.index (map number xs)) c.deref.ensures.value c.in_ok-index.ensures))
