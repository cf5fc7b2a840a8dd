-- Rules that are told one after another.
use Rattle.std.proofs.Common.{◌≡◌, ◌∙◌, ℕ, ◌+◌, ◌<◌, ◌≤◌, List, [], ◌∷◌, ◌++◌, length, drop, get_or, map, append_assoc, append-nil, ap, sym}
use Rattle.std.proofs.lemmas.List.{drop_all, drop_more, map-append}
use Rattle.serde_json.specs.Data.{Data}
use Rattle.serde_json.specs.View.{view}
use Rattle.serde_json.specs.declared.value.Value.{Value}
use Rattle.mbe_explain.specs.declared.rules.RuleStop.{RuleStop}

-- one more, and those that are left
pub one_more : (F : RuleStop → Data) (done new : List Value) (stops : List RuleStop) (i : ℕ)
    (s : RuleStop) (v : Value) → i < length stops → s ≡ get_or stops i s
    → map view done ++ map F (drop i stops) ≡ map F stops → view v ≡ F s
    → new ≡ done ++ v ∷ [] → map view new ++ map F (drop (i + 1) stops) ≡ map F stops
one_more F done new stops i s v inside here so_far is added =
    let rest : List Data = map F (drop (i + 1) stops) in
    ap (λ (vs : List Value). map view vs ++ rest) added
    ∙ ap (λ (ds : List Data). ds ++ rest) (map-append view done (v ∷ []))
    ∙ append_assoc (map view done) (view v ∷ []) rest
    ∙ ap (λ (x : Data). map view done ++ x ∷ rest) is
    ∙ ap (λ (ss : List RuleStop). map view done ++ map F ss) (sym (drop_more stops i s inside ∙ ap (λ (r : RuleStop). r ∷ drop (i + 1) stops) (sym here)))
    ∙ so_far

-- none is left
pub all_told : (F : RuleStop → Data) (done : List Value) (stops : List RuleStop) (i : ℕ)
    → length stops ≤ i → map view done ++ map F (drop i stops) ≡ map F stops
    → map view done ≡ map F stops
all_told F done stops i past so_far =
    sym (append-nil (map view done))
    ∙ ap (λ (ss : List RuleStop). map view done ++ map F ss) (sym (drop_all i stops past))
    ∙ so_far
