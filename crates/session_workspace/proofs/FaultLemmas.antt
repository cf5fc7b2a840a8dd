-- Lists of faults and of changes, one on. (For `fault_diagnostics` and `change`.)
use Rattle.std.proofs.Common.{◌≡◌, ◌∙◌, ℕ, ◌+◌, ◌<◌, List, [], ◌∷◌, ◌++◌, length, take, get_or, map, refl, sym, ap, true, false}
use Rattle.std.specs.Prelude.{filter}
use Rattle.std.proofs.lemmas.List.{map-append, take_more}
use Rattle.std.proofs.lemmas.List.Elements.{filter-append}
use Rattle.client_texts.specs.Params.{Change}
use Rattle.client_texts.specs.Texts.{after_changes, changed}
use Rattle.client_texts.specs.Views.{change_view}
use Rattle.client_texts.specs.declared.change.Change.{Change as ChangeValue}
use Rattle.expander_model.specs.declared.fault.Fault.{Fault}
use Rattle.serde_json.specs.Data.{Data}
use Rattle.session_workspace.specs.Diagnostics.{fault_diagnostic, faults_shown, is_shown}

-- one fault, if it is shown, and if not
pub shown_one : (text : List ℕ) (f : Fault) → is_shown f.kind ≡ true
    → faults_shown text (f ∷ []) ≡ fault_diagnostic text f ∷ []
shown_one text f is = rw is refl

pub hidden_one : (text : List ℕ) (f : Fault) → is_shown f.kind ≡ false
    → faults_shown text (f ∷ []) ≡ []
hidden_one text f is = rw is refl

shown-append : (text : List ℕ) (xs ys : List Fault) → faults_shown text (xs ++ ys)
    ≡ faults_shown text xs ++ faults_shown text ys
shown-append text xs ys =
    ap (λ (fs : List Fault). map (fault_diagnostic text) fs)
    (filter-append (λ (f : Fault). is_shown f.kind) xs ys)
    ∙ map-append (fault_diagnostic text) (filter (λ (f : Fault). is_shown f.kind) xs)
    (filter (λ (f : Fault). is_shown f.kind) ys)

-- one more fault
pub more_shown : (text : List ℕ) (faults : List Fault) (i : ℕ) (d : Fault)
    (before now : List Data) → i < length faults → before ≡ faults_shown text (take i faults)
    → now ≡ before ++ faults_shown text (get_or faults i d ∷ [])
    → now ≡ faults_shown text (take (i + 1) faults)
more_shown text faults i d before now within so_far is =
    is ∙ ap (λ (ds : List Data). ds ++ faults_shown text (get_or faults i d ∷ [])) so_far
    ∙ sym (ap (λ (fs : List Fault). faults_shown text fs) (take_more faults i d within)
    ∙ shown-append text (take i faults) (get_or faults i d ∷ []))

after-append : (cs : List Change) (c : Change) (text : List ℕ) → after_changes (cs ++ c ∷ []) text
    ≡ changed c (after_changes cs text)
after-append [] c text = refl
after-append (d ∷ ds) c text = after-append ds c (changed d text)

-- one more change
pub more_changed : (changes : List ChangeValue) (i : ℕ) (d : ChangeValue)
    (first before now : List ℕ) → i < length changes
    → before ≡ after_changes (map change_view (take i changes)) first
    → now ≡ changed (change_view (get_or changes i d)) before
    → now ≡ after_changes (map change_view (take (i + 1) changes)) first
more_changed changes i d first before now within so_far is =
    is ∙ ap (λ (t : List ℕ). changed (change_view (get_or changes i d)) t) so_far
    ∙ sym (ap (λ (cs : List ChangeValue). after_changes (map change_view cs) first)
    (take_more changes i d within)
    ∙ ap (λ (cs : List Change). after_changes cs first)
    (map-append change_view (take i changes) (get_or changes i d ∷ []))
    ∙ after-append (map change_view (take i changes)) (change_view (get_or changes i d)) first)
