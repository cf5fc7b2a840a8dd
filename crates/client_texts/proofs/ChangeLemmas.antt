-- Lists of changes, one value on. (For `changes_of`.)
use Rattle.std.proofs.Common.{◌≡◌, ℕ, ◌+◌, ◌<◌, List, [], ◌∷◌, ◌++◌, length, drop, get_or, refl, sym, ap, ◌∙◌, ◌≤◌, append_assoc, append-nil, Option, Some, None}
use Rattle.std.specs.Prelude.{option_map}
use Rattle.std.proofs.lemmas.List.{drop_all, drop_more}
use Rattle.serde_json.specs.View.{items_view, view}
use Rattle.serde_json.specs.declared.value.Value.{Value}
use Rattle.client_texts.specs.Params.{Change, change_of, changes_of}

-- what is read so far, before what is read of the rest
abbrev pub with_front : List Change → Option (List Change) → Option (List Change)
with_front front rest = option_map (λ changes. front ++ changes) rest

-- one more is read
more_by : (front : List Change) (c : Change) (rest : Option (List Change))
    → with_front front (option_map (λ changes. c ∷ changes) rest)
    ≡ with_front (front ++ c ∷ []) rest
more_by front c None = refl
more_by front c (Some changes) =
    ap (λ (all : List Change). Some all) (sym (append_assoc front (c ∷ []) changes))

-- what is read of a rest is its first change and what is read behind it
pub one_more : (front : List Change) (values : List Value) (i : ℕ) (value : Value) (c : Change)
    → i < length values → value ≡ get_or values i value → change_of (view value) ≡ Some c
    → with_front front (changes_of (items_view (drop i values)))
    ≡ with_front (front ++ c ∷ []) (changes_of (items_view (drop (i + 1) values)))
one_more front values i value c within is read =
    let first : drop i values ≡ value ∷ drop (i + 1) values =
    drop_more values i value within
    ∙ ap (λ (v : Value). v ∷ drop (i + 1) values) (sym is) in
    rw (first, read) (more_by front c (changes_of (items_view (drop (i + 1) values))))

-- nothing is read of a rest that begins with no change
pub none_read : (front : List Change) (values : List Value) (i : ℕ) (value : Value)
    → i < length values → value ≡ get_or values i value → change_of (view value) ≡ None
    → with_front front (changes_of (items_view (drop i values))) ≡ None
none_read front values i value within is read =
    let first : drop i values ≡ value ∷ drop (i + 1) values =
    drop_more values i value within
    ∙ ap (λ (v : Value). v ∷ drop (i + 1) values) (sym is) in
    rw (first, read) refl

-- nothing is left to read
pub all_read : (front : List Change) (values : List Value) (i : ℕ) → length values ≤ i
    → with_front front (changes_of (items_view (drop i values))) ≡ Some front
all_read front values i past =
    rw (drop_all i values past) (ap (λ (all : List Change). Some all) (append-nil front))
