-- Lists that are made one by one.
use Rattle.std.proofs.Common.{◌≡◌, ℕ, ◌+◌, ◌<◌, List, [], ◌∷◌, ◌++◌, drop, get_or, length, refl, sym, ap, ◌∙◌, append_assoc}
use Rattle.std.proofs.lemmas.List.{drop_more, map-append, length-map}
use Rattle.std.proofs.lemmas.Option.{get_or_from_slice_get, slice_get_within}
use Rattle.std.specs.Prelude.{map, slice_get, Some}
use Rattle.tt_data.specs.declared.span.TextRange.{TextRange}
use Rattle.expander_model.specs.declared.fault.Fault.{Fault}
use Rattle.expander_run.specs.Lines.{column_at, fault_words, line, line_at}
use Rattle.expansion_page.specs.Pages.{fault_line, shown_origin, shown_origins}
use Rattle.html_code.specs.declared.origin.Origin.{Origin}

-- one more of what is made of each, and what is to come, is all
pub one_more : {A B : Type 0} (F : A → B) (done new : List B) (xs : List A) (i : ℕ) (x : A) (y : B) → i < length xs
    → done ++ map F (drop i xs) ≡ map F xs → y ≡ F (get_or xs i x) → new ≡ done ++ y ∷ [] → new ++ map F (drop (i + 1) xs) ≡ map F xs
one_more {A} {B} F done new xs i x y inside so_far is added =
    let rest : List B = map F (drop (i + 1) xs) in
    ap (λ (ys : List B). ys ++ rest) (added ∙ ap (λ (z : B). done ++ z ∷ []) is)
    ∙ append_assoc done (F (get_or xs i x) ∷ []) rest
    ∙ sym (ap (λ (l : List A). done ++ map F l) (drop_more xs i x inside)) ∙ so_far

-- a list with one more, under a map
pub pushed : {A B : Type 0} (F : A → B) (xs new : List A) (x : A) → new ≡ xs ++ x ∷ [] → map F new ≡ map F xs ++ F x ∷ []
pushed {A} {B} F xs new x is = ap (map F) is ∙ map-append F xs (x ∷ [])

pub as_many : {A B C : Type 0} (F : A → C) (G : B → C) (xs : List A) (ys : List B) → map F xs ≡ map G ys → length xs ≡ length ys
as_many F G xs ys same = sym (length-map xs F) ∙ ap length same ∙ length-map ys G

-- a line that was empty is that of a fault
line_is : (text bytes what got old : List ℕ) (l c : ℕ) (f : Fault) → old ≡ [] → bytes ≡ text → l ≡ line_at bytes f.range.start
    → c ≡ column_at bytes f.range.start → what ≡ fault_words f.kind → got ≡ old ++ line l c what → got ≡ fault_line text f
line_is text bytes what got old l c f empty are of_line of_column of_what added =
    added ∙ ap (λ (xs : List ℕ). xs ++ line l c what) empty ∙ rw (of_line, of_column, of_what, are) refl

-- one line of all
pub lines_more : (text bytes what got old : List ℕ) (l c : ℕ) (done new : List (List ℕ)) (faults : List Fault) (i : ℕ) (d : Fault)
    → i < length faults → done ++ map (fault_line text) (drop i faults) ≡ map (fault_line text) faults → old ≡ [] → bytes ≡ text
    → l ≡ line_at bytes (get_or faults i d).range.start → c ≡ column_at bytes (get_or faults i d).range.start
    → what ≡ fault_words (get_or faults i d).kind → got ≡ old ++ line l c what → new ≡ done ++ got ∷ []
    → new ++ map (fault_line text) (drop (i + 1) faults) ≡ map (fault_line text) faults
lines_more text bytes what got old l c done new faults i d inside so_far empty are of_line of_column of_what told added =
    one_more (fault_line text) done new faults i d got inside so_far
    (line_is text bytes what got old l c (get_or faults i d) empty are of_line of_column of_what told) added

-- what is left of a list begins with the item of this index
begins_with : {A : Type 0} (xs : List A) (i : ℕ) (x : A) → slice_get xs i ≡ Some x → drop i xs ≡ x ∷ drop (i + 1) xs
begins_with {A} xs i x at =
    drop_more xs i x (slice_get_within xs i x at)
    ∙ ap (λ (y : A). y ∷ drop (i + 1) xs) (get_or_from_slice_get xs i x x at)

-- one origin of all
pub origins_more : (done new : List Origin) (ranges : List TextRange) (texts : List ℕ) (i : ℕ) (r : TextRange) (t : ℕ) (o : Origin)
    → slice_get ranges i ≡ Some r → slice_get texts i ≡ Some t
    → done ++ shown_origins (drop i ranges) (drop i texts) ≡ shown_origins ranges texts → o ≡ shown_origin t r → new ≡ done ++ o ∷ []
    → new ++ shown_origins (drop (i + 1) ranges) (drop (i + 1) texts) ≡ shown_origins ranges texts
origins_more done new ranges texts i r t o at text_at so_far is added =
    let rest : List Origin = shown_origins (drop (i + 1) ranges) (drop (i + 1) texts) in
    ap (λ (os : List Origin). os ++ rest) (added ∙ ap (λ (p : Origin). done ++ p ∷ []) is)
    ∙ append_assoc done (shown_origin t r ∷ []) rest
    ∙ sym (ap (λ (rs : List TextRange). done ++ shown_origins rs (drop i texts)) (begins_with ranges i r at)
    ∙ ap (λ (ts : List ℕ). done ++ shown_origins (r ∷ drop (i + 1) ranges) ts) (begins_with texts i t text_at))
    ∙ so_far
