-- Faults and their values, and no number in these is a float.
use Rattle.std.proofs.Common.{◌≡◌, ◌∙◌, ℕ, ◌+◌, ◌<◌, ◌≤◌, Bool, true, false, List, [], ◌∷◌, ◌++◌, length, drop, take, get_or, map, min, refl, sym, ap, subst, arith, inl, inr, ⊎_elim, Some, None, Ok, Err}
use Rattle.std.specs.List.{AllZip}
use Rattle.std.specs.Prelude.{◌||◌, ◌⊎◌, Option, Result}
use Rattle.std.proofs.lemmas.Bool.{cases_lt}
use Rattle.std.proofs.lemmas.List.{drop_all, map-append, take_all, take_more}
use Rattle.serde_json.specs.Data.{Data}
use Rattle.serde_json.specs.View.{items_of, view}
use Rattle.serde_json.specs.Written.{has_float, items_have_float}
use Rattle.serde_json.specs.declared.value.Value.{Value}
use Rattle.mbe.specs.Grammar.{Grammar}
use Rattle.mbe_explain.specs.declared.rules.RuleStop.{RuleStop}
use Rattle.mbe_explain.specs.declared.wanted.Wanted.{Wanted}
use Rattle.expander_model.specs.declared.call.Call.{Call}
use Rattle.expander_model.specs.declared.fault.Fault.{Fault}
use Rattle.tt_data.specs.declared.span.TextRange.{TextRange}
use Rattle.call_messages.specs.Places.{wanted_range}
use Rattle.call_messages.specs.declared.known.Known.{Known}
use Rattle.call_messages.specs.declared.unfit.Unfit.{Unfit}
use Rattle.call_messages.specs.declared.unfit.Unfit.TheVariants.{Unknown}
use Rattle.call_json.specs.Whys.{IsWhy}
use Rattle.call_json.specs.declared.why.Why.{Why}
use Rattle.call_json.specs.Rules.{all_rules, name, place_if, rule, want}
use Rattle.reply_json.specs.Explanations.{AreExplained, Explains, IsFound, explained, explanation, most}
use Rattle.reply_json.specs.Lines.{fault}
use Rattle.reply_json.proofs.FloatLemmas.{no_float_told}

-- ---- one value more

zip_push : {A B : Type 0} (R : A → B → Type 0) (xs : List A) (ys : List B) (x : A) (y : B)
    → AllZip R xs ys → R x y → AllZip R (xs ++ x ∷ []) (ys ++ y ∷ [])
zip_push R [] [] x y h r = (r, tt)
zip_push R [] (b ∷ ys) x y h r = absurd h
zip_push R (a ∷ xs) [] x y h r = absurd h
zip_push R (a ∷ xs) (b ∷ ys) x y h r = (h.0, zip_push R xs ys x y h.1 r)

pub one_more : (R : Fault → Data → Type 0) (fs : List Fault) (i : ℕ) (f : Fault) (old new : List Value)
    (v : Value) → i < length fs → f ≡ get_or fs i f → AllZip R (take i fs) (map view old)
    → R f (view v) → new ≡ old ++ v ∷ [] → AllZip R (take (i + 1) fs) (map view new)
one_more R fs i f old new v inside here so_far is added =
    subst (λ (ds : List Data). AllZip R (take (i + 1) fs) ds) (sym (ap (map view) added ∙ map-append view old (v ∷ [])))
    (subst (λ (xs : List Fault). AllZip R xs (map view old ++ view v ∷ []))
    (ap (λ (g : Fault). take i fs ++ g ∷ []) here ∙ sym (take_more fs i f inside))
    (zip_push R (take i fs) (map view old) f (view v) so_far is))

-- ---- the first of them

few_or_many : (m n : ℕ) → (m ≤ n) ⊎ (n ≤ m)
few_or_many m n = ⊎_elim (λ (e : m < n). inl (omega (arith, e))) (λ (e : n ≤ m). inr e) (cases_lt m n)

pub first_are : {X : Type 0} (xs : List X) (n : ℕ) → take (min (length xs) n) xs ≡ take n xs
first_are xs n = ⊎_elim
    (λ (few : length xs ≤ n). let same : min (length xs) n ≡ length xs = omega (arith, few) in
    ap (λ k. take k xs) same ∙ take_all (length xs) xs (omega arith) ∙ sym (take_all n xs few))
    (λ (many : n ≤ length xs). let same : min (length xs) n ≡ n = omega (arith, many) in ap (λ k. take k xs) same)
    (few_or_many (length xs) n)

pub rest_are : {X : Type 0} (xs : List X) (n : ℕ) → drop (min (length xs) n) xs ≡ drop n xs
rest_are xs n = ⊎_elim
    (λ (few : length xs ≤ n). let same : min (length xs) n ≡ length xs = omega (arith, few) in
    ap (λ k. drop k xs) same ∙ drop_all (length xs) xs (omega arith) ∙ sym (drop_all n xs few))
    (λ (many : n ≤ length xs). let same : min (length xs) n ≡ n = omega (arith, many) in ap (λ k. drop k xs) same)
    (few_or_many (length xs) n)

-- ---- no number is a float

no_float_in : {X : Type 0} (F : X → Data) → ((x : X) → has_float (F x) ≡ false) → (xs : List X)
    → items_have_float (items_of (map F xs)) ≡ false
no_float_in F none [] = refl
no_float_in F none (x ∷ xs) = rw (none x) (no_float_in F none xs)

no_float_place : (text : List ℕ) (o : Option TextRange) → has_float (place_if text o) ≡ false
no_float_place text None = refl
no_float_place text (Some range) = refl

no_float_want : (text : List ℕ) (w : Wanted) → has_float (want text w) ≡ false
no_float_want text w = rw (no_float_place text (wanted_range text w)) refl

no_float_rule : (text : List ℕ) (call : Call) (s : RuleStop) → has_float (rule text call s) ≡ false
no_float_rule text call s = rw (no_float_in (want text) (no_float_want text) s.stop.wanted.items) refl

no_float_rules : (text : List ℕ) (call : Call) (ss : List RuleStop) → has_float (all_rules text call ss) ≡ false
no_float_rules text call ss = no_float_in (rule text call) (no_float_rule text call) ss

none_of_two : (a b : Bool) → a ≡ false → b ≡ false → (a || (b || false)) ≡ false
none_of_two a b no_a no_b = rw (no_a, no_b) refl

no_float_found : (gr : Grammar) (text : List ℕ) (f : Fault) (found : Option (Result Why Unfit)) → IsFound gr text f found
    → has_float (explained text f found) ≡ false
no_float_found gr text f None h = refl
no_float_found gr text f (Some (Err unfit)) h = refl
no_float_found gr text f (Some (Ok why)) h = ⊎_elim
    (λ (e : Ok why ≡ Err Unknown). absurd (cc e))
    (λ (k : (known : Known) × IsWhy gr text known (Ok why)).
    none_of_two (has_float (view why.definition)) (has_float (view why.rules))
    (ap has_float k.1.2.definition)
    (ap has_float k.1.2.all ∙ no_float_rules text k.0.call k.1.0.rules.items))
    h.1

no_float_explained : (gr : Grammar) (text : List ℕ) (f : Fault) (d : Data) → Explains gr text f d → has_float d ≡ false
no_float_explained gr text f d h = ap has_float h.2 ∙ no_float_found gr text f h.0 h.1

no_float_all : (gr : Grammar) (text : List ℕ) (fs : List Fault) (ds : List Data) → AllZip (Explains gr text) fs ds
    → items_have_float (items_of ds) ≡ false
no_float_all gr text [] [] h = refl
no_float_all gr text [] (d ∷ ds) h = absurd h
no_float_all gr text (f ∷ fs) [] h = absurd h
no_float_all gr text (f ∷ fs) (d ∷ ds) h = rw (no_float_explained gr text f d h.0) (no_float_all gr text fs ds h.1)

left_none : (a b : Bool) → (a || b) ≡ false → a ≡ false
left_none true b e = absurd (cc e)
left_none false b e = refl

right_none : (a b : Bool) → (a || b) ≡ false → b ≡ false
right_none true b e = absurd (cc e)
right_none false b e = e

no_float_both : (front rest : List Data) → items_have_float (items_of front) ≡ false → items_have_float (items_of rest) ≡ false
    → items_have_float (items_of (front ++ rest)) ≡ false
no_float_both [] rest a b = b
no_float_both (d ∷ front) rest a b =
    rw (left_none (has_float d) (items_have_float (items_of front)) a)
    (no_float_both front rest (right_none (has_float d) (items_have_float (items_of front)) a) b)

pub explanation_has_no_float : (gr : Grammar) (text : List ℕ) (fs : List Fault) (ds : List Data) → AreExplained gr text fs ds
    → has_float (explanation ds) ≡ false
explanation_has_no_float gr text fs ds h =
    let all = ap (λ (xs : List Data). items_have_float (items_of xs)) h.2
    ∙ no_float_both h.0 (map (fault text) (drop most fs)) (no_float_all gr text (take most fs) h.0 h.1) (no_float_told text (drop most fs)) in
    rw all refl
