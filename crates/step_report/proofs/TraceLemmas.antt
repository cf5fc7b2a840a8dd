-- Traces that are told of one after another.
use Rattle.std.proofs.Common.{◌≡◌, ℕ, ◌+◌, ◌<◌, ◌≤◌, ◌∙◌, Bool, true, false, List, ◌∷◌, ◌++◌, length, drop, get_or, map, flat_map, append_assoc, ap, sym}
use Rattle.std.proofs.lemmas.List.{drop_all, drop_more}
use Rattle.std.specs.List.{list_any}
use Rattle.std.specs.Prelude.{◌||◌, Option, is_some}
use Rattle.tt_data.specs.Forest.{Forest}
use Rattle.tt_data.specs.declared.span.TextRange.{TextRange}
use Rattle.expander_trace.specs.Parts.{Part}
use Rattle.step_report.specs.Json.{end_of, index_after, line, lines_behind, trace_lines}
use Rattle.step_report.specs.Bound.{Context}

module _ {S : Type 0} (told : S → Part Forest) (xs : List S) (i : ℕ) where
  -- what is left begins with this trace
  left_are : (x : S) → i < length xs → x ≡ get_or xs i x → drop i xs ≡ x ∷ drop (i + 1) xs
  left_are x inside here =
      drop_more xs i x inside ∙ ap (λ (y : S). y ∷ drop (i + 1) xs) (sym here)

  -- one more trace is told of as text
  pub one_more_text : (F : Part Forest → List ℕ) (x : S) (out new total : List ℕ)
      → i < length xs → x ≡ get_or xs i x
      → out ++ flat_map F (map told (drop i xs)) ≡ total → new ≡ out ++ F (told x)
      → new ++ flat_map F (map told (drop (i + 1) xs)) ≡ total
  one_more_text F x out new total inside here so_far added =
      let rest = map told (drop (i + 1) xs) in
      ap (λ (o : List ℕ). o ++ flat_map F rest) added
      ∙ append_assoc out (F (told x)) (flat_map F rest)
      ∙ ap (λ (ys : List S). out ++ flat_map F (map told ys)) (sym (left_are x inside here))
      ∙ so_far

  module _ (t : Context) (asked : Option TextRange) (next : ℕ) (cut : Bool) where
    -- one more trace is told of as JSON
    pub one_more_json : (x : S) (after : ℕ) (is_cut : Bool) (out new total : List ℕ)
        → i < length xs → x ≡ get_or xs i x
        → out ++ lines_behind t asked next cut (map told (drop i xs)) ≡ total
        → new ≡ out ++ trace_lines t asked next (told x)
        → after ≡ index_after asked next (told x)
        → is_cut ≡ (cut || is_some (told x).room.cut)
        → new ++ lines_behind t asked after is_cut (map told (drop (i + 1) xs)) ≡ total
    one_more_json x after is_cut out new total inside here so_far added counted also =
        let rest = map told (drop (i + 1) xs) in
        let lines = trace_lines t asked next (told x) in
        ap (λ (o : List ℕ). o ++ lines_behind t asked after is_cut rest) added
        ∙ append_assoc out lines (lines_behind t asked after is_cut rest)
        ∙ ap (λ (n : ℕ). out ++ (lines ++ lines_behind t asked n is_cut rest)) counted
        ∙ ap (λ (b : Bool). out ++ (lines ++ lines_behind t asked
        (index_after asked next (told x)) b rest)) also
        ∙ ap (λ (ys : List S). out ++ lines_behind t asked next cut (map told ys))
        (sym (left_are x inside here))
        ∙ so_far

    -- all are, and their end follows
    pub all_json : (out total : List ℕ) → length xs ≤ i
        → out ++ lines_behind t asked next cut (map told (drop i xs)) ≡ total
        → out ++ line (end_of next cut) ≡ total
    all_json out total past so_far =
        ap (λ (ys : List S). out ++ lines_behind t asked next cut (map told ys))
        (sym (drop_all i xs past)) ∙ so_far

  -- this trace has one, so all have
  pub any_here : (h : Part Forest → Bool) (x : S) (total : Bool) → i < length xs
      → x ≡ get_or xs i x → h (told x) ≡ true → list_any h (map told (drop i xs)) ≡ total
      → true ≡ total
  any_here h x total inside here has so_far =
      ap (λ (b : Bool). b || list_any h (map told (drop (i + 1) xs))) (sym has)
      ∙ ap (λ (ys : List S). list_any h (map told ys)) (sym (left_are x inside here))
      ∙ so_far

  -- this trace has none
  pub any_later : (h : Part Forest → Bool) (x : S) (total : Bool) → i < length xs
      → x ≡ get_or xs i x → h (told x) ≡ false → list_any h (map told (drop i xs)) ≡ total
      → list_any h (map told (drop (i + 1) xs)) ≡ total
  any_later h x total inside here has so_far =
      ap (λ (b : Bool). b || list_any h (map told (drop (i + 1) xs))) (sym has)
      ∙ ap (λ (ys : List S). list_any h (map told ys)) (sym (left_are x inside here))
      ∙ so_far

  -- none has one
  pub any_none : (h : Part Forest → Bool) (total : Bool) → length xs ≤ i
      → list_any h (map told (drop i xs)) ≡ total → false ≡ total
  any_none h total past so_far =
      ap (λ (ys : List S). list_any h (map told ys)) (sym (drop_all i xs past)) ∙ so_far
