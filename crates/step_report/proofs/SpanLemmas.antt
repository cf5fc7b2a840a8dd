-- Numbers that tell of spans one after another.
use Rattle.std.proofs.Common.{◌≡◌, ℕ, ◌+◌, ◌<◌, ◌∙◌, List, [], ◌∷◌, ◌++◌, length, drop, get_or, map, append_assoc, ap, sym}
use Rattle.std.proofs.lemmas.List.{drop_more}
use Rattle.tt_data.specs.declared.span.Span.{Span}
use Rattle.serde_json.specs.Data.{Data}
use Rattle.call_json.specs.Places.{count}
use Rattle.step_report.specs.Tokens.{numbers_of, span_numbers}

-- three values that are added one after another
pub three_more : (done first second third : List Data) (a b c : Data)
    → first ≡ done ++ a ∷ [] → second ≡ first ++ b ∷ [] → third ≡ second ++ c ∷ []
    → third ≡ done ++ a ∷ b ∷ c ∷ []
three_more done first second third a b c is_first is_second is_third =
    is_third ∙ ap (λ (ds : List Data). ds ++ c ∷ []) is_second
    ∙ append_assoc first (b ∷ []) (c ∷ [])
    ∙ ap (λ (ds : List Data). ds ++ b ∷ c ∷ []) is_first
    ∙ append_assoc done (a ∷ []) (b ∷ c ∷ [])

-- one more span, and those that are left
pub one_more_span : (spans : List Span) (i : ℕ) (d : Span) (done new total : List Data)
    → i < length spans → done ++ map count (span_numbers (drop i spans)) ≡ total
    → new ≡ done ++ map count (numbers_of (get_or spans i d))
    → new ++ map count (span_numbers (drop (i + 1) spans)) ≡ total
one_more_span spans i d done new total inside so_far is_new =
    let rest = map count (span_numbers (drop (i + 1) spans)) in
    ap (λ (ds : List Data). ds ++ rest) is_new
    ∙ append_assoc done (map count (numbers_of (get_or spans i d))) rest
    ∙ ap (λ (ss : List Span). done ++ map count (span_numbers ss))
    (sym (drop_more spans i d inside))
    ∙ so_far
