-- The two characters after an offset of a text.
use Rattle.std.proofs.Common.{◌≡◌, ℕ, List, [], ◌∷◌, ◌++◌, Option, None, Some, chars, encode_utf8, length, take, ap, sym, ◌∙◌, IsUtf8}
use Rattle.std.specs.Option.{MatchOption}
use Rattle.std.specs.Prelude.{slice_get}
use Rattle.std.proofs.lemmas.Str.{chars-nil, chars_past_char}
use Rattle.expander_reparse.specs.Segments.{one_ahead}

second : (c : ℕ) (xs : List ℕ) (b : Option ℕ) → b ≡ slice_get xs 0 → c ∷ one_ahead b [] ≡ take 2 (c ∷ xs)
second c [] b e = ap (λ (o : Option ℕ). c ∷ one_ahead o []) e
second c (d ∷ xs) b e = ap (λ (o : Option ℕ). c ∷ one_ahead o []) e

none : (s : List ℕ) → length s ≡ 0 → [] ≡ take 2 (chars s)
none [] e = ap (take 2) (sym chars-nil)
none (c ∷ s) e = absurd (cc e)

-- the first two characters of a text, one after the other
pub two_ahead : (P : Type 0) (s t : List ℕ) (a b : Option ℕ) → IsUtf8 s → MatchOption a ((length s ≡ 0) × P) (λ c. s ≡ encode_utf8 c ++ t)
    → b ≡ slice_get (chars t) 0 → one_ahead a (one_ahead b []) ≡ take 2 (chars s)
two_ahead P s t None b utf8 h e = none s h.0
two_ahead P s t (Some c) b utf8 h e = second c (chars t) b e ∙ ap (take 2) (sym (chars_past_char s t c utf8 h))
