-- The bodies of strings and characters, character by character.
use Rattle.std.proofs.Common.{◌≡◌, ℕ, ◌+◌, Bool, true, false, not, ◌||◌, ◌&&◌, ◌==◌, List, [], ◌∷◌, refl, ◌∙◌, ap, arith, if◌then◌else◌}
use Rattle.rustc_lexer.specs.Character.{begins, is}
use Rattle.rustc_lexer.specs.Literals.{quoted_rest, string_body}
use Rattle.rustc_lexer.specs.Scanned.{Scanned, further}

-- the body of a string, where `escaped` tells that a `\` stands right before it
abbrev pub string_from : Bool → List ℕ → Scanned Bool
string_from escaped [] = record { value = false; size = 0 }
string_from true (c ∷ cs) = further 1 (string_from false cs)
string_from false (c ∷ cs) =
    if is "\"" c then record { value = true; size = 1 } else further 1 (string_from (is "\\" c) cs)

-- what is left of a character, where `escaped` tells the same
abbrev pub quoted_from : Bool → List ℕ → Scanned Bool
quoted_from escaped [] = record { value = false; size = 0 }
quoted_from true (c ∷ cs) = further 1 (quoted_from false cs)
quoted_from false (c ∷ cs) =
    if is "'" c then record { value = true; size = 1 }
    else if is "/" c || (c == 10 && not (begins "'" cs)) then record { value = false; size = 0 }
    else further 1 (quoted_from (is "\\" c) cs)

-- two characters, one after the other
one_by_one : (s : Scanned Bool) → further 2 s ≡ further 1 (further 1 s)
one_by_one s = (let two : 2 + s.size ≡ 1 + (1 + s.size) = omega arith in ap (λ n. record { value = s.value; size = n }) two)

pub string_same : (cs : List ℕ) → string_body cs ≡ string_from false cs
string_same [] = refl
string_same (c ∷ []) = by_test (is "\"" c)
  where
    by_test : (u : Bool) → ◌≡◌ {A = Scanned Bool} (record { value = u; size = 1 }) (if u then record { value = true; size = 1 } else record { value = false; size = 1 + 0 })
    by_test true = refl
    by_test false = refl
string_same (c ∷ d ∷ cs) = by_tests (is "\"" c) (is "\\" c) (string_same cs) (string_same (d ∷ cs))
  where
    by_tests : (u v : Bool) → string_body cs ≡ string_from false cs → string_body (d ∷ cs) ≡ string_from false (d ∷ cs) →
        (if u then record { value = true; size = 1 } else if v then further 2 (string_body cs) else further 1 (string_body (d ∷ cs)))
        ≡ (if u then record { value = true; size = 1 } else further 1 (string_from v (d ∷ cs)))
    by_tests true v two one = refl
    by_tests false true two one = one_by_one (string_body cs) ∙ ap (λ s. further 1 (further 1 s)) two
    by_tests false false two one = ap (further 1) one

pub quoted_same : (cs : List ℕ) → quoted_rest cs ≡ quoted_from false cs
quoted_same [] = refl
quoted_same (c ∷ []) = by_tests (is "'" c) (is "/" c) (c == 10)
  where
    by_tests : (u v w : Bool) → ◌≡◌ {A = Scanned Bool}
        (if u then record { value = true; size = 1 } else if v || w then record { value = false; size = 0 } else record { value = false; size = 1 })
        (if u then record { value = true; size = 1 } else if v || (w && true) then record { value = false; size = 0 } else record { value = false; size = 1 + 0 })
    by_tests true v w = refl
    by_tests false true w = refl
    by_tests false false true = refl
    by_tests false false false = refl
quoted_same (c ∷ d ∷ cs) = by_tests (is "'" c) (is "/" c || (c == 10 && not (is "'" d))) (is "\\" c) (quoted_same cs) (quoted_same (d ∷ cs))
  where
    by_tests : (u v w : Bool) → quoted_rest cs ≡ quoted_from false cs → quoted_rest (d ∷ cs) ≡ quoted_from false (d ∷ cs) →
        (if u then record { value = true; size = 1 } else if v then record { value = false; size = 0 }
        else if w then further 2 (quoted_rest cs) else further 1 (quoted_rest (d ∷ cs)))
        ≡ (if u then record { value = true; size = 1 } else if v then record { value = false; size = 0 } else further 1 (quoted_from w (d ∷ cs)))
    by_tests true v w two one = refl
    by_tests false true w two one = refl
    by_tests false false true two one = one_by_one (quoted_rest cs) ∙ ap (λ s. further 1 (further 1 s)) two
    by_tests false false false two one = ap (further 1) one
