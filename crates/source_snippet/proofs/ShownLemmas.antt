-- Characters are shown one after another.
use Rattle.std.proofs.Common.{◌≡◌, ℕ, ◌+◌, List, [], ◌∷◌, ◌++◌, sym, ap, ◌∙◌, append_assoc, length, length-append, replicate}
use Rattle.std.proofs.lemmas.List.{append-nil, replicate-append-replicate}
use Rattle.std.proofs.lemmas.List.Concat.{flat_map-append}
use Rattle.std.proofs.lemmas.Str.{encodes-append}
use Rattle.std.specs.List.{flat_map}
use Rattle.std.specs.Prelude.{encode_utf8_all}
use Rattle.source_snippet.specs.Characters.{shown_character}

-- what one character more gives
flat_map-one : (cs : List ℕ) (c : ℕ) → flat_map shown_character (cs ++ c ∷ []) ≡ flat_map shown_character cs ++ shown_character c
flat_map-one cs c =
    flat_map-append shown_character cs (c ∷ []) ∙ ap (λ (xs : List ℕ). flat_map shown_character cs ++ xs) (append-nil (shown_character c))

-- one character more is shown
pub one_more_shown : (old out new cs : List ℕ) (c : ℕ) → out ≡ old ++ encode_utf8_all (flat_map shown_character cs)
    → new ≡ out ++ encode_utf8_all (shown_character c) → new ≡ old ++ encode_utf8_all (flat_map shown_character (cs ++ c ∷ []))
one_more_shown old out new cs c so_far added =
    added ∙ ap (λ (xs : List ℕ). xs ++ encode_utf8_all (shown_character c)) so_far
    ∙ append_assoc old (encode_utf8_all (flat_map shown_character cs)) (encode_utf8_all (shown_character c))
    ∙ ap (λ (xs : List ℕ). old ++ xs)
    (sym (encodes-append (flat_map shown_character cs) (shown_character c)) ∙ ap encode_utf8_all (sym (flat_map-one cs c)))

-- one character more is underlined
pub one_more_under : (mark : ℕ) (old out new cs : List ℕ) (c : ℕ) → out ≡ old ++ replicate (length (flat_map shown_character cs)) mark
    → new ≡ out ++ replicate (length (shown_character c)) mark → new ≡ old ++ replicate (length (flat_map shown_character (cs ++ c ∷ []))) mark
one_more_under mark old out new cs c so_far added =
    let many : length (flat_map shown_character (cs ++ c ∷ [])) ≡ length (flat_map shown_character cs) + length (shown_character c) =
    ap length (flat_map-one cs c) ∙ length-append (flat_map shown_character cs) (shown_character c) in
    added ∙ ap (λ (xs : List ℕ). xs ++ replicate (length (shown_character c)) mark) so_far
    ∙ append_assoc old (replicate (length (flat_map shown_character cs)) mark) (replicate (length (shown_character c)) mark)
    ∙ ap (λ (xs : List ℕ). old ++ xs)
    (replicate-append-replicate (length (flat_map shown_character cs)) (length (shown_character c)) mark ∙ ap (λ n. replicate n mark) (sym many))
