-- A text is shown character by character.
use Rattle.std.proofs.Common.{◌≡◌, ℕ, List, [], ◌∷◌, ◌++◌, sym, ap, ◌∙◌, append_assoc}
use Rattle.std.proofs.lemmas.Str.{encodes-append}
use Rattle.std.proofs.lemmas.List.Concat.{flat_map-append}
use Rattle.std.proofs.lemmas.List.{append-nil}
use Rattle.std.specs.Prelude.{encode_utf8_all}
use Rattle.std.specs.List.{flat_map}
use Rattle.program_files.specs.Shown.{shown_character}

-- one character more is shown behind the others
pub one_more_character : (old line new cs : List ℕ) (c : ℕ) → line ≡ old ++ encode_utf8_all (flat_map shown_character cs)
    → new ≡ line ++ encode_utf8_all (shown_character c) → new ≡ old ++ encode_utf8_all (flat_map shown_character (cs ++ c ∷ []))
one_more_character old line new cs c so_far added =
    let all : flat_map shown_character (cs ++ c ∷ []) ≡ flat_map shown_character cs ++ shown_character c =
    flat_map-append shown_character cs (c ∷ []) ∙ ap (λ (xs : List ℕ). flat_map shown_character cs ++ xs) (append-nil (shown_character c)) in
    added ∙ ap (λ (xs : List ℕ). xs ++ encode_utf8_all (shown_character c)) so_far
    ∙ append_assoc old (encode_utf8_all (flat_map shown_character cs)) (encode_utf8_all (shown_character c))
    ∙ ap (λ (xs : List ℕ). old ++ xs) (sym (encodes-append (flat_map shown_character cs) (shown_character c)) ∙ ap encode_utf8_all (sym all))
