-- The parts of an expansion token by token, and the text that they show.
use Rattle.std.proofs.Common.{◌≡◌, ℕ, ◌+◌, List, [], ◌∷◌, ◌++◌, Bool, Option, true, false, take, drop, refl, sym, ap, ◌∙◌, append_assoc}
use Rattle.std.proofs.lemmas.List.{drop-drop, append-nil}
use Rattle.std.specs.Prelude.{chars, if◌then◌else◌}
use Rattle.rustc_lexer.specs.Lexing.{tokens_of}
use Rattle.rustc_lexer.specs.declared.token.Token.{Token}
use Rattle.rustc_lexer.specs.declared.token.TokenKind.{TokenKind}
use Rattle.html_code.specs.Parts.{Part, html_of, text_of, tag}
use Rattle.html_code.specs.ExpansionParts.{AddsWord, Place, attributes_at, beginning, expansion_from, expansion_parts, first_gap, fold_end, gap_tag, is_behind, is_white, other_gaps, place_after, word_parts, words_from, words_of}
use Rattle.html_code.specs.Tokens.{token_part}
use Rattle.html_code.specs.declared.layout.Gap.{Gap}
use Rattle.html_code.specs.declared.origin.Origin.{Origin}
use Rattle.html_code.proofs.SourceLemmas.{one_more, text_append, text_of_one, text_of_token}

module _ (fold : List ℕ) (names : List (List ℕ)) where
  -- with some gaps for what came so far, what came and what is to come are all
  abbrev pub IsSoFar : (all : List Gap → List ℕ) → (bytes : List ℕ) → Place → List ℕ → List Token → Type 0
  IsSoFar all bytes place rest left =
      (gaps : List Gap) × ((more : List Gap) → bytes ++ html_of (expansion_from fold names more place rest left) ≡ all (gaps ++ more))

  -- at the beginning
  pub begins : (all : List Gap → List ℕ) (bytes : List ℕ) (place : Place) (printed : List ℕ) (left : List Token)
      → left ≡ tokens_of (chars printed)
      → ((gaps : List Gap) → bytes ++ html_of (expansion_from fold names gaps place printed (tokens_of (chars printed))) ≡ all gaps)
      → IsSoFar all bytes place printed left
  begins all bytes place printed left is same =
      ([], λ more. ap (λ (ts : List Token). bytes ++ html_of (expansion_from fold names more place printed ts)) is ∙ same more)

  module _ (text : List ℕ) (start : ℕ) (t : Token) (left more : List Token) (is : left ≡ t ∷ more) where
    pub word_more : (all : List Gap → List ℕ) (old new word : List ℕ) (from to : Place) (stop : ℕ)
        → IsSoFar all old from (drop start text) left → stop ≡ start + t.len → word ≡ take t.len (drop start text)
        → AddsWord fold names old new from to t.kind word → IsSoFar all new to (drop stop text) more
    word_more all old new word from to stop so_far of_stop of_word adds = (
      so_far.0 ++ adds.gap ∷ [],
      λ others.
          let here : List Part = word_parts fold names adds.gap from t.kind (take t.len (drop start text)) in
          let next : Place = place_after fold names adds.gap from t.kind (take t.len (drop start text)) in
          let after : List Part = expansion_from fold names others next (drop (start + t.len) text) more in
          let so : old ++ html_of (here ++ after) ≡ all (so_far.0 ++ adds.gap ∷ others) =
          sym (ap (λ (ts : List Token). old ++ html_of (expansion_from fold names (adds.gap ∷ others) from (drop start text) ts)) is
          ∙ ap (λ (r : List ℕ). old ++ html_of (here ++ expansion_from fold names others next r more)) (drop-drop t.len start text))
          ∙ so_far.1 (adds.gap ∷ others) in
          ap (λ (p : Place). new ++ html_of (expansion_from fold names others p (drop stop text) more))
          (adds.place ∙ ap (λ (w : List ℕ). place_after fold names adds.gap from t.kind w) of_word)
          ∙ ap (λ n. new ++ html_of (expansion_from fold names others next (drop n text) more)) of_stop
          ∙ one_more old new (all (so_far.0 ++ adds.gap ∷ others)) here after so
          (adds.html ∙ ap (λ (w : List ℕ). old ++ html_of (word_parts fold names adds.gap from t.kind w)) of_word)
          ∙ ap all (sym (append_assoc so_far.0 (adds.gap ∷ []) others)),
    )

  -- at the end
  pub ends : (all : List Gap → List ℕ) (bytes new : List ℕ) (place : Place) (rest : List ℕ) (left : List Token)
      → IsSoFar all bytes place rest left → left ≡ [] → new ≡ bytes ++ fold_end place.in_summary → (gaps : List Gap) × (new ≡ all gaps)
  ends all bytes new place rest left so_far is added = (
    so_far.0 ++ [],
    added ∙ ap (λ (xs : List ℕ). bytes ++ xs) (sym (append-nil (fold_end place.in_summary)))
        ∙ sym (ap (λ (ts : List Token). bytes ++ html_of (expansion_from fold names [] place rest ts)) is)
        ∙ so_far.1 [],
  )

  -- with what begins the first fold
  pub whole : (old begun new numbers : List ℕ) (origins : List Origin) (printed : List ℕ) → begun ≡ old ++ fold
      → ((gaps : List Gap) × (new ≡ begun ++ html_of (expansion_from fold names gaps (beginning numbers origins) printed (tokens_of (chars printed)))))
      → (gaps : List Gap) × (new ≡ old ++ html_of (expansion_parts fold names gaps numbers origins printed))
  whole old begun new numbers origins printed is all = (
    all.0,
    let body : List ℕ = html_of (expansion_from fold names all.0 (beginning numbers origins) printed (tokens_of (chars printed))) in
        all.1 ∙ ap (λ (xs : List ℕ). xs ++ body) is ∙ append_assoc old fold body,
  )

  text_of_word : (gap : Gap) (place : Place) (kind : TokenKind) (word : List ℕ)
      → text_of (word_parts fold names gap place kind word) ≡ (if is_white kind then [] else word)
  text_of_word gap place kind word =
      let behind : Bool = is_behind gap place.behind in
      let attributes : Option (List ℕ) = attributes_at names place in
      let parts : List Part = tag (gap_tag fold gap place.in_summary) ∷ token_part behind attributes word ∷ [] in
      elim (is_white kind) as (λ b. text_of (if b then [] else parts) ≡ (if b then [] else word)) [
        | true ↦ refl
        | false ↦ text_of_one (token_part behind attributes word) word (text_of_token behind attributes word)
      ]

  pub text_from : (gaps : List Gap) (place : Place) (rest : List ℕ) (ts : List Token)
      → text_of (expansion_from fold names gaps place rest ts) ≡ words_from rest ts
  text_from gaps place rest [] = refl
  text_from gaps place rest (t ∷ ts) =
      let here : List Part = word_parts fold names (first_gap fold names gaps) place t.kind (take t.len rest) in
      let next : Place = place_after fold names (first_gap fold names gaps) place t.kind (take t.len rest) in
      let after : List Part = expansion_from fold names (other_gaps fold names gaps) next (drop t.len rest) ts in
      text_append here after
      ∙ ap (λ (xs : List ℕ). xs ++ text_of after) (text_of_word (first_gap fold names gaps) place t.kind (take t.len rest))
      ∙ ap (λ (xs : List ℕ). (if is_white t.kind then [] else take t.len rest) ++ xs)
      (text_from (other_gaps fold names gaps) next (drop t.len rest) ts)

pub text_is_words : (fold : List ℕ) (names : List (List ℕ)) (gaps : List Gap) (numbers : List ℕ) (origins : List Origin) (printed : List ℕ)
    → text_of (expansion_parts fold names gaps numbers origins printed) ≡ words_of printed
text_is_words fold names gaps numbers origins printed =
    text_from fold names gaps (beginning numbers origins) printed (tokens_of (chars printed))
