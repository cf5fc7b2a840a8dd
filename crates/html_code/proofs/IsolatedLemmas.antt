-- What is shown outside of the elements that isolate it is plain.
use Rattle.std.proofs.Common.{◌≡◌, ℕ, ◌+◌, List, [], ◌∷◌, Bool, true, false, Option, Some, None, All, inl, inr, take, drop, refl, arith}
use Rattle.std.proofs.lemmas.Bool.Decides.{nat_tests}
use Rattle.std.proofs.lemmas.Bool.{and_parts}
use Rattle.std.proofs.lemmas.List.Elements.{All-append, All-cons, All-nil}
use Rattle.std.specs.Prelude.{◌&&◌, not, chars, codes, if◌then◌else◌}
use Rattle.rustc_lexer.specs.Lexing.{tokens_of}
use Rattle.rustc_lexer.specs.declared.token.Token.{Token}
use Rattle.rustc_lexer.specs.declared.token.TokenKind.{TokenKind}
use Rattle.html_code.specs.ExpansionParts.{Place, attributes_at, beginning, expansion_from, expansion_parts, first_gap, fold_end, gap_tag, is_behind, is_white, other_gaps, place_after, word_parts}
use Rattle.html_code.specs.Parts.{Part, tag, shown, isolated}
use Rattle.html_code.specs.SourceParts.{Point, attributes_of, blank_parts, class_of, count_after, first_cut, parts_of, point_after, source_from, source_parts}
use Rattle.html_code.specs.Tokens.{IsIsolated, blank_part, comment_part, is_bare, is_plain, is_plain_byte, is_sign, is_sign_byte, is_word, is_word_byte, token_part}
use Rattle.html_code.specs.declared.layout.Gap.{Gap}
use Rattle.html_code.specs.declared.origin.Origin.{Origin}
use Rattle.html_code.specs.declared.source.Class.{Class}
use Rattle.html_code.specs.declared.source.Class.TheVariants.{Blank, Comment, Code}
use Rattle.html_code.specs.declared.source.Mark.{Mark}
use Rattle.hidden_marks.proofs.MarkLemmas.{either}

word_is_plain_byte : (b : ℕ) → is_word_byte b ≡ true → is_plain_byte b ≡ true
word_is_plain_byte b h = grind (arith, nat_tests)

sign_is_plain_byte : (b : ℕ) → is_sign_byte b ≡ true → is_plain_byte b ≡ true
sign_is_plain_byte b h = grind (arith, nat_tests)

and_both : (a b : Bool) → a ≡ true → b ≡ true → (a && b) ≡ true
and_both true b h k = k
and_both false b h k = h

word_is_plain : (text : List ℕ) → is_word text ≡ true → is_plain text ≡ true
word_is_plain [] h = h
word_is_plain (b ∷ bs) h =
    let parts = and_parts (is_word_byte b) (is_word bs) h in
    and_both (is_plain_byte b) (is_plain bs) (word_is_plain_byte b parts.0) (word_is_plain bs parts.1)

sign_is_plain : (text : List ℕ) → is_sign text ≡ true → is_plain text ≡ true
sign_is_plain [] h = cc
sign_is_plain (b ∷ []) h = and_both (is_plain_byte b) true (sign_is_plain_byte b h) refl
sign_is_plain (b ∷ d ∷ bs) h = cc

bare_is_plain : (behind : Bool) (text : List ℕ) → is_bare behind text ≡ true → is_plain text ≡ true
bare_is_plain behind text h =
    elim (either (is_sign text) (not behind && is_word text) h) [
      | inl w ↦ sign_is_plain text w
      | inr w ↦ word_is_plain text (and_parts (not behind) (is_word text) w).1
    ]

-- what is shown as it is where a test passes, after which it is plain
if_plain : (test : Bool) (attributes text : List ℕ) → (test ≡ true → is_plain text ≡ true) → IsIsolated (if test then shown text else isolated attributes text)
if_plain true attributes text h = h refl
if_plain false attributes text h = tt

token_is : (behind : Bool) (attributes : Option (List ℕ)) (text : List ℕ) → IsIsolated (token_part behind attributes text)
token_is behind None text = if_plain (is_bare behind text) [] text (bare_is_plain behind text)
token_is behind (Some attributes) text = tt

blank_is : (text : List ℕ) → IsIsolated (blank_part text)
blank_is text = if_plain (is_plain text) _ text (λ h. h)

none_are : All IsIsolated []
none_are = All-nil IsIsolated

one_is : (p : Part) → IsIsolated p → All IsIsolated (p ∷ [])
one_is p h = All-cons IsIsolated p [] h none_are

blanks_are : (cut : Option ℕ) (text : List ℕ) → All IsIsolated (blank_parts cut text)
blanks_are None text = one_is (blank_part text) (blank_is text)
blanks_are (Some at) text =
    All-cons IsIsolated (blank_part (take at text)) (tag (codes "</div><div>") ∷ blank_part (drop at text) ∷ []) (blank_is (take at text))
    (All-cons IsIsolated (tag (codes "</div><div>")) (blank_part (drop at text) ∷ []) tt (one_is (blank_part (drop at text)) (blank_is (drop at text))))

parts_are : (class : Class) (cut : Option ℕ) (at : Point) (number stop : ℕ) (text : List ℕ) → All IsIsolated (parts_of class cut at number stop text)
parts_are Blank cut at number stop text = blanks_are cut text
parts_are Comment cut at number stop text = one_is (comment_part text) tt
parts_are Code cut at number stop text =
    one_is (token_part at.behind (attributes_of at.faults number stop) text) (token_is at.behind (attributes_of at.faults number stop) text)

source_is : (cuts : List (Option ℕ)) (at : Point) (count start : ℕ) (rest : List ℕ) (ts : List Token) → All IsIsolated (source_from cuts at count start rest ts)
source_is cuts at count start rest [] = none_are
source_is cuts at count start rest (t ∷ ts) =
    let next : Point = point_after (class_of t.kind) at (count + 1) (start + t.len) (take t.len rest) in
    let after : List Part = source_from (drop 1 cuts) next (count_after (class_of t.kind) count) (start + t.len) (drop t.len rest) ts in
    All-append IsIsolated (parts_of (class_of t.kind) (first_cut cuts) at (count + 1) (start + t.len) (take t.len rest)) after
    (parts_are (class_of t.kind) (first_cut cuts) at (count + 1) (start + t.len) (take t.len rest))
    (source_is (drop 1 cuts) next (count_after (class_of t.kind) count) (start + t.len) (drop t.len rest) ts)

pub sources_are : (cuts : List (Option ℕ)) (faults : List Mark) (text : List ℕ) → All IsIsolated (source_parts cuts faults text)
sources_are cuts faults text = source_is cuts (record { faults = faults; behind = false }) 0 0 text (tokens_of (chars text))

module _ (fold : List ℕ) (names : List (List ℕ)) where
  word_is : (gap : Gap) (place : Place) (kind : TokenKind) (word : List ℕ) → All IsIsolated (word_parts fold names gap place kind word)
  word_is gap place kind word =
      let token : Part = token_part (is_behind gap place.behind) (attributes_at names place) word in
      elim (is_white kind) as (λ b. All IsIsolated (if b then [] else tag (gap_tag fold gap place.in_summary) ∷ token ∷ [])) [
        | true ↦ none_are
        | false ↦
            All-cons IsIsolated (tag (gap_tag fold gap place.in_summary)) (token ∷ []) tt
            (one_is token (token_is (is_behind gap place.behind) (attributes_at names place) word))
      ]

  expansion_is : (gaps : List Gap) (place : Place) (rest : List ℕ) (ts : List Token) → All IsIsolated (expansion_from fold names gaps place rest ts)
  expansion_is gaps place rest [] = one_is (tag (fold_end place.in_summary)) tt
  expansion_is gaps place rest (t ∷ ts) =
      let next : Place = place_after fold names (first_gap fold names gaps) place t.kind (take t.len rest) in
      All-append IsIsolated (word_parts fold names (first_gap fold names gaps) place t.kind (take t.len rest))
      (expansion_from fold names (other_gaps fold names gaps) next (drop t.len rest) ts)
      (word_is (first_gap fold names gaps) place t.kind (take t.len rest)) (expansion_is (other_gaps fold names gaps) next (drop t.len rest) ts)

pub expansions_are : (fold : List ℕ) (names : List (List ℕ)) (gaps : List Gap) (numbers : List ℕ) (origins : List Origin) (printed : List ℕ)
    → All IsIsolated (expansion_parts fold names gaps numbers origins printed)
expansions_are fold names gaps numbers origins printed =
    let rest : List Part = expansion_from fold names gaps (beginning numbers origins) printed (tokens_of (chars printed)) in
    All-cons IsIsolated (tag fold) rest tt (expansion_is fold names gaps (beginning numbers origins) printed (tokens_of (chars printed)))
