-- The tokens that a text shows, one by one.
use Rattle.std.proofs.Common.{◌≡◌, ℕ, ◌+◌, List, [], ◌∷◌, ◌++◌, Bool, true, false, IsTrue, drop, take, sym, ap, refl, ◌∙◌, append_assoc, length, arith, ◌≢◌}
use mathlib.Core.Bool.{beq}
use Rattle.std.specs.Prelude.{◌↔◌, ◌==◌}
use Rattle.code_layout.specs.Places.{all_words, word_of}
use Rattle.code_layout.specs.declared.words.Placed.{Placed}
use Rattle.std.proofs.lemmas.List.{drop-drop, append_cancel_left}
use Rattle.std.proofs.lemmas.Bool.Decides.{nat_tests}
use Rattle.rustc_lexer.specs.declared.token.Token.{Token}
use Rattle.rustc_lexer.specs.declared.token.TokenKind.{TokenKind}
use Rattle.code_layout.specs.Words.{Word, shown, words_from}

module _ (text : List ℕ) (at : ℕ) (t : Token) (left more : List Token) (is : left ≡ t ∷ more) where
  -- what the first token shows comes first
  pub first_shown : (before : TokenKind)
      → words_from before (drop at text) left
      ≡ shown before t.kind (take t.len (drop at text)) ++ words_from t.kind (drop (at + t.len) text) more
  first_shown before =
      ap (λ (ts : List Token). words_from before (drop at text) ts) is
      ∙ ap (λ (rest : List ℕ). shown before t.kind (take t.len (drop at text)) ++ words_from t.kind rest more)
      (drop-drop t.len at text)

  -- once it is added, the rest is to come
  pub word_added : (before : TokenKind) (old new all : List Word) (word : List ℕ)
      → old ++ words_from before (drop at text) left ≡ all
      → word ≡ take t.len (drop at text)
      → new ≡ old ++ shown before t.kind word
      → new ++ words_from t.kind (drop (at + t.len) text) more ≡ all
  word_added before old new all word so_far of_word added =
      let rest : List Word = words_from t.kind (drop (at + t.len) text) more in
      ap (λ (xs : List Word). xs ++ rest) added
      ∙ ap (λ (w : List ℕ). (old ++ shown before t.kind w) ++ rest) of_word
      ∙ append_assoc old (shown before t.kind (take t.len (drop at text))) rest
      ∙ ap (λ (xs : List Word). old ++ xs) (sym (first_shown before))
      ∙ so_far

  -- both lists begin with what it shows, or they differ
  pub both_go_on : (before : TokenKind) (old new : List Word) (word : List ℕ)
      → word ≡ take t.len (drop at text) → old ≡ shown before t.kind word ++ new
      → (words_from before (drop at text) left ≡ old) ↔ (words_from t.kind (drop (at + t.len) text) more ≡ new)
  both_go_on before old new word of_word passed =
      let rest : List Word = words_from t.kind (drop (at + t.len) text) more in
      let here : List Word = shown before t.kind (take t.len (drop at text)) in
      let of_old : old ≡ here ++ new = passed ∙ ap (λ (w : List ℕ). shown before t.kind w ++ new) of_word in (
        λ h. append_cancel_left here rest new (sym (first_shown before) ∙ h ∙ of_old),
        λ h. first_shown before ∙ ap (λ (xs : List Word). here ++ xs) h ∙ sym of_old,
      )

  -- a list that does not begin with what it shows differs
  pub differs : (before : TokenKind) (old : List Word) (word : List ℕ)
      → word ≡ take t.len (drop at text) → ((new : List Word) → old ≢ shown before t.kind word ++ new)
      → words_from before (drop at text) left ≢ old
  differs before old word of_word other h =
      let rest : List Word = words_from t.kind (drop (at + t.len) text) more in
      other rest (sym h ∙ first_shown before ∙ ap (λ (w : List ℕ). shown before t.kind w ++ rest) (sym of_word))

-- no token is left
pub none_left : (before : TokenKind) (rest : List ℕ) (left : List Token) (words : List Placed) (answer : Bool)
    → left ≡ [] → answer ≡ (length words == 0)
    → (words_from before rest left ≡ all_words words) ↔ IsTrue answer
none_left before rest left [] answer is empty =
    (λ h. empty, λ h. ap (λ (ts : List Token). words_from before rest ts) is)
none_left before rest left (w ∷ ws) answer is empty = (
  λ h.
      let nothing : [] ≡ all_words (w ∷ ws) = sym (ap (λ (ts : List Token). words_from before rest ts) is) ∙ h in
      cc,
  λ h. let no : (length (w ∷ ws) == 0) ≡ true = sym empty ∙ h in absurd (grind (arith, nat_tests)),
)

-- two answers are compared
pub beq_same : (a b : Bool) → IsTrue (beq a b) → a ≡ b
beq_same true true h = refl
beq_same false false h = refl
beq_same true false h = cc
beq_same false true h = cc

pub beq_self : (a b : Bool) → a ≡ b → IsTrue (beq a b)
beq_self true true h = refl
beq_self false false h = refl
beq_self true false h = cc
beq_self false true h = cc

-- a word that has this kind and this text is the one that is joined so
pub word_is : (w : Placed) (kind : TokenKind) (text : List ℕ) (joined answer : Bool) → w.kind ≡ kind → w.text.now ≡ text
    → answer ≡ joined
    → IsTrue (beq w.joined answer) ↔ (word_of w ≡ record { kind = kind; text = text; joined = joined })
word_is w kind text joined answer kinds texts is = (
  λ h. let same : w.joined ≡ joined = beq_same w.joined answer h ∙ is in cc,
  λ h. beq_self w.joined answer (ap (λ (v : Word). v.joined) h ∙ sym is),
)
