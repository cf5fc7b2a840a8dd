-- A text read token by token: what was read, and what remains.
use Rattle.std.proofs.Common.{◌≡◌, ℕ, ◌+◌, ◌-◌, ◌<◌, ◌≤◌, List, [], ◌∷◌, ◌++◌, length, take, drop, refl, sym, ap, ◌∙◌, append_assoc, arith, inl, inr, subst}
use Rattle.std.proofs.lemmas.List.{append-nil, drop-drop, length-drop, length-take-le}
use Rattle.std.specs.List.{slice_range}
use Rattle.std.specs.Prelude.{Option, Some, None, Result, Ok, Err, IfOk, IfErr}
use Rattle.rustc_lexer.specs.declared.token.Token.{Token}
use Rattle.rustc_lexer.specs.declared.token.TokenKind.{TokenKind}
use Rattle.tt.specs.Building.{Building}
use Rattle.tt_data.specs.Forest.{empty}
use Rattle.tt_data.specs.fault.TtFault.{TtFault}
use Rattle.bridge.specs.ReadSteps.{IsStepRefusal, Takes, first_kind, steps_at, steps_in, token_at}
use Rattle.bridge.specs.ReadText.{IsReadRefusal, text_top}
use Rattle.bridge.specs.Reading.{IsFault, PlacedToken, TextStep, placed_from, range_of}
use Rattle.bridge.proofs.PartLemmas.{part_more}
use Rattle.bridge.specs.Parts.{part_steps}
use Rattle.bridge.specs.TokenSteps.{class_of, steps_of_class}
use Rattle.bridge.specs.declared.reading.outcome.ReadFault.{ReadFault}
use Rattle.bridge.specs.declared.reading.classify.TokenClass.{TokenClass}

-- what is in the tree under construction, and what so many of the tokens that are left add, are all steps of the part
pub record IsReadSoFar (steps : List TextStep) (text : List ℕ) (start left : ℕ) (rest : List Token) (b : Building) : Type 0 where
  pub enough : left ≤ length rest
  pub read : steps ≡ steps_in b ++ part_steps start left (drop start text) rest
  pub top : b.top ≡ text_top

pub read_nothing : (text : List ℕ) (tokens : List Token) (count : ℕ) (b : Building) → count ≤ length tokens
    → b ≡ record { top = text_top; groups = []; here = empty } → IsReadSoFar (part_steps 0 count text tokens) text 0 count tokens b
read_nothing text tokens count b within new = record { enough = within; read = rw new refl; top = ap (λ (m : Building). m.top) new }

-- where nothing is left all was read
pub read_all : (steps : List TextStep) (text : List ℕ) (start left : ℕ) (rest : List Token) (b : Building) → left ≡ 0
    → IsReadSoFar steps text start left rest b → steps ≡ steps_in b
read_all steps text start left rest b none s =
    s.read ∙ ap (λ k. steps_in b ++ part_steps start k (drop start text) rest) none ∙ append-nil (steps_in b)

abbrev behind : List ℕ → ℕ → Token → List Token → List PlacedToken
behind text start t more = placed_from (start + t.len) (drop t.len (drop start text)) more

module _ (text : List ℕ) (start : ℕ) (t : Token) (more : List Token) (word : List ℕ) (next : Option TokenKind) (word_is : word ≡ slice_range text start (start + t.len))
    (fits : start + t.len ≤ length text) (next_is : (from : ℕ) (rest : List ℕ) → first_kind (placed_from from rest more) ≡ next) where
  spelt : take t.len (drop start text) ≡ word
  spelt =
      let n : start + t.len - start ≡ t.len = omega arith in
      sym (word_is ∙ ap (λ k. take k (drop start text)) n)

  placed : range_of (token_at text start t) ≡ record { start = start; «end» = start + t.len }
  placed =
      let enough : t.len ≤ length (drop start text) = omega (arith, fits, length-drop start text) in
      rw (length-take-le t.len (drop start text) enough) refl

  -- what holds of a token with this text at this place, before a token of the next kind, holds of the one that stands there
  at_token : (P : PlacedToken → List PlacedToken → Type 0)
      → ((p : PlacedToken) (after : List PlacedToken) → p.text ≡ word → range_of p ≡ record { start = start; «end» = start + t.len } → first_kind after ≡ next → P p after)
      → P (token_at text start t) (behind text start t more)
  at_token P h = h (token_at text start t) (behind text start t more) spelt placed (next_is (start + t.len) (drop t.len (drop start text)))

-- what one token adds, by what it adds wherever it stands so
at_takes : (text : List ℕ) (start : ℕ) (t : Token) (more : List Token) (word : List ℕ) (next : Option TokenKind) (class : TokenClass) (old new : Building) (added expected : Option ReadFault)
    → word ≡ slice_range text start (start + t.len) → start + t.len ≤ length text → ((from : ℕ) (rest : List ℕ) → first_kind (placed_from from rest more) ≡ next)
    → class ≡ class_of t.kind → added ≡ expected
    → ((p : PlacedToken) (after : List PlacedToken) → p.text ≡ word → range_of p ≡ record { start = start; «end» = start + t.len } → first_kind after ≡ next → Takes (steps_of_class class p after) old new added)
    → Takes (steps_at text start t more) old new expected
at_takes text start t more word next class old new added expected word_is fits next_is is so h =
    let all = at_token text start t more word next word_is fits next_is (λ p after. Takes (steps_of_class class p after) old new added) h in
    let told = subst (λ a. Takes (steps_of_class class (token_at text start t) (behind text start t more)) old new a) so all in
    subst (λ s. Takes (steps_of_class s (token_at text start t) (behind text start t more)) old new expected) is told

at_refusal : (text : List ℕ) (start : ℕ) (t : Token) (more : List Token) (word : List ℕ) (next : Option TokenKind) (class : TokenClass) (old : Building) (e : TtFault)
    → word ≡ slice_range text start (start + t.len) → start + t.len ≤ length text → ((from : ℕ) (rest : List ℕ) → first_kind (placed_from from rest more) ≡ next)
    → class ≡ class_of t.kind
    → ((p : PlacedToken) (after : List PlacedToken) → p.text ≡ word → range_of p ≡ record { start = start; «end» = start + t.len } → first_kind after ≡ next → IsStepRefusal (steps_of_class class p after) old e)
    → IsStepRefusal (steps_at text start t more) old e
at_refusal text start t more word next class old e word_is fits next_is is h =
    let all = at_token text start t more word next word_is fits next_is (λ p after. IsStepRefusal (steps_of_class class p after) old e) h in
    subst (λ s. IsStepRefusal (steps_of_class s (token_at text start t) (behind text start t more)) old e) is all

-- the same of what is answered
pub all_take : (r : Result (Option ReadFault) TtFault) (text : List ℕ) (start : ℕ) (t : Token) (more : List Token) (word : List ℕ) (next : Option TokenKind) (class : TokenClass) (old new : Building)
    → word ≡ slice_range text start (start + t.len) → start + t.len ≤ length text → ((from : ℕ) (rest : List ℕ) → first_kind (placed_from from rest more) ≡ next)
    → class ≡ class_of t.kind
    → IfOk r (λ added. (p : PlacedToken) (after : List PlacedToken) → p.text ≡ word → range_of p ≡ record { start = start; «end» = start + t.len } → first_kind after ≡ next → Takes (steps_of_class class p after) old new added)
    → IfOk r (Takes (steps_at text start t more) old new)
all_take (Ok added) text start t more word next class old new word_is fits next_is is h =
    at_takes text start t more word next class old new added added word_is fits next_is is refl h
all_take (Err e) text start t more word next class old new word_is fits next_is is h = tt

pub all_refuse : (r : Result (Option ReadFault) TtFault) (text : List ℕ) (start : ℕ) (t : Token) (more : List Token) (word : List ℕ) (next : Option TokenKind) (class : TokenClass) (old : Building)
    → word ≡ slice_range text start (start + t.len) → start + t.len ≤ length text → ((from : ℕ) (rest : List ℕ) → first_kind (placed_from from rest more) ≡ next)
    → class ≡ class_of t.kind
    → IfErr r (λ e. (p : PlacedToken) (after : List PlacedToken) → p.text ≡ word → range_of p ≡ record { start = start; «end» = start + t.len } → first_kind after ≡ next → IsStepRefusal (steps_of_class class p after) old e)
    → IfErr r (IsStepRefusal (steps_at text start t more) old)
all_refuse (Ok added) text start t more word next class old word_is fits next_is is h = tt
all_refuse (Err e) text start t more word next class old word_is fits next_is is h =
    at_refusal text start t more word next class old e word_is fits next_is is h

-- one token more was read
abbrev others_steps : List ℕ → ℕ → ℕ → Token → List Token → List TextStep
others_steps text start left t more = part_steps (start + t.len) (left - 1) (drop t.len (drop start text)) more

split_steps : (steps : List TextStep) (text : List ℕ) (start left : ℕ) (rest more : List Token) (t : Token) (old : Building) → 0 < left → rest ≡ t ∷ more
    → IsReadSoFar steps text start left rest old → steps ≡ steps_in old ++ (steps_at text start t more ++ others_steps text start left t more)
split_steps steps text start left rest more t old some split s =
    s.read
    ∙ ap (λ ts. steps_in old ++ part_steps start left (drop start text) ts) split
    ∙ ap (λ xs. steps_in old ++ xs) (part_more start left (drop start text) t more some)

pub reads_on : (steps : List TextStep) (text : List ℕ) (start left : ℕ) (rest more : List Token) (t : Token) (old new : Building) → 0 < left → rest ≡ t ∷ more
    → IsReadSoFar steps text start left rest old → Takes (steps_at text start t more) old new None → IsReadSoFar steps text (start + t.len) (left - 1) more new
reads_on steps text start left rest more t old new some split s (adds, kept) =
    let counted : length rest ≡ length {A = Token} (t ∷ more) = ap length split in
    record {
      enough = omega (arith, s.enough, counted);
      read =
          split_steps steps text start left rest more t old some split s
          ∙ sym (append_assoc (steps_in old) (steps_at text start t more) (others_steps text start left t more))
          ∙ ap (λ xs. xs ++ others_steps text start left t more) (sym adds)
          ∙ ap (λ bs. steps_in new ++ part_steps (start + t.len) (left - 1) bs more) (drop-drop t.len start text);
      top = kept ∙ s.top;
    }

pub reads_fault : (steps : List TextStep) (text : List ℕ) (start left : ℕ) (rest more : List Token) (t : Token) (old new : Building) (fault : ReadFault) → 0 < left
    → rest ≡ t ∷ more → IsReadSoFar steps text start left rest old → Takes (steps_at text start t more) old new (Some fault) → IsFault steps fault
reads_fault steps text start left rest more t old new fault some split s takes =
    subst (λ xs. IsFault xs fault) (sym (split_steps steps text start left rest more t old some split s)) (takes (others_steps text start left t more))

pub refuses : (steps : List TextStep) (text : List ℕ) (start left : ℕ) (rest more : List Token) (t : Token) (old : Building) (e : TtFault) → 0 < left
    → rest ≡ t ∷ more → IsReadSoFar steps text start left rest old → IsStepRefusal (steps_at text start t more) old e → IsReadRefusal steps e
refuses steps text start left rest more t old e some split s (inl memory) = inl memory
refuses steps text start left rest more t old e some split s (inr (tokens, over)) =
    inr (
      tokens,
      record {
        groups = over.full.groups;
        here = over.full.here;
        more = others_steps text start left t more;
        read =
            split_steps steps text start left rest more t old some split s
            ∙ sym (append_assoc (steps_in old) (steps_at text start t more) (others_steps text start left t more))
            ∙ ap (λ l. l ++ others_steps text start left t more) (sym over.adds);
        many = over.many;
      },
    )
