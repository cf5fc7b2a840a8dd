-- The search through rules for the first that fits.
use Rattle.std.proofs.Common.{◌≡◌, refl, sym, ap, subst, ◌∙◌, ℕ, zero, suc, ◌+◌, ◌<◌, Bool, true, false, ◌||◌, List, [], ◌∷◌, map, length, get_or, drop, drop-cons, Option, Some, None, option_map, arith}
use Rattle.std.specs.List.{list_any}
use Rattle.tt.specs.Tops.{Top}
use Rattle.tt_data.specs.Forest.{Forest}
use Rattle.tt_data.specs.declared.delimiter.Delimiter.{Delimiter}
use Rattle.mbe.specs.Answers.{within}
use Rattle.tt_data.specs.declared.span.Span.{Span}
use Rattle.mbe_rules.specs.Ops.{rule_of}
use Rattle.mbe_rules.specs.declared.macro_call_style.MacroCallStyle.{MacroCallStyle}
use Rattle.mbe_rules.specs.declared.rules.Rule.{Rule}
use Rattle.mbe.specs.Bursts.{bursts, rule_bursts, unless_fit}
use Rattle.mbe.specs.PutOut.{if_unfit, left_of, put_out, rule_output}
use Rattle.mbe.specs.Fit.{styled_fit, or_later, fit_from}
use Rattle.mbe_transcriber.specs.mbe_matcher.Grammar.{Grammar}
use Rattle.mbe.proofs.LeftLemmas.{left_more, left_nothing, left_passed}

or-false : (a b : Bool) → (a || b) ≡ false → (a ≡ false) × (b ≡ false)
or-false true b e = absurd (cc e)
or-false false b e = (refl, e)

-- what holds of no element doesn't hold of one of them
pub none-at : {A B : Type 0} (p : B → Bool) (f : A → B) (xs : List A) (i : ℕ) (x : A) → list_any p (map f xs) ≡ false → i < length xs → x ≡ get_or xs i x →
    p (f x) ≡ false
none-at p f [] i x h k e = absurd (omega arith)
none-at p f (y ∷ xs) zero x h k e = ap (λ z. p (f z)) e ∙ (or-false (p (f y)) (list_any p (map f xs)) h).0
none-at p f (y ∷ xs) (suc i) x h k e = none-at p f xs i x (or-false (p (f y)) (list_any p (map f xs)) h).1 (omega arith) e

-- a rule's number and the tree that it gives
abbrev numbered : ℕ → Top → Option (ℕ × Top)
numbered i t = Some (i, t)

-- what is given, inside brackets
abbrev all_within : Delimiter → Option (ℕ × Forest) → Option (ℕ × Top)
all_within top o = option_map (λ r. (r.0, within top r.1)) o

module _ (is_identifier : List ℕ → Bool) (grammar : Grammar) (mark : Span → Span) (style : MacroCallStyle) (argument : Forest) where
  -- the first that fits is among the rules that are left, or there is none
  abbrev pub FitsFrom : List Rule → ℕ → Type 0
  FitsFrom rs i =
      fit_from is_identifier grammar mark style argument i (map rule_of (drop i rs))
      ≡ fit_from is_identifier grammar mark style argument 0 (map rule_of rs)

  at-rule : (rs : List Rule) (i : ℕ) (x : Rule) (o : Option Forest) → i < length rs → x ≡ get_or rs i x →
      o ≡ styled_fit is_identifier grammar mark style (rule_of x) argument → FitsFrom rs i →
      or_later i o (fit_from is_identifier grammar mark style argument (suc i) (map rule_of (drop (suc i) rs)))
      ≡ fit_from is_identifier grammar mark style argument 0 (map rule_of rs)
  at-rule rs i x o h e t from =
      let d : drop i rs ≡ x ∷ drop (suc i) rs = drop-cons rs i x h ∙ ap (λ y. y ∷ drop (suc i) rs) (sym e) in
      ap (λ p. or_later i p (fit_from is_identifier grammar mark style argument (suc i) (map rule_of (drop (suc i) rs)))) t
      ∙ sym (ap (λ l. fit_from is_identifier grammar mark style argument i (map rule_of l)) d) ∙ from

  pub fits-here : (rs : List Rule) (i : ℕ) (x : Rule) (f : Forest) → i < length rs → x ≡ get_or rs i x →
      Some f ≡ styled_fit is_identifier grammar mark style (rule_of x) argument → FitsFrom rs i →
      Some (i, f) ≡ fit_from is_identifier grammar mark style argument 0 (map rule_of rs)
  fits-here rs i x f h e t from = at-rule rs i x (Some f) h e t from

  pub fits-there : (rs : List Rule) (i : ℕ) (x : Rule) (top : Delimiter) (t : Top) → i < length rs → x ≡ get_or rs i x →
      Some t ≡ option_map (within top) (styled_fit is_identifier grammar mark style (rule_of x) argument) → FitsFrom rs i →
      numbered i t ≡ all_within top (fit_from is_identifier grammar mark style argument 0 (map rule_of rs))
  fits-there rs i x top t h e u from = go (styled_fit is_identifier grammar mark style (rule_of x) argument) refl u
    where
      go : (o : Option Forest) → o ≡ styled_fit is_identifier grammar mark style (rule_of x) argument → Some t ≡ option_map (within top) o →
          numbered i t ≡ all_within top (fit_from is_identifier grammar mark style argument 0 (map rule_of rs))
      go None w v = absurd (cc v)
      go (Some f) w v =
          let same : t ≡ within top f = cc v in
          ap (numbered i) same ∙ ap (all_within top) (fits-here rs i x f h e w from)

  -- what puts out too much is among the rules that are left only if it is among all
  abbrev pub BurstsFrom : List Rule → ℕ → Type 0
  BurstsFrom rs i =
      bursts is_identifier grammar mark (map rule_of (drop i rs)) style argument ≡ true → bursts is_identifier grammar mark (map rule_of rs) style argument ≡ true

  -- what all put out is what the rules that are left put out, behind what is left of the limit
  abbrev pub PutsOutFrom : Option ℕ → Option ℕ → List Rule → ℕ → Type 0
  PutsOutFrom most left rs i =
      left_of most (put_out is_identifier grammar mark (map rule_of rs) style argument)
      ≡ left_of left (put_out is_identifier grammar mark (map rule_of (drop i rs)) style argument)

  puts-out-at : (rs : List Rule) (i : ℕ) (x : Rule) → i < length rs → x ≡ get_or rs i x →
      put_out is_identifier grammar mark (map rule_of (drop i rs)) style argument
      ≡ rule_output is_identifier grammar mark style (rule_of x) argument
      + if_unfit (styled_fit is_identifier grammar mark style (rule_of x) argument) (put_out is_identifier grammar mark (map rule_of (drop (suc i) rs)) style argument)
  puts-out-at rs i x h e =
      ap (λ l. put_out is_identifier grammar mark (map rule_of l) style argument) (drop-cons rs i x h ∙ ap (λ y. y ∷ drop (suc i) rs) (sym e))

  -- a rule puts out too much
  pub passed-here : (most left : Option ℕ) (rs : List Rule) (i : ℕ) (x : Rule) → i < length rs → x ≡ get_or rs i x →
      None ≡ left_of left (rule_output is_identifier grammar mark style (rule_of x) argument) → PutsOutFrom most left rs i →
      None ≡ left_of most (put_out is_identifier grammar mark (map rule_of rs) style argument)
  passed-here most left rs i x h e over from =
      sym (from ∙ ap (left_of left) (puts-out-at rs i x h e) ∙ left_passed left _ _ (sym over))

  left-fits : (most left rest : Option ℕ) (rs : List Rule) (i : ℕ) (x : Rule) (f : Forest) → i < length rs → x ≡ get_or rs i x →
      Some rest ≡ left_of left (rule_output is_identifier grammar mark style (rule_of x) argument) → Some f ≡ styled_fit is_identifier grammar mark style (rule_of x) argument →
      PutsOutFrom most left rs i → Some rest ≡ left_of most (put_out is_identifier grammar mark (map rule_of rs) style argument)
  left-fits most left rest rs i x f h e some fits from =
      sym (from ∙ ap (left_of left) (puts-out-at rs i x h e ∙ ap (λ o. rule_output is_identifier grammar mark style (rule_of x) argument + if_unfit o (put_out is_identifier grammar mark (map rule_of (drop (suc i) rs)) style argument)) (sym fits))
      ∙ left_more left _ 0 rest (sym some) ∙ left_nothing rest)

  -- it fits
  pub left-here : (most left rest : Option ℕ) (rs : List Rule) (i : ℕ) (x : Rule) (top : Delimiter) (t : Top) → i < length rs → x ≡ get_or rs i x →
      Some rest ≡ left_of left (rule_output is_identifier grammar mark style (rule_of x) argument)
      → Some t ≡ option_map (within top) (styled_fit is_identifier grammar mark style (rule_of x) argument) →
      PutsOutFrom most left rs i → Some rest ≡ left_of most (put_out is_identifier grammar mark (map rule_of rs) style argument)
  left-here most left rest rs i x top t h e some given from =
      go (styled_fit is_identifier grammar mark style (rule_of x) argument) refl given
    where
      go : (o : Option Forest) → o ≡ styled_fit is_identifier grammar mark style (rule_of x) argument → Some t ≡ option_map (within top) o
          → Some rest ≡ left_of most (put_out is_identifier grammar mark (map rule_of rs) style argument)
      go None w v = absurd (cc v)
      go (Some f) w v = left-fits most left rest rs i x f h e some w from

  -- or it does not
  pub left-there : (most left rest : Option ℕ) (rs : List Rule) (i : ℕ) (x : Rule) → i < length rs → x ≡ get_or rs i x →
      Some rest ≡ left_of left (rule_output is_identifier grammar mark style (rule_of x) argument) → None ≡ styled_fit is_identifier grammar mark style (rule_of x) argument →
      PutsOutFrom most left rs i → PutsOutFrom most rest rs (suc i)
  left-there most left rest rs i x h e some unfit from =
      from ∙ ap (left_of left) (puts-out-at rs i x h e ∙ ap (λ o. rule_output is_identifier grammar mark style (rule_of x) argument + if_unfit o (put_out is_identifier grammar mark (map rule_of (drop (suc i) rs)) style argument)) (sym unfit))
      ∙ left_more left _ _ rest (sym some)

  -- all three where it does not fit
  pub nothing-here : (most left rest : Option ℕ) (rs : List Rule) (i : ℕ) (x : Rule) (top : Delimiter) → i < length rs → x ≡ get_or rs i x →
      Some rest ≡ left_of left (rule_output is_identifier grammar mark style (rule_of x) argument)
      → None ≡ option_map (within top) (styled_fit is_identifier grammar mark style (rule_of x) argument)
      → FitsFrom rs i × BurstsFrom rs i × PutsOutFrom most left rs i → FitsFrom rs (i + 1) × BurstsFrom rs (i + 1) × PutsOutFrom most rest rs (i + 1)
  nothing-here most left rest rs i x top h e some none inv =
      let next : suc i ≡ i + 1 = omega arith in
      subst (λ k. FitsFrom rs k × BurstsFrom rs k × PutsOutFrom most rest rs k) next
      (at-rule rs i x None h e unfit inv.0, later, left-there most left rest rs i x h e some unfit inv.2)
    where
      no_more : (o : Option Forest) → None ≡ option_map (within top) o → None ≡ o
      no_more None v = refl
      no_more (Some f) v = absurd (cc v)

      unfit : None ≡ styled_fit is_identifier grammar mark style (rule_of x) argument
      unfit = no_more (styled_fit is_identifier grammar mark style (rule_of x) argument) none

      or_so : (a b : Bool) → b ≡ true → (a || b) ≡ true
      or_so true b w = refl
      or_so false b w = w

      later : BurstsFrom rs (suc i)
      later much =
          inv.1
          (ap (λ l. bursts is_identifier grammar mark (map rule_of l) style argument) (drop-cons rs i x h ∙ ap (λ y. y ∷ drop (suc i) rs) (sym e))
          ∙ ap (λ o. rule_bursts is_identifier grammar mark style (rule_of x) argument || unless_fit o (bursts is_identifier grammar mark (map rule_of (drop (suc i) rs)) style argument)) (sym unfit)
          ∙ or_so (rule_bursts is_identifier grammar mark style (rule_of x) argument) _ much)
