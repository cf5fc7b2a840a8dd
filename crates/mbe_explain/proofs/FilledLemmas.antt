-- Whether a transcriber can be filled does not depend on the spans that its tokens get.
use Rattle.std.proofs.Common.{◌≡◌, refl, ap, ◌∙◌, ℕ, zero, suc, ◌-◌, Bool, true, false, List, [], ◌∷◌, ◌++◌}
use Rattle.std.proofs.Common.{Option, Some, None, option_and_then}
use Rattle.std.specs.Prelude.{is_some, option_map, if◌then◌else◌}
use Rattle.tt_data.specs.Forest.{Forest, empty, joined}
use Rattle.tt_data.specs.declared.span.Span.{Span}
use Rattle.mbe_rules.specs.Items.{Part, itself, value_of, Dollar, variable, count_of, index_of, len_of, ignore_of, concat_of}
use Rattle.mbe_rules.specs.Items.{Item, word, puncts, lifetime, dollar, Items, done, item, group_of, repetition, Rule}
use Rattle.mbe_rules.specs.declared.parser.RepeatKind.{RepeatKind}
use Rattle.mbe_rules.specs.declared.parser.RepeatKind.TheVariants.{ZeroOrMore, OneOrMore, ZeroOrOne}
use Rattle.mbe_matcher.specs.Bindings.{Binding, Map, binding_of, bindings, fragment, rounds, skipped}
use Rattle.mbe_matcher.specs.Grammar.{Grammar}
use Rattle.mbe_matcher.specs.Readings.{Move, the_reading}
use Rattle.mbe.specs.mbe_transcriber.Filling as f
use Rattle.mbe.specs.mbe_transcriber.Limits.{most_rounds}
use Rattle.mbe.specs.Fit.{rule_fit}

-- two results of which both are faults, or neither is
abbrev Alike : {A B : Type 0} → Option A → Option B → Type 0
Alike a b = is_some a ≡ is_some b

alike-both : {A B C : Type 0} (g h : A → B → C) (a c : Option A) (b d : Option B) → Alike a c → Alike b d → Alike (f.both g a b) (f.both h c d)
alike-both g h None None b d e i = refl
alike-both g h None (Some c) b d e i = absurd (cc e)
alike-both g h (Some a) None b d e i = absurd (cc e)
alike-both g h (Some a) (Some c) None None e i = refl
alike-both g h (Some a) (Some c) None (Some d) e i = absurd (cc i)
alike-both g h (Some a) (Some c) (Some b) None e i = absurd (cc i)
alike-both g h (Some a) (Some c) (Some b) (Some d) e i = refl

alike-choice : (b : Bool) (x y z : Option Forest) → Alike x y →
    Alike (elim b [ true ↦ x | false ↦ z ]) (elim b [ true ↦ y | false ↦ z ])
alike-choice true x y z e = e
alike-choice false x y z e = refl

module _ (stands : ℕ → Bool) (one other : ℕ → Option Forest) (sep : Forest) (alike : (r : ℕ) → Alike (one r) (other r)) where
  alike-rounds_from : (most r : ℕ) → Alike (f.rounds_from stands one sep most r) (f.rounds_from stands other sep most r)
  alike-rounds_from zero r = refl
  alike-rounds_from (suc most) r =
      alike-choice (stands r) _ _ (Some empty)
      (alike-both (λ g rest. joined sep (joined g rest)) (λ g rest. joined sep (joined g rest)) (one r) (other r) _ _ (alike r) (alike-rounds_from most (suc r)))

  alike-rounds_of : (most : ℕ) (op : RepeatKind) → Alike (f.rounds_of stands one sep most op) (f.rounds_of stands other sep most op)
  alike-rounds_of most ZeroOrOne = alike-choice (stands 0) (one 0) (other 0) (Some empty) (alike 0)
  alike-rounds_of most ZeroOrMore =
      alike-choice (stands 0) _ _ (Some empty) (alike-both joined joined (one 0) (other 0) _ _ (alike 0) (alike-rounds_from (most - 1) 1))
  alike-rounds_of most OneOrMore =
      alike-choice (stands 0) _ _ None (alike-both joined joined (one 0) (other 0) _ _ (alike 0) (alike-rounds_from (most - 1) 1))

module _ (is_identifier : List ℕ → Bool) (most : ℕ) (mark mark' : Span → Span) (bound : Map) where
  same-text : (ns : List ℕ) (ps : List Part) → f.joined_text is_identifier most mark bound ns ps ≡ f.joined_text is_identifier most mark' bound ns ps
  same-text ns [] = refl
  same-text ns (itself t ∷ ps) = ap (option_map (λ more. t ++ more)) (same-text ns ps)
  same-text ns (value_of n ∷ ps) = ap (f.both (λ t more. t ++ more) (f.text_of_value (option_and_then (f.value_in ns) (binding_of n bound)))) (same-text ns ps)

  alike-fragment : (s t : Span) (o : Option Binding) → Alike (f.fragment_in is_identifier most mark bound s o) (f.fragment_in is_identifier most mark' bound t o)
  alike-fragment s t None = refl
  alike-fragment s t (Some (fragment k g)) = refl
  alike-fragment s t (Some skipped) = refl
  alike-fragment s t (Some (rounds vs)) = refl

  alike-variable : (ns : List ℕ) (n : List ℕ) (s t : Span) (o : Option Binding) →
      Alike (f.variable_in is_identifier most mark bound ns n s o) (f.variable_in is_identifier most mark' bound ns n t o)
  alike-variable ns n s t None = refl
  alike-variable ns n s t (Some b) = alike-fragment s t (f.value_in ns b)

  alike-ignored : (o : Option Binding) → Alike (f.ignored is_identifier most mark bound o) (f.ignored is_identifier most mark' bound o)
  alike-ignored None = refl
  alike-ignored (Some (fragment k g)) = refl
  alike-ignored (Some skipped) = refl
  alike-ignored (Some (rounds vs)) = refl

  alike-count : (d : ℕ) (s t : Span) (o : Option Binding) → Alike (option_map (λ b. f.integer (f.count_in d b) s) o) (option_map (λ b. f.integer (f.count_in d b) t) o)
  alike-count d s t None = refl
  alike-count d s t (Some b) = refl

  alike-word : (b : Bool) (x y : Forest) → Alike (if b then Some x else None) (if b then Some y else None)
  alike-word true x y = refl
  alike-word false x y = refl

  alike-identifier : (s t : Span) (o : Option (List ℕ)) →
      Alike (option_and_then (f.identifier is_identifier most mark bound s) o) (option_and_then (f.identifier is_identifier most mark' bound t) o)
  alike-identifier s t None = refl
  alike-identifier s t (Some w) = alike-word (is_identifier w) _ _

  alike-dollar : (ns : List ℕ) (d : Dollar) (s t : Span) → Alike (f.dollar_in is_identifier most mark bound ns d s) (f.dollar_in is_identifier most mark' bound ns d t)
  alike-dollar ns (variable n k) s t = alike-variable ns n s t (binding_of n bound)
  alike-dollar ns (ignore_of n) s t = alike-ignored (option_and_then (f.value_in ns) (binding_of n bound))
  alike-dollar ns (index_of d) s t = refl
  alike-dollar ns (len_of d) s t = refl
  alike-dollar ns (count_of n d) s t = alike-count d s t (option_and_then (f.value_in ns) (binding_of n bound))
  alike-dollar ns (concat_of ps) s t =
      alike-identifier s t (f.joined_text is_identifier most mark bound ns ps)
      ∙ ap (λ o. is_some (option_and_then (f.identifier is_identifier most mark' bound t) o)) (same-text ns ps)

  alike-item : (ns : List ℕ) (i : Item) → Alike (f.item_in is_identifier most mark bound ns i) (f.item_in is_identifier most mark' bound ns i)
  alike-item ns (word l) = refl
  alike-item ns (puncts ps) = refl
  alike-item ns (lifetime p i) = refl
  alike-item ns (dollar d s) = alike-dollar ns d (mark s) (mark' s)

  alike-filled : (ns : List ℕ) (t : Items) → Alike (f.filled_in is_identifier most mark bound ns t) (f.filled_in is_identifier most mark' bound ns t)
  alike-filled ns done = refl
  alike-filled ns (item i rest) = alike-both joined joined _ _ _ _ (alike-item ns i) (alike-filled ns rest)
  alike-filled ns (group_of d inner rest) = alike-both _ _ _ _ _ _ (alike-filled ns inner) (alike-filled ns rest)
  alike-filled ns (repetition body sep op rest) =
      alike-both joined joined _ _ _ _
      (alike-rounds_of (λ r. f.round_stands is_identifier most mark bound body (ns ++ (r ∷ []))) (λ r. f.filled_in is_identifier most mark bound (ns ++ (r ∷ [])) body)
      (λ r. f.filled_in is_identifier most mark' bound (ns ++ (r ∷ [])) body) (f.separator_leaves sep)
      (λ r. alike-filled (ns ++ (r ∷ [])) body) most op)
      (alike-filled ns rest)

-- what stands inside brackets is there as before
pub alike-mapped : {A B : Type 0} (f : A → B) (o : Option A) → Alike (option_map f o) o
alike-mapped f None = refl
alike-mapped f (Some a) = refl

module _ (is_identifier : List ℕ → Bool) (gr : Grammar) (mark mark' : Span → Span) where
  alike-read : (r : Rule) (o : Option (List Move)) →
      Alike (option_and_then (λ ms. f.filled is_identifier most_rounds mark (bindings ms) r.template) o)
      (option_and_then (λ ms. f.filled is_identifier most_rounds mark' (bindings ms) r.template) o)
  alike-read r None = refl
  alike-read r (Some ms) = alike-filled is_identifier most_rounds mark mark' (bindings ms) [] r.template

  -- whether a rule fits does not depend on those spans
  pub fits-alike : (r : Rule) (argument : Forest) → is_some (rule_fit is_identifier gr mark r argument) ≡ is_some (rule_fit is_identifier gr mark' r argument)
  fits-alike r argument = alike-read r (the_reading gr r.pattern argument)

-- a rule whose matcher does not match does not fit
unread : (is_identifier : List ℕ → Bool) (mark : Span → Span) (r : Rule) (o : Option (List Move)) → (is_some o ≡ true → ⊥) →
    false ≡ is_some (option_and_then (λ ms. f.filled is_identifier most_rounds mark (bindings ms) r.template) o)
unread is_identifier mark r None h = refl
unread is_identifier mark r (Some ms) h = absurd (h refl)

pub unfit-unread : (is_identifier : List ℕ → Bool) (gr : Grammar) (mark : Span → Span) (r : Rule) (argument : Forest) →
    (is_some (the_reading gr r.pattern argument) ≡ true → ⊥) → false ≡ is_some (rule_fit is_identifier gr mark r argument)
unfit-unread is_identifier gr mark r argument h = unread is_identifier mark r (the_reading gr r.pattern argument) h
