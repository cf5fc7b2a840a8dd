-- The texts of parts, one after another.
use Rattle.std.proofs.Common.{◌≡◌, refl, sym, ap, ◌∙◌, ℕ, suc, ◌<◌, ◌≤◌, Bool, true, false, List, [], ◌∷◌, ◌++◌, map, length, get_or, drop, drop-cons, Option, Some, None, option_map}
use Rattle.std.proofs.lemmas.List.{drop_all}
use Rattle.mbe_transcriber.proofs.PuttingLemmas.{unsome}
use Rattle.tt_data.specs.declared.span.Span.{Span}
use Rattle.mbe_rules.specs.Items.{Part, itself, value_of}
use Rattle.mbe_rules.specs.Ops.{part_of}
use Rattle.mbe_rules.specs.declared.parser.ConcatElement.{ConcatElement}
use Rattle.mbe_matcher.specs.Bindings.{Map}
use Rattle.mbe_transcriber.specs.Filling.{both, joined_text, text_of_value, value_here}

append-nil : (xs : List ℕ) → xs ++ [] ≡ xs
append-nil [] = refl
append-nil (x ∷ xs) = ap (λ ys. x ∷ ys) (append-nil xs)

append-assoc : (xs ys zs : List ℕ) → (xs ++ ys) ++ zs ≡ xs ++ (ys ++ zs)
append-assoc [] ys zs = refl
append-assoc (x ∷ xs) ys zs = ap (λ l. x ∷ l) (append-assoc xs ys zs)

one-then : (t : List ℕ) (o : Option (List ℕ)) → option_map (λ more. t ++ more) o ≡ both (λ a b. a ++ b) (Some (t ++ [])) o
one-then t None = refl
one-then t (Some m) = ap (λ x. Some (x ++ m)) (sym (append-nil t))

value-then : (v o : Option (List ℕ)) → both (λ t more. t ++ more) v o ≡ both (λ a b. a ++ b) (both (λ t more. t ++ more) v (Some [])) o
value-then None o = refl
value-then (Some t) None = refl
value-then (Some t) (Some m) = ap (λ x. Some (x ++ m)) (sym (append-nil t))

module _ (is_identifier : List ℕ → Bool) (most : ℕ) (mark : Span → Span) (bound : Map) where
  first-part : (ns : List ℕ) (p : Part) (ps : List Part) →
      joined_text is_identifier most mark bound ns (p ∷ ps)
      ≡ both (λ a b. a ++ b) (joined_text is_identifier most mark bound ns (p ∷ [])) (joined_text is_identifier most mark bound ns ps)
  first-part ns (itself t) ps = one-then t _
  first-part ns (value_of n) ps = value-then (text_of_value (value_here is_identifier most mark bound ns n)) _

  -- the text so far and that of the parts that are left are the text of all
  abbrev pub TextFrom : List ℕ → List ConcatElement → ℕ → List ℕ → Type 0
  TextFrom ns ps i text =
      option_map (λ t. text ++ t) (joined_text is_identifier most mark bound ns (map part_of (drop i ps)))
      ≡ joined_text is_identifier most mark bound ns (map part_of ps)

  left-text : (ns : List ℕ) (ps : List ConcatElement) (i j : ℕ) (d : ConcatElement) → j ≡ suc i → i < length ps → d ≡ get_or ps i d →
      joined_text is_identifier most mark bound ns (map part_of (drop i ps))
      ≡ both (λ a b. a ++ b) (joined_text is_identifier most mark bound ns (part_of d ∷ [])) (joined_text is_identifier most mark bound ns (map part_of (drop j ps)))
  left-text ns ps i j d u h e =
      ap (λ xs. joined_text is_identifier most mark bound ns (map part_of xs))
      (drop-cons ps i d h ∙ ap (λ y. y ∷ drop (suc i) ps) (sym e) ∙ ap (λ y. d ∷ drop y ps) (sym u))
      ∙ first-part ns (part_of d) (map part_of (drop j ps))

  step : (old new : List ℕ) (x y z : Option (List ℕ)) → Some new ≡ option_map (λ t. old ++ t) x → option_map (λ t. old ++ t) (both (λ a b. a ++ b) x y) ≡ z →
      option_map (λ t. new ++ t) y ≡ z
  step old new None y z e same = absurd (cc e)
  step old new (Some t) None z e same = same
  step old new (Some t) (Some m) z e same = ap Some (ap (λ x. x ++ m) (unsome e) ∙ append-assoc old t m) ∙ same

  fault : (old : List ℕ) (x y z : Option (List ℕ)) → None ≡ option_map (λ t. old ++ t) x → option_map (λ t. old ++ t) (both (λ a b. a ++ b) x y) ≡ z → None ≡ z
  fault old None y z e same = same
  fault old (Some t) y z e same = absurd (cc e)

  pub part-put : (ns : List ℕ) (ps : List ConcatElement) (i j : ℕ) (d : ConcatElement) (old new : List ℕ) → j ≡ suc i → i < length ps → d ≡ get_or ps i d →
      Some new ≡ option_map (λ t. old ++ t) (joined_text is_identifier most mark bound ns (part_of d ∷ [])) → TextFrom ns ps i old → TextFrom ns ps j new
  part-put ns ps i j d old new u h e put from = step old new _ _ _ put (sym (ap (option_map (λ t. old ++ t)) (left-text ns ps i j d u h e)) ∙ from)

  pub part-fault : (ns : List ℕ) (ps : List ConcatElement) (i : ℕ) (d : ConcatElement) (old : List ℕ) → i < length ps → d ≡ get_or ps i d →
      None ≡ option_map (λ t. old ++ t) (joined_text is_identifier most mark bound ns (part_of d ∷ [])) → TextFrom ns ps i old →
      None ≡ joined_text is_identifier most mark bound ns (map part_of ps)
  part-fault ns ps i d old h e put from = fault old _ _ _ put (sym (ap (option_map (λ t. old ++ t)) (left-text ns ps i (suc i) d refl h e)) ∙ from)

  pub parts-put : (ns : List ℕ) (ps : List ConcatElement) (i : ℕ) (text : List ℕ) → length ps ≤ i → TextFrom ns ps i text →
      Some text ≡ joined_text is_identifier most mark bound ns (map part_of ps)
  parts-put ns ps i text h from =
      ap Some (sym (append-nil text))
      ∙ sym (ap (λ xs. option_map (λ t. text ++ t) (joined_text is_identifier most mark bound ns (map part_of xs))) (drop_all i ps h)) ∙ from

pub told-fault : (b : Bool) (x : List ℕ) (o : Option (List ℕ)) → b ≡ false → elim b [ true ↦ Some x | false ↦ None ] ≡ o → None ≡ o
told-fault true x o e h = absurd (cc e)
told-fault false x o e h = h

pub told-text : (b : Bool) (x : List ℕ) (o : Option (List ℕ)) → b ≡ true → elim b [ true ↦ Some x | false ↦ None ] ≡ o → Some x ≡ o
told-text true x o e h = h
told-text false x o e h = absurd (cc e)
