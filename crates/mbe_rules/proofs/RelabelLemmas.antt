-- What changes with the spans of trees, and what does not.
use Rattle.std.proofs.Common.{◌≡◌, refl, ap, ℕ, suc, ◌∷◌, map, Some, None}
use Rattle.tt_data.specs.Forest.{Forest, empty, leaf, group, map_spans}
use Rattle.tt_data.specs.Spans.{leaf_with, delimiter_with}
use Rattle.tt_data.specs.declared.leaf.Leaf.TheVariants as as_leaf
use Rattle.tt_data.specs.declared.span.Span.{Span}
use Rattle.mbe_rules.specs.Items.{dollar, variable, Items, done, item, group_of, repetition, variables, can_match_nothing, has_empty_round}
use Rattle.mbe_rules.specs.Relabelling.{punct_with, items_with}
use Rattle.mbe_rules.specs.Trees.{before, past, first_puncts, inside, signs}
use Rattle.mbe_rules.specs.declared.parser.MetaVarKind.TheVariants as kind

module _ (f : Span → Span) where
  pub signs-map : (x : Forest) → signs (map_spans f x) ≡ signs x
  signs-map empty = refl
  signs-map (leaf (as_leaf.Ident i) rest) = rw (signs-map rest)
  signs-map (leaf (as_leaf.Literal l) rest) = rw (signs-map rest)
  signs-map (leaf (as_leaf.Punct p) rest) = rw (signs-map rest)
  signs-map (group d inner rest) = rw (signs-map rest)

  pub past-map : (n : ℕ) (x : Forest) → past n (map_spans f x) ≡ map_spans f (past n x)
  past-map (suc n) (leaf l rest) = past-map n rest
  past-map (suc n) (group d inner rest) = past-map n rest
  past-map _ _ = refl

  pub before-map : (n : ℕ) (x : Forest) → before n (map_spans f x) ≡ map_spans f (before n x)
  before-map (suc n) (leaf l rest) = ap (leaf (leaf_with f l)) (before-map n rest)
  before-map (suc n) (group d inner rest) = ap (group (delimiter_with f d) (map_spans f inner)) (before-map n rest)
  before-map _ _ = refl

  pub first_puncts-map : (n : ℕ) (x : Forest) → first_puncts n (map_spans f x) ≡ map (punct_with f) (first_puncts n x)
  first_puncts-map (suc n) (leaf (as_leaf.Punct p) rest) = ap (λ ps. punct_with f p ∷ ps) (first_puncts-map n rest)
  first_puncts-map _ _ = refl

  pub inside-map : (x : Forest) → inside (map_spans f x) ≡ map_spans f (inside x)
  inside-map (group d inner rest) = refl
  inside-map _ = refl

  -- ---- items

  pub variables-map : (i : Items) → variables (items_with f i) ≡ variables i
  variables-map done = refl
  variables-map (item (dollar (variable n k) s) rest) = rw (variables-map rest)
  variables-map (item _ rest) = variables-map rest
  variables-map (group_of d inner rest) = rw (variables-map inner, variables-map rest)
  variables-map (repetition body sep op rest) = rw (variables-map body, variables-map rest)

  pub can_match_nothing-map : (i : Items) → can_match_nothing (items_with f i) ≡ can_match_nothing i
  can_match_nothing-map (item (dollar (variable n (Some kind.Vis)) s) rest) = can_match_nothing-map rest
  can_match_nothing-map (repetition body sep op rest) = rw (can_match_nothing-map body, can_match_nothing-map rest)
  can_match_nothing-map _ = refl

  pub has_empty_round-map : (i : Items) → has_empty_round (items_with f i) ≡ has_empty_round i
  has_empty_round-map done = refl
  has_empty_round-map (item i rest) = has_empty_round-map rest
  has_empty_round-map (group_of d inner rest) = rw (has_empty_round-map inner, has_empty_round-map rest)
  has_empty_round-map (repetition body None op rest) =
      rw (can_match_nothing-map body, has_empty_round-map body, has_empty_round-map rest)
  has_empty_round-map (repetition body (Some sep) op rest) = rw (has_empty_round-map body, has_empty_round-map rest)
