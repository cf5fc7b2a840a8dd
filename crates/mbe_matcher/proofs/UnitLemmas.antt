-- The unit at a position, and what a metavariable takes there, do not depend on spans.
use Rattle.std.proofs.Common.{◌≡◌, refl, sym, ap, ◌∙◌, ℕ, zero, suc, ◌-◌, List, [], ◌∷◌, map}
use Rattle.tt_data.specs.Forest.{Forest, empty, leaf, group, shape, map_spans}
use Rattle.tt_data.specs.Spans.{delimiter_with}
use Rattle.tt_data.specs.declared.leaf.Leaf.TheVariants as as_leaf
use Rattle.tt_data.specs.declared.leaf.Punct.{Punct}
use Rattle.tt_data.specs.declared.span.Span.{Span}
use Rattle.tt.proofs.GluedLemmas.{glued_count-map, characters-map}
use Rattle.tt.specs.Glued.{glued_count}
use Rattle.mbe_rules.specs.Items.{Item, word, puncts, Separator, literal_between, puncts_between}
use Rattle.mbe_rules.specs.Relabelling.{punct_with, item_with, separator_with}
use Rattle.mbe_rules.specs.declared.parser.MetaVarKind.{MetaVarKind}
use Rattle.mbe_rules.specs.declared.parser.MetaVarKind.TheVariants as kind
use Rattle.mbe_rules.proofs.RelabelLemmas.{past-map}
use Rattle.mbe_matcher.specs.Fragments.{ident_trees, lifetime_trees, unsigned_trees, literal_trees, tree_trees, is_refused, is_refused_2021, taken}
use Rattle.mbe_matcher.specs.Grammar.{Grammar, reach, asked}
use Rattle.fragment_grammar.specs.Steps.{steps}
use Rattle.mbe_matcher.proofs.StepLemmas.{steps-group}
use Rattle.mbe_matcher.specs.Units.{UnitAt, a_name, glued, same_unit, unit_of, is_separator, Place, place, first_characters, punct_unit, unit_at, unit_trees, after_unit, left, is_end}
use Rattle.fragment_grammar.specs.declared.fragment.PrefixEntryPoint.{PrefixEntryPoint}
use Rattle.fragment_grammar.specs.declared.fragment.PrefixEntryPoint.TheVariants as entry

abbrev pub place_with : (Span → Span) → Place → Place
place_with f (place x outer) = place (map_spans f x) (map (map_spans f) outer)

module _ (f : Span → Span) where
  pub shape-map : (x : Forest) → shape (map_spans f x) ≡ shape x
  shape-map empty = refl
  shape-map (leaf (as_leaf.Ident i) rest) = rw (shape-map rest)
  shape-map (leaf (as_leaf.Literal l) rest) = rw (shape-map rest)
  shape-map (leaf (as_leaf.Punct p) rest) = rw (shape-map rest)
  shape-map (group d inner rest) = rw (shape-map inner, shape-map rest)

  pub steps-map : (x : Forest) → steps (map_spans f x) ≡ steps x
  steps-map empty = refl
  steps-map (leaf l rest) = rw (steps-map rest)
  steps-map (group d inner rest) =
      steps-group (delimiter_with f d) (map_spans f inner) (map_spans f rest) ∙ rw (steps-map inner, steps-map rest) (sym (steps-group d inner rest))

  pub reach-map : (x : Forest) (n : ℕ) → reach (map_spans f x) n ≡ reach x n
  reach-map empty zero = refl
  reach-map empty (suc n) = refl
  reach-map (leaf l rest) zero = refl
  reach-map (leaf l rest) (suc n) = rw (reach-map rest n)
  reach-map (group d inner rest) zero = refl
  reach-map (group d inner rest) (suc n) = rw (steps-map inner, reach-map rest (n - suc (steps inner)))

  pub asked-map : (g : Grammar) (e : PrefixEntryPoint) (x : Forest) → asked g e (map_spans f x) ≡ asked g e x
  asked-map g e x = rw (shape-map x, reach-map x (g e (shape x)).tokens)

  -- ---- units

  first_characters-map : (n : ℕ) (x : Forest) → first_characters n (map_spans f x) ≡ first_characters n x
  first_characters-map (suc n) (leaf (as_leaf.Punct p) rest) = rw (first_characters-map n rest)
  first_characters-map _ _ = refl

  glued-map : (x : Forest) → first_characters (glued_count (map_spans f x)) (map_spans f x) ≡ first_characters (glued_count x) x
  glued-map x = ap (λ n. first_characters n (map_spans f x)) (glued_count-map f x) ∙ first_characters-map (glued_count x) x

  punct_unit-map : (p : Punct) (x : Forest) → punct_unit (punct_with f p) (map_spans f x) ≡ punct_unit p x
  punct_unit-map p (leaf (as_leaf.Ident i) rest) = refl
  punct_unit-map p x = ap glued (glued-map (leaf (as_leaf.Punct p) x))

  pub unit_at-map : (p : Place) → unit_at (place_with f p) ≡ unit_at p
  unit_at-map (place (leaf (as_leaf.Punct p) rest) outer) = punct_unit-map p rest
  unit_at-map (place empty (x ∷ outer)) = refl
  unit_at-map (place empty []) = refl
  unit_at-map _ = refl

  unit_trees-map : (x : Forest) → unit_trees (map_spans f x) ≡ unit_trees x
  unit_trees-map (leaf (as_leaf.Punct p) (leaf (as_leaf.Ident i) rest)) = refl
  unit_trees-map (leaf (as_leaf.Punct p) rest) = glued_count-map f (leaf (as_leaf.Punct p) rest)
  unit_trees-map _ = refl

  pub after_unit-map : (p : Place) → after_unit (place_with f p) ≡ place_with f (after_unit p)
  after_unit-map (place (leaf l rest) outer) =
      rw (unit_trees-map (leaf l rest), past-map f (unit_trees (leaf l rest)) (leaf l rest))
  after_unit-map (place (group d inner rest) outer) = refl
  after_unit-map (place empty (x ∷ outer)) = refl
  after_unit-map (place empty []) = refl

  pub left-map : (x : Forest) (outer : List Forest) → left (place (map_spans f x) (map (map_spans f) outer)) ≡ left (place x outer)
  left-map x [] = steps-map x
  left-map x (y ∷ outer) = rw (steps-map x, left-map y outer)

  pub is_end-map : (p : Place) → is_end (place_with f p) ≡ is_end p
  is_end-map (place empty []) = refl
  is_end-map (place empty (x ∷ outer)) = refl
  is_end-map _ = refl

  pub unit_of-map : (i : Item) → unit_of (item_with f i) ≡ unit_of i
  unit_of-map (puncts ps) = rw (characters-map f ps)
  unit_of-map (word (as_leaf.Ident i)) = refl
  unit_of-map (word (as_leaf.Literal l)) = refl
  unit_of-map (word (as_leaf.Punct p)) = refl
  unit_of-map _ = refl

  pub is_separator-map : (s : Separator) (u : UnitAt) → is_separator (separator_with f s) u ≡ is_separator s u
  is_separator-map (literal_between l) (a_name n) = refl
  is_separator-map (puncts_between ps) u = ap (λ cs. same_unit (glued cs) u) (characters-map f ps)
  is_separator-map _ _ = refl

  -- ---- fragments

  lifetime_trees-map : (x : Forest) → lifetime_trees (map_spans f x) ≡ lifetime_trees x
  lifetime_trees-map (leaf (as_leaf.Punct p) (leaf (as_leaf.Ident i) rest)) = refl
  lifetime_trees-map _ = refl

  unsigned_trees-map : (x : Forest) → unsigned_trees (map_spans f x) ≡ unsigned_trees x
  unsigned_trees-map (leaf (as_leaf.Ident i) rest) = refl
  unsigned_trees-map (leaf (as_leaf.Literal l) rest) = refl
  unsigned_trees-map _ = refl

  literal_trees-map : (x : Forest) → literal_trees (map_spans f x) ≡ literal_trees x
  literal_trees-map (leaf (as_leaf.Punct p) rest) = rw (unsigned_trees-map rest)
  literal_trees-map (leaf (as_leaf.Ident i) rest) = refl
  literal_trees-map (leaf (as_leaf.Literal l) rest) = refl
  literal_trees-map _ = refl

  tree_trees-map : (x : Forest) → tree_trees (map_spans f x) ≡ tree_trees x
  tree_trees-map (leaf (as_leaf.Punct p) rest) =
      rw (lifetime_trees-map (leaf (as_leaf.Punct p) rest), glued_count-map f (leaf (as_leaf.Punct p) rest))
  tree_trees-map (leaf (as_leaf.Ident i) rest) = refl
  tree_trees-map (leaf (as_leaf.Literal l) rest) = refl
  tree_trees-map _ = refl

  ident_trees-map : (x : Forest) → ident_trees (map_spans f x) ≡ ident_trees x
  ident_trees-map (leaf (as_leaf.Ident i) rest) = refl
  ident_trees-map _ = refl

  is_refused-map : (x : Forest) → is_refused (map_spans f x) ≡ is_refused x
  is_refused-map (leaf (as_leaf.Ident i) rest) = refl
  is_refused-map _ = refl

  is_refused_2021-map : (x : Forest) → is_refused_2021 (map_spans f x) ≡ is_refused_2021 x
  is_refused_2021-map (leaf (as_leaf.Ident i) rest) = refl
  is_refused_2021-map _ = refl

  pub taken-map : (g : Grammar) (k : MetaVarKind) (x : Forest) → taken g k (map_spans f x) ≡ taken g k x
  taken-map g kind.Ident x = ident_trees-map x
  taken-map g kind.Tt x = tree_trees-map x
  taken-map g kind.Lifetime x = lifetime_trees-map x
  taken-map g kind.Literal x = literal_trees-map x
  taken-map g kind.Expr x = rw (is_refused-map x, asked-map g entry.Expr x)
  taken-map g kind.Expr2021 x = rw (is_refused_2021-map x, asked-map g entry.Expr x)
  taken-map g kind.Path x = asked-map g entry.Path x
  taken-map g kind.Ty x = asked-map g entry.Ty x
  taken-map g kind.Pat x = asked-map g entry.PatTop x
  taken-map g kind.PatParam x = asked-map g entry.Pat x
  taken-map g kind.Stmt x = asked-map g entry.Stmt x
  taken-map g kind.Block x = asked-map g entry.Block x
  taken-map g kind.Meta x = asked-map g entry.MetaItem x
  taken-map g kind.Item x = asked-map g entry.Item x
  taken-map g kind.Vis x = asked-map g entry.Vis x
