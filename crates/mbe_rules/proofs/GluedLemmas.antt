-- Glued operators, by their first punct.
use Rattle.std.proofs.Common.{◌≡◌, refl, sym, ap, ◌∙◌, ℕ, zero, suc, ◌-◌, ◌≤◌, List, [], ◌∷◌, length, arith, Ok}
use Rattle.tt_data.specs.Forest.{Forest, leaf, joined}
use Rattle.tt_data.specs.declared.leaf.Leaf.{Leaf}
use Rattle.tt_data.specs.declared.leaf.Leaf.TheVariants as as_leaf
use Rattle.tt_data.specs.declared.leaf.Punct.{Punct}
use Rattle.tt.proofs.GluedLemmas.{punct_trees, glued-in_front, glued-one}
use Rattle.tt.specs.Glued.{glued_at, glued_count}
use Rattle.mbe_rules.specs.Items.{puncts, done, item}
use Rattle.mbe_rules.specs.Patterns.{glued}
use Rattle.mbe_rules.specs.Reading.{head_read}
use Rattle.mbe_rules.specs.Trees.{past, first_puncts}

all-first : (ps : List Punct) (g : Forest) → first_puncts (length ps) (joined (punct_trees ps) g) ≡ ps
all-first [] g = refl
all-first (p ∷ ps) g = ap (λ qs. p ∷ qs) (all-first ps g)

past-all : (ps : List Punct) (g : Forest) → past (length ps) (joined (punct_trees ps) g) ≡ g
past-all [] g = past-none g
  where
    past-none : (f : Forest) → past 0 f ≡ f
    past-none f = refl
past-all (p ∷ ps) g = past-all ps g

past-one : (n : ℕ) (l : Leaf) (f : Forest) → 1 ≤ n → past (n - 1) f ≡ past n (leaf l f)
past-one zero l f e = absurd (omega (arith, e))
past-one (suc n) l f e = let same : suc n - 1 ≡ n = omega arith in rw same refl

module _ (p : Punct) (x : Forest) where
  first-glued : first_puncts (glued_count (leaf (as_leaf.Punct p) x)) (leaf (as_leaf.Punct p) x) ≡ (glued_at p x).0
  first-glued =
      ap (first_puncts (glued_count (leaf (as_leaf.Punct p) x))) (sym (glued-in_front p x))
      ∙ all-first (glued_at p x).0 (glued_at p x).1

  past-glued : past (glued_count (leaf (as_leaf.Punct p) x) - 1) x ≡ (glued_at p x).1
  past-glued =
      past-one (glued_count (leaf (as_leaf.Punct p) x)) (as_leaf.Punct p) x (glued-one p x)
      ∙ ap (past (glued_count (leaf (as_leaf.Punct p) x))) (sym (glued-in_front p x))
      ∙ past-all (glued_at p x).0 (glued_at p x).1

  pub glued-read : (ps : List Punct) (g : Forest) → (ps, g) ≡ glued_at p x →
      Ok (item (puncts ps) done, g) ≡ head_read p x (Ok (glued (glued_count (leaf (as_leaf.Punct p) x))))
  glued-read ps g e =
      let qs = ap (λ (r : List Punct × Forest). r.0) e in
      let h = ap (λ (r : List Punct × Forest). r.1) e in
      rw (first-glued, past-glued, qs, h) refl
