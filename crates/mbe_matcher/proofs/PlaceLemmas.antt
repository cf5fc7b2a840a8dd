-- Lists of trees, by their number.
use Rattle.std.proofs.Common.{◌≡◌, refl, sym, ap, ◌∙◌, ℕ, zero, suc, ◌+◌, ◌-◌, ◌≤◌, ◌<◌, subst, Bool, true, false, [], ◌∷◌, nat_le, Option, Some, None, if◌then◌else◌, arith}
use Rattle.mbe_matcher.specs.Grammar.{one_further, reach}
use Rattle.fragment_grammar.specs.Steps.{steps}
use Rattle.mbe_matcher.specs.Places.{left_after}
use Rattle.std.proofs.Math.Dec.{leb-suc-zero}
use Rattle.std.proofs.lemmas.Bool.{le-leb, lt-leb}
use Rattle.tt.specs.Elements.{IsNext}
use Rattle.tt.specs.declared.iter.TtElement.{TtElement}
use Rattle.tt.specs.declared.iter.TtElement.TheVariants as element
use Rattle.tt_data.specs.declared.leaf.Leaf.{Leaf}
use Rattle.tt_data.specs.declared.tree.Subtree.{Subtree}
use Rattle.tt_data.specs.declared.leaf.Leaf.TheVariants as as_leaf
use Rattle.tt.specs.Glued.{glued_count}
use Rattle.tt.specs.FirstTrees.{first_group, first_leaf, first_punct}
use Rattle.tt_data.specs.declared.delimiter.Delimiter.{Delimiter}
use Rattle.tt_data.specs.declared.leaf.Punct.{Punct}
use Rattle.mbe_matcher.specs.Units.{unit_trees, first_characters}
use Rattle.tt.proofs.GluedLemmas.{glued-one}
use Rattle.tt_data.specs.Forest.{Forest, empty, leaf, group, joined}
use Rattle.mbe_rules.specs.Trees.{before, past}

pub past-empty : (n : ℕ) → past n empty ≡ empty
past-empty zero = refl
past-empty (suc n) = refl

pub before-past : (n : ℕ) (f : Forest) → f ≡ joined (before n f) (past n f)
before-past zero f = refl
before-past (suc n) empty = refl
before-past (suc n) (leaf l rest) = ap (leaf l) (before-past n rest)
before-past (suc n) (group d inner rest) = ap (group d inner) (before-past n rest)

-- the trees after the first one, by what that is
pub after_leaf : (f : Forest) (x : Leaf × Forest) → first_leaf f ≡ Some x → x.1 ≡ past 1 f
after_leaf empty x e = absurd (cc e)
after_leaf (group d inner rest) x e = absurd (cc e)
after_leaf (leaf l rest) x e = let i : (let y : Leaf × Forest = (l, rest) in y) ≡ x = cc in ap (λ (y : Leaf × Forest). y.1) (sym i)

pub after_group : (f : Forest) (x : Delimiter × Forest × Forest) → first_group f ≡ Some x → x.2 ≡ past 1 f
after_group empty x e = absurd (cc e)
after_group (leaf l rest) x e = absurd (cc e)
after_group (group d inner rest) x e = let i : (let y : Delimiter × Forest × Forest = (d, inner, rest) in y) ≡ x = cc in ap (λ (y : Delimiter × Forest × Forest). y.2) (sym i)

pub after_nothing : (f : Forest) → first_leaf f ≡ None → first_group f ≡ None → f ≡ past 1 f
after_nothing empty e h = refl
after_nothing (leaf l rest) e h = absurd (cc e)
after_nothing (group d inner rest) e h = absurd (cc h)

pub past_step : (n m : ℕ) (f : Forest) → m + 1 ≡ n → past m (past 1 f) ≡ past n f
past_step n m f e = let i : suc m ≡ n = omega (arith, e) in rw (← i) (go f)
  where
    go : (g : Forest) → past m (past 1 g) ≡ past (suc m) g
    go empty = past-empty m
    go (leaf l rest) = refl
    go (group d inner rest) = refl

pub past-next : (n m : ℕ) (f g : Forest) (o : Option TtElement) → IsNext f o g → m + 1 ≡ n → past m g ≡ past n f
past-next n m f g None (a, b) e = rw (a, b) (past-empty m ∙ sym (past-empty n))
past-next n m f g (Some (element.Leaf l)) h e = let i : suc m ≡ n = omega (arith, e) in rw (h, ← i) refl
past-next n m f g (Some (element.Subtree s inner)) h e = let i : suc m ≡ n = omega (arith, e) in rw (h.0, ← i) refl

-- a list that begins with no punct has a unit of one tree
pub no-glue : (f : Forest) → glued_count f ≡ 0 → 1 ≡ unit_trees f
no-glue empty e = refl
no-glue (group d inner rest) e = refl
no-glue (leaf (as_leaf.Ident i) rest) e = refl
no-glue (leaf (as_leaf.Literal l) rest) e = refl
no-glue (leaf (as_leaf.Punct p) rest) e = let k = glued-one p rest in absurd (omega (arith, k, e))

pub left-leaf : (l : Leaf) (n : ℕ) → (n ≡ 0 → ⊥) → Some (n - 1) ≡ left_after (element.Leaf l) n
left-leaf l zero h = absurd (h refl)
left-leaf l (suc n) h = let e : suc n - 1 ≡ n = omega arith in rw e refl

pub left-less : (s : Subtree) (inner : Forest) (n : ℕ) → n < 2 → None ≡ left_after (element.Subtree s inner) n
left-less s inner zero h = refl
left-less s inner (suc zero) h = rw (leb-suc-zero (steps inner)) refl
left-less s inner (suc (suc n)) h = absurd (omega (arith, h))

pub left-short : (s : Subtree) (inner : Forest) (n : ℕ) → 2 ≤ n → n - 2 < steps inner → None ≡ left_after (element.Subtree s inner) n
left-short s inner zero h k = absurd (omega (arith, h))
left-short s inner (suc zero) h k = absurd (omega (arith, h))
left-short s inner (suc (suc n)) h k =
    let e : nat_le (suc (steps inner)) (suc n) ≡ false = lt-leb (suc (steps inner)) (suc n) (omega (arith, k)) in
    rw e refl

pub left-group : (s : Subtree) (inner : Forest) (n : ℕ) → 2 ≤ n → (n - 2 < steps inner → ⊥) →
    Some (n - 2 - steps inner) ≡ left_after (element.Subtree s inner) n
left-group s inner zero h k = absurd (omega (arith, h))
left-group s inner (suc zero) h k = absurd (omega (arith, h))
left-group s inner (suc (suc n)) h k =
    let a : suc (suc n) - 2 - steps inner ≡ suc n - suc (steps inner) = omega arith in
    let e : nat_le (suc (steps inner)) (suc n) ≡ true = le-leb (suc (steps inner)) (suc n) (omega (arith, k)) in
    rw (a, e) refl

-- how far some steps reach, by the first tree
pub reach-next : (n m : ℕ) (f g : Forest) (t : TtElement) → IsNext f (Some t) g → left_after t n ≡ Some m →
    (reach f n ≡ one_further (reach g m)) × (m + 1 ≤ n)
reach-next zero m f g t h e = absurd (cc e)
reach-next (suc n) m f g (element.Leaf l) h e = let i : n ≡ m = cc in (rw (h, i) refl, omega (arith, i))
reach-next (suc n) m f g (element.Subtree s inner) h e =
    subst (λ x. (reach x (suc n) ≡ one_further (reach g m)) × (m + 1 ≤ suc n)) (sym h.0) (go (nat_le (suc (steps inner)) n) e)
  where
    go : (b : Bool) → (if b then Some (n - suc (steps inner)) else None) ≡ Some m →
        ((if b then one_further (reach g (n - suc (steps inner))) else (1, true)) ≡ one_further (reach g m)) × (m + 1 ≤ suc n)
    go true e = let i : n - suc (steps inner) ≡ m = cc in (rw i refl, omega (arith, i))
    go false e = absurd (cc e)

pub reach-inside : (n : ℕ) (f g : Forest) (t : TtElement) → IsNext f (Some t) g → 1 ≤ n → left_after t n ≡ None → reach f n ≡ (1, true)
reach-inside zero f g t h k e = absurd (omega (arith, k))
reach-inside (suc n) f g (element.Leaf l) h k e = absurd (cc e)
reach-inside (suc n) f g (element.Subtree s inner) h k e = subst (λ x. reach x (suc n) ≡ (1, true)) (sym h.0) (go (nat_le (suc (steps inner)) n) e)
  where
    go : (b : Bool) → (if b then Some (n - suc (steps inner)) else None) ≡ None →
        (if b then one_further (reach g (n - suc (steps inner))) else (1, true)) ≡ (1, true)
    go true e = absurd (cc e)
    go false e = refl

pub reach-nothing : (n : ℕ) (f g : Forest) → IsNext f None g → 1 ≤ n → reach f n ≡ (0, true)
reach-nothing zero f g h k = absurd (omega (arith, k))
reach-nothing (suc n) f g h k = rw h.0 refl

-- so many trees further
abbrev pub further : ℕ → ℕ × Bool → ℕ × Bool
further c r = (r.0 + c, r.1)

pub further-one : (r : ℕ × Bool) (c : ℕ) → further (c + 1) r ≡ further c (one_further r)
further-one r c = let e : r.0 + (c + 1) ≡ suc r.0 + c = omega arith in ap (λ n. (n, r.1)) e

-- what a walk over the trees has counted when it ends
pub reached-end : (r all : ℕ × Bool) (c k : ℕ) (b : Bool) → further c r ≡ all → r ≡ (k, b) → (let x : ℕ × Bool = (k + c, b) in x) ≡ all
reached-end r all c k b h e = ap (further c) (sym e) ∙ h

-- no punct at the head of a list, and one
pub no_punct : (n : ℕ) (f : Forest) → first_punct f ≡ None → first_characters n f ≡ []
no_punct zero f e = refl
no_punct (suc n) empty e = refl
no_punct (suc n) (group d inner rest) e = refl
no_punct (suc n) (leaf (as_leaf.Ident i) rest) e = refl
no_punct (suc n) (leaf (as_leaf.Literal l) rest) e = refl
no_punct (suc n) (leaf (as_leaf.Punct p) rest) e = absurd (cc e)

pub a_punct : (n : ℕ) (f : Forest) (x : Punct × Forest) → first_punct f ≡ Some x → (n ≡ 0 → ⊥) →
    first_characters n f ≡ x.0.char ∷ first_characters (n - 1) x.1
a_punct zero f x e h = absurd (h refl)
a_punct (suc n) empty x e h = absurd (cc e)
a_punct (suc n) (group d inner rest) x e h = absurd (cc e)
a_punct (suc n) (leaf (as_leaf.Ident i) rest) x e h = absurd (cc e)
a_punct (suc n) (leaf (as_leaf.Literal l) rest) x e h = absurd (cc e)
a_punct (suc n) (leaf (as_leaf.Punct p) rest) x e h =
    let i : (let y : Punct × Forest = (p, rest) in y) ≡ x = cc in
    let m : suc n - 1 ≡ n = omega arith in rw (m, ← i) refl
