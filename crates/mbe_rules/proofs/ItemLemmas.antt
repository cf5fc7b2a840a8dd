-- The ops of a list of trees, one after another.
use Rattle.std.proofs.Common.{◌≡◌, refl, sym, ap, subst, ◌∙◌, ℕ, zero, suc, ◌+◌, ◌<◌, ◌≤◌, Bool, true, false, List, [], ◌∷◌, ◌++◌, Option, Some, None, Ok, Err, if◌then◌else◌, arith}
use Rattle.tt_data.specs.Forest.{Forest, empty, leaf, group, size}
use Rattle.tt_data.specs.declared.delimiter.Delimiter.{Delimiter}
use Rattle.tt_data.specs.declared.edition.Edition.{Edition}
use Rattle.tt_data.specs.declared.leaf.Leaf.TheVariants as as_leaf
use Rattle.tt_data.specs.declared.leaf.Punct.{Punct}
use Rattle.tt_data.specs.declared.span.SyntaxContext.{SyntaxContext}
use Rattle.mbe_rules.specs.Items as spec
use Rattle.mbe_rules.specs.Items.{Item, word, Items, done, item, group_of, repetition}
use Rattle.mbe_rules.specs.Ops as ops
use Rattle.mbe_rules.specs.Ops.{put_op, separator_of}
use Rattle.mbe_rules.specs.Parsed.{Parsed, ◌>>=◌, or_fault}
use Rattle.mbe_rules.specs.Patterns.{Mode, Head, trees_of, item_of, head_at, with_item, with_head, with_repetition, is_repetition, items_after, items_of}
use Rattle.mbe_rules.specs.Reading.{head_read, joined_items, behind, continued, repetition_parts, taken_from}
use Rattle.mbe_rules.specs.Repetitions.{Between, trees_between, separator_in, between_and_operator, repeated}
use Rattle.mbe_rules.specs.Trees.{past, signs}
use Rattle.mbe_rules.specs.declared.errors.ParseError.TheVariants.{InvalidRepeat}
use Rattle.mbe_rules.specs.declared.parser.Op.{Op, Repeat', Subtree'}
use Rattle.mbe_rules.specs.declared.parser.RepeatKind.{RepeatKind}

pub joined_items-done : (is : Items) → joined_items is done ≡ is
joined_items-done done = refl
joined_items-done (item i rest) = ap (item i) (joined_items-done rest)
joined_items-done (group_of d inner rest) = ap (group_of d inner) (joined_items-done rest)
joined_items-done (repetition body sep op rest) = ap (repetition body sep op) (joined_items-done rest)

pub joined_items-grouping : (is js ks : Items) → joined_items (joined_items is js) ks ≡ joined_items is (joined_items js ks)
joined_items-grouping done js ks = refl
joined_items-grouping (item i rest) js ks = ap (item i) (joined_items-grouping rest js ks)
joined_items-grouping (group_of d inner rest) js ks = ap (group_of d inner) (joined_items-grouping rest js ks)
joined_items-grouping (repetition body sep op rest) js ks = ap (repetition body sep op) (joined_items-grouping rest js ks)

-- items after items after items
pub behind-behind : (is js : Items) (r : Parsed Items) → behind is (behind js r) ≡ behind (joined_items is js) r
behind-behind is js (Ok ks) = ap Ok (sym (joined_items-grouping is js ks))
behind-behind is js (Err e) = refl

pub behind-done : (is : Items) → behind is (Ok done) ≡ Ok is
behind-done is = ap Ok (joined_items-done is)

pub put-behind : (o : Op) (rest : Items) → put_op o rest ≡ joined_items (put_op o done) rest
put-behind (Repeat' shape row sep kind) rest = refl
put-behind (Subtree' shape row d) rest = refl
put-behind _ rest = refl

-- one more item
pub items_of-push : (os : List Op) (o : Op) → ops.items_of (os ++ (o ∷ [])) ≡ joined_items (ops.items_of os) (put_op o done)
items_of-push [] o = refl
items_of-push (p ∷ os) o =
    ap (put_op p) (items_of-push os o) ∙ put-behind p (joined_items (ops.items_of os) (put_op o done))
    ∙ sym (joined_items-grouping (put_op p done) (ops.items_of os) (put_op o done))
    ∙ ap (λ is. joined_items is (put_op o done)) (sym (put-behind p (ops.items_of os)))

pub past-size : (n : ℕ) (f : Forest) → size (past n f) ≤ size f
past-size zero f = omega arith
past-size (suc n) empty = omega arith
past-size (suc n) (leaf l rest) = let i = past-size n rest in omega arith
past-size (suc n) (group d inner rest) = let i = past-size n rest in omega arith

with_item-behind : (i : Item) (r : Parsed Items) → with_item i r ≡ behind (item i done) r
with_item-behind i (Ok js) = refl
with_item-behind i (Err e) = refl

module _ (edition : SyntaxContext → Edition) (m : Mode) where
  -- trees that are skipped
  skipped : (n : ℕ) (f : Forest) → items_after edition m n f ≡ items_of edition m (past n f)
  skipped zero f = refl
  skipped (suc n) empty = refl
  skipped (suc n) (leaf l rest) = skipped n rest
  skipped (suc n) (group d inner rest) = skipped n rest

  -- ---- a punct that begins no repetition

  head-continued : (p : Punct) (f : Forest) (h : Parsed Head) →
      (h >>= with_head p f (λ n. items_after edition m n f)) ≡ continued edition m (head_read p f h)
  head-continued p f (Ok x) =
      ap (with_item (item_of x p f)) (skipped (trees_of x) f) ∙ with_item-behind (item_of x p f) (items_of edition m (past (trees_of x) f))
  head-continued p f (Err x) = refl

  -- what a punct before a group gives, by whether it begins a repetition
  abbrev before_group : Punct → Delimiter → Forest → Forest → Bool → Parsed Items
  before_group p d inner rest b =
      elim b as (λ _. Parsed Items) [
        | true ↦ repeated rest >>= with_repetition rest (items_after edition m 0 inner) (λ n. items_after edition m n rest)
        | false ↦ head_at edition m p (group d inner rest)
            >>= with_head p (group d inner rest) (λ n. items_after edition m n (group d inner rest))
      ]

  no-parts : (b : Bool) (x : Forest × Forest) → (if b then Some x else None) ≡ None → b ≡ false
  no-parts true x h = absurd (cc h)
  no-parts false x h = refl

  pub head-first : (p : Punct) (f : Forest) → repetition_parts p f ≡ None →
      items_of edition m (leaf (as_leaf.Punct p) f) ≡ continued edition m (head_read p f (head_at edition m p f))
  head-first p empty h = head-continued p empty (head_at edition m p empty)
  head-first p (leaf l rest) h = head-continued p (leaf l rest) (head_at edition m p (leaf l rest))
  head-first p (group d inner rest) h =
      ap (before_group p d inner rest) (no-parts (is_repetition p d) (inner, rest) h)
      ∙ head-continued p (group d inner rest) (head_at edition m p (group d inner rest))

  -- it leaves no more trees than there are after the punct
  pub head-size : (p : Punct) (f : Forest) (h : Parsed Head) (r : Items × Forest) → Ok r ≡ head_read p f h → size r.1 ≤ size f
  head-size p f (Ok x) r e =
      let k : r.1 ≡ past (trees_of x) f = cc in
      let i = past-size (trees_of x) f in
      rw k i
  head-size p f (Err x) r e = absurd (cc e)

  -- ---- a repetition

  record Parts (p : Punct) (f inner rest : Forest) : Type 0 where
    pub d : Delimiter
    pub is : f ≡ group d inner rest
    pub holds : is_repetition p d ≡ true

  parts : (p : Punct) (f inner rest : Forest) → repetition_parts p f ≡ Some (inner, rest) → Parts p f inner rest
  parts p empty inner rest h = absurd (cc h)
  parts p (leaf l more) inner rest h = absurd (cc h)
  parts p (group d i r) inner rest h = go (is_repetition p d) refl h
    where
      both : Forest × Forest
      both = (i, r)

      wanted : Forest × Forest
      wanted = (inner, rest)

      go : (b : Bool) → is_repetition p d ≡ b → (if b then Some both else None) ≡ Some wanted → Parts p (group d i r) inner rest
      go true k h = let same : both ≡ wanted = cc in record { d = d; is = ap (λ (x : Forest × Forest). group d x.0 x.1) same; holds = k }
      go false k h = absurd (cc h)

  repetition-first : (p : Punct) (f inner rest : Forest) → repetition_parts p f ≡ Some (inner, rest) →
      items_of edition m (leaf (as_leaf.Punct p) f)
      ≡ (repeated rest >>= with_repetition rest (items_of edition m inner) (λ n. items_after edition m n rest))
  repetition-first p f inner rest h =
      let q = parts p f inner rest h in
      ap (λ x. items_of edition m (leaf (as_leaf.Punct p) x)) q.is ∙ ap (before_group p q.d inner rest) q.holds

  repetition-size : (p : Punct) (f inner rest : Forest) → repetition_parts p f ≡ Some (inner, rest) → size f ≡ suc (size inner + size rest)
  repetition-size p f inner rest h = let q = parts p f inner rest h in ap size q.is ∙ omega arith

  -- after a repetition's parenthesis: what is inside, before what follows the operator
  after-operator : (f : Forest) (r : Parsed Items) (b : Between × RepeatKind) →
      with_repetition f r (λ n. items_after edition m n f) b
      ≡ (r >>= λ is. behind (repetition is (separator_in b.0 f) b.1 done) (items_of edition m (past (trees_between b.0 + 1) f)))
  after-operator f (Err g) b = refl
  after-operator f (Ok is) b =
      ap (λ x. x >>= λ js. Ok (repetition is (separator_in b.0 f) b.1 js)) (skipped (trees_between b.0 + 1) f)
      ∙ go (items_of edition m (past (trees_between b.0 + 1) f))
    where
      go : (r : Parsed Items) → (r >>= λ js. Ok (repetition is (separator_in b.0 f) b.1 js)) ≡ behind (repetition is (separator_in b.0 f) b.1 done) r
      go (Ok js) = refl
      go (Err g) = refl

  -- the items of a repetition inside, before those after its operator, and how many trees these are
  pub repetition-read : (p : Punct) (f inner rest : Forest) (x : Option spec.Separator × RepeatKind × Forest) → repetition_parts p f ≡ Some (inner, rest) →
      taken_from rest (between_and_operator (signs rest)) ≡ Some x →
      (items_of edition m (leaf (as_leaf.Punct p) f) ≡ (items_of edition m inner >>= λ is. behind (repetition is x.0 x.1 done) (items_of edition m x.2)))
      × (size inner + size x.2 < size f)
  repetition-read p f inner rest x h some =
      let q = repetition-size p f inner rest h in
      let g = go (between_and_operator (signs rest)) some in
      (repetition-first p f inner rest h ∙ g.0, let k = g.1 in omega (arith, q, k))
    where
      go : (o : Option (Between × RepeatKind)) → taken_from rest o ≡ Some x →
          ((or_fault o (Err InvalidRepeat) >>= with_repetition rest (items_of edition m inner) (λ n. items_after edition m n rest))
          ≡ (items_of edition m inner >>= λ is. behind (repetition is x.0 x.1 done) (items_of edition m x.2)))
          × (size x.2 ≤ size rest)
      go None k = absurd (cc k)
      go (Some b) k =
          let same : (separator_in b.0 rest, b.1, past (trees_between b.0 + 1) rest) ≡ x = cc in
          let s = past-size (trees_between b.0 + 1) rest in (
            after-operator rest (items_of edition m inner) b
                ∙ ap (λ (y : Option spec.Separator × RepeatKind × Forest). items_of edition m inner >>= λ is. behind (repetition is y.0 y.1 done) (items_of edition m y.2)) same,
            subst (λ (y : Option spec.Separator × RepeatKind × Forest). size y.2 ≤ size rest) same s,
          )
