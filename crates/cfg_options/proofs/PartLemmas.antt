-- Lists cut at commas, part by part.
use Rattle.std.proofs.Common.{◌≡◌, ◌+◌, ◌≤◌, ◌<◌, Bool, true, false, ◌∷◌, refl, sym, subst, ap, ◌∙◌, arith, if◌then◌else◌}
use Rattle.tt_data.specs.Forest.{Forest, empty, leaf, group, joined, size}
use Rattle.std.specs.Prelude.{Some, None}
use Rattle.tt_data.specs.declared.leaf.Leaf.{Leaf}
use Rattle.tt_data.specs.declared.leaf.Leaf.TheVariants as as_leaf
use Rattle.bridge.specs.Text.{is_punct}
use Rattle.small_grammar.specs.Text.{is_empty}
use Rattle.cfg_options.specs.Conditions.{cut_at_commas}
use Rattle.cfg_options.specs.Lists.{after_tree, begins_with_comma}
use Rattle.cfg_options.specs.Conditions.{after_part, first_part}

-- ---- one list after another

pub joined-none : (f : Forest) → joined f empty ≡ f
joined-none empty = refl
joined-none (leaf l rest) = ap (leaf l) (joined-none rest)
joined-none (group d inner rest) = ap (group d inner) (joined-none rest)

pub joined-more : (f g h : Forest) → joined (joined f g) h ≡ joined f (joined g h)
joined-more empty g h = refl
joined-more (leaf l rest) g h = ap (leaf l) (joined-more rest g h)
joined-more (group d inner rest) g h = ap (group d inner) (joined-more rest g h)

pub size-both : (f g : Forest) → size (joined f g) ≡ size f + size g
size-both empty g = omega arith
size-both (leaf l rest) g = omega (arith, size-both rest g)
size-both (group d inner rest) g = omega (arith, size-both rest g)

rest_of : Forest → Forest
rest_of empty = empty
rest_of (leaf l rest) = rest
rest_of (group d inner rest) = rest

-- what is before the same trees is the same
too_long : (f g : Forest) → 0 < size f → g ≡ joined f g → ⊥
too_long f g some e = let s : size g ≡ size f + size g = ap size e ∙ size-both f g in omega (arith, s, some)

pub same_front : (f g h : Forest) → joined f h ≡ joined g h → f ≡ g
same_front empty empty h e = refl
same_front empty (leaf l g) h e = absurd (too_long (leaf l g) h (omega arith) e)
same_front empty (group d a g) h e = absurd (too_long (group d a g) h (omega arith) e)
same_front (leaf l f) empty h e = absurd (too_long (leaf l f) h (omega arith) (sym e))
same_front (group d a f) empty h e = absurd (too_long (group d a f) h (omega arith) (sym e))
same_front (leaf l f) (leaf m g) h e = let r : f ≡ g = same_front f g h (cc e) in cc (e, r)
same_front (group d a f) (group c b g) h e = let r : f ≡ g = same_front f g h (cc e) in cc (e, r)
same_front (leaf l f) (group d a g) h e = absurd (cc e)
same_front (group d a f) (leaf l g) h e = absurd (cc e)

-- ---- the parts of a list

cut_leaf : (b : Bool) (l : Leaf) (begun rest : Forest)
    → cut_at_commas rest (joined begun (leaf l empty)) ≡ joined (joined begun (leaf l empty)) (first_part rest) ∷ cut_at_commas (after_part rest) empty
    → (if b then begun ∷ cut_at_commas rest empty else cut_at_commas rest (joined begun (leaf l empty)))
    ≡ joined begun (if b then empty else leaf l (first_part rest)) ∷ cut_at_commas (if b then rest else after_part rest) empty
cut_leaf true l begun rest e = ap (λ f. f ∷ cut_at_commas rest empty) (sym (joined-none begun))
cut_leaf false l begun rest e = e ∙ ap (λ f. f ∷ cut_at_commas (after_part rest) empty) (joined-more begun (leaf l empty) (first_part rest))

with_leaf : (f : Forest) (l : Leaf) → is_empty (joined f (leaf l empty)) ≡ false
with_leaf empty l = refl
with_leaf (leaf m f) l = refl
with_leaf (group d a f) l = refl

-- a part that is begun goes on to the first comma
cut_begun : (begun f : Forest) → is_empty begun ≡ false → cut_at_commas f begun ≡ joined begun (first_part f) ∷ cut_at_commas (after_part f) empty
cut_begun empty empty h = absurd (cc h)
cut_begun (leaf l b) empty h = ap (λ f. leaf l f ∷ cut_at_commas empty empty) (sym (joined-none b))
cut_begun (group d a b) empty h = ap (λ f. group d a f ∷ cut_at_commas empty empty) (sym (joined-none b))
cut_begun begun (leaf l rest) h =
    cut_leaf (is_punct "," l) l begun rest (cut_begun (joined begun (leaf l empty)) rest (with_leaf begun l))
cut_begun begun (group d inner rest) h =
    cut_begun (joined begun (group d inner empty)) rest (with_group begun)
    ∙ ap (λ f. f ∷ cut_at_commas (after_part rest) empty) (joined-more begun (group d inner empty) (first_part rest))
  where
    with_group : (f : Forest) → is_empty (joined f (group d inner empty)) ≡ false
    with_group empty = refl
    with_group (leaf m f) = refl
    with_group (group e a f) = refl

-- a list is its first part, and the parts after it
pub cut_first : (f : Forest) → is_empty f ≡ false → cut_at_commas f empty ≡ first_part f ∷ cut_at_commas (after_part f) empty
cut_first empty h = absurd (cc h)
cut_first (leaf l rest) h = cut_leaf (is_punct "," l) l empty rest (cut_begun (leaf l empty) rest refl)
cut_first (group d inner rest) h = cut_begun (group d inner empty) rest refl

both_sizes : (b : Bool) (l : Leaf) (rest : Forest) → size (first_part rest) + size (after_part rest) ≤ size rest
    → size (if b then empty else leaf l (first_part rest)) + size (if b then rest else after_part rest) ≤ 1 + size rest
both_sizes true l rest h = omega arith
both_sizes false l rest h = omega (arith, h)

pub part_sizes : (f : Forest) → size (first_part f) + size (after_part f) ≤ size f
part_sizes empty = omega arith
part_sizes (leaf l rest) = both_sizes (is_punct "," l) l rest (part_sizes rest)
part_sizes (group d inner rest) = omega (arith, part_sizes rest)

less_left : (b : Bool) (rest : Forest) → size (after_part rest) ≤ size rest → size (if b then rest else after_part rest) < 1 + size rest
less_left true rest h = omega arith
less_left false rest h = omega (arith, h)

-- what is after the first part is less
pub less_after : (f : Forest) → is_empty f ≡ false → size (after_part f) < size f
less_after empty h = absurd (cc h)
less_after (leaf l rest) h = less_left (is_punct "," l) rest (omega (arith, part_sizes rest))
less_after (group d inner rest) h = omega (arith, part_sizes rest)

-- ---- the way to the first comma

-- from `rest` on a list has the same first part and the same trees after it
pub record IsSplitAt (f rest : Forest) : Type 0 where
  pub front : Forest
  pub whole : f ≡ joined front rest
  pub part : first_part f ≡ joined front (first_part rest)
  pub after : after_part f ≡ after_part rest

pub split_start : (f : Forest) → IsSplitAt f f
split_start f = record { front = empty; whole = refl; part = refl; after = refl }

no_comma : (l : Leaf) (rest : Forest) → begins_with_comma (leaf l rest) ≡ false → is_punct "," l ≡ false
no_comma (as_leaf.Punct p) rest h = h
no_comma (as_leaf.Ident i) rest h = refl
no_comma (as_leaf.Literal l) rest h = refl

a_comma : (l : Leaf) (rest : Forest) → begins_with_comma (leaf l rest) ≡ true → is_punct "," l ≡ true
a_comma (as_leaf.Punct p) rest h = h
a_comma (as_leaf.Ident i) rest h = absurd (cc h)
a_comma (as_leaf.Literal l) rest h = absurd (cc h)

-- one tree on
pub split_on : (f rest after : Forest) → IsSplitAt f rest → begins_with_comma rest ≡ false → after_tree rest ≡ Some after → IsSplitAt f after
split_on f empty after s h e = absurd (cc e)
split_on f (leaf l rest) after s h e =
    let same : rest ≡ after = cc e in
    let none : is_punct "," l ≡ false = no_comma l rest h in
    let P : Forest → Type 0 = λ g. IsSplitAt f g in
    subst P same (record {
      front = joined s.front (leaf l empty);
      whole = s.whole ∙ sym (joined-more s.front (leaf l empty) rest);
      part =
          s.part
          ∙ ap (λ b. joined s.front (if b then empty else leaf l (first_part rest))) none
          ∙ sym (joined-more s.front (leaf l empty) (first_part rest));
      after = s.after ∙ ap (λ b. if b then rest else after_part rest) none;
    })
split_on f (group d inner rest) after s h e =
    let same : rest ≡ after = cc e in
    let P : Forest → Type 0 = λ g. IsSplitAt f g in
    subst P same (record {
      front = joined s.front (group d inner empty);
      whole = s.whole ∙ sym (joined-more s.front (group d inner empty) rest);
      part = s.part ∙ sym (joined-more s.front (group d inner empty) (first_part rest));
      after = s.after;
    })

-- at a comma, or at the end
pub part_at_comma : (f rest p : Forest) → IsSplitAt f rest → begins_with_comma rest ≡ true → f ≡ joined p rest → p ≡ first_part f
part_at_comma f empty p s h e = absurd (cc h)
part_at_comma f (group d inner rest) p s h e = absurd (cc h)
part_at_comma f (leaf l rest) p s h e =
    same_front p s.front (leaf l rest) (sym e ∙ s.whole)
    ∙ sym (s.part ∙ ap (λ b. joined s.front (if b then empty else leaf l (first_part rest))) (a_comma l rest h) ∙ joined-none s.front)

pub after_comma : (f rest after : Forest) → IsSplitAt f rest → begins_with_comma rest ≡ true → after_tree rest ≡ Some after → after ≡ after_part f
after_comma f empty after s h e = absurd (cc h)
after_comma f (group d inner rest) after s h e = absurd (cc h)
after_comma f (leaf l rest) after s h e =
    let same : rest ≡ after = cc e in
    sym same ∙ sym (s.after ∙ ap (λ b. if b then rest else after_part rest) (a_comma l rest h))

no_tree : (rest : Forest) → after_tree rest ≡ None → rest ≡ empty
no_tree empty e = refl
no_tree (leaf l rest) e = absurd (cc e)
no_tree (group d inner rest) e = absurd (cc e)

pub part_at_end : (f rest p : Forest) → IsSplitAt f rest → after_tree rest ≡ None → f ≡ joined p rest → p ≡ first_part f
part_at_end f rest p s h e =
    same_front p s.front rest (sym e ∙ s.whole)
    ∙ sym (s.part ∙ ap (λ g. joined s.front (first_part g)) (no_tree rest h) ∙ joined-none s.front)

pub rest_at_end : (f rest : Forest) → IsSplitAt f rest → after_tree rest ≡ None → rest ≡ after_part f
rest_at_end f rest s h = no_tree rest h ∙ sym (s.after ∙ ap after_part (no_tree rest h))
