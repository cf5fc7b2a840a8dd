-- The unit at the head of a list, by the first tree, borrowed.
use Rattle.std.proofs.Common.{◌≡◌, refl, sym, ap, ℕ, Bool, true, false, List, [], ◌∷◌, Some, None, if◌then◌else◌}
use Rattle.tt_data.specs.Forest.{Forest, empty, leaf, group}
use Rattle.tt_data.specs.declared.delimiter.Delimiter.{Delimiter}
use Rattle.tt_data.specs.declared.delimiter.DelimiterKind.{DelimiterKind}
use Rattle.tt_data.specs.declared.leaf.Ident.{Ident}
use Rattle.tt_data.specs.declared.leaf.Leaf.{Leaf}
use Rattle.tt_data.specs.declared.leaf.Leaf.TheVariants as as_leaf
use Rattle.tt_data.specs.declared.leaf.Punct.{Punct}
use Rattle.tt.specs.FirstTrees.{first_group, first_ident, first_leaf, first_punct}
use Rattle.mbe_rules.specs.Text.{is_char, same_kind, same_text}
use Rattle.mbe_rules.specs.Trees.{past}
use Rattle.mbe_matcher.specs.Fragments.{ident_trees, is_refused, literal_trees, tree_trees, unsigned_trees}
use Rattle.mbe_matcher.specs.Places.{quoted_name}
use Rattle.mbe_matcher.specs.Units.{place, a_name, a_lifetime, a_literal, glued, opening, punct_unit, same_unit, unit_at, unit_trees, after_unit}

-- what a list begins with
pub a_leaf : (f : Forest) (x : Leaf × Forest) → first_leaf f ≡ Some x → f ≡ leaf x.0 x.1
a_leaf empty x e = absurd (cc e)
a_leaf (group d inner rest) x e = absurd (cc e)
a_leaf (leaf l rest) x e = let i : (let y : Leaf × Forest = (l, rest) in y) ≡ x = cc in ap (λ (y : Leaf × Forest). leaf y.0 y.1) i

pub an_ident : (f : Forest) (x : Ident × Forest) → first_ident f ≡ Some x → f ≡ leaf (as_leaf.Ident x.0) x.1
an_ident empty x e = absurd (cc e)
an_ident (group d inner rest) x e = absurd (cc e)
an_ident (leaf (as_leaf.Literal l) rest) x e = absurd (cc e)
an_ident (leaf (as_leaf.Punct p) rest) x e = absurd (cc e)
an_ident (leaf (as_leaf.Ident l) rest) x e = let i : (let y : Ident × Forest = (l, rest) in y) ≡ x = cc in ap (λ (y : Ident × Forest). leaf (as_leaf.Ident y.0) y.1) i

pub a_punct_leaf : (f : Forest) (x : Punct × Forest) → first_punct f ≡ Some x → f ≡ leaf (as_leaf.Punct x.0) x.1
a_punct_leaf empty x e = absurd (cc e)
a_punct_leaf (group d inner rest) x e = absurd (cc e)
a_punct_leaf (leaf (as_leaf.Literal l) rest) x e = absurd (cc e)
a_punct_leaf (leaf (as_leaf.Ident p) rest) x e = absurd (cc e)
a_punct_leaf (leaf (as_leaf.Punct l) rest) x e = let i : (let y : Punct × Forest = (l, rest) in y) ≡ x = cc in ap (λ (y : Punct × Forest). leaf (as_leaf.Punct y.0) y.1) i

-- a tree for `tt`
pub tree_else : (f : Forest) → first_punct f ≡ None → (f ≡ empty → ⊥) → Some 1 ≡ tree_trees f
tree_else empty e h = absurd (h refl)
tree_else (group d inner rest) e h = refl
tree_else (leaf (as_leaf.Ident i) rest) e h = refl
tree_else (leaf (as_leaf.Literal l) rest) e h = refl
tree_else (leaf (as_leaf.Punct p) rest) e h = absurd (cc e)

-- a name for `ident`
pub no_ident : (f : Forest) → first_ident f ≡ None → None ≡ ident_trees f
no_ident empty e = refl
no_ident (group d inner rest) e = refl
no_ident (leaf (as_leaf.Ident i) rest) e = absurd (cc e)
no_ident (leaf (as_leaf.Literal l) rest) e = refl
no_ident (leaf (as_leaf.Punct p) rest) e = refl

-- a name of a pattern
pub named : (n : List ℕ) (f : Forest) (outer : List Forest) (x : Ident × Forest) → first_ident f ≡ Some x →
    same_text n x.0.sym ≡ same_unit (a_name n) (unit_at (place f outer))
named n f outer x e = rw (an_ident f x e) refl

-- what a punct begins is no name
no_name_there : (n : List ℕ) (p : Punct) (rest : Forest) → false ≡ same_unit (a_name n) (punct_unit p rest)
no_name_there n p empty = refl
no_name_there n p (group d inner rest) = refl
no_name_there n p (leaf (as_leaf.Literal l) rest) = refl
no_name_there n p (leaf (as_leaf.Punct q) rest) = refl
no_name_there n p (leaf (as_leaf.Ident i) rest) = go (is_char "'" p)
  where
    go : (b : Bool) → false ≡ same_unit (a_name n) (if b then a_lifetime i.sym else glued (p.char ∷ []))
    go true = refl
    go false = refl

pub unnamed : (n : List ℕ) (f : Forest) (outer : List Forest) → first_ident f ≡ None → false ≡ same_unit (a_name n) (unit_at (place f outer))
unnamed n empty [] e = refl
unnamed n empty (g ∷ outer) e = refl
unnamed n (group d inner rest) outer e = refl
unnamed n (leaf (as_leaf.Ident i) rest) outer e = absurd (cc e)
unnamed n (leaf (as_leaf.Literal l) rest) outer e = refl
unnamed n (leaf (as_leaf.Punct p) rest) outer e = no_name_there n p rest

-- past a unit that is no bracket
pub past_unit : (f : Forest) (outer : List Forest) → first_group f ≡ None → (f ≡ empty → ⊥) →
    place (past (unit_trees f) f) outer ≡ after_unit (place f outer)
past_unit empty outer e h = absurd (h refl)
past_unit (group d inner rest) outer e h = absurd (cc e)
past_unit (leaf l rest) outer e h = refl

-- into a group
pub into_group : (f : Forest) (outer : List Forest) (x : Delimiter × Forest × Forest) → first_group f ≡ Some x →
    place x.1 (x.2 ∷ outer) ≡ after_unit (place f outer)
into_group empty outer x e = absurd (cc e)
into_group (leaf l rest) outer x e = absurd (cc e)
into_group (group d inner rest) outer x e = let i : (let y : Delimiter × Forest × Forest = (d, inner, rest) in y) ≡ x = cc in ap (λ (y : Delimiter × Forest × Forest). place y.1 (y.2 ∷ outer)) (sym i)

-- the name behind a quote
pub no_quote : (f : Forest) → first_punct f ≡ None → quoted_name f ≡ None
no_quote empty e = refl
no_quote (group d inner rest) e = refl
no_quote (leaf (as_leaf.Ident i) rest) e = refl
no_quote (leaf (as_leaf.Literal l) rest) e = refl
no_quote (leaf (as_leaf.Punct p) rest) e = absurd (cc e)

quoted_before : (p : Punct) (f : Forest) → is_char "'" p ≡ false → quoted_name (leaf (as_leaf.Punct p) f) ≡ None
quoted_before p empty e = refl
quoted_before p (group d inner rest) e = refl
quoted_before p (leaf (as_leaf.Ident i) rest) e = ap (λ b. if b then Some i.sym else None) e
quoted_before p (leaf (as_leaf.Literal l) rest) e = refl
quoted_before p (leaf (as_leaf.Punct q) rest) e = refl

pub another_punct : (f : Forest) (x : Punct × Forest) → first_punct f ≡ Some x → is_char "'" x.0 ≡ false → quoted_name f ≡ None
another_punct f x e h = rw (a_punct_leaf f x e) (quoted_before x.0 x.1 h)

quote_before : (p : Punct) (f : Forest) → first_ident f ≡ None → quoted_name (leaf (as_leaf.Punct p) f) ≡ None
quote_before p empty e = refl
quote_before p (group d inner rest) e = refl
quote_before p (leaf (as_leaf.Ident i) rest) e = absurd (cc e)
quote_before p (leaf (as_leaf.Literal l) rest) e = refl
quote_before p (leaf (as_leaf.Punct q) rest) e = refl

pub a_quote_alone : (f : Forest) (x : Punct × Forest) → first_punct f ≡ Some x → first_ident x.1 ≡ None → quoted_name f ≡ None
a_quote_alone f x e h = rw (a_punct_leaf f x e) (quote_before x.0 x.1 h)

pub a_quote : (f : Forest) (x : Punct × Forest) (y : Ident × Forest) → first_punct f ≡ Some x → is_char "'" x.0 ≡ true → first_ident x.1 ≡ Some y →
    quoted_name f ≡ Some y.0.sym
a_quote f x y e b h =
    rw (a_punct_leaf f x e, an_ident x.1 y h) (ap (λ c. if c then Some y.0.sym else None) b)

-- what begins with no punct
pub unglued : (cs : List ℕ) (f : Forest) (outer : List Forest) → first_punct f ≡ None → false ≡ same_unit (glued cs) (unit_at (place f outer))
unglued cs empty [] e = refl
unglued cs empty (g ∷ outer) e = refl
unglued cs (group d inner rest) outer e = refl
unglued cs (leaf (as_leaf.Ident i) rest) outer e = refl
unglued cs (leaf (as_leaf.Literal l) rest) outer e = refl
unglued cs (leaf (as_leaf.Punct p) rest) outer e = absurd (cc e)

-- a group of a pattern
pub opened : (k : DelimiterKind) (f : Forest) (outer : List Forest) (x : Delimiter × Forest × Forest) → first_group f ≡ Some x →
    same_kind k x.0.kind ≡ same_unit (opening k) (unit_at (place f outer))
opened k empty outer x e = absurd (cc e)
opened k (leaf l rest) outer x e = absurd (cc e)
opened k (group d inner rest) outer x e = let i : (let y : Delimiter × Forest × Forest = (d, inner, rest) in y) ≡ x = cc in ap (λ (y : Delimiter × Forest × Forest). same_kind k y.0.kind) (sym i)

no_opening_there : (k : DelimiterKind) (p : Punct) (rest : Forest) → false ≡ same_unit (opening k) (punct_unit p rest)
no_opening_there k p empty = refl
no_opening_there k p (group d inner rest) = refl
no_opening_there k p (leaf (as_leaf.Literal l) rest) = refl
no_opening_there k p (leaf (as_leaf.Punct q) rest) = refl
no_opening_there k p (leaf (as_leaf.Ident i) rest) = go (is_char "'" p)
  where
    go : (b : Bool) → false ≡ same_unit (opening k) (if b then a_lifetime i.sym else glued (p.char ∷ []))
    go true = refl
    go false = refl

pub unopened : (k : DelimiterKind) (f : Forest) (outer : List Forest) → first_group f ≡ None → false ≡ same_unit (opening k) (unit_at (place f outer))
unopened k empty [] e = refl
unopened k empty (g ∷ outer) e = refl
unopened k (group d inner rest) outer e = absurd (cc e)
unopened k (leaf (as_leaf.Ident i) rest) outer e = refl
unopened k (leaf (as_leaf.Literal l) rest) outer e = refl
unopened k (leaf (as_leaf.Punct p) rest) outer e = no_opening_there k p rest

-- a literal of a pattern
pub no_literal_here : (t s : List ℕ) (f : Forest) (outer : List Forest) → first_leaf f ≡ None → false ≡ same_unit (a_literal t s) (unit_at (place f outer))
no_literal_here t s empty [] e = refl
no_literal_here t s empty (g ∷ outer) e = refl
no_literal_here t s (group d inner rest) outer e = refl
no_literal_here t s (leaf l rest) outer e = absurd (cc e)

-- a leaf of another sort
pub leaf_here : (t s : List ℕ) (p : Punct) (rest : Forest) → same_unit (a_literal t s) (punct_unit p rest) ≡ false
leaf_here t s p empty = refl
leaf_here t s p (group d inner rest) = refl
leaf_here t s p (leaf (as_leaf.Literal l) rest) = refl
leaf_here t s p (leaf (as_leaf.Punct q) rest) = refl
leaf_here t s p (leaf (as_leaf.Ident i) rest) = go (is_char "'" p)
  where
    go : (b : Bool) → same_unit (a_literal t s) (if b then a_lifetime i.sym else glued (p.char ∷ [])) ≡ false
    go true = refl
    go false = refl

-- no literal, and none after a minus
pub no_unsigned : (f : Forest) → first_leaf f ≡ None → None ≡ unsigned_trees f
no_unsigned empty e = refl
no_unsigned (group d inner rest) e = refl
no_unsigned (leaf l rest) e = absurd (cc e)

pub no_minus : (f : Forest) → first_punct f ≡ None → unsigned_trees f ≡ literal_trees f
no_minus empty e = refl
no_minus (group d inner rest) e = refl
no_minus (leaf (as_leaf.Ident i) rest) e = refl
no_minus (leaf (as_leaf.Literal l) rest) e = refl
no_minus (leaf (as_leaf.Punct p) rest) e = absurd (cc e)

-- no name that is refused
pub nothing_refused : (f : Forest) → first_ident f ≡ None → false ≡ is_refused f
nothing_refused empty e = refl
nothing_refused (group d inner rest) e = refl
nothing_refused (leaf (as_leaf.Ident i) rest) e = absurd (cc e)
nothing_refused (leaf (as_leaf.Literal l) rest) e = refl
nothing_refused (leaf (as_leaf.Punct p) rest) e = refl
