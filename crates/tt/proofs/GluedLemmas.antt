-- Glued operators: what precedes them, how many puncts they have, and the same for other spans.
use Rattle.std.proofs.Common.{◌≡◌, ◌≤◌, Bool, true, false, refl, ap, ◌∙◌, arith, List, [], ◌∷◌, length, map, Option, Some, None, if◌then◌else◌}
use Rattle.std.proofs.lemmas.List.{length-map}
use Rattle.std.specs.Prelude.{option_map}
use Rattle.tt_data.specs.Forest.{Forest, empty, leaf, group, joined, size, map_spans}
use Rattle.tt_data.specs.declared.leaf.Leaf.TheVariants as as_leaf
use Rattle.tt_data.specs.declared.leaf.Punct.{Punct}
use Rattle.tt_data.specs.declared.span.Span.{Span}
use Rattle.tt.specs.FirstTrees.{first_punct}
use Rattle.tt.specs.Glued.{is_pair, is_triple, glued_third, glued_second, glued_at, first_glued, punct_count, glued_count, characters}

pub first_punct-is : (f g : Forest) (p : Punct) → first_punct f ≡ Some (p, g) → f ≡ leaf (as_leaf.Punct p) g
first_punct-is (leaf (as_leaf.Punct q) rest) g p e =
    let pair : (q, rest) ≡ (p, g) = cc in
    ap (λ (x : Punct × Forest). leaf (as_leaf.Punct x.0) x.1) pair
first_punct-is (leaf (as_leaf.Ident q) rest) g p e = cc
first_punct-is (leaf (as_leaf.Literal q) rest) g p e = cc
first_punct-is empty g p e = cc
first_punct-is (group d inner rest) g p e = cc

-- ---- what they come before

-- puncts as trees
abbrev pub punct_trees : List Punct → Forest
punct_trees [] = empty
punct_trees (p ∷ ps) = leaf (as_leaf.Punct p) (punct_trees ps)

pub size-puncts : (ps : List Punct) → size (punct_trees ps) ≡ length ps
size-puncts [] = refl
size-puncts (p ∷ ps) = (let e = size-puncts ps in omega (arith, e))

-- puncts before other trees
abbrev pub in_front : List Punct × Forest → Forest
in_front g = joined (punct_trees g.0) g.1

two-head : (b : Bool) (p q : Punct) (y : Forest) →
    in_front (if b then (p ∷ q ∷ [], y) else (p ∷ [], leaf (as_leaf.Punct q) y)) ≡ leaf (as_leaf.Punct p) (leaf (as_leaf.Punct q) y)
two-head true p q y = refl
two-head false p q y = refl

three-head : (a b : Bool) (p q r : Punct) (y z : Forest) → y ≡ leaf (as_leaf.Punct r) z →
    in_front (if a then (p ∷ q ∷ r ∷ [], z) else (if b then (p ∷ q ∷ [], y) else (p ∷ [], leaf (as_leaf.Punct q) y)))
    ≡ leaf (as_leaf.Punct p) (leaf (as_leaf.Punct q) y)
three-head true b p q r y z e = rw e refl
three-head false b p q r y z e = two-head b p q y

third-head : (p q : Punct) (y : Forest) (o : Option (Punct × Forest)) → first_punct y ≡ o →
    in_front (glued_third p (leaf (as_leaf.Punct q) y) q y o) ≡ leaf (as_leaf.Punct p) (leaf (as_leaf.Punct q) y)
third-head p q y None e = two-head (is_pair p q) p q y
third-head p q y (Some (r, z)) e = three-head (is_triple p q r) (is_pair p q) p q r y z (first_punct-is y z r e)

second-head : (p : Punct) (x : Forest) (o : Option (Punct × Forest)) → first_punct x ≡ o → in_front (glued_second p x o) ≡ leaf (as_leaf.Punct p) x
second-head p x None e = refl
second-head p x (Some (q, y)) e = rw (first_punct-is x y q e) (third-head p q y (first_punct y) refl)

-- the puncts and the trees after them are the list
pub glued-in_front : (p : Punct) (x : Forest) → in_front (glued_at p x) ≡ leaf (as_leaf.Punct p) x
glued-in_front p x = second-head p x (first_punct x) refl

-- ---- how many they are

two-one : (b : Bool) (p q : Punct) (x y : Forest) → 1 ≤ punct_count (Some (if b then (p ∷ q ∷ [], y) else (p ∷ [], x)))
two-one true p q x y = omega arith
two-one false p q x y = omega arith

three-one : (a b : Bool) (p q r : Punct) (x y z : Forest) →
    1 ≤ punct_count (Some (if a then (p ∷ q ∷ r ∷ [], z) else (if b then (p ∷ q ∷ [], y) else (p ∷ [], x))))
three-one true b p q r x y z = omega arith
three-one false b p q r x y z = two-one b p q x y

third-one : (p q : Punct) (x y : Forest) (o : Option (Punct × Forest)) → 1 ≤ length (glued_third p x q y o).0
third-one p q x y None = two-one (is_pair p q) p q x y
third-one p q x y (Some (r, z)) = three-one (is_triple p q r) (is_pair p q) p q r x y z

second-one : (p : Punct) (x : Forest) (o : Option (Punct × Forest)) → 1 ≤ length (glued_second p x o).0
second-one p x None = omega arith
second-one p x (Some (q, y)) = third-one p q x y (first_punct y)

-- a punct is at least itself
pub glued-one : (p : Punct) (x : Forest) → 1 ≤ glued_count (leaf (as_leaf.Punct p) x)
glued-one p x = second-one p x (first_punct x)

-- ---- the same at other places

module _ (f : Span → Span) where
  -- a punct at another place
  abbrev pub punct_with : Punct → Punct
  punct_with p = record p { span = f p.span }

  -- puncts and the trees after them, at other places
  abbrev pub glued_with : List Punct × Forest → List Punct × Forest
  glued_with g = (map punct_with g.0, map_spans f g.1)

  first_punct-map : (x : Forest) → first_punct (map_spans f x) ≡ option_map (λ (r : Punct × Forest). (punct_with r.0, map_spans f r.1)) (first_punct x)
  first_punct-map empty = refl
  first_punct-map (leaf (as_leaf.Punct p) rest) = refl
  first_punct-map (leaf (as_leaf.Ident i) rest) = refl
  first_punct-map (leaf (as_leaf.Literal l) rest) = refl
  first_punct-map (group d inner rest) = refl

  two-map : (b : Bool) (p q : Punct) (x y : Forest) →
      (if b then (punct_with p ∷ punct_with q ∷ [], map_spans f y) else (punct_with p ∷ [], map_spans f x))
      ≡ glued_with (if b then (p ∷ q ∷ [], y) else (p ∷ [], x))
  two-map true p q x y = refl
  two-map false p q x y = refl

  three-map : (a b : Bool) (p q r : Punct) (x y z : Forest) →
      (if a then (punct_with p ∷ punct_with q ∷ punct_with r ∷ [], map_spans f z)
      else (if b then (punct_with p ∷ punct_with q ∷ [], map_spans f y) else (punct_with p ∷ [], map_spans f x)))
      ≡ glued_with (if a then (p ∷ q ∷ r ∷ [], z) else (if b then (p ∷ q ∷ [], y) else (p ∷ [], x)))
  three-map true b p q r x y z = refl
  three-map false b p q r x y z = two-map b p q x y

  third-map : (p q : Punct) (x y : Forest) (o : Option (Punct × Forest)) →
      glued_third (punct_with p) (map_spans f x) (punct_with q) (map_spans f y) (option_map (λ (r : Punct × Forest). (punct_with r.0, map_spans f r.1)) o)
      ≡ glued_with (glued_third p x q y o)
  third-map p q x y None = two-map (is_pair p q) p q x y
  third-map p q x y (Some (r, z)) = three-map (is_triple p q r) (is_pair p q) p q r x y z

  second-map : (p : Punct) (x : Forest) (o : Option (Punct × Forest)) →
      glued_second (punct_with p) (map_spans f x) (option_map (λ (r : Punct × Forest). (punct_with r.0, map_spans f r.1)) o)
      ≡ glued_with (glued_second p x o)
  second-map p x None = refl
  second-map p x (Some (q, y)) =
      ap (glued_third (punct_with p) (map_spans f x) (punct_with q) (map_spans f y)) (first_punct-map y)
      ∙ third-map p q x y (first_punct y)

  pub glued_at-map : (p : Punct) (x : Forest) → glued_at (punct_with p) (map_spans f x) ≡ glued_with (glued_at p x)
  glued_at-map p x =
      ap (glued_second (punct_with p) (map_spans f x)) (first_punct-map x)
      ∙ second-map p x (first_punct x)

  pub first_glued-map : (x : Forest) → first_glued (map_spans f x) ≡ option_map glued_with (first_glued x)
  first_glued-map empty = refl
  first_glued-map (leaf (as_leaf.Punct p) rest) = ap Some (glued_at-map p rest)
  first_glued-map (leaf (as_leaf.Ident i) rest) = refl
  first_glued-map (leaf (as_leaf.Literal l) rest) = refl
  first_glued-map (group d inner rest) = refl

  counted-map : (o : Option (List Punct × Forest)) → punct_count (option_map glued_with o) ≡ punct_count o
  counted-map None = refl
  counted-map (Some g) = length-map g.0 punct_with

  -- the count stays
  pub glued_count-map : (x : Forest) → glued_count (map_spans f x) ≡ glued_count x
  glued_count-map x = ap punct_count (first_glued-map x) ∙ counted-map (first_glued x)

  -- the characters stay
  pub characters-map : (ps : List Punct) → characters (map punct_with ps) ≡ characters ps
  characters-map [] = refl
  characters-map (p ∷ ps) = ap (λ cs. p.char ∷ cs) (characters-map ps)
