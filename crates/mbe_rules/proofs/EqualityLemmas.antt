-- Ops are compared list by list.
use Rattle.std.proofs.Common.{◌≡◌, refl, sym, ap, ◌∙◌, suc, ◌+◌, ◌*◌, ◌<◌, length, Bool, true, false, ◌==◌, if◌then◌else◌, ◌&&◌, List, [], ◌∷◌, ◌++◌, Option, arith}
use Rattle.std.specs.declared.vec.Vec.{Vec}
use Rattle.std.specs.declared.alloc.Global.{Global}
use Rattle.tt_data.specs.declared.delimiter.Delimiter.{Delimiter}
use Rattle.mbe_rules.specs.Comparing.{pair_same, around_same, pair_count, count_around, weight_around}
use Rattle.mbe_rules.specs.Equality.{no_more, head, inside_of, row_heads, heads_of, same_head, same_heads}
use Rattle.mbe_rules.specs.declared.equality.Pair.{Pair}
use Rattle.mbe_rules.specs.declared.parser.Op.{Op, Repeat, Subtree, Row_of-Op, end_of-Op, more_of-Op, items-the_row-Op, items_hidden-the_row-Op-0}
use Rattle.mbe_rules.specs.declared.parser.Op.TheBlock.{hidden-the_row-Op-0}
use Rattle.mbe_rules.specs.declared.parser.RepeatKind.{RepeatKind}
use Rattle.mbe_rules.specs.declared.parser.Separator.{Separator}

row_heads-list : {m : _} (row : Row_of-Op m) → row_heads row ≡ heads_of (items-the_row-Op m row)
row_heads-list end_of-Op = refl
row_heads-list (more_of-Op o row) = ap (head o (inside_of o)) (row_heads-list row)

-- the ops inside a repetition over a vector, and inside a group
pub inside-Repeat : (v : Vec Op Global) (sep : Option Separator) (k : RepeatKind) → inside_of (Repeat v sep k) ≡ heads_of v.items
inside-Repeat v sep k = row_heads-list (hidden-the_row-Op-0 v) ∙ ap heads_of (items_hidden-the_row-Op-0 v)

pub inside-Subtree : (v : Vec Op Global) (d : Delimiter) → inside_of (Subtree v d) ≡ heads_of v.items
inside-Subtree v d = row_heads-list (hidden-the_row-Op-0 v) ∙ ap heads_of (items_hidden-the_row-Op-0 v)

-- an empty list, and one that is not
pub differ : (first second : List Op) → first ≡ [] → 0 < length second → false ≡ same_heads (heads_of first) (heads_of second)
differ first [] e h = absurd (omega (arith, h))
differ first (o ∷ os) e h = sym (ap (λ xs. same_heads (heads_of xs) (heads_of (o ∷ os))) e)

-- nothing inside the first of two ops that are equal but for those inside
pub plain : (a b : Op) (second : List Op) (e : Bool) → inside_of a ≡ no_more → true ≡ same_head a b → heads_of second ≡ inside_of b →
    e ≡ (length second == 0) → e ≡ (same_head a b && same_heads (inside_of a) (inside_of b))
plain a b second e none same inside empty =
    empty ∙ alone second ∙ ap (λ k. k && same_heads no_more (heads_of second)) same
    ∙ ap (λ is. same_head a b && same_heads is (heads_of second)) (sym none) ∙ ap (λ is. same_head a b && same_heads (inside_of a) is) inside
  where
    alone : (os : List Op) → (length os == 0) ≡ same_heads no_more (heads_of os)
    alone [] = refl
    alone (o ∷ os) = grind arith

pub and-swap : (a b c : Bool) → (a && (b && c)) ≡ (b && (a && c))
and-swap true b c = refl
and-swap false true c = refl
and-swap false false c = refl

and-and : (a b c : Bool) → (a && (b && c)) ≡ ((a && b) && c)
and-and true b c = refl
and-and false b c = refl

-- one pair of lists more
pub same-push : (ps : List Pair) (p : Pair) → around_same (ps ++ (p ∷ [])) ≡ (pair_same p && around_same ps)
same-push [] p = refl
same-push (q ∷ ps) p = ap (λ b. pair_same q && b) (same-push ps p) ∙ and-swap (pair_same q) (pair_same p) (around_same ps)

pub count-push : (ps : List Pair) (p : Pair) → count_around (ps ++ (p ∷ [])) ≡ count_around ps + pair_count p
count-push [] p = omega arith
count-push (q ∷ ps) p = let i = count-push ps p in omega (arith, i)

pub weight-push : (ps : List Pair) (p : Pair) → weight_around (ps ++ (p ∷ [])) ≡ weight_around ps + suc (2 * pair_count p)
weight-push [] p = omega arith
weight-push (q ∷ ps) p = let i = weight-push ps p in omega (arith, i)

-- the lists inside two ops, before those behind them and around
pub same-enter : (here inside rest : Pair) (around new : List Pair) → (pair_same inside && pair_same rest) ≡ pair_same here →
    new ≡ around ++ (rest ∷ []) → (pair_same inside && around_same new) ≡ (pair_same here && around_same around)
same-enter here inside rest around new same pushed =
    ap (λ ps. pair_same inside && around_same ps) pushed ∙ ap (λ b. pair_same inside && b) (same-push around rest)
    ∙ and-and (pair_same inside) (pair_same rest) (around_same around)
    ∙ ap (λ b. b && around_same around) same

-- the end of two lists
pub same-leave : (here outer : Pair) (around new : List Pair) → true ≡ pair_same here → around ≡ new ++ (outer ∷ []) →
    (pair_same outer && around_same new) ≡ (pair_same here && around_same around)
same-leave here outer around new ended popped =
    sym (same-push new outer) ∙ sym (ap around_same popped) ∙ ap (λ b. b && around_same around) ended

pub pushed : (b : Bool) (new more same : List Pair) → new ≡ (if b then more else same) → b ≡ true → new ≡ more
pushed true new more same e h = e
pushed false new more same e h = absurd (cc h)
