-- A repetition that is skipped binds each of its metavariables to nothing.
use Rattle.std.proofs.Common.{◌≡◌, refl, sym, ap, ◌∙◌, ℕ, suc, ◌+◌, ◌*◌, List, [], ◌∷◌, ◌++◌, Option, Bor, arith}
use Rattle.std.specs.declared.vec.Vec.{Vec}
use Rattle.std.specs.declared.alloc.Global.{Global}
use Rattle.tt_data.specs.declared.delimiter.Delimiter.{Delimiter}
use Rattle.mbe_rules.specs.Items.{Items, done, variables}
use Rattle.mbe_rules.specs.Ops.{put_op, row_items, items_of}
use Rattle.mbe_rules.specs.declared.parser.Op.{Op, Repeat, Subtree, Repeat', Subtree'}
use Rattle.mbe_rules.specs.declared.parser.RepeatKind.{RepeatKind}
use Rattle.mbe_rules.specs.declared.parser.Separator.{Separator}
use Rattle.mbe_rules.proofs.OpsLemmas.{put-Repeat, put-Subtree}
use Rattle.mbe_rules.specs.Counts.{count_of}
use Rattle.mbe_matcher.specs.Bindings.{Map, skipped, bind, bind_skipped}
use Rattle.mbe_matcher.specs.Skipping.{skipped_in, skipped_around, work_around}

append-nil : (ns : List (List ℕ)) → ns ++ [] ≡ ns
append-nil [] = refl
append-nil (n ∷ ns) = ap (λ ks. n ∷ ks) (append-nil ns)

variables-put : (o : Op) (rest : Items) → variables (put_op o rest) ≡ variables (put_op o done) ++ variables rest
variables-put (Repeat' shape row sep k) rest = ap (λ ns. ns ++ variables rest) (sym (append-nil (variables (row_items row))))
variables-put (Subtree' shape row d) rest = ap (λ ns. ns ++ variables rest) (sym (append-nil (variables (row_items row))))
variables-put _ rest = refl

pub variables-Repeat : (o : Op) (v : Vec Op Global) (sep : Option Separator) (k : RepeatKind) → o ≡ Repeat v sep k →
    variables (items_of v.items) ≡ variables (put_op o done)
variables-Repeat o v sep k e =
    sym (ap (λ x. variables (put_op x done)) e ∙ ap variables (put-Repeat v sep k done) ∙ append-nil (variables (items_of v.items)))

pub variables-Subtree : (o : Op) (v : Vec Op Global) (d : Delimiter) → o ≡ Subtree v d →
    variables (items_of v.items) ≡ variables (put_op o done)
variables-Subtree o v d e =
    sym (ap (λ x. variables (put_op x done)) e ∙ ap variables (put-Subtree v d done) ∙ append-nil (variables (items_of v.items)))

skipped-append : (ns ks : List (List ℕ)) (m : Map) → bind_skipped (ns ++ ks) m ≡ bind_skipped ks (bind_skipped ns m)
skipped-append [] ks m = refl
skipped-append (n ∷ ns) ks m = skipped-append ns ks (bind n skipped m)

-- the first of some ops, and those after it
pub skipped-first : (os : List Op) (o : Op) (rest : List Op) (m : Map) → os ≡ o ∷ rest →
    skipped_in os m ≡ skipped_in rest (bind_skipped (variables (put_op o done)) m)
skipped-first os o rest m e =
    ap (λ xs. skipped_in xs m) e ∙ ap (λ ns. bind_skipped ns m) (variables-put o (items_of rest))
    ∙ skipped-append (variables (put_op o done)) (variables (items_of rest)) m

-- one list more around the present one
around-push : (outer : List (Bor (List Op))) (a : Bor (List Op)) (m : Map) → skipped_around (outer ++ (a ∷ [])) m ≡ skipped_around outer (skipped_in a.now m)
around-push [] a m = refl
around-push (c ∷ outer) a m = ap (skipped_in c.now) (around-push outer a m)

pub work-push : (outer : List (Bor (List Op))) (a : Bor (List Op)) → work_around (outer ++ (a ∷ [])) ≡ work_around outer + suc (2 * count_of (items_of a.now))
work-push [] a = omega arith
work-push (c ∷ outer) a = let i = work-push outer a in omega (arith, i)

-- entering the list inside an op, leaving a list, and going on after an op without ops inside
pub entered : (os : List Op) (o : Op) (rest : Bor (List Op)) (inner : List Op) (outer new : List (Bor (List Op))) (m : Map) →
    os ≡ o ∷ rest.now → variables (items_of inner) ≡ variables (put_op o done) → new ≡ outer ++ (rest ∷ []) →
    skipped_around new (skipped_in inner m) ≡ skipped_around outer (skipped_in os m)
entered os o rest inner outer new m e f n =
    ap (λ xs. skipped_around xs (skipped_in inner m)) n ∙ around-push outer rest (skipped_in inner m)
    ∙ ap (λ ns. skipped_around outer (skipped_in rest.now (bind_skipped ns m))) f
    ∙ ap (skipped_around outer) (sym (skipped-first os o rest.now m e))

pub left : (os : List Op) (a : Bor (List Op)) (outer old : List (Bor (List Op))) (m : Map) → os ≡ [] → old ≡ outer ++ (a ∷ []) →
    skipped_around outer (skipped_in a.now m) ≡ skipped_around old (skipped_in os m)
left os a outer old m e n =
    sym (ap (λ xs. skipped_around old (skipped_in xs m)) e ∙ ap (λ xs. skipped_around xs m) n ∙ around-push outer a m)

pub passed : (os : List Op) (o : Op) (rest : List Op) (outer : List (Bor (List Op))) (m n : Map) → os ≡ o ∷ rest →
    n ≡ bind_skipped (variables (put_op o done)) m → skipped_around outer (skipped_in rest n) ≡ skipped_around outer (skipped_in os m)
passed os o rest outer m n e f =
    ap (λ x. skipped_around outer (skipped_in rest x)) f ∙ ap (skipped_around outer) (sym (skipped-first os o rest m e))
