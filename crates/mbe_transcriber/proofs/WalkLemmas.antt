-- A walk over the ops of a transcriber that have no ops inside: what remains, op by op.
use Rattle.std.proofs.Common.{◌≡◌, sym, ap, ◌∙◌, ℕ, ◌+◌, ◌<◌, List, [], ◌∷◌, ◌++◌, reverse, sum_by, append_assoc, arith}
use Rattle.std.specs.Borrow.{Bor}
use Rattle.std.specs.List.{flat_map}
use Rattle.std.proofs.lemmas.List.{reverse-append}
use Rattle.std.proofs.lemmas.List.Sums.{sum_by-append}
use Rattle.mbe_rules.specs.Items.{done}
use Rattle.mbe_rules.specs.Ops.{items_of, put_op}
use Rattle.mbe_rules.specs.declared.parser.Op.{Op}
use Rattle.mbe_transcriber.specs.Filling.{names}
use Rattle.mbe_transcriber.specs.Tasks.{work_of}
use Rattle.mbe_transcriber.specs.Walks.{names_in, work_in}
use Rattle.mbe_transcriber.proofs.FillTaskLemmas.{work-more, some-work}
use Rattle.mbe_transcriber.proofs.UsesLemmas.{names-put}

-- the first item of the list that is walked
pub names-next : (ops rest : Bor (List Op)) (o : Op) (more : List (List ℕ)) → ops.now ≡ o ∷ rest.now →
    names_in ops ++ more ≡ names (put_op o done) ++ (names_in rest ++ more)
names-next ops rest o more e =
    ap (λ xs. names (items_of xs) ++ more) e ∙ ap (λ ns. ns ++ more) (names-put o (items_of rest.now))
    ∙ append_assoc (names (put_op o done)) (names_in rest) more

pub work-next : (ops rest : Bor (List Op)) (o : Op) → ops.now ≡ o ∷ rest.now → work_of (items_of rest.now) < work_of (items_of ops.now)
work-next ops rest o e = omega (arith, work-more o ops.now rest.now e, some-work o)

-- the list around one that has ended
pub names-popped : (ops x : Bor (List Op)) (old new : List (Bor (List Op))) → ops.now ≡ [] → old ≡ new ++ (x ∷ []) →
    names_in ops ++ flat_map names_in (reverse old) ≡ names_in x ++ flat_map names_in (reverse new)
names-popped ops x old new none e =
    ap (λ xs. names (items_of xs) ++ flat_map names_in (reverse old)) none
    ∙ ap (λ xs. flat_map names_in xs) (ap reverse e ∙ reverse-append new (x ∷ []))

pub work-popped : (x : Bor (List Op)) (old new : List (Bor (List Op))) → old ≡ new ++ (x ∷ []) →
    sum_by work_in old ≡ sum_by work_in new + (1 + work_of (items_of x.now))
work-popped x old new e =
    let a : sum_by work_in (x ∷ []) ≡ 1 + work_of (items_of x.now) = omega arith in
    let b = ap (sum_by work_in) e ∙ sum_by-append work_in new (x ∷ []) in
    omega (arith, a, b)

pub names-ended : (ops : Bor (List Op)) (old : List (Bor (List Op))) → ops.now ≡ [] → old ≡ [] → names_in ops ++ flat_map names_in (reverse old) ≡ []
names-ended ops old none e =
    ap (λ xs. names (items_of xs) ++ flat_map names_in (reverse old)) none ∙ ap (λ xs. flat_map names_in (reverse xs)) e

-- into an item that holds others
pub names-entered : (ops rest inner : Bor (List Op)) (o : Op) (more new : List (List ℕ)) → ops.now ≡ o ∷ rest.now →
    names (items_of inner.now) ≡ names (put_op o done) → new ≡ names_in inner ++ (names_in rest ++ more) → names_in ops ++ more ≡ new
names-entered ops rest inner o more new e is put = names-next ops rest o more e ∙ ap (λ ns. ns ++ (names_in rest ++ more)) (sym is) ∙ sym put
