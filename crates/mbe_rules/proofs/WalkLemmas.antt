-- A walk that finds whether a matcher can match nothing, step by step.
use Rattle.std.proofs.Common.{◌≡◌, refl, sym, ap, ◌∙◌, suc, ◌+◌, ◌<◌, Bool, true, false, ◌&&◌, ◌||◌, List, [], ◌∷◌, ◌++◌, Option, Some, None, option_map, is_some, arith}
use Rattle.std.specs.declared.vec.Vec.{Vec}
use Rattle.std.specs.declared.alloc.Global.{Global}
use Rattle.tt_data.specs.declared.delimiter.Delimiter.{Delimiter}
use Rattle.mbe_rules.specs.Items.{Items, done, repetition, may_skip, can_match_nothing, has_empty_round}
use Rattle.mbe_rules.specs.Ops.{put_op, items_of, separator_of}
use Rattle.mbe_rules.specs.Walks.{op_nothing, op_endless, left_nothing, around_nothing, around_endless, here_nothing, whole_nothing, whole_endless, work_outer, work_around, work}
use Rattle.mbe_rules.specs.declared.parser.Op.{Op, Repeat, Subtree}
use Rattle.mbe_rules.specs.declared.parser.RepeatKind.{RepeatKind}
use Rattle.mbe_rules.specs.declared.parser.Separator.{Separator}
use Rattle.mbe_rules.specs.declared.validation.Inside.{Inside}
use Rattle.mbe_rules.specs.declared.validation.Inside.TheVariants.{Group, Repetition}
use Rattle.mbe_rules.specs.declared.validation.Outer.{Outer}
use Rattle.mbe_rules.specs.declared.validation.Walk.{Walk}
use Rattle.mbe_rules.proofs.CountLemmas.{count_op, count_ops, count-put, count-Repeat, count-Subtree}
use Rattle.mbe_rules.proofs.OpsLemmas.{and-true, or-false, or-or, put-Repeat, put-Subtree, nothing-put, nothing-Repeat, empty_round-put}

and-and : (a b c : Bool) → (a && (b && c)) ≡ ((a && b) && c)
and-and true b c = refl
and-and false b c = refl

or-true : (b : Bool) → (b || true) ≡ true
or-true true = refl
or-true false = refl

-- one list more around the present one
nothing-push : (outer : List Outer) (a : Outer) (b : Bool) → around_nothing (outer ++ (a ∷ [])) b ≡ around_nothing outer (left_nothing a b)
nothing-push [] a b = refl
nothing-push (c ∷ outer) a b = ap (left_nothing c) (nothing-push outer a b)

endless-push : (outer : List Outer) (a : Outer) (b e : Bool) →
    around_endless (outer ++ (a ∷ [])) b e
    ≡ around_endless outer (left_nothing a b) (op_endless a.inside b || (e || has_empty_round (items_of a.rest.now)))
endless-push [] a b e = refl
endless-push (c ∷ outer) a b e = rw (nothing-push outer a b, endless-push outer a b e) refl

endless-true : (outer : List Outer) (b : Bool) → around_endless outer b true ≡ true
endless-true [] b = refl
endless-true (c ∷ outer) b = rw (endless-true outer b) (or-true (op_endless c.inside (around_nothing outer b)))

endless-or : (outer : List Outer) (b x e : Bool) → around_endless outer b (x || e) ≡ (x || around_endless outer b e)
endless-or outer b true e = endless-true outer b
endless-or outer b false e = refl

pub work-push : (outer : List Outer) (a : Outer) → work_around (outer ++ (a ∷ [])) ≡ work_around outer + work_outer a
work-push [] a = omega arith
work-push (c ∷ outer) a = let i = work-push outer a in omega (arith, i)

-- an op with this list inside
pub record Has (o : Op) (i : Inside) (inner : List Op) : Type 0 where
  pub nothing : can_match_nothing (put_op o done) ≡ op_nothing i (can_match_nothing (items_of inner))
  pub endless : has_empty_round (put_op o done) ≡ (op_endless i (can_match_nothing (items_of inner)) || has_empty_round (items_of inner))
  pub count : count_op o ≡ suc (count_ops inner)

repetition-endless : (is : Items) (sep : Option Separator) (k : RepeatKind) →
    has_empty_round (repetition is (option_map separator_of sep) k done)
    ≡ (op_endless (Repetition (is_some sep) k) (can_match_nothing is) || has_empty_round is)
repetition-endless is None k = ap (λ b. can_match_nothing is || b) (or-false (has_empty_round is))
repetition-endless is (Some s) k = or-false (has_empty_round is)

pub Repeat-has : (o : Op) (v : Vec Op Global) (sep : Option Separator) (k : RepeatKind) (inner : List Op) → o ≡ Repeat v sep k → inner ≡ v.items →
    Has o (Repetition (is_some sep) k) inner
Repeat-has o v sep k inner e f = record {
  nothing = nothing-Repeat o v sep k e ∙ ap (λ xs. may_skip k || can_match_nothing (items_of xs)) (sym f);
  endless = ap (λ x. has_empty_round (put_op x done)) e ∙ ap has_empty_round (put-Repeat v sep k done) ∙ repetition-endless (items_of v.items) sep k
      ∙ ap (λ xs. op_endless (Repetition (is_some sep) k) (can_match_nothing (items_of xs)) || has_empty_round (items_of xs)) (sym f);
  count = ap count_op e ∙ count-Repeat v sep k ∙ ap (λ xs. suc (count_ops xs)) (sym f);
}

pub Subtree-has : (o : Op) (v : Vec Op Global) (d : Delimiter) (inner : List Op) → o ≡ Subtree v d → inner ≡ v.items → Has o Group inner
Subtree-has o v d inner e f = record {
  nothing = ap (λ x. can_match_nothing (put_op x done)) e ∙ ap can_match_nothing (put-Subtree v d done);
  endless = ap (λ x. has_empty_round (put_op x done)) e ∙ ap has_empty_round (put-Subtree v d done) ∙ or-false (has_empty_round (items_of v.items))
      ∙ ap (λ xs. has_empty_round (items_of xs)) (sym f);
  count = ap count_op e ∙ count-Subtree v d ∙ ap (λ xs. suc (count_ops xs)) (sym f);
}

-- entering a list
module _ (w v : Walk) (o : Op) (i : Inside) (rest : Outer) (inner : List Op) (os : w.rest.now ≡ o ∷ rest.rest.now) (has : Has o i inner)
    (before : rest.nothing ≡ w.nothing) (within : rest.inside ≡ i) (nothing : v.nothing ≡ true) (is_inner : v.rest.now ≡ inner)
    (around : v.around.items ≡ w.around.items ++ (rest ∷ [])) where
  inner-nothing : here_nothing w ≡ left_nothing rest (can_match_nothing (items_of inner))
  inner-nothing =
      ap (λ xs. w.nothing && can_match_nothing (items_of xs)) os
      ∙ ap (λ b. w.nothing && b) (nothing-put o (items_of rest.rest.now) ∙ ap (λ b. b && can_match_nothing (items_of rest.rest.now)) has.nothing)
      ∙ rw (before, within) refl

  entered-here : here_nothing v ≡ can_match_nothing (items_of inner)
  entered-here = rw (nothing, is_inner) refl

  pub entered-nothing : whole_nothing v ≡ whole_nothing w
  entered-nothing =
      ap (around_nothing v.around.items) entered-here
      ∙ ap (λ outer. around_nothing outer (can_match_nothing (items_of inner))) around
      ∙ nothing-push w.around.items rest (can_match_nothing (items_of inner))
      ∙ ap (around_nothing w.around.items) (sym inner-nothing)

  inner-endless : has_empty_round (items_of w.rest.now)
      ≡ (op_endless rest.inside (can_match_nothing (items_of inner)) || (has_empty_round (items_of inner) || has_empty_round (items_of rest.rest.now)))
  inner-endless =
      ap (λ xs. has_empty_round (items_of xs)) os ∙ empty_round-put o (items_of rest.rest.now)
      ∙ ap (λ b. b || has_empty_round (items_of rest.rest.now)) has.endless
      ∙ sym (or-or (op_endless i (can_match_nothing (items_of inner))) (has_empty_round (items_of inner)) (has_empty_round (items_of rest.rest.now)))
      ∙ rw within refl

  pub entered-endless : v.endless ≡ w.endless → whole_endless v ≡ whole_endless w
  entered-endless e =
      ap (λ b. b || around_endless v.around.items (here_nothing v) (has_empty_round (items_of v.rest.now))) e
      ∙ ap (λ b. w.endless || around_endless v.around.items b (has_empty_round (items_of v.rest.now))) entered-here
      ∙ ap (λ xs. w.endless || around_endless v.around.items (can_match_nothing (items_of inner)) (has_empty_round (items_of xs))) is_inner
      ∙ ap (λ outer. w.endless || around_endless outer (can_match_nothing (items_of inner)) (has_empty_round (items_of inner))) around
      ∙ ap (λ b. w.endless || b) (endless-push w.around.items rest (can_match_nothing (items_of inner)) (has_empty_round (items_of inner)))
      ∙ ap (λ b. w.endless || around_endless w.around.items b (op_endless rest.inside (can_match_nothing (items_of inner))
      || (has_empty_round (items_of inner) || has_empty_round (items_of rest.rest.now)))) (sym inner-nothing)
      ∙ ap (λ b. w.endless || around_endless w.around.items (here_nothing w) b) (sym inner-endless)

  pub entered-work : work v < work w
  entered-work =
      let one = ap count_ops os ∙ count-put o (items_of rest.rest.now) in
      let two = has.count in
      let three = ap work_around around ∙ work-push w.around.items rest in
      let four = ap count_ops is_inner in
      omega (arith, one, two, three, four)

-- leaving a list
module _ (w v : Walk) (outer : List Outer) (a : Outer) (ended : w.rest.now ≡ []) (around : w.around.items ≡ outer ++ (a ∷ []))
    (is_around : v.around.items ≡ outer) (is_rest : v.rest.now ≡ a.rest.now) (nothing : v.nothing ≡ (a.nothing && op_nothing a.inside w.nothing)) where
  ended-here : here_nothing w ≡ w.nothing
  ended-here = ap (λ xs. w.nothing && can_match_nothing (items_of xs)) ended ∙ and-true w.nothing

  left-here : left_nothing a w.nothing ≡ here_nothing v
  left-here =
      and-and a.nothing (op_nothing a.inside w.nothing) (can_match_nothing (items_of a.rest.now))
      ∙ ap (λ b. b && can_match_nothing (items_of a.rest.now)) (sym nothing)
      ∙ ap (λ xs. v.nothing && can_match_nothing (items_of xs)) (sym is_rest)

  pub left-nothing : whole_nothing v ≡ whole_nothing w
  left-nothing =
      sym (ap (around_nothing w.around.items) ended-here ∙ ap (λ o. around_nothing o w.nothing) around ∙ nothing-push outer a w.nothing
      ∙ ap (around_nothing outer) left-here ∙ ap (λ o. around_nothing o (here_nothing v)) (sym is_around))

  pub left-endless : v.endless ≡ (w.endless || op_endless a.inside w.nothing) → whole_endless v ≡ whole_endless w
  left-endless e =
      sym (ap (λ b. w.endless || around_endless w.around.items b (has_empty_round (items_of w.rest.now))) ended-here
      ∙ ap (λ xs. w.endless || around_endless w.around.items w.nothing (has_empty_round (items_of xs))) ended
      ∙ ap (λ o. w.endless || around_endless o w.nothing false) around
      ∙ ap (λ b. w.endless || b) (endless-push outer a w.nothing false
      ∙ endless-or outer (left_nothing a w.nothing) (op_endless a.inside w.nothing) (has_empty_round (items_of a.rest.now)))
      ∙ or-or w.endless (op_endless a.inside w.nothing) (around_endless outer (left_nothing a w.nothing) (has_empty_round (items_of a.rest.now)))
      ∙ ap (λ b. b || around_endless outer (left_nothing a w.nothing) (has_empty_round (items_of a.rest.now))) (sym e)
      ∙ ap (λ b. v.endless || around_endless outer b (has_empty_round (items_of a.rest.now))) left-here
      ∙ ap (λ xs. v.endless || around_endless outer (here_nothing v) (has_empty_round (items_of xs))) (sym is_rest)
      ∙ ap (λ o. v.endless || around_endless o (here_nothing v) (has_empty_round (items_of v.rest.now))) (sym is_around))

  pub left-work : work v < work w
  left-work =
      let one = ap work_around around ∙ work-push outer a in
      let two = ap work_around is_around in
      let three = ap count_ops is_rest in
      let four = ap count_ops ended in
      omega (arith, one, two, three, four)
