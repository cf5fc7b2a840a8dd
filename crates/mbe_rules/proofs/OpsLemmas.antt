-- The ops of a matcher or transcriber, one by one.
use Rattle.std.proofs.Common.{◌≡◌, refl, sym, ap, ◌∙◌, Bool, true, false, Option, Some, None, option_map, ◌&&◌, ◌||◌}
use Rattle.std.specs.declared.vec.Vec.{Vec}
use Rattle.std.specs.declared.alloc.Global.{Global}
use Rattle.tt_data.specs.declared.delimiter.Delimiter.{Delimiter}
use Rattle.mbe_rules.specs.Items.{Items, done, group_of, repetition, may_skip, can_match_nothing, has_empty_round}
use Rattle.mbe_rules.specs.Ops.{put_op, row_items, items_of, separator_of}
use Rattle.mbe_rules.specs.declared.parser.Op.{Op, Var, Repeat, Subtree, Repeat', Subtree', Row_of-Op, end_of-Op, more_of-Op, items-the_row-Op, items_hidden-the_row-Op-0}
use Rattle.mbe_rules.specs.declared.parser.Op.TheBlock.{hidden-the_row-Op-0}
use Rattle.mbe_rules.specs.declared.parser.Separator.{Separator}
use Rattle.mbe_rules.specs.declared.parser.MetaVarKind.TheVariants as kind
use Rattle.mbe_rules.specs.declared.parser.RepeatKind.{RepeatKind}

row_items-list : {m : _} (row : Row_of-Op m) → row_items row ≡ items_of (items-the_row-Op m row)
row_items-list end_of-Op = refl
row_items-list (more_of-Op o row) = ap (put_op o) (row_items-list row)

-- what a repetition over a vector means, and a group
pub put-Repeat : (v : Vec Op Global) (sep : Option Separator) (k : RepeatKind) (rest : Items) →
    put_op (Repeat v sep k) rest ≡ repetition (items_of v.items) (option_map separator_of sep) k rest
put-Repeat v sep k rest =
    ap (λ b. repetition b (option_map separator_of sep) k rest) (row_items-list (hidden-the_row-Op-0 v) ∙ ap items_of (items_hidden-the_row-Op-0 v))

pub put-Subtree : (v : Vec Op Global) (d : Delimiter) (rest : Items) → put_op (Subtree v d) rest ≡ group_of d (items_of v.items) rest
put-Subtree v d rest =
    ap (λ b. group_of d b rest) (row_items-list (hidden-the_row-Op-0 v) ∙ ap items_of (items_hidden-the_row-Op-0 v))

pub and-true : (b : Bool) → (b && true) ≡ b
and-true true = refl
and-true false = refl

pub or-false : (b : Bool) → (b || false) ≡ b
or-false true = refl
or-false false = refl

pub or-or : (a b c : Bool) → (a || (b || c)) ≡ ((a || b) || c)
or-or true b c = refl
or-or false b c = refl

-- a list can match nothing where its first item and the others can
pub nothing-put : (o : Op) (rest : Items) → can_match_nothing (put_op o rest) ≡ (can_match_nothing (put_op o done) && can_match_nothing rest)
nothing-put (Var n (Some kind.Vis) id) rest = refl
nothing-put (Repeat' shape row sep k) rest =
    ap (λ b. b && can_match_nothing rest) (sym (and-true (may_skip k || can_match_nothing (row_items row))))
nothing-put _ rest = refl

pub nothing-Repeat : (o : Op) (v : Vec Op Global) (sep : Option Separator) (k : RepeatKind) → o ≡ Repeat v sep k →
    can_match_nothing (put_op o done) ≡ (may_skip k || can_match_nothing (items_of v.items))
nothing-Repeat o v sep k e =
    ap (λ x. can_match_nothing (put_op x done)) e ∙ ap can_match_nothing (put-Repeat v sep k done) ∙ and-true _

-- a list has an empty iteration where its first item or the others have one
pub empty_round-put : (o : Op) (rest : Items) → has_empty_round (put_op o rest) ≡ (has_empty_round (put_op o done) || has_empty_round rest)
empty_round-put (Repeat' shape row None k) rest =
    rw (or-false (has_empty_round (row_items row))) (or-or (can_match_nothing (row_items row)) (has_empty_round (row_items row)) (has_empty_round rest))
empty_round-put (Repeat' shape row (Some sep) k) rest = rw (or-false (has_empty_round (row_items row))) refl
empty_round-put (Subtree' shape row d) rest = rw (or-false (has_empty_round (row_items row))) refl
empty_round-put _ rest = refl
