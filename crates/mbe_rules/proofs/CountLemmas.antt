-- How many ops there are, list by list.
use Rattle.std.proofs.Common.{◌≡◌, ap, ℕ, suc, ◌+◌, ◌<◌, List, [], ◌∷◌, ◌++◌, length, get_or, slice_set, Option, arith}
use Rattle.std.specs.declared.vec.Vec.{Vec}
use Rattle.std.specs.declared.alloc.Global.{Global}
use denote.Param.Weighed.{most}
use Rattle.tt_data.specs.declared.delimiter.Delimiter.{Delimiter}
use Rattle.mbe_rules.specs.Counts.{count_of}
use Rattle.mbe_rules.specs.Items.{Items, done}
use Rattle.mbe_rules.specs.Lists.{enclosed}
use Rattle.mbe_rules.specs.Ops.{put_op, items_of}
use Rattle.mbe_rules.specs.declared.parse.items.Enclosing.{Enclosing}
use Rattle.mbe_rules.specs.declared.parse.items.Enclosing.TheVariants.{Group, Repetition}
use Rattle.mbe_rules.specs.declared.parser.Op.{Op, size-Op, Var, Count, Index, Len, Ignore, Concat, Literal, Ident, Punct, Lifetime, Repeat, Subtree, Repeat', Subtree'}
use Rattle.mbe_rules.specs.declared.parser.RepeatKind.{RepeatKind}
use Rattle.mbe_rules.specs.declared.parser.Separator.{Separator}
use Rattle.mbe_rules.proofs.OpsLemmas.{put-Repeat, put-Subtree}

-- an op and those inside it
abbrev pub count_op : Op → ℕ
count_op o = count_of (put_op o done)

-- the ops of a list and those inside them
abbrev pub count_ops : List Op → ℕ
count_ops os = count_of (items_of os)

pub count-put : (o : Op) (rest : Items) → count_of (put_op o rest) ≡ count_op o + count_of rest
count-put (Repeat' shape row sep k) rest = omega arith
count-put (Subtree' shape row d) rest = omega arith
count-put _ rest = omega arith

pub count-some : (o : Op) → 0 < count_op o
count-some (Repeat' shape row sep k) = omega arith
count-some (Subtree' shape row d) = omega arith
count-some _ = omega arith

pub count-Repeat : (v : Vec Op Global) (sep : Option Separator) (k : RepeatKind) → count_op (Repeat v sep k) ≡ suc (count_ops v.items)
count-Repeat v sep k = let e = ap count_of (put-Repeat v sep k done) in omega (arith, e)

pub count-Subtree : (v : Vec Op Global) (d : Delimiter) → count_op (Subtree v d) ≡ suc (count_ops v.items)
count-Subtree v d = let e = ap count_of (put-Subtree v d done) in omega (arith, e)

pub count-push : (os : List Op) (o : Op) → count_ops (os ++ (o ∷ [])) ≡ count_ops os + count_op o
count-push [] o = omega arith
count-push (p ∷ os) o =
    let i = count-push os o in
    let one = count-put p (items_of (os ++ (o ∷ []))) in
    let two = count-put p (items_of os) in
    omega (arith, i, one, two)

-- an op and those of the list inside it
pub count-enclosed : (e : Enclosing) (inner : List Op) (o : Op) → enclosed e (items_of inner) ≡ put_op o done → count_op o ≡ suc (count_ops inner)
count-enclosed (Group d) inner o same = let e = ap count_of same in omega (arith, e)
count-enclosed (Repetition sep op) inner o same = let e = ap count_of same in omega (arith, e)

-- the first op, and another one in its place
pub count-first : (os : List Op) (first o : Op) → 0 < length os → first ≡ get_or os 0 first →
    count_ops (slice_set os 0 o) + count_op first ≡ count_of (items_of os) + count_op o
count-first [] first o h e = absurd (omega (arith, h))
count-first (p ∷ os) first o h e =
    let s = ap count_op e in
    let one = count-put p (items_of os) in
    let two = count-put o (items_of os) in
    omega (arith, s, one, two)

-- an op is at least one level deep
size-some : (o : Op) → 0 < size-Op o
unfolding Rattle.mbe_rules.specs.declared.parser.Op.TheBlock.the_depth denote.Hole.Rolled.depth denote.Hole.Carrier.fold
size-some (Repeat' shape row sep k) = omega arith
size-some (Subtree' shape row d) = omega arith
size-some (Var name kind id) = omega arith
size-some (Count name depth id) = omega arith
size-some (Index depth id) = omega arith
size-some (Len depth id) = omega arith
size-some (Ignore name id) = omega arith
size-some (Concat elements id) = omega arith
size-some (Literal l) = omega arith
size-some (Ident i) = omega arith
size-some (Punct ps) = omega arith
size-some (Lifetime p i) = omega arith

pub most-some : (os : List Op) → 0 < length os → 0 < most size-Op os
most-some [] h = absurd (omega (arith, h))
most-some (o ∷ os) h = let s = size-some o in omega (arith, s)
