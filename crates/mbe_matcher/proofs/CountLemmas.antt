-- How many values there are, list by list.
use Rattle.std.proofs.Common.{◌≡◌, ap, ℕ, suc, ◌+◌, ◌<◌, List, [], ◌∷◌, ◌++◌, length, get_or, slice_set, arith}
use Rattle.std.specs.declared.vec.Vec.{Vec}
use Rattle.std.specs.declared.alloc.Global.{Global}
use denote.Param.Weighed.{most}
use Rattle.mbe_matcher.specs.Bound.{standing_for, values_of}
use Rattle.mbe_matcher.specs.Counts.{count_of, count_values}
use Rattle.mbe_matcher.specs.declared.bindings.Binding.{Binding, size-Binding, Fragment, Rounds, Rounds', Skipped}
use Rattle.mbe_matcher.proofs.BoundLemmas.{standing-Rounds}

-- a binding and the values inside it
abbrev pub count_one : Binding → ℕ
count_one b = count_of (standing_for b)

-- the values of a list and those inside them
abbrev pub count_all : List Binding → ℕ
count_all bs = count_values (values_of bs)

pub count-some : (b : Binding) → 0 < count_one b
count-some (Rounds' shape row) = omega arith
count-some (Fragment k trees) = omega arith
count-some Skipped = omega arith

pub count-Rounds : (v : Vec Binding Global) → count_one (Rounds v) ≡ suc (count_all v.items)
count-Rounds v = ap count_of (standing-Rounds v)

pub count-push : (bs : List Binding) (b : Binding) → count_all (bs ++ (b ∷ [])) ≡ count_all bs + count_one b
count-push [] b = omega arith
count-push (c ∷ bs) b = let i = count-push bs b in omega (arith, i)

-- the first value, and another one in its place
pub count-first : (bs : List Binding) (first b : Binding) → 0 < length bs → first ≡ get_or bs 0 first →
    count_all (slice_set bs 0 b) + count_one first ≡ count_all bs + count_one b
count-first [] first b h e = absurd (omega (arith, h))
count-first (c ∷ bs) first b h e = let s = ap count_one e in omega (arith, s)

-- a binding is at least one level deep
size-some : (b : Binding) → 0 < size-Binding b
unfolding Rattle.mbe_matcher.specs.declared.bindings.Binding.TheBlock.the_depth denote.Hole.Rolled.depth denote.Hole.Carrier.fold
size-some (Rounds' shape row) = omega arith
size-some (Fragment k trees) = omega arith
size-some Skipped = omega arith

pub most-some : (bs : List Binding) → 0 < length bs → 0 < most size-Binding bs
most-some [] h = absurd (omega (arith, h))
most-some (b ∷ bs) h = let s = size-some b in omega (arith, s)
