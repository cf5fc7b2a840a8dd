-- A cursor's position is given by its flat list and two numbers.
use Rattle.std.proofs.Common.{◌≡◌, ℕ, ◌+◌, ◌-◌, ◌<◌, ◌≤◌, List, [], ◌∷◌, refl, ap, ◌∙◌, arith, nat_eq, false}
use Rattle.std.proofs.lemmas.Bool.{ne_eqb, le-leb, lt-leb}
use Rattle.tt_data.specs.declared.tree.TokenTree.{TokenTree}
use Rattle.tt_data.specs.declared.delimiter.Delimiter.{Delimiter}
use Rattle.tt_data.specs.Forest.{Forest, empty, leaf, group, joined, size, forest_of}
use Rattle.tt_data.specs.Flat.{forest_of-preorder, joined-empty}
use Rattle.tt_data.proofs.ForestLemmas.{joined_assoc, size-joined}
use Rattle.tt.specs.Places.{Around, Place}
use Rattle.tt.specs.CursorTokens.{whole_in, start_in, Stands, place_in, place_of, IsPlaced}

not_zero : (n : ℕ) → 0 < n → nat_eq n 0 ≡ false
not_zero n some = ne_eqb n 0 (λ e. omega (arith, some, e))

-- in a list that no group is open in, past so many trees
past : (around : List Around) (passed c after : Forest)
    → place_in around passed (joined c after) 0 (size c) ≡ record { around = around; before = joined passed c; after = after }
past around passed empty empty = rw (joined-empty passed) refl
past around passed empty (leaf l rest) = rw (joined-empty passed) refl
past around passed empty (group d inner rest) = rw (joined-empty passed) refl
past around passed (leaf l rest) after =
    let e : 1 + size rest - 1 ≡ size rest = omega arith in
    rw (not_zero (1 + size rest) (omega arith), e, past around (joined passed (leaf l empty)) rest after, joined_assoc passed (leaf l empty) rest)
    refl
past around passed (group d inner rest) after =
    let e : 1 + (size inner + size rest) - 1 - size inner ≡ size rest = omega arith in
    rw (
      not_zero (1 + (size inner + size rest)) (omega arith),
      e,
      past around (joined passed (group d inner empty)) rest after,
      joined_assoc passed (group d inner empty) rest,
    )
    refl

-- into a group after so many trees
into : (around : List Around) (passed c : Forest) (d : Delimiter) (inner after : Forest) (s t : ℕ) → s ≤ size inner
    → place_in around passed (joined c (group d inner after)) (size c + 1 + s) (size c + 1 + t)
    ≡ place_in (record { delimiter = d; before = joined passed c; after = after } ∷ around) empty inner s t
into around passed empty d inner after s t h =
    let a : 1 + s - 1 ≡ s = omega arith in
    let b : 1 + t - 1 ≡ t = omega arith in
    rw (not_zero (1 + t) (omega arith), not_zero (1 + s) (omega arith), le-leb (1 + s) (size inner + 1) (omega (arith, h)), a, b, joined-empty passed)
    refl
into around passed (leaf l rest) d inner after s t h =
    let a : 1 + size rest + 1 + s - 1 ≡ size rest + 1 + s = omega arith in
    let b : 1 + size rest + 1 + t - 1 ≡ size rest + 1 + t = omega arith in
    rw (
      not_zero (1 + size rest + 1 + t) (omega arith),
      a,
      b,
      into around (joined passed (leaf l empty)) rest d inner after s t h,
      joined_assoc passed (leaf l empty) rest,
    )
    refl
into around passed (group f more rest) d inner after s t h =
    let n : ℕ = 1 + (size more + size rest) + 1 in
    let a : n + s - 1 - size more ≡ size rest + 1 + s = omega arith in
    let b : n + t - 1 - size more ≡ size rest + 1 + t = omega arith in
    rw (
      not_zero (n + t) (omega arith),
      not_zero (n + s) (omega arith),
      lt-leb (n + s) (size more + 1) (omega arith),
      a,
      b,
      into around (joined passed (group f more empty)) rest d inner after s t h,
      joined_assoc passed (group f more empty) rest,
    )
    refl

-- through all groups around
through : (outer : List Around) (f : Forest) (s t : ℕ) → s ≤ size f
    → place_in [] empty (whole_in outer f) (start_in outer + s) (start_in outer + t) ≡ place_in outer empty f s t
through [] f s t h =
    let a : 0 + s ≡ s = omega arith in
    let b : 0 + t ≡ t = omega arith in
    rw (a, b) refl
through (a ∷ outer) f s t h =
    let n : ℕ = start_in outer in
    let all : Forest = joined a.before (group a.delimiter f a.after) in
    let i : n + size a.before + 1 + s ≡ n + (size a.before + 1 + s) = omega arith in
    let j : n + size a.before + 1 + t ≡ n + (size a.before + 1 + t) = omega arith in
    let below : size a.before + 1 + s ≤ size all = omega (arith, h, size-joined a.before (group a.delimiter f a.after)) in
    rw (i, j, through outer all (size a.before + 1 + s) (size a.before + 1 + t) below) (into outer empty a.before a.delimiter f a.after s t h)

-- what stands is the place that is held
pub found : (tokens : List TokenTree) (start at : ℕ) (p : Place) → Stands tokens start at p → place_of tokens start at ≡ p
found tokens start at p stands =
    let all : Forest = joined p.before p.after in
    let trees : forest_of tokens ≡ whole_in p.around all = ap forest_of stands.whole ∙ forest_of-preorder (whole_in p.around all) in
    let i : start ≡ start_in p.around + 0 = omega (arith, stands.start_is) in
    let j : at ≡ start_in p.around + size p.before = omega (arith, stands.start_is, stands.at_is) in
    rw (trees, i, j) (through p.around all 0 (size p.before) (omega arith) ∙ past p.around empty p.before p.after)

-- and then one is held
pub placed : (tokens : List TokenTree) (start at : ℕ) (p : Place) → Stands tokens start at p → IsPlaced tokens start at
placed tokens start at p stands = rw (found tokens start at p stands) stands
