-- Each move lowers a bound, if no repetition without separator has a body that can match nothing.
use Rattle.std.proofs.Common.{◌≡◌, ◌⊎◌, inl, inr, refl, ap, ℕ, suc, ◌+◌, ◌*◌, ◌≤◌, ◌<◌, ◌||◌, ◌&&◌, Bool, true, false, List, [], ◌∷◌, Option, Some, None, if◌then◌else◌, arith}
use Rattle.std.proofs.Math.Nat.{mul-le-mul_right}
use Rattle.mbe_rules.specs.Items.{Separator, dollar, variable, Items, done, item, group_of, repetition, may_skip, can_match_nothing, has_empty_round}
use Rattle.mbe_rules.specs.declared.parser.MetaVarKind.TheVariants.{Vis}
use Rattle.mbe_rules.specs.declared.parser.RepeatKind.{RepeatKind}
use Rattle.mbe_rules.specs.declared.parser.RepeatKind.TheVariants.{ZeroOrMore, OneOrMore, ZeroOrOne}
use Rattle.mbe_matcher.specs.Waiting.{empties, empties_after, empties_at, hold, Good}
use Rattle.mbe_matcher.specs.Units.{left}
use Rattle.mbe_matcher.specs.Readings.{State, at, Frame, in_group, in_round, parted, place_of, room}

pub or-false : (a b : Bool) → (a || b) ≡ false → (a ≡ false) × (b ≡ false)
or-false true b e = absurd (cc e)
or-false false b e = (refl, e)

and-false : (a b : Bool) → (a && b) ≡ false → (a ≡ false) ⊎ (b ≡ false)
and-false true b e = inr e
and-false false b e = inl refl

-- what can't match nothing hides what comes after it
pub hides : (items : Items) (k : ℕ) → can_match_nothing items ≡ false → empties items k ≡ empties items 0
hides done k e = absurd (cc e)
hides (item (dollar (variable n (Some Vis)) s) rest) k e = ap (λ r. 1 + r) (hides rest k e)
hides (repetition body sep op rest) k e =
    go op (and-false (may_skip op || can_match_nothing body) (can_match_nothing rest) e) (λ j. hides body j) (λ h. hides rest k h)
  where
    go : (o : RepeatKind) → ((may_skip o || can_match_nothing body) ≡ false) ⊎ (can_match_nothing rest ≡ false) →
        ((j : ℕ) → can_match_nothing body ≡ false → empties body j ≡ empties body 0) →
        (can_match_nothing rest ≡ false → empties rest k ≡ empties rest 0) →
        empties (repetition body sep o rest) k ≡ empties (repetition body sep o rest) 0
    go ZeroOrMore (inl h) b r = absurd (cc h)
    go ZeroOrOne (inl h) b r = absurd (cc h)
    go OneOrMore (inl h) b r =
        let x = b (1 + (empties rest k + empties body 0)) h in let y = b (1 + (empties rest 0 + empties body 0)) h in cc
    go o (inr h) b r = let x = r h in cc
hides (group_of d inner rest) k e = refl
hides (item _ rest) k e = refl

skip-le : (b : Bool) (n : ℕ) → (if b then n else 0) ≤ n
skip-le true n = omega arith
skip-le false n = omega arith

pub empties-room : (items : Items) (k : ℕ) → empties items k ≤ k + room items
empties-room done k = omega arith
empties-room (item (dollar (variable n (Some Vis)) s) rest) k = let i = empties-room rest k in omega arith
empties-room (repetition body sep op rest) k =
    let a = empties-room rest k in
    let b = empties-room body 0 in
    let c = empties-room body (1 + (empties rest k + empties body 0)) in
    let d = skip-le (may_skip op) (empties rest k) in
    omega arith
empties-room (group_of d inner rest) k = omega arith
empties-room (item _ rest) k = omega arith

pub empties-hold : (fs : List Frame) → empties_after fs ≤ hold fs
empties-hold [] = omega arith
empties-hold (in_group after ∷ fs) = omega arith
empties-hold (in_round body sep op after ∷ fs) =
    let a = empties-hold fs in let b = empties-room after (empties_after fs) in let c = empties-room body 0 in omega arith
empties-hold (parted body sep op after ∷ fs) =
    let a = empties-hold fs in let b = empties-room after (empties_after fs) in let c = empties-room body 0 in
    let d = empties-room body (1 + (empties after (empties_after fs) + empties body 0)) in omega arith

-- a good state allows at most N moves that take nothing in a row
pub within : (N : ℕ) (s : State) → Good N s → empties_at s ≤ N
within N (at items fs p) g =
    let h = g.1 in let a = empties-room items (empties_after fs) in let b = empties-hold fs in omega arith

-- more moves than any path from a state has
abbrev pub bound : ℕ → State → ℕ
bound N s = suc (left (place_of s) * suc N + empties_at s)

pub lower-bound : (N l m e f : ℕ) → l < m → e ≤ N → l * suc N + e < m * suc N + f
lower-bound N l m e f h k =
    let i : suc l * suc N ≤ m * suc N = mul-le-mul_right (suc N) h in
    omega (arith, i)

pub body-sound : (body : Items) (sep : Option Separator) (op : RepeatKind) (rest : Items) →
    has_empty_round (repetition body sep op rest) ≡ false → has_empty_round body ≡ false
body-sound body None op rest e =
    (or-false (has_empty_round body) _ (or-false (can_match_nothing body) _ e).1).0
body-sound body (Some sep) op rest e = (or-false (has_empty_round body) _ e).0

pub rest-sound : (body : Items) (sep : Option Separator) (op : RepeatKind) (rest : Items) →
    has_empty_round (repetition body sep op rest) ≡ false → has_empty_round rest ≡ false
rest-sound body None op rest e = (or-false (has_empty_round body) _ (or-false (can_match_nothing body) _ e).1).1
rest-sound body (Some sep) op rest e = (or-false (has_empty_round body) _ e).1

pub not-empty : (body : Items) (op : RepeatKind) (rest : Items) →
    has_empty_round (repetition body None op rest) ≡ false → can_match_nothing body ≡ false
not-empty body op rest e = (or-false (can_match_nothing body) _ e).0
