-- The order of faults, and the order of their keys.
use Rattle.std.proofs.Common.{◌≡◌, ℕ, ◌<◌, refl, sym, ap, ◌∙◌, arith, Bool, true, false, nat_eq, nat_lt, if◌then◌else◌, Less, Equal, Greater}
use Rattle.std.specs.Prelude.{◌&&◌, ◌||◌, cond}
use Rattle.std.specs.Ordering.{is_lt, nat_cmp, ordering_then}
use Rattle.std.specs.declared.cmp.Ordering.{Ordering}
use Rattle.std.proofs.lemmas.Bool.{eq-eqb, ne_eqb, lt-ltb, le-ltb, ltb-true, ltb-false}
use Rattle.expander_model.specs.contracts.fault.FaultKindOrd.TheImpl as kind_ord
use Rattle.expander_model.specs.declared.fault.Fault.{Fault}
use Rattle.expander_model.specs.declared.fault.FaultKind.{FaultKind}
use Rattle.expander_model.specs.declared.fault.FaultKind.TheVariants.{CannotExpand, BrokenDefinition, RecursionLimit, NestedDefinition, Unspellable, TooLarge}
use Rattle.expander_model.specs.Faults.{comes_before, kind_number}

-- how two numbers stand to each other
pub data Stands (a b : ℕ) : Type 0 where
  below : a < b → Stands a b
  level : a ≡ b → Stands a b
  above : b < a → Stands a b

pub stands : (a b : ℕ) → Stands a b
stands a b = go (nat_lt a b) (nat_lt b a) refl refl
  where
    go : (p q : Bool) → nat_lt a b ≡ p → nat_lt b a ≡ q → Stands a b
    go true q e h = below (ltb-true a b e)
    go false true e h = above (ltb-true b a h)
    go false false e h = level (omega (arith, ltb-false a b e, ltb-false b a h))

-- first by one number, then by another test
abbrev first_by : ℕ → ℕ → Bool → Bool
first_by a b rest = nat_lt a b || (nat_eq a b && rest)

by_less : (a b : ℕ) (p : Bool) → a < b → first_by a b p ≡ true
by_less a b p h = rw (lt-ltb a b h) refl

by_same : (a b : ℕ) (p : Bool) → a ≡ b → first_by a b p ≡ p
by_same a b p h = rw (le-ltb a b (omega (arith, h)), eq-eqb a b h) refl

by_more : (a b : ℕ) (p : Bool) → b < a → first_by a b p ≡ false
by_more a b p h = rw (le-ltb a b (omega (arith, h)), ne_eqb a b (λ e. omega (arith, h, e))) refl

never : (a b : ℕ) (p q : Bool) → (p ≡ true → q ≡ false) → first_by a b p ≡ true → first_by b a q ≡ false
never a b p q h e = elim (stands a b) [
  | below l ↦ by_more b a q l
  | level l ↦ by_same b a q (sym l) ∙ h (sym (by_same a b p l) ∙ e)
  | above l ↦ let wrong : false ≡ true = sym (by_more a b p l) ∙ e in cc
]

tied : (a b : ℕ) (p q : Bool) → first_by a b p ≡ false → first_by b a q ≡ false → (a ≡ b) × (p ≡ false) × (q ≡ false)
tied a b p q e h = elim (stands a b) [
  | below l ↦ let wrong : true ≡ false = sym (by_less a b p l) ∙ e in cc
  | level l ↦ (l, sym (by_same a b p l) ∙ e, sym (by_same b a q (sym l)) ∙ h)
  | above l ↦ let wrong : true ≡ false = sym (by_less b a q l) ∙ h in cc
]

-- c before b and not before a: then a is before b
between : (a b c : ℕ) (ab ca cb : Bool) → (cb ≡ true → ca ≡ false → ab ≡ true)
    → first_by c b cb ≡ true → first_by c a ca ≡ false → first_by a b ab ≡ true
between a b c ab ca cb h e n = elim (stands c b) [
  | below l ↦ elim (stands c a) [
    | below m ↦ let wrong : true ≡ false = sym (by_less c a ca m) ∙ n in cc
    | level m ↦ by_less a b ab (omega (arith, l, m))
    | above m ↦ by_less a b ab (omega (arith, l, m))
  ]
  | level l ↦ elim (stands c a) [
    | below m ↦ let wrong : true ≡ false = sym (by_less c a ca m) ∙ n in cc
    | level m ↦ by_same a b ab (sym m ∙ l) ∙ h (sym (by_same c b cb l) ∙ e) (sym (by_same c a ca m) ∙ n)
    | above m ↦ by_less a b ab (omega (arith, l, m))
  ]
  | above l ↦ let wrong : false ≡ true = sym (by_more c b cb l) ∙ e in cc
]

kind_never : (a b : ℕ) → nat_lt a b ≡ true → nat_lt b a ≡ false
kind_never a b e = le-ltb b a (omega (arith, ltb-true a b e))

kind_between : (a b c : ℕ) → nat_lt c b ≡ true → nat_lt c a ≡ false → nat_lt a b ≡ true
kind_between a b c e n = lt-ltb a b (omega (arith, ltb-true c b e, ltb-false c a n))

abbrev kind_at : ℕ → FaultKind
kind_at n =
    if nat_eq n 0 then CannotExpand
    else if nat_eq n 1 then BrokenDefinition
    else if nat_eq n 2 then RecursionLimit
    else if nat_eq n 3 then NestedDefinition
    else if nat_eq n 4 then Unspellable
    else TooLarge

kind_at-number : (k : FaultKind) → kind_at (kind_number k) ≡ k
kind_at-number CannotExpand = refl
kind_at-number BrokenDefinition = refl
kind_at-number RecursionLimit = refl
kind_at-number NestedDefinition = refl
kind_at-number Unspellable = refl
kind_at-number TooLarge = refl

kind_tied : (a b : FaultKind) → nat_lt (kind_number a) (kind_number b) ≡ false → nat_lt (kind_number b) (kind_number a) ≡ false → a ≡ b
kind_tied a b e h =
    let same : kind_number a ≡ kind_number b =
    omega (arith, ltb-false (kind_number a) (kind_number b) e, ltb-false (kind_number b) (kind_number a) h) in
    sym (kind_at-number a) ∙ ap kind_at same ∙ kind_at-number b

-- of two faults at the most one comes before the other
pub before-never : (a b : Fault) → comes_before a b ≡ true → comes_before b a ≡ false
before-never a b =
    never a.range.start b.range.start _ _
    (never a.range.«end» b.range.«end» _ _ (kind_never (kind_number a.kind) (kind_number b.kind)))

pub before-itself : (a : Fault) → comes_before a a ≡ false
before-itself a = go (comes_before a a) refl
  where
    go : (p : Bool) → comes_before a a ≡ p → comes_before a a ≡ false
    go true e = before-never a a e
    go false e = e

-- if none does they are equal
pub before-tied : (a b : Fault) → comes_before a b ≡ false → comes_before b a ≡ false → a ≡ b
before-tied a b e h =
    let starts = tied a.range.start b.range.start _ _ e h in
    let ends = tied a.range.«end» b.range.«end» _ _ starts.1 starts.2 in
    let kinds = kind_tied a.kind b.kind ends.1 ends.2 in
    let made : ℕ → ℕ → FaultKind → Fault = λ from to kind. record { kind = kind; range = record { start = from; «end» = to } } in
    ap (λ n. made n a.range.«end» a.kind) starts.0 ∙ ap (λ n. made b.range.start n a.kind) ends.0 ∙ ap (made b.range.start b.range.«end») kinds

pub before-between : (a b c : Fault) → comes_before c b ≡ true → comes_before c a ≡ false → comes_before a b ≡ true
before-between a b c =
    between a.range.start b.range.start c.range.start _ _ _
    (between a.range.«end» b.range.«end» c.range.«end» _ _ _ (kind_between (kind_number a.kind) (kind_number b.kind) (kind_number c.kind)))

-- what a fault is sorted by
abbrev pub Key : Type 0
Key = ℕ × ℕ × FaultKind

abbrev pub key_of : Fault → Key
key_of f = (f.range.start, f.range.«end», f.kind)

first_less : (p q v w : Bool) (rest : Ordering)
    → is_lt (ordering_then (ordering_then (cond p Less (cond q Equal Greater)) (cond v Less (cond w Equal Greater))) rest)
    ≡ (p || (q && (v || (w && is_lt rest))))
first_less true q v w rest = refl
first_less false false v w rest = refl
first_less false true true w rest = refl
first_less false true false true rest = refl
first_less false true false false rest = refl

kind_less : (a b : FaultKind) → is_lt ((kind_ord.ghosts).cmp a b) ≡ nat_lt (kind_number a) (kind_number b)
kind_less CannotExpand CannotExpand = refl
kind_less CannotExpand BrokenDefinition = refl
kind_less CannotExpand RecursionLimit = refl
kind_less CannotExpand NestedDefinition = refl
kind_less CannotExpand Unspellable = refl
kind_less CannotExpand TooLarge = refl
kind_less BrokenDefinition CannotExpand = refl
kind_less BrokenDefinition BrokenDefinition = refl
kind_less BrokenDefinition RecursionLimit = refl
kind_less BrokenDefinition NestedDefinition = refl
kind_less BrokenDefinition Unspellable = refl
kind_less BrokenDefinition TooLarge = refl
kind_less RecursionLimit CannotExpand = refl
kind_less RecursionLimit BrokenDefinition = refl
kind_less RecursionLimit RecursionLimit = refl
kind_less RecursionLimit NestedDefinition = refl
kind_less RecursionLimit Unspellable = refl
kind_less RecursionLimit TooLarge = refl
kind_less NestedDefinition CannotExpand = refl
kind_less NestedDefinition BrokenDefinition = refl
kind_less NestedDefinition RecursionLimit = refl
kind_less NestedDefinition NestedDefinition = refl
kind_less NestedDefinition Unspellable = refl
kind_less NestedDefinition TooLarge = refl
kind_less Unspellable CannotExpand = refl
kind_less Unspellable BrokenDefinition = refl
kind_less Unspellable RecursionLimit = refl
kind_less Unspellable NestedDefinition = refl
kind_less Unspellable Unspellable = refl
kind_less Unspellable TooLarge = refl
kind_less TooLarge CannotExpand = refl
kind_less TooLarge BrokenDefinition = refl
kind_less TooLarge RecursionLimit = refl
kind_less TooLarge NestedDefinition = refl
kind_less TooLarge Unspellable = refl
kind_less TooLarge TooLarge = refl

abbrev pub key_cmp : Key → Key → Ordering
key_cmp x y = ordering_then (ordering_then (nat_cmp x.0 y.0) (nat_cmp x.1 y.1)) ((kind_ord.ghosts).cmp x.2 y.2)

-- one key is less than another where its fault comes before
pub key_less : (a b : Fault) → is_lt (key_cmp (key_of a) (key_of b)) ≡ comes_before a b
key_less a b =
    first_less (nat_lt a.range.start b.range.start) (nat_eq a.range.start b.range.start) (nat_lt a.range.«end» b.range.«end»)
    (nat_eq a.range.«end» b.range.«end») ((kind_ord.ghosts).cmp a.kind b.kind)
    ∙ ap (λ p. nat_lt a.range.start b.range.start || (nat_eq a.range.start b.range.start
    && (nat_lt a.range.«end» b.range.«end» || (nat_eq a.range.«end» b.range.«end» && p)))) (kind_less a.kind b.kind)
