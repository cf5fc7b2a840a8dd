-- The lists in which open nodes are kept.
use Rattle.std.proofs.Common.{◌≡◌, ℕ, suc, ◌<◌, ◌≤◌, Bool, true, false, not, ◌&&◌, List, [], ◌∷◌, ◌++◌, length, reverse, refl, sym, ap, ◌∙◌, arith}
use Rattle.std.specs.Prelude.{All, nat_lt, nat_eq}
use Rattle.std.proofs.lemmas.Bool.{and_parts, ltb-true, ltb-false, eqb-true, eqb-false}
use Rattle.std.proofs.lemmas.List.{length-reverse, reverse-append}
use Rattle.rust_grammar.specs.Frames.{Frame, kept_in, has_room}
use Rattle.rust_grammar.specs.Opened.{opened_by, opened, one_more, keeping, AreOpen}
use Rattle.rust_grammar.specs.declared.frames.Kept.{Kept}
use Rattle.rust_grammar.specs.declared.frames.Open.{Open}

-- as many as are open
opened-long : (os : List Open) (ks : List Kept) → keeping os ≡ length ks → length (opened os ks) ≡ length os
opened-long [] ks e = refl
opened-long (o ∷ os) ks e = by o.keeps ks (opened-long os) e
  where
    by : (b : Bool) (ks : List Kept) → ((ks : List Kept) → keeping os ≡ length ks → length (opened os ks) ≡ length os) →
        one_more b (keeping os) ≡ length ks → length (opened_by b o.at ks (opened os)) ≡ suc (length os)
    by true [] around e = absurd cc
    by true (k ∷ ks) around e = ap suc (around ks (omega (arith, e)))
    by false ks around e = ap suc (around ks e)

opened-kept : (os : List Open) (ks : List Kept) → keeping os ≡ length ks → kept_in (opened os ks) ≡ length ks
opened-kept [] ks e = e
opened-kept (o ∷ os) ks e = by o.keeps ks (opened-kept os) e
  where
    by : (b : Bool) (ks : List Kept) → ((ks : List Kept) → keeping os ≡ length ks → kept_in (opened os ks) ≡ length ks) →
        one_more b (keeping os) ≡ length ks → kept_in (opened_by b o.at ks (opened os)) ≡ length ks
    by true [] around e = absurd cc
    by true (k ∷ ks) around e = ap suc (around ks (omega (arith, e)))
    by false ks around e = around ks e

-- so there is room just where neither list is full
pub room-of : (os : List Open) (ks : List Kept) → keeping (reverse os) ≡ length (reverse ks) →
    has_room (opened (reverse os) (reverse ks)) ≡ (nat_lt (length os) 64 && nat_lt (length ks) 32)
room-of os ks e =
    let long = opened-long (reverse os) (reverse ks) e ∙ length-reverse os in
    let kept = opened-kept (reverse os) (reverse ks) e ∙ length-reverse ks in
    ap (λ n. nat_lt n 64 && nat_lt (kept_in (opened (reverse os) (reverse ks))) 32) long
    ∙ ap (λ n. nat_lt (length os) 64 && nat_lt n 32) kept

pub room-open : (os : List Open) (ks : List Kept) → keeping (reverse os) ≡ length (reverse ks) → has_room (opened (reverse os) (reverse ks)) ≡ true → length os < 64
room-open os ks e room = ltb-true (length os) 64 (and_parts (nat_lt (length os) 64) (nat_lt (length ks) 32) (sym (room-of os ks e) ∙ room)).0

pub room-kept : (os : List Open) (ks : List Kept) → keeping (reverse os) ≡ length (reverse ks) → has_room (opened (reverse os) (reverse ks)) ≡ true → length ks < 32
room-kept os ks e room = ltb-true (length ks) 32 (and_parts (nat_lt (length os) 64) (nat_lt (length ks) 32) (sym (room-of os ks e) ∙ room)).1

full-open : (n k : ℕ) → n ≡ 64 → (nat_lt n 64 && nat_lt k 32) ≡ false
full-open n k e = rw e refl

full-kept : (a : Bool) (k : ℕ) → k ≡ 32 → (a && nat_lt k 32) ≡ false
full-kept true k e = rw e refl
full-kept false k e = refl

lt-true : (n m : ℕ) (b : Bool) → nat_lt n m ≡ b → n < m → b ≡ true
lt-true n m true e less = refl
lt-true n m false e less = absurd (let above = ltb-false n m e in omega (arith, less, above))

room-there : (n k : ℕ) → n < 64 → k < 32 → (nat_lt n 64 && nat_lt k 32) ≡ true
room-there n k some more = (let a = lt-true n 64 (nat_lt n 64) refl some in let b = lt-true k 32 (nat_lt k 32) refl more in rw a b)

pub is-full-open : (os : List Open) (ks : List Kept) (frs : List Frame) → opened (reverse os) (reverse ks) ≡ frs → keeping (reverse os) ≡ length (reverse ks) → length os ≡ 64 → true ≡ not (has_room frs)
is-full-open os ks frs same e long = ap not (sym (ap has_room (sym same) ∙ room-of os ks e ∙ full-open (length os) (length ks) long))

pub is-full-kept : (os : List Open) (ks : List Kept) (frs : List Frame) → opened (reverse os) (reverse ks) ≡ frs → keeping (reverse os) ≡ length (reverse ks) → length ks ≡ 32 → true ≡ not (has_room frs)
is-full-kept os ks frs same e long = ap not (sym (ap has_room (sym same) ∙ room-of os ks e ∙ full-kept (nat_lt (length os) 64) (length ks) long))

pub is-not-full : (os : List Open) (ks : List Kept) (frs : List Frame) → opened (reverse os) (reverse ks) ≡ frs → keeping (reverse os) ≡ length (reverse ks) →
    length os < 64 → length ks < 32 → false ≡ not (has_room frs)
is-not-full os ks frs same e some more = ap not (sym (ap has_room (sym same) ∙ room-of os ks e ∙ room-there (length os) (length ks) some more))

pub is-full-by : (os : List Open) (ks : List Kept) (frs : List Frame) → opened (reverse os) (reverse ks) ≡ frs → keeping (reverse os) ≡ length (reverse ks) →
    length os < 64 → length ks ≤ 32 → (b : Bool) → b ≡ nat_eq (length ks) 32 → b ≡ not (has_room frs)
is-full-by os ks frs same e some most true full = is-full-kept os ks frs same e (eqb-true (length ks) 32 (sym full))
is-full-by os ks frs same e some most false full = (let other = eqb-false (length ks) 32 (sym full) in is-not-full os ks frs same e some (omega (arith, most, other)))

pub below-full : (n : ℕ) → n ≤ 64 → false ≡ nat_eq n 64 → n < 64
below-full n most e = (let other = eqb-false n 64 (sym e) in omega (arith, most, other))

pub not-off : (b : Bool) → not b ≡ true → b ≡ false
not-off true e = absurd cc
not-off false e = refl

pub not-on : (b : Bool) → not b ≡ false → b ≡ true
not-on true e = refl
not-on false e = absurd cc

-- the last of a list is the first of it the other way round
pub last-first : {A : Type 0} (olds news : List A) (x : A) → olds ≡ news ++ x ∷ [] → reverse olds ≡ x ∷ reverse news
last-first olds news x e = ap reverse e ∙ reverse-append news (x ∷ [])

all-behind : (o : Open) (os : List Open) → All (λ p. p.at.place < 1564) (o ∷ os) → All (λ p. p.at.place < 1564) os
all-behind o os all k d less = all (suc k) d (omega (arith, less))

pub closed-bare : (o : Open) (os : List Open) (ks : List Kept) → o.keeps ≡ false → AreOpen (o ∷ os) ks → AreOpen os ks
closed-bare o os ks bare are = (sym (ap (λ b. one_more b (keeping os)) bare) ∙ are.0, all-behind o os are.1)

pub closed-kept : (o : Open) (os : List Open) (k : Kept) (ks : List Kept) → o.keeps ≡ true → AreOpen (o ∷ os) (k ∷ ks) → AreOpen os ks
closed-kept o os k ks keeps are =
    let e : suc (keeping os) ≡ suc (length ks) = sym (ap (λ b. one_more b (keeping os)) keeps) ∙ are.0 in
    (omega (arith, e), all-behind o os are.1)
