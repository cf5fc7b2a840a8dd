-- How many tasks remain: each removes more than it adds.
use Rattle.std.proofs.Common.{◌≡◌, refl, sym, ap, subst, ◌∙◌, ℕ, zero, suc, ◌+◌, ◌*◌, ◌<◌, ◌≤◌, Bool, true, false, List, [], ◌∷◌, ◌++◌, map, Option, Some, None, if◌then◌else◌, append-nil, arith}
use Rattle.std.proofs.lemmas.List.Sums.{sum_by-append}
use Rattle.mbe_matcher.specs.Grammar.{Grammar}
use Rattle.mbe_matcher.specs.Places.{place_after}
use Rattle.mbe_matcher.specs.Readings as r
use Rattle.mbe_matcher.specs.Settled.{IsGood, HasEnd, most_tasks, planned, tasks_of, tasks_of_all}
use Rattle.mbe_matcher.specs.Threads.{Made, extended, made_of, given, state_of, is_some_taken}
use Rattle.mbe_matcher.specs.Units as u
use Rattle.mbe_matcher.specs.Waiting.{Each, Good, empties_at}
use Rattle.mbe_matcher.specs.declared.step.Choice.{Choice}
use Rattle.mbe_matcher.specs.declared.same_state.Seen.{Seen}
use Rattle.mbe_matcher.specs.declared.matcher.SettleTask.{SettleTask}
use Rattle.mbe_matcher.specs.declared.matcher.SettleTask.TheVariants.{GoOn, Note}
use Rattle.mbe_matcher.specs.declared.position.Consumed.{Consumed}
use Rattle.mbe_matcher.proofs.MoveLemmas.{does}
use Rattle.mbe_matcher.proofs.SettlingLemmas.{from-map}

-- ---- lists of tasks

pub each-put : {A : Type 0} (Q : A → Type 0) (xs ys : List A) → Each Q xs → Each Q ys → Each Q (xs ++ ys)
each-put Q [] ys h k = k
each-put Q (x ∷ xs) ys h k = (h.0, each-put Q xs ys h.1 k)

pub each-last : {A : Type 0} (Q : A → Type 0) (xs : List A) (x : A) → Each Q (xs ++ (x ∷ [])) → Each Q xs × Q x
each-last Q [] x h = (tt, h.0)
each-last Q (y ∷ xs) x h = let k = each-last Q xs x h.1 in ((h.0, k.0), k.1)

alone : (p : u.Place) (t : SettleTask) → tasks_of_all p (t ∷ []) ≡ tasks_of p t
alone p t = omega arith

pub one-more : (p : u.Place) (ts : List SettleTask) (t : SettleTask) → tasks_of_all p (ts ++ (t ∷ [])) ≡ tasks_of_all p ts + tasks_of p t
one-more p ts t = omega (arith, sum_by-append (tasks_of p) ts (t ∷ []), alone p t)

-- ---- what a state brings

pub some-tasks : (e : ℕ) → 4 ≤ most_tasks e
some-tasks zero = omega arith
some-tasks (suc e) = omega (arith, some-tasks e)

fewer-tasks : (d e : ℕ) → d < e → 2 * most_tasks d + 2 ≤ most_tasks e
fewer-tasks d zero h = absurd (omega (arith, h))
fewer-tasks zero (suc zero) h = omega arith
fewer-tasks zero (suc (suc e)) h = omega (arith, fewer-tasks zero (suc e) (omega arith))
fewer-tasks (suc d) (suc e) h = omega (arith, fewer-tasks d e (omega (arith, h)))

-- a choice whose move takes nothing leads to a good state, with fewer such moves ahead
visited : (gr : Grammar) (p : u.Place) (ms : List r.Move) (s : r.State) (c : Choice) (xs ys : List Made) →
    xs ++ (made_of p c ∷ ys) ≡ map (extended ms) (r.next gr s) → IsGood s → is_some_taken c.taken ≡ false →
    IsGood (state_of c.thread p) × (empties_at (state_of c.thread p) < empties_at s)
visited gr p ms s c xs ys e g h = go c.taken h refl
  where
    go : (o : Option Consumed) → is_some_taken o ≡ false → o ≡ c.taken →
        IsGood (state_of c.thread p) × (empties_at (state_of c.thread p) < empties_at s)
    go (Some t) i k = absurd (cc i)
    go None i k =
        let d = from-map (extended ms) (made_of p c) xs ys (r.next gr s) e in
        let t : r.takes d.0.0 ≡ false = ap (λ m. m.1) d.2 ∙ h in
        let v : d.0.1 ≡ state_of c.thread p = ap (λ m. m.3) d.2 ∙ ap (λ o. state_of c.thread (place_after p o)) (sym k) in
        let w = does gr g.0 s d.0 d.1 in
        ((g.0, subst (Good g.0) v (w.good g.1)), subst (λ x. empties_at x < empties_at s) v (w.empties_fall t g.1))

-- what the task of a choice brings: less than half of what its state does
pub planned-fewer : (gr : Grammar) (p : u.Place) (ms : List r.Move) (s : r.State) (o : Option Choice) (xs ys : List Made) →
    xs ++ (given p o ++ ys) ≡ map (extended ms) (r.next gr s) → IsGood s →
    Each (HasEnd p) (planned o) × (2 * tasks_of_all p (planned o) + 2 ≤ most_tasks (empties_at s))
planned-fewer gr p ms s None xs ys e g = (tt, omega (arith, some-tasks (empties_at s)))
planned-fewer gr p ms s (Some c) xs ys e g = (((λ h. (visited gr p ms s c xs ys e g h).0), tt), by_taken (is_some_taken c.taken) refl)
  where
    by_taken : (b : Bool) → is_some_taken c.taken ≡ b → 2 * tasks_of_all p (GoOn c ∷ []) + 2 ≤ most_tasks (empties_at s)
    by_taken true h =
        let one : tasks_of p (GoOn c) ≡ 1 = rw h refl in
        omega (arith, alone p (GoOn c), one, some-tasks (empties_at s))
    by_taken false h =
        let one : tasks_of p (GoOn c) ≡ most_tasks (empties_at (state_of c.thread p)) = rw h refl in
        omega (arith, alone p (GoOn c), one, fewer-tasks (empties_at (state_of c.thread p)) (empties_at s) (visited gr p ms s c xs ys e g h).1)

-- both choices planned
pub plans : (gr : Grammar) (p : u.Place) (ms : List r.Move) (s : r.State) (ts us : List SettleTask) (first second : Option Choice) →
    given p first ++ given p second ≡ map (extended ms) (r.next gr s) → IsGood s → Each (HasEnd p) ts →
    us ≡ (ts ++ planned second) ++ planned first →
    Each (HasEnd p) us × (tasks_of_all p us + 2 ≤ tasks_of_all p ts + most_tasks (empties_at s))
plans gr p ms s ts us first second e g h same =
    let one = planned-fewer gr p ms s first [] (given p second) e g in
    let two = planned-fewer gr p ms s second (given p first) [] (ap (λ x. given p first ++ x) (append-nil (given p second)) ∙ e) g in
    let sum = ap (tasks_of_all p) same
    ∙ sum_by-append (tasks_of p) (ts ++ planned second) (planned first) in
    let more = sum_by-append (tasks_of p) ts (planned second) in (
      subst (Each (HasEnd p)) (sym same) (each-put (HasEnd p) (ts ++ planned second) (planned first) (each-put (HasEnd p) ts (planned second) h two.0) one.0),
      omega (arith, sum, more, one.1, two.1),
    )

-- a note is put down before the choices of its state
pub noted : (p : u.Place) (ts us : List SettleTask) (x : Seen) → us ≡ ts ++ (Note x ∷ []) → Each (HasEnd p) ts →
    Each (HasEnd p) us × (tasks_of_all p us ≡ tasks_of_all p ts + 1)
noted p ts us x same h =
    (subst (Each (HasEnd p)) (sym same) (each-put (HasEnd p) ts (Note x ∷ []) h (tt, tt)), ap (tasks_of_all p) same ∙ one-more p ts (Note x))

-- what a choice that takes nothing brings
pub goes : (p : u.Place) (c : Choice) → c.taken ≡ None → tasks_of p (GoOn c) ≡ most_tasks (empties_at (state_of c.thread p))
goes p c e = ap (λ o. if is_some_taken o then 1 else most_tasks (empties_at (state_of c.thread p))) e

pub waits_now : (p : u.Place) (c : Choice) (k : Consumed) → c.taken ≡ Some k → tasks_of p (GoOn c) ≡ 1
waits_now p c k e = ap (λ o. if is_some_taken o then 1 else most_tasks (empties_at (state_of c.thread p))) e
