-- How many tasks remain: each removes more than it adds.
use Rattle.std.proofs.Common.{◌≡◌, refl, sym, ap, subst, ◌∙◌, ℕ, zero, suc, ◌+◌, ◌*◌, ◌<◌, ◌≤◌, Bool, true, false, List, [], ◌∷◌, ◌++◌, map, option_map, Option, Some, None, if◌then◌else◌, append-nil, arith}
use Rattle.std.proofs.lemmas.List.Sums.{sum_by-append}
use Rattle.mbe_matcher.specs.Grammar.{Grammar}
use Rattle.mbe_matcher.specs.Places.{place_after}
use Rattle.mbe_matcher.specs.Readings as r
use Rattle.mbe_matcher.specs.Settled.{IsGood, most_tasks}
use Rattle.mbe_matcher.specs.Threads.{Made, extended, given, is_some_taken, made_of, state_of}
use Rattle.mbe_matcher.specs.Units as u
use Rattle.mbe_matcher.specs.Waiting.{Each, Good, empties_at}
use Rattle.mbe_matcher.specs.declared.position.Consumed.{Consumed}
use Rattle.mbe_matcher.specs.declared.same_state.Seen.{Seen}
use Rattle.mbe_matcher.proofs.MoveLemmas.{does}
use Rattle.mbe_matcher.proofs.SettlingLemmas.{from-map}
use Rattle.mbe_matcher.proofs.TaskLemmas.{each-last, each-put, some-tasks}
use Rattle.mbe_explain.specs.Surveys.{HasEnd, choice_of, planned, tasks_of, tasks_of_all}
use Rattle.mbe_explain.specs.declared.step.Step.{Step}
use Rattle.mbe_explain.specs.declared.survey.Task.{Task}
use Rattle.mbe_explain.specs.declared.survey.Task.TheVariants.{GoOn, Note}

alone : (p : u.Place) (t : Task) → tasks_of_all p (t ∷ []) ≡ tasks_of p t
alone p t = omega arith

pub one-more : (p : u.Place) (ts us : List Task) (t : Task) → us ≡ ts ++ (t ∷ []) → tasks_of_all p us ≡ tasks_of_all p ts + tasks_of p t
one-more p ts us t e = ap (tasks_of_all p) e ∙ omega (arith, sum_by-append (tasks_of p) ts (t ∷ []), alone p t)

pub last-end : (p : u.Place) (ts us : List Task) (t : Task) → us ≡ ts ++ (t ∷ []) → Each (HasEnd p) us → Each (HasEnd p) ts × HasEnd p t
last-end p ts us t e h = each-last (HasEnd p) ts t (subst (Each (HasEnd p)) e h)

-- fewer moves ahead bring less than half the tasks
fewer-tasks : (d e : ℕ) → d < e → 2 * most_tasks d + 2 ≤ most_tasks e
fewer-tasks d zero h = absurd (omega (arith, h))
fewer-tasks zero (suc zero) h = omega arith
fewer-tasks zero (suc (suc e)) h = omega (arith, fewer-tasks zero (suc e) (omega arith))
fewer-tasks (suc d) (suc e) h = omega (arith, fewer-tasks d e (omega (arith, h)))

-- a step whose move consumes nothing is in a good state, with fewer such moves ahead
ahead : (gr : Grammar) (p : u.Place) (ms : List r.Move) (x : r.State) (s : Step) (xs ys : List Made) →
    xs ++ (made_of p (choice_of s) ∷ ys) ≡ map (extended ms) (r.next gr x) → IsGood x → is_some_taken s.taken ≡ false →
    IsGood (state_of s.thread p) × (empties_at (state_of s.thread p) < empties_at x)
ahead gr p ms x s xs ys e g h = go s.taken h refl
  where
    go : (o : Option Consumed) → is_some_taken o ≡ false → o ≡ s.taken → IsGood (state_of s.thread p) × (empties_at (state_of s.thread p) < empties_at x)
    go (Some t) i k = absurd (cc i)
    go None i k =
        let d = from-map (extended ms) (made_of p (choice_of s)) xs ys (r.next gr x) e in
        let t : r.takes d.0.0 ≡ false = ap (λ m. m.1) d.2 ∙ h in
        let v : d.0.1 ≡ state_of s.thread p = ap (λ m. m.3) d.2 ∙ ap (λ o. state_of s.thread (place_after p o)) (sym k) in
        let w = does gr g.0 x d.0 d.1 in
        ((g.0, subst (Good g.0) v (w.good g.1)), subst (λ y. empties_at y < empties_at x) v (w.empties_fall t g.1))

planned-fewer : (gr : Grammar) (p : u.Place) (ms : List r.Move) (x : r.State) (o : Option Step) (xs ys : List Made) →
    xs ++ (given p (option_map choice_of o) ++ ys) ≡ map (extended ms) (r.next gr x) → IsGood x →
    Each (HasEnd p) (planned o) × (2 * tasks_of_all p (planned o) + 2 ≤ most_tasks (empties_at x))
planned-fewer gr p ms x None xs ys e g = (tt, omega (arith, some-tasks (empties_at x)))
planned-fewer gr p ms x (Some s) xs ys e g = (((λ h. (ahead gr p ms x s xs ys e g h).0), tt), by_taken (is_some_taken s.taken) refl)
  where
    by_taken : (b : Bool) → is_some_taken s.taken ≡ b → 2 * tasks_of_all p (GoOn s ∷ []) + 2 ≤ most_tasks (empties_at x)
    by_taken true h =
        let one : tasks_of p (GoOn s) ≡ 1 = rw h refl in
        omega (arith, alone p (GoOn s), one, some-tasks (empties_at x))
    by_taken false h =
        let one : tasks_of p (GoOn s) ≡ most_tasks (empties_at (state_of s.thread p)) = rw h refl in
        omega (arith, alone p (GoOn s), one, fewer-tasks (empties_at (state_of s.thread p)) (empties_at x) (ahead gr p ms x s xs ys e g h).1)

-- both next moves planned
pub plans : (gr : Grammar) (p : u.Place) (ms : List r.Move) (x : r.State) (ts us : List Task) (first second : Option Step) →
    given p (option_map choice_of first) ++ given p (option_map choice_of second) ≡ map (extended ms) (r.next gr x) → IsGood x → Each (HasEnd p) ts →
    us ≡ (ts ++ planned second) ++ planned first →
    Each (HasEnd p) us × (tasks_of_all p us + 2 ≤ tasks_of_all p ts + most_tasks (empties_at x))
plans gr p ms x ts us first second e g h same =
    let other = given p (option_map choice_of second) in
    let one = planned-fewer gr p ms x first [] other e g in
    let two = planned-fewer gr p ms x second (given p (option_map choice_of first)) [] (ap (λ y. given p (option_map choice_of first) ++ y) (append-nil other) ∙ e) g in
    let sum = ap (tasks_of_all p) same ∙ sum_by-append (tasks_of p) (ts ++ planned second) (planned first) in
    let more = sum_by-append (tasks_of p) ts (planned second) in (
      subst (Each (HasEnd p)) (sym same) (each-put (HasEnd p) (ts ++ planned second) (planned first) (each-put (HasEnd p) ts (planned second) h two.0) one.0),
      omega (arith, sum, more, one.1, two.1),
    )

-- a note is put down before the next moves
pub noted : (p : u.Place) (ts us : List Task) (x : Seen) → us ≡ ts ++ (Note x ∷ []) → Each (HasEnd p) ts →
    Each (HasEnd p) us × (tasks_of_all p us ≡ tasks_of_all p ts + 1)
noted p ts us x same h = (subst (Each (HasEnd p)) (sym same) (each-put (HasEnd p) ts (Note x ∷ []) h (tt, tt)), one-more p ts us (Note x) same)

-- what a step brings whose last move consumed nothing
pub brings : (p : u.Place) (s : Step) → s.taken ≡ None → tasks_of p (GoOn s) ≡ most_tasks (empties_at (state_of s.thread p))
brings p s e = ap (λ o. if is_some_taken o then 1 else most_tasks (empties_at (state_of s.thread p))) e

pub brings-one : (p : u.Place) (s : Step) (k : Consumed) → s.taken ≡ Some k → tasks_of p (GoOn s) ≡ 1
brings-one p s k e = ap (λ o. if is_some_taken o then 1 else most_tasks (empties_at (state_of s.thread p))) e
