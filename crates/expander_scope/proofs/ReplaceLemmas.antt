-- What comes of a call is taken back where it makes too much.
use Rattle.std.proofs.Common.{◌≡◌, ℕ, List, [], ◌∷◌, ◌++◌, length, take, zero, suc, refl, sym, ap, subst, ◌∙◌, append-nil, true}
use Rattle.std.specs.Prelude.{Result, Ok, Err, IfOk, Option, None, map, option_map}
use Rattle.expander_model.specs.Definitions.{Definition}
use Rattle.expander_model.specs.Expansion.{Outcome, PlacedStep}
use Rattle.expander_model.specs.Held.{Numbered}
use Rattle.expander_model.specs.Limits.{Noted, Notes, passed_at_once, sized}
use Rattle.expander_model.specs.Scoping.{Scoped}
use Rattle.expander_model.specs.declared.limits.Limits.{Limits}
use Rattle.expander_scope.specs.LocalTables.{locals_of}
use Rattle.expander_scope.specs.Outcomes.{find_of}
use Rattle.expander_scope.specs.Spending.{BurstsFirst, BurstsIn, Searched, Spends, Stops, TakesBack, left_behind, passing, with_left}
use Rattle.expander_scope.specs.Expanding.{Adds}
use Rattle.expander_scope.specs.Sinks.{TakesMore}
use Rattle.expander_scope.specs.declared.outcome.Expanding.{Expanding}
use Rattle.expander_scope.proofs.SpendingLemmas.{behind_notes, bursts_more, none_passed, passed_here, passing_more, spends_more}
use Rattle.expander_scope.specs.declared.expand.search.Search.{Search}

pub take-front : {X : Type 0} (xs ys : List X) → take (length xs) (xs ++ ys) ≡ xs
take-front [] ys = refl
take-front (x ∷ xs) ys = ap (λ l. x ∷ l) (take-front xs ys)

pub take-mapped : {X Y : Type 0} (f : X → Y) (n : ℕ) (xs : List X) → map f (take n xs) ≡ take n (map f xs)
take-mapped f zero xs = refl
take-mapped f (suc n) [] = refl
take-mapped f (suc n) (x ∷ xs) = ap (λ l. f x ∷ l) (take-mapped f n xs)

pub length-mapped : {X Y : Type 0} (f : X → Y) (xs : List X) → length (map f xs) ≡ length xs
length-mapped f [] = refl
length-mapped f (x ∷ xs) = ap suc (length-mapped f xs)

-- what holds of each good result, and what follows from what does
pub ok_all : {T E : Type 0} {P : T → Type 0} (r : Result T E) → ((x : T) → P x) → IfOk r P
ok_all (Ok x) h = h x
ok_all (Err e) h = tt

pub ok_more : {T E : Type 0} {P Q : T → Type 0} (r : Result T E) → ((x : T) → P x → Q x) → IfOk r P → IfOk r Q
ok_more (Ok x) h p = h x p
ok_more (Err e) h p = tt

module _ {S : Type 0} (Has : S → List PlacedStep → Type 0) where
  pub taken_back : (Marks : ℕ → List PlacedStep → Type 0) (limits : Option Limits) (old stopped new : Search S) (notes : Notes Numbered) (mark told around : ℕ)
      → ((before : List PlacedStep) → Has old.out.output before → Marks mark before)
      → told ≡ length old.out.faults.items → around ≡ length (locals_of old.locals)
      → Stops Has (record old { left = limits }) stopped notes
      → ((before more : List PlacedStep) → Marks mark before → Has stopped.out.output (before ++ more) → Has new.out.output before)
      → new.out.faults.items ≡ take told stopped.out.faults.items → new.out.finds ≡ stopped.out.finds
      → ((front back : List Definition) → locals_of stopped.locals ≡ front ++ back → length back ≡ around → locals_of new.locals ≡ back)
      → new.left ≡ old.left → TakesBack Has limits old new notes
  taken_back Marks limits old stopped new notes mark told around marks told_is around_is st takes faults finds locals left = record {
    passed = st.passed;
    is = st.is;
    finds = ap (λ (v : _). map find_of v.items) finds ∙ st.finds;
    takes = λ before has. subst (Has new.out.output) (sym (append-nil before)) (takes before st.steps (marks before has) (st.takes before has));
    faults = faults ∙ ap (take told) st.faults ∙ ap (λ n. take n (old.out.faults.items ++ st.told)) told_is ∙ take-front old.out.faults.items st.told;
    locals = locals st.front (locals_of old.locals) st.locals (sym around_is);
    left = left;
  }

  -- ---- what a call gives counts

  -- it passes a limit at once
  pub stops_at_once : (old new : Search S) (c n : ℕ) (ys : Notes Numbered) → left_behind old.left (sized c n) ≡ None → new.out ≡ old.out → new.locals ≡ old.locals → Stops Has old new (sized c n ++ ys)
  stops_at_once old new c n ys over out locals = record {
    passed = passed_at_once;
    is = passed_here old.left c n ys over;
    finds = ap (λ (e : Expanding S). map find_of e.finds.items) out ∙ sym (append-nil (map find_of old.out.finds.items));
    steps = [];
    takes = λ before has. subst (Has new.out.output) (sym (append-nil before)) (subst (λ (e : Expanding S). Has e.output before) (sym out) has);
    told = [];
    faults = ap (λ (e : Expanding S). e.faults.items) out ∙ sym (append-nil old.out.faults.items);
    front = [];
    locals = ap locals_of locals;
  }

  module _ (old mid new : Search S) (c n : ℕ) (counted : Spends old.left mid.left (sized c n)) (out : mid.out ≡ old.out) (locals : mid.locals ≡ old.locals) where
    pub searched_more : (a : Scoped (Noted Numbered)) → Searched Has mid new a a.outcome.finds → Searched Has old new a (sized c n ++ a.outcome.finds)
    searched_more a all = record {
      adds = subst (λ (e : Expanding S). Adds Has e new.out a.outcome) out all.adds;
      locals = all.locals ∙ ap (λ l. a.defines ++ locals_of l) locals;
      spends = spends_more old.left mid.left new.left (sized c n) a.outcome.finds counted all.spends;
    }

    pub stops_more : (ys : Notes Numbered) → Stops Has mid new ys → Stops Has old new (sized c n ++ ys)
    stops_more ys st = record {
      passed = st.passed;
      is = passing_more old.left mid.left (sized c n) ys counted ∙ ap (option_map (behind_notes (sized c n))) st.is;
      finds = st.finds ∙ ap (λ (e : Expanding S). map find_of e.finds.items ++ st.passed.finds) out;
      steps = st.steps;
      takes = subst (λ (e : Expanding S). TakesMore Has e.output new.out.output st.steps) out st.takes;
      told = st.told;
      faults = st.faults ∙ ap (λ (e : Expanding S). e.faults.items ++ st.told) out;
      front = st.front;
      locals = st.locals ∙ ap (λ l. st.front ++ locals_of l) locals;
    }

    pub bursts_in_more : (a : Outcome (Noted Numbered)) → BurstsIn mid.left a → (a.bursts ≡ true) × BurstsFirst old.left (sized c n ++ a.finds)
    bursts_in_more a much = (much.0, bursts_more old.left mid.left (sized c n) a.finds counted much.1)

  -- outside of all calls nothing is left before or behind, so anything is spent
  pub searched_outside : (old stopped : Search S) (left : Option Limits) (a : Scoped (Noted Numbered)) (notes : Notes Numbered) → old.left ≡ None
      → Searched Has (with_left old left) stopped a a.outcome.finds → Searched Has old (with_left stopped None) a notes
  searched_outside old stopped left a notes none all = record {
    adds = all.adds;
    locals = all.locals;
    spends = subst (λ x. Spends x None notes) (sym none) refl;
  }

-- no limit is passed in what is spent, with what was spent before
pub fits_own : (own left rest : Option Limits) (c n : ℕ) (ys : Notes Numbered) → Spends own left (sized c n) → Spends left rest ys → passing own (sized c n ++ ys) ≡ None
fits_own own left rest c n ys counted more = none_passed own rest (sized c n ++ ys) (spends_more own left rest (sized c n) ys counted more)
