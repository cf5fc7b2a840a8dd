-- Lists of spans in runs: which run has a given span, and the list after a run is added or
-- removed.
use Rattle.std.proofs.Common.{◌≡◌, ℕ, suc, ◌+◌, ◌-◌, ◌^◌, ◌<◌, ◌≤◌, Bool, true, false, ◌&&◌, if◌then◌else◌, nat_eq, List, [], ◌∷◌, ◌++◌, length, take, get_or, set, map, add-one, zero, refl, sym, ap, ◌∙◌, subst, arith, append_assoc}
use Rattle.std.specs.Prelude.{Option, Some, None, leb, ltb, slice_get}
use Rattle.std.proofs.lemmas.Option.{slice_get_read}
use Rattle.std.specs.Rc.{rc_value}
use Rattle.std.specs.List.{AllWithin, flat_map, list_all}
use Rattle.std.proofs.lemmas.List.{append-nil, length-append, length-map, length-take-le, take-append-le, take-take}
use Rattle.std.proofs.lemmas.Bool.Decides.{nat_tests}
use Rattle.tt_data.specs.declared.span.Span.{Span}
use Rattle.bridge.specs.RelativeSpans.{is_anchored, is_in_text, is_within, shifted}
use Rattle.bridge.specs.SpanLists.{AreSpanRuns, AreRuns, AreSameRuns, IsRun, RunState, StandsBehind, of_run, run_spans, shifted_all, spans_in, spans_of_run}
use Rattle.bridge.specs.declared.printing.relative_spans.Shift.{Shift}
use Rattle.bridge.specs.declared.printing.span_list.SpanRuns.{SpanRuns}
use Rattle.bridge.specs.declared.printing.span_list.SpanRun.{SpanRun}

-- ---- lists

-- a test that all pass, at one of them
pub passes_at : {X : Type 0} (p : X → Bool) (xs : List X) (i : ℕ) (x : X) → list_all p xs ≡ true → slice_get xs i ≡ Some x → p x ≡ true
passes_at p [] i x all at = absurd (cc)
passes_at p (y ∷ ys) zero x all at = go (p y) refl all
  where
    go : (b : Bool) → p y ≡ b → (b && list_all p ys) ≡ true → p x ≡ true
    go true is h = let same : y ≡ x = cc in ap p (sym same) ∙ is
    go false is h = absurd (cc)
passes_at p (y ∷ ys) (suc i) x all at = passes_at p ys i x (rest (p y) all) at
  where
    rest : (b : Bool) → (b && list_all p ys) ≡ true → list_all p ys ≡ true
    rest true h = h
    rest false h = absurd (cc)

pub all_lift : {X : Type 0} (p q : X → Bool) (xs : List X) → ((x : X) → p x ≡ true → q x ≡ true) → list_all p xs ≡ true → list_all q xs ≡ true
all_lift p q [] each all = refl
all_lift p q (x ∷ xs) each all = go (p x) refl all (all_lift p q xs each)
  where
    go : (b : Bool) → p x ≡ b → (b && list_all p xs) ≡ true → (list_all p xs ≡ true → list_all q xs ≡ true) → (q x && list_all q xs) ≡ true
    go true is h later = ap (λ b. b && list_all q xs) (each x is) ∙ later h
    go false is h later = absurd (cc)

get_left : {X : Type 0} (xs ys : List X) (i : ℕ) → i < length xs → slice_get (xs ++ ys) i ≡ slice_get xs i
get_left [] ys i h = absurd (omega arith)
get_left (x ∷ xs) ys zero h = refl
get_left (x ∷ xs) ys (suc i) h = get_left xs ys i (omega arith)

get_right : {X : Type 0} (xs ys : List X) (i : ℕ) → slice_get (xs ++ ys) (length xs + i) ≡ slice_get ys i
get_right [] ys i = let e : 0 + i ≡ i = omega arith in ap (slice_get ys) e
get_right (x ∷ xs) ys i = let e : suc (length xs) + i ≡ suc (length xs + i) = omega arith in ap (slice_get (x ∷ (xs ++ ys))) e ∙ get_right xs ys i

pub get_taken : {X : Type 0} (n : ℕ) (xs : List X) (i : ℕ) → i < n → slice_get (take n xs) i ≡ slice_get xs i
get_taken zero xs i h = absurd (omega arith)
get_taken (suc n) [] i h = refl
get_taken (suc n) (x ∷ xs) zero h = refl
get_taken (suc n) (x ∷ xs) (suc i) h = get_taken n xs i (omega arith)

pub take_next : {X : Type 0} (xs : List X) (i : ℕ) (x : X) → slice_get xs i ≡ Some x → take i xs ++ x ∷ [] ≡ take (i + 1) xs
take_next [] i x at = absurd (cc)
take_next (y ∷ ys) zero x at = let same : y ≡ x = cc in ap (λ (z : _). z ∷ []) (sym same)
take_next (y ∷ ys) (suc i) x at = let e : suc i + 1 ≡ suc (i + 1) = omega arith in ap (λ l. y ∷ l) (take_next ys i x at) ∙ ap (λ n. take n (y ∷ ys)) (sym e)

take_map : {X Y : Type 0} (f : X → Y) (n : ℕ) (xs : List X) → take n (map f xs) ≡ map f (take n xs)
take_map f zero xs = refl
take_map f (suc n) [] = refl
take_map f (suc n) (x ∷ xs) = ap (λ l. f x ∷ l) (take_map f n xs)

-- ---- one run

length_shifted : (o : Option Shift) (xs : List Span) → length (shifted_all o xs) ≡ length xs
length_shifted None xs = refl
length_shifted (Some shift) xs = length-map xs (shifted shift)

pub length_run : (n : ℕ) (r : RunState) → StandsBehind n r → n + length (spans_of_run r) ≡ r.«end»
length_run n r is =
    omega (arith, is.begin, is.order, is.long, length_shifted r.shift (take (r.«end» - r.begin) r.spans), length-take-le (r.«end» - r.begin) r.spans (omega (arith, is.begin, is.long)))

take_shifted : (o : Option Shift) (n : ℕ) (xs : List Span) → take n (shifted_all o xs) ≡ shifted_all o (take n xs)
take_shifted None n xs = refl
take_shifted (Some shift) n xs = take_map (shifted shift) n xs

-- ---- the run of a place

record Finds (runs : List SpanRun) (own : List Span) (n i : ℕ) (r : SpanRun) : Type 0 where
  right : IsRun r.begin r
  begin : r.begin ≤ i
  place : slice_get (flat_map run_spans runs ++ own) (i - n) ≡ slice_get (run_spans r) (i - r.begin)

at_run : (runs : List SpanRun) (n shared i k : ℕ) (own : List Span) (r : SpanRun) → AreRuns n runs shared → n ≤ i → AllWithin (λ (r : SpanRun). r.«end» ≤ i) runs 0 k
    → slice_get runs k ≡ Some r → i < r.«end» → Finds runs own n i r
at_run [] n shared i k own r are from before at stop = absurd (cc)
at_run (x ∷ xs) n shared i zero own r are from before at stop =
    let same : x ≡ r = cc in
    subst (Finds (x ∷ xs) own n i) same
    (let stops : i < x.«end» = subst (λ (y : SpanRun). i < y.«end») (sym same) stop in
    record {
      right = subst (λ m. IsRun m x) (sym are.0.begin) are.0;
      begin = omega (arith, are.0.begin);
      place = ap (λ l. slice_get l (i - n)) (append_assoc (run_spans x) (flat_map run_spans xs) own)
          ∙ get_left (run_spans x) (flat_map run_spans xs ++ own) (i - n) (omega (arith, length_run n (of_run x) are.0))
          ∙ ap (λ m. slice_get (run_spans x) (i - m)) (sym are.0.begin);
    })
at_run (x ∷ xs) n shared i (suc k) own r are from before at stop =
    let first : x.«end» ≤ i = before 0 x (omega arith) (omega arith) in
    let later = at_run xs x.«end» shared i k own r are.1 first (λ j d low high. before (suc j) d (omega arith) (omega arith)) at stop in
    let place : i - n ≡ length (run_spans x) + (i - x.«end») = omega (arith, length_run n (of_run x) are.0) in
    record {
      right = later.right;
      begin = later.begin;
      place = ap (λ l. slice_get l (i - n)) (append_assoc (run_spans x) (flat_map run_spans xs) own)
          ∙ ap (slice_get (run_spans x ++ (flat_map run_spans xs ++ own))) place
          ∙ get_right (run_spans x) (flat_map run_spans xs ++ own) (i - x.«end») ∙ later.place;
    }

pub length_runs : (runs : List SpanRun) (n shared : ℕ) → AreRuns n runs shared → n + length (flat_map run_spans runs) ≡ shared
length_runs [] n shared are = omega arith
length_runs (x ∷ xs) n shared are =
    omega (arith, length_run n (of_run x) are.0, length_runs xs x.«end» shared are.1, length-append (run_spans x) (flat_map run_spans xs))

pub record IsFound (inner : SpanRuns) (i : ℕ) (r : SpanRun) : Type 0 where
  pub right : IsRun r.begin r
  pub begin : r.begin ≤ i
  pub stop : i < r.«end»
  pub place : slice_get (run_spans r) (i - r.begin) ≡ slice_get (spans_in inner) i

-- a place behind all runs
pub behind_runs : (runs : List SpanRun) (shared i : ℕ) (own : List Span) → AreRuns 0 runs shared → shared ≤ i
    → slice_get own (i - shared) ≡ slice_get (flat_map run_spans runs ++ own) i
behind_runs runs shared i own are past =
    let place : i ≡ length (flat_map run_spans runs) + (i - shared) = omega (arith, length_runs runs 0 shared are) in
    sym (ap (slice_get (flat_map run_spans runs ++ own)) place ∙ get_right (flat_map run_spans runs) own (i - shared))

-- some run ends behind a place that is no place behind them
pub inside : (runs : List SpanRun) (n shared i k : ℕ) → AreRuns n runs shared → n ≤ i → i < shared → AllWithin (λ (r : SpanRun). r.«end» ≤ i) runs 0 k → k < length runs
inside [] n shared i k are from below before = absurd (omega (arith, are))
inside (x ∷ xs) n shared i zero are from below before = omega arith
inside (x ∷ xs) n shared i (suc k) are from below before =
    let later = inside xs x.«end» shared i k are.1 (before 0 x (omega arith) (omega arith)) below (λ j d low high. before (suc j) d (omega arith) (omega arith)) in
    omega (arith, later)

-- the run of a place
pub found : (inner : SpanRuns) (list : List SpanRun) (i k : ℕ) (r : SpanRun) → AreSpanRuns inner → i < inner.shared → list ≡ inner.runs.items
    → AllWithin (λ (r : SpanRun). r.«end» ≤ i) list 0 k → AllWithin (λ (r : SpanRun). i < r.«end») list k (length list)
    → r ≡ get_or inner.runs.items k r → IsFound inner i r
found inner list i k r are below same before behind is =
    let runs : List SpanRun = inner.runs.items in
    let first = subst (λ l. AllWithin (λ (r : SpanRun). r.«end» ≤ i) l 0 k) same before in
    let later = subst (λ l. AllWithin (λ (r : SpanRun). i < r.«end») l k (length l)) same behind in
    let some : k < length runs = inside runs 0 inner.shared i k are.runs (omega arith) below first in
    let stop : i < r.«end» = subst (λ (x : SpanRun). i < x.«end») (sym is) (later k r (omega arith) some) in
    let f = at_run runs 0 inner.shared i k inner.own.items r are.runs (omega arith) first (slice_get_read runs (length runs) k r refl some is) stop in
    let all : i - 0 ≡ i = omega arith in
    record { right = f.right; begin = f.begin; stop = stop; place = sym f.place ∙ ap (slice_get (spans_in inner)) all }

pub some_run : (inner : SpanRuns) (list : List SpanRun) (i k : ℕ) → AreSpanRuns inner → i < inner.shared → list ≡ inner.runs.items
    → AllWithin (λ (r : SpanRun). r.«end» ≤ i) list 0 k → k < length inner.runs.items
some_run inner list i k are below same before =
    inside inner.runs.items 0 inner.shared i k are.runs (omega arith) below (subst (λ l. AllWithin (λ (r : SpanRun). r.«end» ≤ i) l 0 k) same before)

-- ends do not fall
pub first_end : (runs : List SpanRun) (n shared j : ℕ) (d : SpanRun) → AreRuns n runs shared → j < length runs → n ≤ (get_or runs j d).«end»
first_end [] n shared j d are within = absurd (omega arith)
first_end (x ∷ xs) n shared zero d are within = are.0.order
first_end (x ∷ xs) n shared (suc j) d are within = omega (arith, are.0.order, first_end xs x.«end» shared j d are.1 (omega arith))

pub ends_rise : (runs : List SpanRun) (n shared i j : ℕ) (d : SpanRun) → AreRuns n runs shared → i ≤ j → j < length runs → (get_or runs i d).«end» ≤ (get_or runs j d).«end»
ends_rise [] n shared i j d are order within = absurd (omega arith)
ends_rise (x ∷ xs) n shared zero zero d are order within = omega arith
ends_rise (x ∷ xs) n shared zero (suc j) d are order within = first_end xs x.«end» shared j d are.1 (omega arith)
ends_rise (x ∷ xs) n shared (suc i) zero d are order within = absurd (omega arith)
ends_rise (x ∷ xs) n shared (suc i) (suc j) d are order within = ends_rise xs x.«end» shared i j d are.1 (omega arith) (omega arith)

-- ---- one run more

pub one_more : (runs : List SpanRun) (n shared : ℕ) (r : SpanRun) → AreRuns n runs shared → IsRun shared r → AreRuns n (runs ++ r ∷ []) r.«end»
one_more [] n shared r are is = (subst (λ m. IsRun m r) (sym are) is, refl)
one_more (x ∷ xs) n shared r are is = (are.0, one_more xs x.«end» shared r are.1 is)

pub spans_more : (runs : List SpanRun) (r : SpanRun) → flat_map run_spans (runs ++ r ∷ []) ≡ flat_map run_spans runs ++ run_spans r
spans_more [] r = append-nil (run_spans r)
spans_more (x ∷ xs) r = ap (λ l. run_spans x ++ l) (spans_more xs r) ∙ sym (append_assoc (run_spans x) (flat_map run_spans xs) (run_spans r))

-- ---- the same runs

pub same_runs : (xs ys : List SpanRun) (n shared : ℕ) → AreSameRuns xs ys → AreRuns n ys shared → AreRuns n xs shared
same_runs [] [] n shared same are = are
same_runs [] (y ∷ ys) n shared same are = absurd (cc)
same_runs (x ∷ xs) [] n shared same are = absurd (cc)
same_runs (x ∷ xs) (y ∷ ys) n shared same are =
    let first : of_run y ≡ of_run x = cc in
    let later : map of_run xs ≡ map of_run ys = cc in
    let ends : y.«end» ≡ x.«end» = ap (λ (s : RunState). s.«end») first in
    (subst (StandsBehind n) first are.0, subst (λ m. AreRuns m xs shared) ends (same_runs xs ys y.«end» shared later are.1))

pub same_spans : (xs ys : List SpanRun) → AreSameRuns xs ys → flat_map run_spans xs ≡ flat_map run_spans ys
same_spans [] [] same = refl
same_spans [] (y ∷ ys) same = absurd (cc)
same_spans (x ∷ xs) [] same = absurd (cc)
same_spans (x ∷ xs) (y ∷ ys) same =
    let first : of_run x ≡ of_run y = cc in
    let later : map of_run xs ≡ map of_run ys = cc in
    ap (λ s. spans_of_run s ++ flat_map run_spans xs) first ∙ ap (λ l. run_spans y ++ l) (same_spans xs ys later)

-- ---- fewer places

take_more : {X : Type 0} (xs ys : List X) (m : ℕ) → take (length xs + m) (xs ++ ys) ≡ xs ++ take m ys
take_more [] ys m = let e : 0 + m ≡ m = omega arith in ap (λ n. take n ys) e
take_more (x ∷ xs) ys m =
    let e : suc (length xs) + m ≡ suc (length xs + m) = omega arith in
    ap (λ n. take n (x ∷ (xs ++ ys))) e ∙ ap (λ l. x ∷ l) (take_more xs ys m)

-- all runs, and some of the places behind them
pub cut_behind : (runs : List SpanRun) (shared count : ℕ) (own : List Span) → AreRuns 0 runs shared → shared ≤ count
    → flat_map run_spans runs ++ take (count - shared) own ≡ take count (flat_map run_spans runs ++ own)
cut_behind runs shared count own are past =
    let place : count ≡ length (flat_map run_spans runs) + (count - shared) = omega (arith, length_runs runs 0 shared are) in
    sym (ap (λ n. take n (flat_map run_spans runs ++ own)) place ∙ take_more (flat_map run_spans runs) own (count - shared))

-- the first runs, and of the next one what is before a place
abbrev pub cut_at : ℕ → ℕ → SpanRun → List SpanRun → List SpanRun
cut_at i k d runs = set (take (suc k) runs) k (record (get_or (take (suc k) runs) k d) { «end» = i })

record Cuts (runs now : List SpanRun) (n i : ℕ) : Type 0 where
  pub are : AreRuns n now i
  pub spans : flat_map run_spans now ≡ take (i - n) (flat_map run_spans runs)

cuts : (runs : List SpanRun) (n shared i k : ℕ) (d : SpanRun) → AreRuns n runs shared → n ≤ i → k < length runs → AllWithin (λ (r : SpanRun). r.«end» ≤ i) runs 0 k
    → AllWithin (λ (r : SpanRun). i < r.«end») runs k (length runs) → Cuts runs (cut_at i k d runs) n i
cuts [] n shared i k d are from some before behind = absurd (omega arith)
cuts (x ∷ xs) n shared i zero d are from some before behind =
    let stop : i < x.«end» = behind 0 x (omega arith) (omega arith) in
    let own : List Span = rc_value x.spans in
    let fewer : i - n ≤ x.«end» - x.begin = omega (arith, are.0.begin) in
    record {
      are = (record { begin = are.0.begin; order = from; long = omega (arith, are.0.long); fits = are.0.fits }, refl);
      spans = append-nil (spans_of_run (record (of_run x) { «end» = i }))
          ∙ ap (λ m. shifted_all x.shift (take (i - m) own)) are.0.begin
          ∙ ap (shifted_all x.shift) (sym (take-take (i - n) (x.«end» - x.begin) own fewer))
          ∙ sym (take_shifted x.shift (i - n) (take (x.«end» - x.begin) own))
          ∙ sym (take-append-le (i - n) (run_spans x) (flat_map run_spans xs) (omega (arith, length_run n (of_run x) are.0)));
    }
cuts (x ∷ xs) n shared i (suc k) d are from some before behind =
    let first : x.«end» ≤ i = before 0 x (omega arith) (omega arith) in
    let later = cuts xs x.«end» shared i k d are.1 first (omega arith) (λ j e low high. before (suc j) e (omega arith) (omega arith))
    (λ j e low high. behind (suc j) e (omega arith) (omega arith)) in
    let place : i - n ≡ length (run_spans x) + (i - x.«end») = omega (arith, length_run n (of_run x) are.0) in
    record {
      are = (are.0, later.are);
      spans = ap (λ l. run_spans x ++ l) later.spans ∙ sym (ap (λ m. take m (run_spans x ++ flat_map run_spans xs)) place
          ∙ take_more (run_spans x) (flat_map run_spans xs) (i - x.«end»));
    }

-- the same as the code has it
cut_is : (runs cut : List SpanRun) (i k : ℕ) (d : SpanRun) → cut ≡ take (k + 1) runs → d ≡ get_or cut k d → set cut k (record d { «end» = i }) ≡ cut_at i k d runs
cut_is runs cut i k d is at =
    let same : cut ≡ take (suc k) runs = is ∙ ap (λ n. take n runs) (add-one k) in
    ap (λ l. set l k (record d { «end» = i })) same
    ∙ ap (λ (x : SpanRun). set (take (suc k) runs) k (record x { «end» = i })) (at ∙ ap (λ l. get_or l k d) same)

pub cut_runs : (inner : SpanRuns) (list cut : List SpanRun) (i k : ℕ) (d : SpanRun) → AreSpanRuns inner → i < inner.shared → list ≡ inner.runs.items
    → AllWithin (λ (r : SpanRun). r.«end» ≤ i) list 0 k → AllWithin (λ (r : SpanRun). i < r.«end») list k (length list)
    → cut ≡ take (k + 1) inner.runs.items → d ≡ get_or cut k d
    → (AreRuns 0 (set cut k (record d { «end» = i })) i) × (flat_map run_spans (set cut k (record d { «end» = i })) ++ [] ≡ take i (spans_in inner))
cut_runs inner list cut i k d are below same before behind is at =
    let runs : List SpanRun = inner.runs.items in
    let some = some_run inner list i k are below same before in
    let c = cuts runs 0 inner.shared i k d are.runs (omega arith) some (subst (λ l. AllWithin (λ (r : SpanRun). r.«end» ≤ i) l 0 k) same before)
    (subst (λ l. AllWithin (λ (r : SpanRun). i < r.«end») l k (length l)) same behind) in
    let all : i - 0 ≡ i = omega arith in
    let e = cut_is runs cut i k d is at in
    let few : i ≤ length (flat_map run_spans runs) = omega (arith, length_runs runs 0 inner.shared are.runs) in (
      subst (λ l. AreRuns 0 l i) (sym e) c.are,
      ap (λ l. flat_map run_spans l ++ []) e ∙ append-nil (flat_map run_spans (cut_at i k d runs)) ∙ c.spans
          ∙ ap (λ n. take n (flat_map run_spans runs)) all
          ∙ sym (take-append-le i (flat_map run_spans runs) inner.own.items few),
    )

-- ---- shared spans

pub in_text : (shift : Shift) (reach anchor : ℕ) (s : Span) → shift.own.start + reach < 2 ^ 32 → shift.other.start + reach < 2 ^ 32
    → is_within reach anchor s ≡ true → is_in_text shift s ≡ true
in_text shift reach anchor s first second h = go (nat_eq s.anchor 0)
  where
    go : (t : Bool) → (ltb ((if t then shift.own else shift.other).start + s.range.start) (2 ^ 32) && ltb ((if t then shift.own else shift.other).start + s.range.«end») (2 ^ 32)) ≡ true
    go true = grind (arith, nat_tests)
    go false = grind (arith, nat_tests)

pub anchored : (reach anchor : ℕ) (s : Span) → is_within reach anchor s ≡ true → is_anchored anchor s ≡ true
anchored reach anchor s = third (leb s.range.start reach) (leb s.range.«end» reach) (is_anchored anchor s)
  where
    third : (a b c : Bool) → (a && (b && c)) ≡ true → c ≡ true
    third true true c h = h
    third true false c h = absurd (cc)
    third false b c h = absurd (cc)
