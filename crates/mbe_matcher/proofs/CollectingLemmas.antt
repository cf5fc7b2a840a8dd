-- What is collected move by move are the bindings.
use Rattle.std.proofs.Common.{◌≡◌, refl, sym, ap, ◌∙◌, ℕ, suc, ◌+◌, ◌-◌, ◌<◌, List, [], ◌∷◌, ◌++◌, length, map, reverse, Some, None, slice_index_or, slice_set, arith}
use Rattle.std.proofs.Math.Seq.{get_or-append_seam, set-append_seam}
use Rattle.std.specs.Borrow.{Bor}
use Rattle.std.specs.List.{flat_map}
use Rattle.std.proofs.lemmas.List.{length-append, reverse-append}
use Rattle.std.proofs.lemmas.List.Concat.{flat_map-cons}
use Rattle.tt_data.specs.Forest.{Forest, empty, leaf, group}
use Rattle.tt.specs.Elements.{first_alone, after_first}
use Rattle.mbe_rules.specs.declared.parser.MetaVarKind.{MetaVarKind}
use Rattle.mbe_matcher.specs.Bindings.{Map, Open, bind, bind_skipped, bind_round, bind_rounds, bindings_from, bindings, fragment}
use Rattle.mbe_matcher.specs.Bound.{map_of}
use Rattle.mbe_matcher.specs.Collecting.{Collecting, after, after_all, round_ended, open_of, opens_of}
use Rattle.mbe_matcher.specs.Threads.{moves_of, moves_to, rounds_of, steps_in, steps_of}
use Rattle.mbe_matcher.specs.declared.bind.Open.{Open as Opened}
use Rattle.mbe_matcher.specs.declared.thread.Entry.{Entry, Entry', None', Some'}
use Rattle.mbe_matcher.specs.declared.thread.Entry.TheViews.{out-Entry}
use Rattle.mbe_matcher.specs.Readings.{Move, unit_move, fragment_move, nothing_move, enter, skip, leave, separator_move, next_round}

-- rounds after others
rounds-last : (n : ℕ) (rs : List Map) (r m : Map) → bind_rounds n (rs ++ (r ∷ [])) m ≡ bind_round (n + length rs) r (bind_rounds n rs m)
rounds-last n [] r m = ap (λ k. bind_round k r m) (omega arith)
rounds-last n (q ∷ rs) r m =
    let k : suc n + length rs ≡ n + suc (length rs) = omega arith in
    rounds-last (suc n) rs r (bind_round n q m) ∙ ap (λ j. bind_round j r (bind_rounds (suc n) rs (bind_round n q m))) k

-- an open repetition with the values of its finished rounds
abbrev with_rounds : Open → Map × ℕ
with_rounds o = (bind_rounds 0 o.1 o.0, length o.1)

last-round : (o : Open) (m : Map) → bind_rounds 0 (o.1 ++ (m ∷ [])) o.0 ≡ bind_round (length o.1) m (bind_rounds 0 o.1 o.0)
last-round o m =
    let k : 0 + length o.1 ≡ length o.1 = omega arith in
    rounds-last 0 o.1 m o.0 ∙ ap (λ j. bind_round j m (bind_rounds 0 o.1 o.0)) k

longer : (o : Open) (m : Map) → length (o.1 ++ (m ∷ [])) ≡ suc (length o.1)
longer o m = let h = length-append o.1 (m ∷ []) in omega (arith, h)

collected-from : (m : Map) (os : List Open) (ms : List Move) → (after_all ms (m, map with_rounds os)).0 ≡ bindings_from m os ms
collected-from m os [] = refl
collected-from m os (fragment_move n k f ∷ ms) = collected-from (bind n (fragment k f) m) os ms
collected-from m os (nothing_move n ∷ ms) = collected-from _ os ms
collected-from m os (skip ns ∷ ms) = collected-from (bind_skipped ns m) os ms
collected-from m os (enter ∷ ms) = collected-from [] ((m, []) ∷ os) ms
collected-from m (o ∷ os) (next_round ∷ ms) =
    ap (λ b. (after_all ms ([], (b, suc (length o.1)) ∷ map with_rounds os)).0) (sym (last-round o m))
    ∙ ap (λ k. (after_all ms ([], (bind_rounds 0 (o.1 ++ (m ∷ [])) o.0, k) ∷ map with_rounds os)).0) (sym (longer o m))
    ∙ collected-from [] ((o.0, o.1 ++ (m ∷ [])) ∷ os) ms
collected-from m (o ∷ os) (leave ∷ ms) =
    ap (λ b. (after_all ms (b, map with_rounds os)).0) (sym (last-round o m)) ∙ collected-from (bind_rounds 0 (o.1 ++ (m ∷ [])) o.0) os ms
collected-from m [] (next_round ∷ ms) = collected-from m [] ms
collected-from m [] (leave ∷ ms) = collected-from m [] ms
collected-from m os (unit_move ∷ ms) = collected-from m os ms
collected-from m os (separator_move ∷ ms) = collected-from m os ms

pub collected-bindings : (ms : List Move) → (after_all ms ([], [])).0 ≡ bindings ms
collected-bindings ms = collected-from [] [] ms

-- moves after others
after_all-append : (ms ns : List Move) (s : Collecting) → after_all (ms ++ ns) s ≡ after_all ns (after_all ms s)
after_all-append [] ns s = refl
after_all-append (m ∷ ms) ns s = after_all-append ms ns (after m s)

-- an entry more, where they stand backwards
pub one-more : (es : List (Bor Entry)) (e : Bor Entry) → flat_map steps_of (reverse (es ++ (e ∷ []))) ≡ steps_of e ++ flat_map steps_of (reverse es)
one-more es e = ap (flat_map steps_of) (reverse-append es (e ∷ [])) ∙ flat_map-cons steps_of e (reverse es)

-- the last of a list of entries that stands backwards is made
pub popped : (xs ys : List (Bor Entry)) (e : Bor Entry) (s : Collecting) → xs ≡ ys ++ (e ∷ []) →
    after_all (flat_map steps_of (reverse ys)) (after_all (steps_of e) s) ≡ after_all (flat_map steps_of (reverse xs)) s
popped xs ys e s h =
    sym (ap (λ l. after_all (flat_map steps_of (reverse l)) s) h ∙ ap (λ ms. after_all ms s) (one-more ys e)
    ∙ after_all-append (steps_of e) (flat_map steps_of (reverse ys)) s)

-- all are made
pub all-made : (xs : List (Bor Entry)) (ms : List Move) (s t : Collecting) → flat_map steps_of (reverse xs) ≡ ms → s ≡ ([], []) →
    t ≡ after_all (flat_map steps_of (reverse xs)) s → t.0 ≡ bindings ms
all-made xs ms s t e f h = ap (λ (c : Collecting). c.0) h ∙ ap (λ l. (after_all l s).0) e ∙ ap (λ c. (after_all ms c).0) f ∙ collected-bindings ms

-- those before an entry and its own
pub up-to : (e : Entry) → moves_of (out-Entry e).before ++ steps_in e ≡ moves_to e
unfolding out-Entry denote.Hole.Carrier.out
up-to (Entry' b m None') = refl
up-to (Entry' b m (Some' p e)) = refl

-- the innermost open repetition stands last
last-open : (os : List Opened) → 0 < length os → (init : List Opened) × (x : Opened) × (os ≡ init ++ (x ∷ [])) × (length os - 1 ≡ length init)
last-open [] h = absurd (omega (arith, h))
last-open (x ∷ []) h = ([], x, refl, refl)
last-open (x ∷ y ∷ os) h =
    let (init, z, e, n) = last-open (y ∷ os) (omega arith) in
    (x ∷ init, z, ap (λ l. x ∷ l) e, omega (arith, n))

-- the innermost open repetition, and what stands there once it is changed
pub last-changed : (os : List Opened) (n : ℕ) (x : Opened) → n ≡ length os - 1 → 0 < length os → x ≡ slice_index_or os n x →
    (rest : List (Map × ℕ)) × (opens_of os ≡ open_of x ∷ rest) × ((y : Opened) → opens_of (slice_set os n y) ≡ open_of y ∷ rest)
last-changed os n x k h g =
    let (init, z, i, j) = last-open os h in
    let at : n ≡ length init = k ∙ j in
    let same : x ≡ z = g ∙ ap (λ l. slice_index_or l n x) i ∙ ap (λ q. slice_index_or (init ++ (z ∷ [])) q x) at ∙ get_or-append_seam init z [] x in
    let old : opens_of os ≡ open_of z ∷ opens_of init = ap opens_of i ∙ ap (map open_of) (reverse-append init (z ∷ [])) in (
      opens_of init,
      old ∙ ap (λ o. open_of o ∷ opens_of init) (sym same),
      λ y. ap (λ l. opens_of (slice_set l n y)) i ∙ ap (λ q. opens_of (slice_set (init ++ (z ∷ [])) q y)) at ∙ ap opens_of (set-append_seam init z [] y)
          ∙ ap (map open_of) (reverse-append init (y ∷ [])),
    )

-- where a round has ended it has one round more
pub round-over : (m : Map) (os : List Opened) (n : ℕ) (x y : Opened) → n ≡ length os - 1 → 0 < length os → x ≡ slice_index_or os n x →
    open_of y ≡ (bind_round x.rounds m (map_of x.around), suc x.rounds) → round_ended m (opens_of os) ≡ ([], opens_of (slice_set os n y))
round-over m os n x y k h g e =
    let (rest, was, is) = last-changed os n x k h g in
    ap (round_ended m) was ∙ ap (λ o. ([], o ∷ rest)) (sym e) ∙ ap (λ l. ([], l)) (sym (is y))

-- a round more of those of which each has a tree
pub rounds-step : (n : List ℕ) (k : MetaVarKind) (f tree rest : Forest) (s : Collecting) → first_alone f ≡ Some tree → rest ≡ after_first f →
    after_all (rounds_of n k rest) (after (fragment_move n k tree) (after next_round s)) ≡ after_all (rounds_of n k f) s
rounds-step n k empty tree rest s e h = absurd (cc e)
rounds-step n k (leaf l more) tree rest s e h =
    ap (λ f. after_all (rounds_of n k f) (after (fragment_move n k tree) (after next_round s))) h
    ∙ ap (λ t. after_all (rounds_of n k more) (after (fragment_move n k t) (after next_round s))) (let t : tree ≡ leaf l empty = cc in t)
rounds-step n k (group d inner more) tree rest s e h =
    ap (λ f. after_all (rounds_of n k f) (after (fragment_move n k tree) (after next_round s))) h
    ∙ ap (λ t. after_all (rounds_of n k more) (after (fragment_move n k t) (after next_round s))) (let t : tree ≡ group d inner empty = cc in t)

-- and no more, where no tree is left
pub rounds-end : (n : List ℕ) (k : MetaVarKind) (f : Forest) (s : Collecting) → first_alone f ≡ None → s ≡ after_all (rounds_of n k f) s
rounds-end n k empty s e = refl
rounds-end n k (leaf l more) s e = absurd (cc e)
rounds-end n k (group d inner more) s e = absurd (cc e)
