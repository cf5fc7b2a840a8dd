-- Threads in one state have one number.
use Rattle.std.proofs.Common.{◌≡◌, refl, ap, ◌∙◌, ℕ, ◌+◌, ◌%◌, ◌^◌, ◌&&◌, ◌==◌, Bool, true, false, List, [], ◌∷◌, length}
use Rattle.std.proofs.lemmas.Bool.{eqb-true}
use Rattle.mbe_matcher.specs.Frames.{frames_in}
use Rattle.mbe_matcher.specs.Numbers.{mixed, number_after, number_of}
use Rattle.mbe_matcher.specs.SeenStates.{is_like, number_of_state}
use Rattle.mbe_matcher.specs.Threads.{same_mark, same_marks, same_state}
use Rattle.mbe_matcher.specs.declared.same_state.Seen.{Seen}
use Rattle.mbe_matcher.specs.declared.thread.Thread.{Thread}
use Rattle.mbe_matcher.specs.declared.thread.Frame.{Frame}
use Rattle.mbe_matcher.specs.declared.thread.Frame.TheVariants.{InGroup, InRound, Parted}

after : (f g : Frame) (m n : ℕ) → same_mark f g ≡ true → m ≡ n → number_after f m ≡ number_after g n
after (InGroup a) (InGroup b) m n e h = ap (λ k. mixed 11400714819323198485 k m) (eqb-true (length a.now) (length b.now) e) ∙ ap (mixed 11400714819323198485 (length b.now)) h
after (InRound x) (InRound y) m n e h = ap (λ k. mixed 14029467366897019727 k m) (eqb-true (length x.after.now) (length y.after.now) e) ∙ ap (mixed 14029467366897019727 (length y.after.now)) h
after (Parted x) (Parted y) m n e h = ap (λ k. mixed 1609587929392839161 k m) (eqb-true (length x.after.now) (length y.after.now) e) ∙ ap (mixed 1609587929392839161 (length y.after.now)) h
after (InGroup a) (InRound y) m n e h = absurd (cc e)
after (InGroup a) (Parted y) m n e h = absurd (cc e)
after (InRound x) (InGroup b) m n e h = absurd (cc e)
after (InRound x) (Parted y) m n e h = absurd (cc e)
after (Parted x) (InGroup b) m n e h = absurd (cc e)
after (Parted x) (InRound y) m n e h = absurd (cc e)

and-parts : (a b : Bool) → (a && b) ≡ true → (a ≡ true) × (b ≡ true)
and-parts true b e = (refl, e)
and-parts false b e = absurd (cc e)

-- frames with the same marks have one number
pub one_number : (fs gs : List Frame) → same_marks fs gs ≡ true → number_of fs ≡ number_of gs
one_number [] [] e = refl
one_number [] (g ∷ gs) e = absurd (cc e)
one_number (f ∷ fs) [] e = absurd (cc e)
one_number (f ∷ fs) (g ∷ gs) e =
    let p = and-parts (same_mark f g) (same_marks fs gs) e in
    after f g (number_of fs) (number_of gs) p.0 (one_number fs gs p.1)

state-number : (t h : Thread) → same_state t h ≡ true → number_of_state t ≡ number_of_state h
state-number t h e =
    let p = and-parts (length t.items.now == length h.items.now) (same_marks (frames_in t.frames) (frames_in h.frames)) e in
    ap (λ n. (n + length t.items.now) % 2 ^ 64) (one_number (frames_in t.frames) (frames_in h.frames) p.1)
    ∙ ap (λ n. (number_of (frames_in h.frames) + n) % 2 ^ 64) (eqb-true (length t.items.now) (length h.items.now) p.0)

-- threads that are found have the number of the one that is looked for
pub like-number : (twice : Bool) (t : Thread) (x : Seen) → is_like twice t x ≡ true → number_of_state x.thread ≡ number_of_state t
like-number false t x e = state-number x.thread t e
like-number true t x e = state-number x.thread t (and-parts x.twice (same_state x.thread t) e).1
