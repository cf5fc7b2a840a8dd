-- Threads with the same numbers are in the same state.
use Rattle.std.proofs.Common.{◌≡◌, refl, sym, ap, ◌∙◌, ℕ, suc, ◌&&◌, ◌==◌, Bool, true, false, List, [], ◌∷◌, map, length}
use Rattle.std.proofs.lemmas.Bool.{eqb-true}
use Rattle.mbe_rules.specs.Items.{Items}
use Rattle.mbe_rules.specs.Ops.{items_of}
use Rattle.mbe_rules.specs.declared.parser.Op.{Op, Var, Count, Index, Len, Ignore, Concat, Literal, Ident, Punct, Lifetime, Repeat', Subtree'}
use Rattle.mbe_matcher.specs.Positions.{count, mark_of, IsIn}
use Rattle.mbe_matcher.specs.Threads.{frame_of, frames_in, frames_of, same_mark, same_marks, same_state, state_of}
use Rattle.mbe_matcher.specs.Units as u
use Rattle.mbe_matcher.specs.declared.thread.Frame.{Frame}
use Rattle.mbe_matcher.specs.declared.thread.Frame.TheVariants.{InGroup, InRound, Parted}
use Rattle.mbe_matcher.specs.declared.thread.Thread.{Thread}
use Rattle.mbe_matcher.proofs.PositionLemmas.{one-state}

count-ops : (os : List Op) → count (items_of os) ≡ length os
count-ops [] = refl
count-ops (Var n k i ∷ os) = ap suc (count-ops os)
count-ops (Count n d i ∷ os) = ap suc (count-ops os)
count-ops (Index d i ∷ os) = ap suc (count-ops os)
count-ops (Len d i ∷ os) = ap suc (count-ops os)
count-ops (Ignore n i ∷ os) = ap suc (count-ops os)
count-ops (Concat es i ∷ os) = ap suc (count-ops os)
count-ops (Repeat' s row sep k ∷ os) = ap suc (count-ops os)
count-ops (Subtree' s row d ∷ os) = ap suc (count-ops os)
count-ops (Literal l ∷ os) = ap suc (count-ops os)
count-ops (Ident i ∷ os) = ap suc (count-ops os)
count-ops (Punct ps ∷ os) = ap suc (count-ops os)
count-ops (Lifetime q i ∷ os) = ap suc (count-ops os)

same-count : (xs ys : List Op) → (length xs == length ys) ≡ true → count (items_of xs) ≡ count (items_of ys)
same-count xs ys e = count-ops xs ∙ eqb-true (length xs) (length ys) e ∙ sym (count-ops ys)

abbrev mark : Frame → ℕ × ℕ
mark f = mark_of (frame_of f)

one-mark : (f g : Frame) → same_mark f g ≡ true → mark f ≡ mark g
one-mark (InGroup a) (InGroup b) e = ap (λ n. (0, n)) (same-count a.now b.now e)
one-mark (InRound x) (InRound y) e = ap (λ n. (1, n)) (same-count x.after.now y.after.now e)
one-mark (Parted x) (Parted y) e = ap (λ n. (2, n)) (same-count x.after.now y.after.now e)
one-mark (InGroup a) (InRound y) e = absurd (cc e)
one-mark (InGroup a) (Parted y) e = absurd (cc e)
one-mark (InRound x) (InGroup b) e = absurd (cc e)
one-mark (InRound x) (Parted y) e = absurd (cc e)
one-mark (Parted x) (InGroup b) e = absurd (cc e)
one-mark (Parted x) (InRound y) e = absurd (cc e)

and-parts : (a b : Bool) → (a && b) ≡ true → (a ≡ true) × (b ≡ true)
and-parts true b e = (refl, e)
and-parts false b e = absurd (cc e)

all-marks : (fs gs : List Frame) → same_marks fs gs ≡ true → map mark fs ≡ map mark gs
all-marks [] [] e = refl
all-marks [] (g ∷ gs) e = absurd (cc e)
all-marks (f ∷ fs) [] e = absurd (cc e)
all-marks (f ∷ fs) (g ∷ gs) e =
    let p = and-parts (same_mark f g) (same_marks fs gs) e in
    let h = one-mark f g p.0 in
    let i = all-marks fs gs p.1 in cc

frames-marks : (fs : List Frame) → map mark_of (map frame_of fs) ≡ map mark fs
frames-marks [] = refl
frames-marks (x ∷ xs) = ap (λ r. mark x ∷ r) (frames-marks xs)

pub one-state-of : (pattern : Items) (p : u.Place) (t h : Thread) → IsIn pattern (state_of t p) → IsIn pattern (state_of h p) →
    same_state t h ≡ true → state_of t p ≡ state_of h p
one-state-of pattern p t h i j e =
    let k = and-parts (length t.items.now == length h.items.now) (same_marks (frames_in t.frames) (frames_in h.frames)) e in
    let m = frames-marks (frames_in t.frames) ∙ all-marks (frames_in t.frames) (frames_in h.frames) k.1 ∙ sym (frames-marks (frames_in h.frames)) in
    one-state pattern (items_of t.items.now) (items_of h.items.now) (frames_of t.frames) (frames_of h.frames) p i j (same-count t.items.now h.items.now k.0) m
