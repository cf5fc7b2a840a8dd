-- Two lists of tokens are walked together until their boundaries meet.
use Rattle.std.proofs.Common.{◌≡◌, ℕ, suc, ◌+◌, ◌≤◌, ◌<◌, List, [], ◌∷◌, ◌++◌, length, take, drop, get_or, refl, sym, ◌∙◌, ap, arith, length-append, append_assoc}
use Rattle.std.proofs.lemmas.List.{drop_more, length-drop}
use Rattle.std.proofs.lemmas.List.Sums.{sum_by_push, sum_by_more, sum_by-drop_more}
use Rattle.std.proofs.Math.Seq.{take-append_seam}
use Rattle.rustc_lexer.specs.Relexing.{total, count_to_meeting}
use Rattle.rustc_lexer.proofs.BoundaryLemmas.{total_cons, meet_here, meet_new, meet_old}
use Rattle.rustc_lexer.specs.declared.token.Token.{Token}

-- of the new tokens, which begin at `at`, those in `fresh` end at `place`, and of the old ones, which begin at `to`, the first
-- `met` end at `boundary`; no boundaries before these meet, and both lists end at the same place
pub record Walks (at : ℕ) (new : List Token) (to : ℕ) (old fresh left : List Token) (place boundary met : ℕ) : Type 0 where
  pub read : fresh ++ left ≡ new
  pub count : count_to_meeting at new to old ≡ length fresh + count_to_meeting place left boundary (drop met old)
  pub new_place : place ≡ at + total fresh
  pub old_place : boundary ≡ to + total (take met old)
  pub within : met ≤ length old
  pub ends : place + total left ≡ boundary + total (drop met old)

pub walk_begins : (at : ℕ) (new : List Token) (to : ℕ) (old fresh left : List Token) → at + total new ≡ to + total old → fresh ≡ [] → left ≡ new →
    Walks at new to old fresh left at to 0
walk_begins at new to old fresh left e f g =
    let empty : total fresh ≡ 0 = ap total f in
    let none : length fresh ≡ 0 = ap length f in
    record {
      read = ap (λ xs. xs ++ left) f ∙ g;
      count = rw g (omega arith);
      new_place = omega arith;
      old_place = omega arith;
      within = omega arith;
      ends = rw g e;
    }

pub walk_new : (at : ℕ) (new : List Token) (to : ℕ) (old fresh left : List Token) (place boundary met : ℕ) (t : Token) (rest more : List Token) →
    Walks at new to old fresh left place boundary met → place < boundary → left ≡ t ∷ rest → more ≡ fresh ++ t ∷ [] →
    Walks at new to old more rest (place + t.len) boundary met
walk_new at new to old fresh left place boundary met t rest more w l e f =
    let step = ap (λ xs. count_to_meeting place xs boundary (drop met old)) e ∙ meet_new place boundary t rest (drop met old) l in
    let pushed : total more ≡ total fresh + t.len = ap total f ∙ sum_by_push (λ x. x.len) fresh t in
    let longer : length more ≡ length fresh + 1 = ap length f ∙ length-append fresh (t ∷ []) in
    let first : total left ≡ t.len + total rest = ap total e ∙ total_cons t rest in
    let count = w.count in
    let ends = w.ends in
    record {
      read = ap (λ xs. xs ++ rest) f ∙ append_assoc fresh (t ∷ []) rest ∙ ap (λ xs. fresh ++ xs) (sym e) ∙ w.read;
      count = omega (arith, step, longer, count);
      new_place = omega (arith, pushed, w.new_place);
      old_place = w.old_place;
      within = w.within;
      ends = omega (arith, first, ends);
    }

pub walk_old : (at : ℕ) (new : List Token) (to : ℕ) (old fresh left : List Token) (place boundary met : ℕ) (d : Token) →
    Walks at new to old fresh left place boundary met → boundary < place → met < length old →
    Walks at new to old fresh left place (boundary + (get_or old met d).len) (met + 1)
walk_old at new to old fresh left place boundary met d w l h =
    let t : Token = get_or old met d in
    let e : drop met old ≡ t ∷ drop (met + 1) old = drop_more old met d h in
    let step = ap (λ xs. count_to_meeting place left boundary xs) e ∙ meet_old place boundary t left (drop (met + 1) old) l in
    let more = sum_by_more (λ x. x.len) old met d h in
    let fewer = sum_by-drop_more (λ x. x.len) old met d h in
    record {
      read = w.read;
      count = w.count ∙ ap (λ k. length fresh + k) step;
      new_place = w.new_place;
      old_place = omega (arith, more, w.old_place);
      within = omega arith;
      ends = omega (arith, fewer, w.ends);
    }

-- behind a boundary in front of the new tokens' stands an old token
pub walk_room : (at : ℕ) (new : List Token) (to : ℕ) (old fresh left : List Token) (place boundary met : ℕ) →
    Walks at new to old fresh left place boundary met → boundary < place → met < length old
walk_room at new to old fresh left place boundary met w l = by_left (drop met old) refl
  where
    by_left : (xs : List Token) → drop met old ≡ xs → met < length old
    by_left [] e = absurd (let none : total (drop met old) ≡ 0 = ap total e in omega (arith, none, w.ends))
    by_left (t ∷ ts) e = (let some : length (drop met old) ≡ suc (length ts) = ap length e in omega (arith, some, length-drop met old))

-- before the boundary a token is left
pub walk_left : (at : ℕ) (new : List Token) (to : ℕ) (old fresh left : List Token) (place boundary met : ℕ) →
    Walks at new to old fresh left place boundary met → place < boundary → 0 < length left
walk_left at new to old fresh [] place boundary met w l = absurd (omega (arith, l, w.ends))
walk_left at new to old fresh (t ∷ ts) place boundary met w l = omega arith

-- where the boundaries meet
pub walk_ends : (at : ℕ) (new : List Token) (to : ℕ) (old fresh left : List Token) (place boundary met : ℕ) →
    Walks at new to old fresh left place boundary met → place ≡ boundary →
    (length fresh ≡ count_to_meeting at new to old) × (fresh ≡ take (count_to_meeting at new to old) new)
walk_ends at new to old fresh left place boundary met w e =
    let none = meet_here place boundary left (drop met old) e in
    let count : length fresh ≡ count_to_meeting at new to old = omega (arith, w.count, none) in
    (count, sym (take-append_seam fresh left) ∙ ap (take (length fresh)) w.read ∙ ap (λ k. take k new) count)
