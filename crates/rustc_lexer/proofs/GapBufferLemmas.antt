-- Tokens with a gap: those before an index are moved, or those after it.
use Rattle.std.proofs.Common.{◌≡◌, ℕ, ◌+◌, ◌-◌, ◌≤◌, List, ◌++◌, length, take, drop, sym, ◌∙◌, ap, arith, append_assoc, length-append}
use Rattle.std.specs.List.{copy_within, splice}
use Rattle.std.proofs.lemmas.List.{take-append-drop, length-drop, length-take-le, drop-drop}
use Rattle.std.proofs.Math.Seq.{drop-append-add, drop-append_seam, take-add, take-append_seam}

module _ {X : Type 0} where
  drop_first : (n : ℕ) (front rest : List X) → length front ≡ n → drop n (front ++ rest) ≡ rest
  drop_first n front rest size = ap (λ k. drop k (front ++ rest)) (sym size) ∙ drop-append_seam front rest

  take_first : (n : ℕ) (front rest : List X) → length front ≡ n → take n (front ++ rest) ≡ front
  take_first n front rest size = ap (λ k. take k (front ++ rest)) (sym size) ∙ take-append_seam front rest

  -- what is put in front is more room
  pub widened : (items more : List X) (room n : ℕ) → length more ≡ n → drop (room + n) (splice items 0 0 more) ≡ drop room items
  widened items more room n size =
      let whole : room + n ≡ length more + room = omega (arith, size) in
      ap (λ k. drop k (more ++ items)) whole ∙ drop-append-add more items room

  -- nothing moves to its own place
  pub stays : (items : List X) (at n : ℕ) → at + n ≤ length items → copy_within items at (at + n) at ≡ items
  stays items at n fits =
      let size : at + n - at ≡ n = omega arith in
      let rest : drop (at + n) items ≡ drop n (drop at items) = sym (drop-drop n at items) in
      ap (λ k. (take at items ++ take k (drop at items)) ++ drop (at + k) items) size
      ∙ ap (λ xs. (take at items ++ take n (drop at items)) ++ xs) rest
      ∙ append_assoc (take at items) (take n (drop at items)) (drop n (drop at items))
      ∙ ap (λ xs. take at items ++ xs) (take-append-drop n (drop at items))
      ∙ take-append-drop at items

  -- what is put in behind the room
  pub behind_room : (items fresh : List X) (room start stop : ℕ) → start ≤ stop → room + stop ≤ length items →
      drop room (splice items (room + start) (room + stop) fresh) ≡ splice (drop room items) start stop fresh
  behind_room items fresh room start stop order within =
      let front : take (room + start) items ≡ take room items ++ take start (drop room items) = take-add room start items in
      let rest : drop (room + stop) items ≡ drop stop (drop room items) = sym (drop-drop stop room items) in
      ap (λ xs. drop room (xs ++ (fresh ++ drop (room + stop) items))) front
      ∙ ap (drop room) (append_assoc (take room items) (take start (drop room items)) (fresh ++ drop (room + stop) items))
      ∙ drop_first room (take room items) (take start (drop room items) ++ (fresh ++ drop (room + stop) items)) (length-take-le room items (omega arith))
      ∙ ap (λ xs. take start (drop room items) ++ (fresh ++ xs)) rest

  -- the tokens in front are moved, and the others put in behind them
  pub in_front : (items moved fresh : List X) (room start stop to : ℕ) → start ≤ stop → room + stop ≤ length items → to + start + length fresh ≡ room + stop →
      moved ≡ copy_within items room (room + start) to →
      drop to (splice moved (to + start) (to + start + length fresh) fresh) ≡ splice (drop room items) start stop fresh
  in_front items moved fresh room start stop to order within size is_moved =
      let live : List X = drop room items in
      let many : length live ≡ length items - room = length-drop room items in
      let front : List X = take to items ++ take start live in
      let long : length front ≡ to + start = length-append (take to items) (take start live) ∙ omega (arith, length-take-le to items (omega arith), length-take-le start live (omega arith)) in
      let count : room + start - room ≡ start = omega arith in
      let as_moved : moved ≡ front ++ drop (to + start) items = is_moved ∙ ap (λ k. (take to items ++ take k live) ++ drop (to + k) items) count in
      let behind : drop (to + start + length fresh) moved ≡ drop stop live =
      sym (drop-drop (length fresh) (to + start) moved)
      ∙ ap (λ xs. drop (length fresh) (drop (to + start) xs)) as_moved
      ∙ ap (drop (length fresh)) (drop_first (to + start) front (drop (to + start) items) long)
      ∙ drop-drop (length fresh) (to + start) items
      ∙ ap (λ k. drop k items) size
      ∙ sym (drop-drop stop room items) in
      ap (λ xs. drop to (xs ++ (fresh ++ drop (to + start + length fresh) moved))) (ap (take (to + start)) as_moved ∙ take_first (to + start) front (drop (to + start) items) long)
      ∙ ap (λ xs. drop to (front ++ (fresh ++ xs))) behind
      ∙ ap (drop to) (append_assoc (take to items) (take start live) (fresh ++ drop stop live))
      ∙ drop_first to (take to items) (take start live ++ (fresh ++ drop stop live)) (length-take-le to items (omega arith))
