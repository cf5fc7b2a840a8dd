-- Positions counted on line by line.
use Rattle.std.proofs.Common.{◌≡◌, ℕ, zero, suc, ◌+◌, ◌-◌, ◌<◌, ◌≤◌, true, false, not, Some, None, List, [], ◌∷◌, length, take, drop, reverse, get_or, refl, sym, ◌∙◌, ap, subst, arith, slice_range, length-take, length-drop}
use Rattle.std.proofs.lemmas.Bool.{false_from_ne_true}
use Rattle.std.proofs.lemmas.List.{take_more, reverse-append, get_or-take, get_or-drop}
use Rattle.std.proofs.lemmas.List.Sums.{count_by_more_no, count_by_more_yes, take_while-cons}
use native.Mathlib.Numerals.{unary_clauses}
use Rattle.memchr.specs.Find.{IsFirstByte, is_byte}
use Rattle.expander_run.specs.Lines.{column_at, is_line_feed}
use Rattle.expander_run.specs.Spots.{IsSpot}
use Rattle.expander_run.specs.declared.lines.Spot.{Spot}

module _ (text : List ℕ) where
  -- from the back, the byte after the first n comes before them
  backwards : (n : ℕ) → n < length text → reverse (take (n + 1) text) ≡ get_or text n 0 ∷ reverse (take n text)
  backwards n lt = ap reverse (take_more text n 0 lt) ∙ reverse-append (take n text) (get_or text n 0 ∷ [])

  -- a byte that is no line feed is one column
  column_more : (n : ℕ) → n < length text → is_line_feed (get_or text n 0) ≡ false → column_at text (n + 1) ≡ column_at text n + 1
  column_more n lt other =
      let columns = take_while-cons (λ b. not (is_line_feed b)) (get_or text n 0) (reverse (take n text)) in
      rw (backwards n lt, columns, ap not other) (omega arith)

  -- past a line feed the columns begin again
  column_again : (n : ℕ) → n < length text → is_line_feed (get_or text n 0) ≡ true → column_at text (n + 1) ≡ 1
  column_again n lt feed =
      let columns = take_while-cons (λ b. not (is_line_feed b)) (get_or text n 0) (reverse (take n text)) in
      rw (backwards n lt, columns, ap not feed) refl

  -- the position k bytes on, where none of them is a line feed
  moved : (s : Spot) (k : ℕ) → IsSpot text s → s.at + k ≤ length text → ((j : ℕ) → j < k → is_line_feed (get_or text (s.at + j) 0) ≡ false)
      → IsSpot text (record { at = s.at + k; line = s.line; column = s.column + k })
  moved s zero is fits others = simp unary_clauses is
  moved s (suc k) is fits others =
      let before = moved s k is (omega arith) (λ j lt. others j (omega arith)) in
      let other = others k (omega arith) in
      let line = count_by_more_no is_line_feed text (s.at + k) 0 (omega arith) other in
      let column = column_more (s.at + k) (omega arith) other in
      let next : s.at + suc k ≡ s.at + k + 1 = omega arith in
      record {
        inside = fits;
        line = rw (next, line) before.line;
        column = rw (next, column, ← before.column) (omega arith);
      }

  -- the position past a line feed
  moved_past : (s : Spot) → IsSpot text s → s.at < length text → is_line_feed (get_or text s.at 0) ≡ true
      → IsSpot text (record { at = s.at + 1; line = s.line + 1; column = 1 })
  moved_past s is lt feed = record {
    inside = omega arith;
    line = ap (λ (n : ℕ). n + 1) (is.line ∙ sym (count_by_more_yes is_line_feed text s.at 0 lt feed));
    column = sym (column_again s.at lt feed);
  }

  module _ (s : Spot) (to : ℕ) (is : IsSpot text s) (before : s.at < to) (inside : to ≤ length text) where
    searched : length (slice_range text s.at to) ≡ to - s.at
    searched = omega (arith, length-take (to - s.at) (drop s.at text), length-drop s.at text)

    -- what is asked of a byte that is searched, is asked of the text's
    in_text : (k : ℕ) → k < to - s.at → is_line_feed (get_or (slice_range text s.at to) k 0) ≡ is_line_feed (get_or text (s.at + k) 0)
    in_text k lt = ap is_line_feed (get_or-take (to - s.at) (drop s.at text) k 0 lt ∙ get_or-drop s.at text k 0)

    -- where a search finds no line feed, the end of what is searched
    pub moved_to : IsFirstByte (is_byte 10) (slice_range text s.at to) None
        → IsSpot text (record { at = to; line = s.line; column = s.column + (to - s.at) })
    moved_to none =
        let end : s.at + (to - s.at) ≡ to = omega arith in
        let there =
        moved s (to - s.at) is (omega arith) (λ k lt. false_from_ne_true _ (λ feed. none k (omega arith) (omega (arith, searched)) (in_text k lt ∙ feed)))
        in
        subst (λ (at : ℕ). IsSpot text (record { at = at; line = s.line; column = s.column + (to - s.at) })) end there

    -- where it finds one, the position past that
    pub moved_past_found : (n : ℕ) → IsFirstByte (is_byte 10) (slice_range text s.at to) (Some n)
        → IsSpot text (record { at = s.at + n + 1; line = s.line + 1; column = 1 })
    moved_past_found n found =
        let lt : n < to - s.at = omega (arith, searched, found.0.high) in
        let there =
        moved s n is (omega arith) (λ k l. false_from_ne_true _ (λ feed. found.0.before k (omega arith) l (in_text k (omega arith) ∙ feed)))
        in
        moved_past (record { at = s.at + n; line = s.line; column = s.column + n }) there (omega arith) (sym (in_text n lt) ∙ found.1)
