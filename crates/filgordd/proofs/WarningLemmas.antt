-- Pieces that are warned of, piece by piece and list by list, and the lines that warn of them.
use Rattle.std.proofs.Common.{◌≡◌, ◌≢◌, ◌∙◌, ℕ, zero, suc, ◌+◌, ◌-◌, ◌<◌, List, [], ◌∷◌, ◌++◌, append_assoc, append-nil, Option, Some, None, ap, arith, codes, drop, get_or, length, refl, sym}
use Rattle.std.proofs.lemmas.List.{drop_more}
use Rattle.tt_data.specs.Forest.{Forest, empty}
use Rattle.tt_data.specs.declared.span.Span.{Span}
use Rattle.cfg_options.specs.Conditions.{Options}
use Rattle.expander_model.specs.Pieces.{cut}
use Rattle.expander_run.specs.Lines.{column_at, line, line_at, line_of}
use Rattle.program_files.specs.Shown.{shown}
use Rattle.filgordd.specs.Warnings.{body_of, in_list, names_after, warned_at, warned_in, warned_inside, warning_line, warning_lines, warning_words}

-- ---- pieces one after another

module _ (options : Option Options) where
  -- those of the next piece come before those of the pieces left
  pub next_spans : (levels : ℕ) (names ns : List (List ℕ)) (old piece new : Forest)
      (before mid after : List Span) → cut old ≡ piece ∷ cut new
      → mid ≡ before ++ warned_at options names piece → ns ≡ names_after options names piece
      → after ≡ mid ++ warned_inside options levels piece
      → after ++ warned_in options (warned_inside options levels) ns (cut new)
      ≡ before ++ warned_in options (warned_inside options levels) names (cut old)
  next_spans levels names ns old piece new before mid after e here now inner =
      let rest = warned_in options (warned_inside options levels)
      (names_after options names piece) (cut new) in
      rw (inner, here, now, e)
      (append_assoc (before ++ warned_at options names piece) (warned_inside options levels piece) rest
      ∙ append_assoc before (warned_at options names piece)
      (warned_inside options levels piece ++ rest))

  pub no_spans : (levels : ℕ) (names : List (List ℕ)) (left : Forest) (spans : List Span)
      → left ≡ empty
      → spans ++ warned_in options (warned_inside options levels) names (cut left) ≡ spans
  no_spans levels names left spans e =
      ap (λ (g : Forest). spans ++ warned_in options (warned_inside options levels) names (cut g)) e
      ∙ append-nil spans

  -- ---- one piece

  pub no_levels : (levels : ℕ) (p : Forest) → levels ≡ 0 → warned_inside options levels p ≡ []
  no_levels levels p e = ap (λ (n : ℕ). warned_inside options n p) e

  pub no_body : (levels : ℕ) (p : Forest) → body_of p ≡ None
      → warned_inside options levels p ≡ []
  no_body zero p e = refl
  no_body (suc levels) p e =
      ap (in_list (warned_in options (warned_inside options levels) [])) e

  pub a_body : (levels : ℕ) (p list : Forest) → levels ≢ 0 → body_of p ≡ Some list
      → warned_inside options levels p
      ≡ warned_in options (warned_inside options (levels - 1)) [] (cut list)
  a_body zero p list some e = absurd (some refl)
  a_body (suc levels) p list some e =
      let less : levels ≡ suc levels - 1 = omega arith in
      ap (in_list (warned_in options (warned_inside options levels) [])) e
      ∙ ap (λ (n : ℕ). warned_in options (warned_inside options n) [] (cut list)) less

-- ---- lines

-- one more is told
pub one_more_line : (options : Option Options) (name text bytes old new words : List ℕ) (spans : List Span) (i l c : ℕ) (d : Span)
    → i < length spans → bytes ≡ text → words ≡ warning_words options
    → old ++ warning_lines options name text (drop i spans) ≡ warning_lines options name text spans
    → l ≡ line_at bytes (get_or spans i d).range.start
    → c ≡ column_at bytes (get_or spans i d).range.start
    → new ≡ old ++ (codes "filgordd: " ++ (shown name ++ (codes ": " ++ line l c words)))
    → new ++ warning_lines options name text (drop (i + 1) spans) ≡ warning_lines options name text spans
one_more_line options name text bytes old new words spans i l c d inside are say told of_line of_column added =
    let rest = warning_lines options name text (drop (i + 1) spans) in
    let same : line l c words
    ≡ line_of text (get_or spans i d).range.start (warning_words options) =
    rw (of_line, of_column, are, say) refl
    in
    let whole : new ≡ old ++ warning_line options name text (get_or spans i d) =
    added ∙ ap (λ (xs : List ℕ). old
    ++ (codes "filgordd: " ++ (shown name ++ (codes ": " ++ xs)))) same
    in
    ap (λ (xs : List ℕ). xs ++ rest) whole
    ∙ append_assoc old (warning_line options name text (get_or spans i d)) rest
    ∙ sym (ap (λ (ss : List Span). old ++ warning_lines options name text ss) (drop_more spans i d inside))
    ∙ told
