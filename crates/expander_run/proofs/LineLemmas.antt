-- Lines of faults, one after another.
use Rattle.std.proofs.Common.{◌≡◌, ℕ, ◌<◌, ◌+◌, List, ◌++◌, length, drop, refl, sym, ap, ◌∙◌, append_assoc}
use Rattle.std.specs.Prelude.{get_or}
use Rattle.std.proofs.lemmas.List.{drop_more}
use Rattle.expander_run.specs.Lines.{column_at, fault_lines, fault_words, line, line_at, line_of}
use Rattle.expander_model.specs.declared.fault.Fault.{Fault}

-- one fault more is told
pub one_more : (text bytes old new what : List ℕ) (faults : List Fault) (i l c : ℕ) (d : Fault) → i < length faults → bytes ≡ text
    → old ++ fault_lines text (drop i faults) ≡ fault_lines text faults
    → l ≡ line_at bytes (get_or faults i d).range.start → c ≡ column_at bytes (get_or faults i d).range.start
    → what ≡ fault_words (get_or faults i d).kind → new ≡ old ++ line l c what
    → new ++ fault_lines text (drop (i + 1) faults) ≡ fault_lines text faults
one_more text bytes old new what faults i l c d inside are told of_line of_column of_what added =
    let rest = fault_lines text (drop (i + 1) faults) in
    let same : line l c what ≡ line_of text (get_or faults i d).range.start (fault_words (get_or faults i d).kind) =
    rw (of_line, of_column, of_what, are) refl
    in
    ap (λ (xs : List ℕ). xs ++ rest) added ∙ append_assoc old (line l c what) rest ∙ ap (λ (xs : List ℕ). old ++ (xs ++ rest)) same
    ∙ sym (ap (λ (fs : List Fault). old ++ fault_lines text fs) (drop_more faults i d inside)) ∙ told
