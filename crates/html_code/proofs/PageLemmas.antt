-- Pages part by part.
use Rattle.std.proofs.Common.{◌≡◌, ℕ, suc, ◌+◌, ◌-◌, ◌<◌, List, ◌++◌, drop, get_or, length, refl, sym, ap, ◌∙◌, append_assoc, arith}
use Rattle.std.proofs.lemmas.List.{drop_more}
use Rattle.std.specs.Prelude.{codes}
use Rattle.html_code.specs.ExpansionParts.{blanks, number_here}
use Rattle.html_code.specs.PageParts.{fault_part, fault_parts}
use Rattle.html_code.specs.Parts.{Part, html_of}
use Rattle.html_code.specs.declared.source.Mark.{Mark}
use Rattle.html_code.proofs.SourceLemmas.{one_more}

-- one indentation of so many
pub blanks_more : (old new all : List ℕ) (counter stop : ℕ) → counter < stop → old ++ blanks (stop - counter) ≡ all
    → new ≡ old ++ codes "    " → new ++ blanks (stop - (counter + 1)) ≡ all
blanks_more old new all counter stop less so_far added =
    let e : stop - counter ≡ suc (stop - (counter + 1)) = omega arith in
    ap (λ (xs : List ℕ). xs ++ blanks (stop - (counter + 1))) added
    ∙ append_assoc old (codes "    ") (blanks (stop - (counter + 1)))
    ∙ sym (ap (λ n. old ++ blanks n) e) ∙ so_far

-- one link of all
pub links_more : (old new all left left_new told : List ℕ) (faults : List Mark) (i number : ℕ) (f : Mark) → i < length faults
    → old ++ html_of (fault_parts left (drop i faults)) ≡ all → number ≡ number_here left → told ≡ (get_or faults i f).told.now
    → new ≡ old ++ html_of (fault_part number told) → left_new ≡ drop 1 left
    → new ++ html_of (fault_parts left_new (drop (i + 1) faults)) ≡ all
links_more old new all left left_new told faults i number f inside so_far of_number of_told added of_left =
    let here : List Part = fault_part (number_here left) (get_or faults i f).told.now in
    let rest : List Part = fault_parts (drop 1 left) (drop (i + 1) faults) in
    let so : old ++ html_of (here ++ rest) ≡ all =
    sym (ap (λ (fs : List Mark). old ++ html_of (fault_parts left fs)) (drop_more faults i f inside)) ∙ so_far in
    let same : fault_part number told ≡ here = rw (of_number, of_told) refl in
    ap (λ (ns : List ℕ). new ++ html_of (fault_parts ns (drop (i + 1) faults))) of_left
    ∙ one_more old new all here rest so (added ∙ ap (λ (ps : List Part). old ++ html_of ps) same)
