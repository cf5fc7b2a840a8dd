-- Words that pick definitions.
use Rattle.std.proofs.Common.{◌≡◌, ℕ, List, ◌∷◌, ◌++◌, Option, Some, None, sym, ◌∙◌, subst}
use Rattle.replay_script.specs.Scripts.{IsPickOf}
use Rattle.replay_script.specs.Words.{IsNumber, Lacks, Lists}
use Rattle.replay_script.proofs.WordLemmas.{colon_no_digit, cut_same, number_lacks, without_mark}

-- a word without a colon that is no number picks nothing
pub no_whole : (word : List ℕ) → Lacks 58 word → ((n : ℕ) → IsNumber word n → ⊥) → (source : ℕ) (indices : Option (List ℕ)) → IsPickOf word source indices → ⊥
no_whole word lacks bad source None h = bad source h
no_whole word lacks bad source (Some is) h = without_mark 58 word h.0 h.1 lacks h.2

-- nor one with no number before its colon
pub no_front : (word front list : List ℕ) → word ≡ front ++ 58 ∷ list → Lacks 58 front → ((n : ℕ) → IsNumber front n → ⊥)
    → (source : ℕ) (indices : Option (List ℕ)) → IsPickOf word source indices → ⊥
no_front word front list is lacks bad source None h = without_mark 58 word front list (number_lacks 58 colon_no_digit word source h) is
no_front word front list is lacks bad source (Some is') h =
    bad source (subst (λ w. IsNumber w source) (cut_same 58 h.0 h.1 front list (sym h.2 ∙ is) (number_lacks 58 colon_no_digit h.0 source h.3) lacks).0 h.3)

-- nor one with no numbers behind it
pub no_list : (word front list : List ℕ) → word ≡ front ++ 58 ∷ list → Lacks 58 front → ((is : List ℕ) → Lists 44 IsNumber list is → ⊥)
    → (source : ℕ) (indices : Option (List ℕ)) → IsPickOf word source indices → ⊥
no_list word front list is lacks bad source None h = without_mark 58 word front list (number_lacks 58 colon_no_digit word source h) is
no_list word front list is lacks bad source (Some is') h =
    bad is' (subst (λ w. Lists 44 IsNumber w is') (cut_same 58 h.0 h.1 front list (sym h.2 ∙ is) (number_lacks 58 colon_no_digit h.0 source h.3) lacks).1 h.4)
