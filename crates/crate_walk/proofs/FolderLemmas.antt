-- The folder of a file.
use Rattle.std.proofs.Common.{◌≡◌, ◌≢◌, ℕ, suc, ◌<◌, List, [], ◌∷◌, ◌++◌, length, take, drop, get_or, true, false, eqb, refl, sym, ap, ◌∙◌, arith}
use Rattle.crate_walk.specs.Folders.{folder_of, is_slash}
use Rattle.std.specs.Str.Pattern.{HasCharAt}
use Rattle.std.specs.Str.{NoCharPasses}
use Rattle.std.proofs.lemmas.Str.Pattern.{NoCharPasses-char, drop_at_char}
use Rattle.std.proofs.lemmas.List.{take-append-drop}
use Rattle.std.proofs.lemmas.Bool.{ne_eqb}
use Rattle.std.specs.List.{list_any}

-- a text without a slash has no folder
pub folder_of_name : (ys : List ℕ) → list_any is_slash ys ≡ false → folder_of ys ≡ []
folder_of_name [] h = refl
folder_of_name (c ∷ cs) h = rw h refl

any_slash : (xs ys : List ℕ) → list_any is_slash (xs ++ 47 ∷ ys) ≡ true
any_slash [] ys = refl
any_slash (c ∷ xs) ys = rw (any_slash xs ys) (grind arith)

-- the folder of a text with a slash and no other after it
pub folder_of_split : (xs ys : List ℕ) → list_any is_slash ys ≡ false → folder_of (xs ++ 47 ∷ ys) ≡ xs ++ 47 ∷ []
folder_of_split [] ys h = rw (folder_of_name ys h) refl
folder_of_split (c ∷ xs) ys h = rw (any_slash (c ∷ xs) ys) (rw (folder_of_split xs ys h) refl)

-- a text in which no byte is a slash has none
none_is : (ys : List ℕ) → ((i : ℕ) → i < length ys → get_or ys i 0 ≢ 47) → list_any is_slash ys ≡ false
none_is [] h = refl
none_is (c ∷ cs) h = rw (ne_eqb c 47 (h 0 (omega arith))) (none_is cs (λ i lt. h (suc i) (omega arith)))

-- the text before the last slash and the slash are the folder
pub folder_before : (s : List ℕ) (i j : ℕ) → HasCharAt 47 s i j
    → NoCharPasses (λ d. eqb d 47) (drop j s) → folder_of s ≡ take i s ++ 47 ∷ []
folder_before s i j at none =
    let e : s ≡ take i s ++ 47 ∷ drop j s = sym (ap (λ (x : List ℕ). take i s ++ x) (sym (drop_at_char 47 s i j at (omega arith))) ∙ take-append-drop i s) in
    ap folder_of e ∙ folder_of_split (take i s) (drop j s) (none_is (drop j s) (λ k lt. NoCharPasses-char 47 (drop j s) k none (omega arith) lt))

-- a text without a slash
pub no_folder : (s : List ℕ) → NoCharPasses (λ d. eqb d 47) s → folder_of s ≡ []
no_folder s none = folder_of_name s (none_is s (λ k lt. NoCharPasses-char 47 s k none (omega arith) lt))
