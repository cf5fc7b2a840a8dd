-- How far a text's first characters look ahead: a run of hashes across a place.
use Rattle.std.proofs.Common.{◌≡◌, ℕ, zero, suc, ◌+◌, ◌-◌, ◌≤◌, ◌<◌, Bool, true, false, nat_le, List, [], ◌∷◌, ◌++◌, length, take, drop, refl, sym, ◌∙◌, ap, arith, if◌then◌else◌, length-append}
use Rattle.std.proofs.Math.Seq.{drop-append_seam, take-add, take-append_seam}
use Rattle.std.proofs.lemmas.Bool.Decides.{nat_tests}
use Rattle.std.proofs.lemmas.List.{append_assoc, drop-drop, get_or-append-add, get_or-take, length-take-le}
use Rattle.std.proofs.lemmas.List.Sums.{prefix_len-le-length, prefix_len_passes}
use Rattle.std.specs.List.{prefix_len}
use Rattle.rustc_lexer.specs.Character.{char_at, is}
use Rattle.rustc_lexer.specs.Lexing.{ends_in_hash, run_on}
use Rattle.rustc_lexer.proofs.TestLemmas.{no}

-- ---- runs

-- what is left of a run behind its first characters
pub run_drop : (p : ℕ → Bool) (n : ℕ) (cs : List ℕ) → n ≤ prefix_len p cs → n + prefix_len p (drop n cs) ≡ prefix_len p cs
run_drop p zero cs l = omega arith
run_drop p (suc n) [] l = absurd (omega (arith, l))
run_drop p (suc n) (c ∷ cs) l = by_test (p c) l (λ k. run_drop p n cs k)
  where
    by_test : (u : Bool) → suc n ≤ (if u then 1 + prefix_len p cs else 0) → (n ≤ prefix_len p cs → n + prefix_len p (drop n cs) ≡ prefix_len p cs) →
        suc n + prefix_len p (drop n cs) ≡ (if u then 1 + prefix_len p cs else 0)
    by_test true l again = (let rest = again (omega (arith, l)) in omega (arith, rest))
    by_test false l again = absurd (omega (arith, l))

-- a run that ends in a text ends there in a longer text
pub run_append : (p : ℕ → Bool) (cs ds : List ℕ) → prefix_len p cs < length cs → prefix_len p (cs ++ ds) ≡ prefix_len p cs
run_append p [] ds l = absurd (omega (arith, l))
run_append p (c ∷ cs) ds l = by_test (p c) l (λ k. run_append p cs ds k)
  where
    by_test : (u : Bool) → (if u then 1 + prefix_len p cs else 0) < suc (length cs) → (prefix_len p cs < length cs → prefix_len p (cs ++ ds) ≡ prefix_len p cs) →
        (if u then 1 + prefix_len p (cs ++ ds) else 0) ≡ (if u then 1 + prefix_len p cs else 0)
    by_test true l again = ap (λ k. 1 + k) (again (omega (arith, l)))
    by_test false l again = refl

-- ---- ends

-- the last character is that of the second part
pub ends_behind : (cs ds : List ℕ) → ends_in_hash ds ≡ true → ends_in_hash (cs ++ ds) ≡ true
ends_behind cs [] h = no h
ends_behind cs (d ∷ ds) h =
    let place : length (cs ++ d ∷ ds) - 1 ≡ length cs + length ds = omega (arith, length-append cs (d ∷ ds)) in
    let last : suc (length ds) - 1 ≡ length ds = omega arith in
    ap (λ i. is "#" (char_at (cs ++ d ∷ ds) i)) place ∙ ap (is "#") (get_or-append-add cs (d ∷ ds) (length ds) 0)
    ∙ ap (λ i. is "#" (char_at (d ∷ ds) i)) (sym last) ∙ h

-- the first characters of a run end in a hash
ends_inside : (i : ℕ) (cs : List ℕ) → i < prefix_len (is "#") cs → ends_in_hash (take (suc i) cs) ≡ true
ends_inside i cs l =
    let size : length (take (suc i) cs) ≡ suc i = length-take-le (suc i) cs (omega (arith, l, prefix_len-le-length (is "#") cs)) in
    let last : length (take (suc i) cs) - 1 ≡ i = omega (arith, size) in
    ap (λ k. is "#" (char_at (take (suc i) cs) k)) last ∙ ap (is "#") (get_or-take (suc i) cs i 0 (omega arith)) ∙ prefix_len_passes (is "#") cs i 0 l

-- ---- ahead

-- how many hashes go on with a run at a place of a text
abbrev pub ahead : ℕ → List ℕ → ℕ
ahead i cs = run_on (take i cs) (drop i cs)

-- how many hashes go on behind the first i characters, by whether these end in one
abbrev ahead_by : Bool → ℕ → List ℕ → ℕ
ahead_by u i cs = if u then prefix_len (is "#") (drop i cs) else 0

-- a later place looks as far or further
pub ahead_grows : (n m : ℕ) (cs : List ℕ) → n ≤ m → n + ahead n cs ≤ m + ahead m cs
ahead_grows n m cs l = by_end (ends_in_hash (take n cs)) refl
  where
    inside : (d : ℕ) → m ≡ n + d → d < prefix_len (is "#") (drop n cs) → ends_in_hash (take n cs) ≡ true → ends_in_hash (take m cs) ≡ true
    inside zero e k h = ap (λ i. ends_in_hash (take i cs)) (omega (arith, e)) ∙ h
    inside (suc d) e k h =
        ap (λ i. ends_in_hash (take i cs)) e ∙ ap ends_in_hash (take-add n (suc d) cs) ∙ ends_behind (take n cs) (take (suc d) (drop n cs)) (ends_inside d (drop n cs) (omega (arith, k)))

    by_far : (v : Bool) → ends_in_hash (take n cs) ≡ true → nat_le (prefix_len (is "#") (drop n cs)) (m - n) ≡ v →
        n + prefix_len (is "#") (drop n cs) ≤ m + ahead m cs
    by_far true h e = (let few : prefix_len (is "#") (drop n cs) ≤ m - n = grind (arith, nat_tests) in omega (arith, few, l))
    by_far false h e =
        let more : m - n < prefix_len (is "#") (drop n cs) = grind (arith, nat_tests) in
        let there : m ≡ n + (m - n) = omega (arith, l) in
        let on = inside (m - n) there more h in
        let rest : drop (m - n) (drop n cs) ≡ drop m cs = drop-drop (m - n) n cs ∙ ap (λ i. drop i cs) (sym there) in
        let left = run_drop (is "#") (m - n) (drop n cs) (omega (arith, more)) in
        let same = ap (prefix_len (is "#")) rest in
        let all : ahead m cs ≡ prefix_len (is "#") (drop m cs) = ap (λ u. ahead_by u m cs) on in
        omega (arith, left, same, all, l)

    by_end : (u : Bool) → ends_in_hash (take n cs) ≡ u → n + ahead_by u n cs ≤ m + ahead m cs
    by_end false e = omega (arith, l)
    by_end true e = by_far (nat_le (prefix_len (is "#") (drop n cs)) (m - n)) e refl

-- the first n characters can only add to what goes on
pub ahead_behind : (n i : ℕ) (cs : List ℕ) → ahead i (drop n cs) ≤ ahead (n + i) cs
ahead_behind n i cs = by_end (ends_in_hash (take i (drop n cs))) refl
  where
    by_end : (u : Bool) → ends_in_hash (take i (drop n cs)) ≡ u → ahead_by u i (drop n cs) ≤ ahead (n + i) cs
    by_end false e = omega arith
    by_end true e =
        let on : ends_in_hash (take (n + i) cs) ≡ true = ap ends_in_hash (take-add n i cs) ∙ ends_behind (take n cs) (take i (drop n cs)) e in
        let all : ahead (n + i) cs ≡ prefix_len (is "#") (drop (n + i) cs) = ap (λ u. ahead_by u (n + i) cs) on in
        let same = ap (prefix_len (is "#")) (drop-drop i n cs) in
        omega (arith, all, same)

-- ---- a text of several parts

-- what goes on before a part goes on behind it, or ends in it
pub run_on_grows : (ps cs ds : List ℕ) → run_on ps (cs ++ ds) ≤ length cs + run_on (ps ++ cs) ds
run_on_grows ps cs ds =
    let all : List ℕ = ps ++ (cs ++ ds) in
    let again : all ≡ (ps ++ cs) ++ ds = sym (append_assoc ps cs ds) in
    let size = length-append ps cs in
    let grows = ahead_grows (length ps) (length (ps ++ cs)) all (omega (arith, size)) in
    let here : ahead (length ps) all ≡ run_on ps (cs ++ ds) =
    ap (λ xs. run_on xs (drop (length ps) all)) (take-append_seam ps (cs ++ ds)) ∙ ap (run_on ps) (drop-append_seam ps (cs ++ ds)) in
    let there : ahead (length (ps ++ cs)) all ≡ run_on (ps ++ cs) ds =
    ap (ahead (length (ps ++ cs))) again
    ∙ ap (λ xs. run_on xs (drop (length (ps ++ cs)) ((ps ++ cs) ++ ds))) (take-append_seam (ps ++ cs) ds) ∙ ap (run_on (ps ++ cs)) (drop-append_seam (ps ++ cs) ds) in
    omega (arith, grows, here, there, size)

-- a run that ends before the end of a part is the same with more behind it
pub run_on_part : (ps cs ds : List ℕ) → run_on ps cs + 2 ≤ length cs → run_on ps (cs ++ ds) ≡ run_on ps cs
run_on_part ps cs ds l = by_end (ends_in_hash ps) l
  where
    by_end : (u : Bool) → (if u then prefix_len (is "#") cs else 0) + 2 ≤ length cs → (if u then prefix_len (is "#") (cs ++ ds) else 0) ≡ (if u then prefix_len (is "#") cs else 0)
    by_end true l = run_append (is "#") cs ds (omega (arith, l))
    by_end false l = refl
