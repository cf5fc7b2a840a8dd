-- The bodies of comments and literals depend on their own characters and the few that follow.
use Rattle.std.proofs.Common.{◌≡◌, ℕ, zero, suc, ◌+◌, ◌-◌, ◌≤◌, ◌<◌, Bool, true, false, not, ◌||◌, ◌&&◌, ◌==◌, nat_le, nat_lt, min, List, [], ◌∷◌, length, take, drop, refl, sym, ◌∙◌, subst, ap, arith, if◌then◌else◌, Option, None}
use Rattle.std.proofs.Math.Nat.{min-eq_left, min-eq_right}
use Rattle.std.specs.List.{prefix_len}
use Rattle.std.proofs.lemmas.Bool.Decides.{nat_tests}
use Rattle.rustc_lexer.specs.Character.{char_at, begins, is}
use Rattle.rustc_lexer.specs.Comments.{block_body}
use Rattle.rustc_lexer.specs.Literals.{quoted_rest, string_body, raw_body, raw_form, hashes_of, guarded_form}
use Rattle.rustc_lexer.specs.Scanned.{Scanned, further}
use Rattle.rustc_lexer.proofs.AgreeLemmas.{Agree, agree_less, agree_at, agree_drop, agree_tail, agree_end, agree_end_too, prefix_len_local, at_least_local}
use Rattle.rustc_lexer.proofs.EscapeLemmas.{string_from, string_same, quoted_from, quoted_same}
use Rattle.rustc_lexer.proofs.PositiveLemmas.{choice}

-- a choice that is answered alike is the same where its branches are the same within n characters
pub same_choice : {A : Type 0} (n : ℕ) (b e : Bool) (x y u v : Scanned A) → e ≡ b → (if b then x else y).size < n →
    (x.size < n → u ≡ x) → (y.size < n → v ≡ y) → (if e then u else v) ≡ (if b then x else y)
same_choice n true e x y u v s l f g = rw s (f l)
same_choice n false e x y u v s l f g = rw s (g l)

-- ---- strings

string_from_local : (e : Bool) (n : ℕ) (cs ds : List ℕ) → Agree n cs ds → (string_from e cs).size < n → string_from e ds ≡ string_from e cs
string_from_local e zero cs ds a l = absurd (omega arith)
string_from_local e (suc n) [] [] a l = refl
string_from_local e (suc n) [] (d ∷ ds) a l = agree_end n d ds a
string_from_local e (suc n) (c ∷ cs) [] a l = agree_end_too n c cs a
string_from_local true (suc n) (c ∷ cs) (d ∷ ds) a l =
    let t = agree_tail n c d cs ds a in ap (further 1) (string_from_local false n cs ds t.1 (omega arith))
string_from_local false (suc n) (c ∷ cs) (d ∷ ds) a l =
    let t = agree_tail n c d cs ds a in
    rw t.0 (same_choice (suc n) (is "\"" c) (is "\"" c) _ _ _ _ refl l (λ h. refl) (λ h. ap (further 1) (string_from_local (is "\\" c) n cs ds t.1 (omega arith))))

pub string_local : (n : ℕ) (cs ds : List ℕ) → Agree n cs ds → (string_body cs).size < n → string_body ds ≡ string_body cs
string_local n cs ds = rw (string_same cs, string_same ds) (string_from_local false n cs ds)

-- ---- characters

quoted_from_local : (e : Bool) (n : ℕ) (cs ds : List ℕ) → Agree (suc n) cs ds → (quoted_from e cs).size < n → quoted_from e ds ≡ quoted_from e cs
quoted_from_local e zero cs ds a l = absurd (omega arith)
quoted_from_local e (suc n) [] [] a l = refl
quoted_from_local e (suc n) [] (d ∷ ds) a l = agree_end (suc n) d ds a
quoted_from_local e (suc n) (c ∷ cs) [] a l = agree_end_too (suc n) c cs a
quoted_from_local true (suc n) (c ∷ cs) (d ∷ ds) a l =
    let t = agree_tail (suc n) c d cs ds a in ap (further 1) (quoted_from_local false n cs ds t.1 (omega arith))
quoted_from_local false (suc n) (c ∷ cs) (d ∷ ds) a l =
    let t = agree_tail (suc n) c d cs ds a in
    let next : begins "'" ds ≡ begins "'" cs = ap (is "'") (agree_at 0 t.1 (omega arith)) in
    rw t.0 (same_choice (suc n) (is "'" c) (is "'" c) _ _ _ _ refl l (λ h. refl)
    (λ h. same_choice (suc n) (is "/" c || (c == 10 && not (begins "'" cs))) (is "/" c || (c == 10 && not (begins "'" ds))) _ _ _ _
    (ap (λ b. is "/" c || (c == 10 && not b)) next) h (λ k. refl)
    (λ k. ap (further 1) (quoted_from_local (is "\\" c) n cs ds t.1 (omega arith)))))

pub quoted_local : (n : ℕ) (cs ds : List ℕ) → Agree (suc n) cs ds → (quoted_rest cs).size < n → quoted_rest ds ≡ quoted_rest cs
quoted_local n cs ds = rw (quoted_same cs, quoted_same ds) (quoted_from_local false n cs ds)

-- ---- raw strings

-- a raw string's body has at least the hashes that stand at its front
hashes_inside : (h : ℕ) (cs : List ℕ) → prefix_len (is "#") cs ≤ (raw_body h cs).size
hashes_inside h [] = omega arith
hashes_inside h (c ∷ cs) = by_test (is "#" c) refl (hashes_inside h cs)
  where
    by_test : (b : Bool) → is "#" c ≡ b → prefix_len (is "#") cs ≤ (raw_body h cs).size →
        (if b then 1 + prefix_len (is "#") cs else 0) ≤ (raw_body h (c ∷ cs)).size
    by_test true e again = (let hash : c ≡ 35 = grind (arith, nat_tests) in rw hash (omega arith))
    by_test false e again = omega arith

pub raw_local : (h n : ℕ) (cs ds : List ℕ) → Agree n cs ds → (raw_body h cs).size < n → raw_body h ds ≡ raw_body h cs
raw_local h zero cs ds a l = absurd (omega arith)
raw_local h (suc n) [] [] a l = refl
raw_local h (suc n) [] (d ∷ ds) a l = agree_end n d ds a
raw_local h (suc n) (c ∷ cs) [] a l = agree_end_too n c cs a
raw_local h (suc n) (c ∷ cs) (d ∷ ds) a l =
    let t = agree_tail n c d cs ds a in
    rw t.0 (same_choice (suc n) (is "\"" c && nat_le h (prefix_len (is "#") cs)) (is "\"" c && nat_le h (prefix_len (is "#") ds)) _ _ _ _
    (ap (λ b. is "\"" c && b) (same_test (is "\"" c && nat_le h (prefix_len (is "#") cs)) t.1 l)) l (λ k. refl)
    (λ k. ap (further 1) (raw_local h n cs ds t.1 (omega arith))))
  where
    same_test : (b : Bool) → Agree n cs ds → (if b then record { value = true; size = 1 + h } else further 1 (raw_body h cs)).size < suc n →
        nat_le h (prefix_len (is "#") ds) ≡ nat_le h (prefix_len (is "#") cs)
    same_test true a l = at_least_local (is "#") h n cs ds a (omega arith)
    same_test false a l = ap (nat_le h) (prefix_len_local (is "#") n cs ds a (omega (arith, hashes_inside h cs)))

-- a raw form that begins with n hashes
abbrev pub form_at : ℕ → List ℕ → Scanned (Option ℕ)
form_at n cs =
    let body : Scanned Bool = further 1 (raw_body n (drop 1 (drop n cs))) in
    if is "\"" (char_at cs n) then further n (record { value = hashes_of body.value n; size = body.size })
    else further n (record { value = None; size = length (take 1 (drop n cs)) })

form_long : (n : ℕ) (cs : List ℕ) → n ≤ (form_at n cs).size
form_long n cs = choice (λ (s : Scanned (Option ℕ)). n ≤ s.size) (is "\"" (char_at cs n)) _ _ (λ h. omega arith) (λ h. omega arith)

form_local : (n m : ℕ) (cs ds : List ℕ) → Agree m cs ds → n < m → (form_at n cs).size < m → form_at n ds ≡ form_at n cs
form_local n m cs ds a k l =
    same_choice m (is "\"" (char_at cs n)) (is "\"" (char_at ds n)) _ _ _ _ (ap (is "\"") (agree_at n a k)) l
    (λ h. (let b : Agree (n + (1 + (m - n - 1))) cs ds = agree_less _ a (omega arith) in
    ap (λ (body : Scanned Bool). further n (record { value = hashes_of body.value n; size = body.size }))
    (ap (further 1) (raw_local n (m - n - 1) (drop 1 (drop n cs)) (drop 1 (drop n ds)) (agree_drop 1 (agree_drop n b)) (omega arith)))))
    (λ h. (let b : Agree (n + 1) cs ds = agree_less _ a (omega arith) in
    ap (λ xs. further n (record { value = None; size = length xs })) (sym (agree_drop n b).same)))

pub raw_form_local : (m : ℕ) (cs ds : List ℕ) → Agree m cs ds → (raw_form cs).size < m → raw_form ds ≡ raw_form cs
raw_form_local m cs ds a l =
    let n : ℕ = prefix_len (is "#") cs in
    let k : n < m = omega (arith, form_long n cs) in
    let e : prefix_len (is "#") ds ≡ n = prefix_len_local (is "#") m cs ds a k in
    rw e (form_local n m cs ds a k l)

-- ---- guarded strings

-- how many of at most k characters pass
min_local : (p : ℕ → Bool) (k n : ℕ) (cs ds : List ℕ) → Agree n cs ds → min k (prefix_len p cs) < n → min k (prefix_len p ds) ≡ min k (prefix_len p cs)
min_local p k n cs ds a l = by_tests (nat_lt (prefix_len p cs) n) (nat_le k (prefix_len p cs)) refl refl
  where
    by_tests : (u v : Bool) → nat_lt (prefix_len p cs) n ≡ u → nat_le k (prefix_len p cs) ≡ v → min k (prefix_len p ds) ≡ min k (prefix_len p cs)
    by_tests true v e f = ap (min k) (prefix_len_local p n cs ds a (grind (arith, nat_tests)))
    by_tests false true e f =
        let here : k ≤ prefix_len p cs = grind (arith, nat_tests) in
        let few : k ≤ n = omega (arith, l, min-eq_left here) in
        let same = at_least_local p k n cs ds a few in
        let there : k ≤ prefix_len p ds = grind (arith, nat_tests) in
        min-eq_left there ∙ sym (min-eq_left here)
    by_tests false false e f =
        let more : prefix_len p cs ≤ k = grind (arith, nat_tests) in
        let long : n ≤ prefix_len p cs = grind (arith, nat_tests) in
        absurd (omega (arith, l, long, min-eq_right more))

-- the form of n hashes with this body, where so many hashes follow the body
abbrev pub closed : ℕ → Scanned Bool → ℕ → Scanned (Option ℕ)
closed n body closing = record { value = hashes_of (body.value && (closing == n)) n; size = body.size + closing }

pub guarded_form_local : (n m : ℕ) (cs ds : List ℕ) → Agree m cs ds → (guarded_form n cs).size < m → guarded_form n ds ≡ guarded_form n cs
guarded_form_local n m cs ds a l =
    let body : Scanned Bool = further 1 (string_body (drop 1 cs)) in
    let b : Agree (1 + (m - 1)) cs ds = agree_less _ a (omega (arith, l)) in
    let same = string_local (m - 1) (drop 1 cs) (drop 1 ds) (agree_drop 1 b) (omega (arith, l)) in
    let rest : Agree (body.size + (m - body.size)) cs ds = agree_less _ a (omega (arith, l)) in
    ap (λ (s : Scanned Bool). closed n (further 1 s) (min n (prefix_len (is "#") (drop (1 + s.size) ds)))) same
    ∙ ap (closed n body) (min_local (is "#") n (m - body.size) (drop body.size cs) (drop body.size ds) (agree_drop body.size rest) (omega (arith, l)))

-- n hashes, and a form after them
abbrev pub guarded_at : ℕ → List ℕ → Scanned (Option ℕ)
guarded_at n cs = further n (guarded_form n (drop n cs))

-- ---- block comments

-- what follows `c` and `d`, where these open a comment, or end one
abbrev pub block_step : Bool → Bool → ℕ → ℕ → List ℕ → Scanned Bool
block_step opens ends depth d cs =
    elim opens [
      | true ↦ further 2 (block_body (suc depth) cs)
      | false ↦ elim ends [
        | true ↦ elim depth [ zero ↦ record { value = true; size = 2 } | suc outer ↦ further 2 (block_body outer cs) ]
        | false ↦ further 1 (block_body depth (d ∷ cs))
      ]
    ]

block_positive : (depth c : ℕ) (cs : List ℕ) → 1 ≤ (block_body depth (c ∷ cs)).size
block_positive depth c [] = omega arith
block_positive depth c (d ∷ cs) = by_tests (is "/" c && is "*" d) (is "*" c && is "/" d) depth
  where
    by_tests : (u v : Bool) (k : ℕ) → 1 ≤ (block_step u v k d cs).size
    by_tests true v k = omega arith
    by_tests false true zero = omega arith
    by_tests false true (suc k) = omega arith
    by_tests false false k = omega arith

pub block_local : (depth n : ℕ) (cs ds : List ℕ) → Agree n cs ds → (block_body depth cs).size < n → block_body depth ds ≡ block_body depth cs
block_local depth zero cs ds a l = absurd (omega arith)
block_local depth (suc n) [] [] a l = refl
block_local depth (suc n) [] (d ∷ ds) a l = agree_end n d ds a
block_local depth (suc n) (c ∷ cs) [] a l = agree_end_too n c cs a
block_local depth (suc zero) (c ∷ cs) (d ∷ ds) a l = absurd (omega (arith, block_positive depth c cs))
block_local depth (suc (suc n)) (c ∷ []) (d ∷ []) a l = refl
block_local depth (suc (suc n)) (c ∷ []) (d ∷ f ∷ ds) a l = agree_end n f ds (agree_tail (suc n) c d [] (f ∷ ds) a).1
block_local depth (suc (suc n)) (c ∷ e ∷ cs) (d ∷ []) a l = agree_end_too n e cs (agree_tail (suc n) c d (e ∷ cs) [] a).1
block_local depth (suc (suc n)) (c ∷ e ∷ cs) (d ∷ f ∷ ds) a l =
    let t = agree_tail (suc n) c d (e ∷ cs) (f ∷ ds) a in
    let u = agree_tail n e f cs ds t.1 in
    rw (t.0, u.0) (by_tests (is "/" c && is "*" e) (is "*" c && is "/" e) depth l
    (λ k h. block_local k n cs ds u.1 h)
    (block_local depth (suc n) (e ∷ cs) (e ∷ ds) (subst (λ x. Agree (suc n) (e ∷ cs) (x ∷ ds)) u.0 t.1)))
  where
    by_tests : (u v : Bool) (k : ℕ) → (block_step u v k e cs).size < suc (suc n) →
        ((j : ℕ) → (block_body j cs).size < n → block_body j ds ≡ block_body j cs) →
        ((block_body k (e ∷ cs)).size < suc n → block_body k (e ∷ ds) ≡ block_body k (e ∷ cs)) →
        block_step u v k e ds ≡ block_step u v k e cs
    by_tests true v k l behind again = ap (further 2) (behind (suc k) (omega arith))
    by_tests false true zero l behind again = refl
    by_tests false true (suc k) l behind again = ap (further 2) (behind k (omega arith))
    by_tests false false k l behind again = ap (further 1) (again (omega arith))
