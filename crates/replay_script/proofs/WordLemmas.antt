-- The bytes before and after a separator.
use Rattle.std.proofs.Common.{◌≡◌, ◌≢◌, ℕ, ◌<◌, ◌≤◌, Bool, true, false, List, [], ◌∷◌, ◌++◌, refl, sym, ap, ◌∙◌, subst, arith, length, get_or, drop, eqb, length-append}
use Rattle.std.specs.Prelude.{cond, suc, zero}
use Rattle.std.specs.Str.Parse.{AllDigits}
use Rattle.std.proofs.lemmas.Str.Parse.{digit_at}
use Rattle.std.proofs.lemmas.Bool.{eqb-true}
use Rattle.replay_script.specs.Words.{IsNumber, Lacks}

-- bytes without the mark have it nowhere
pub without_mark : (mark : ℕ) (text front more : List ℕ) → Lacks mark text → text ≡ front ++ mark ∷ more → ⊥
without_mark mark text front more lacks is =
    lacks (length front) (inside front (ap length is)) (ap (λ bs. get_or bs (length front) 0) is ∙ at front)
  where
    at : (front : List ℕ) → get_or (front ++ mark ∷ more) (length front) 0 ≡ mark
    at [] = refl
    at (b ∷ front) = at front

    inside : (front : List ℕ) → length text ≡ length (front ++ mark ∷ more) → length front < length text
    inside front e = omega (arith, e, length-append front (mark ∷ more))

-- what stands before the first mark, and behind it, is told by the text
pub cut_same : (mark : ℕ) (a b c d : List ℕ) → a ++ mark ∷ b ≡ c ++ mark ∷ d → Lacks mark a → Lacks mark c → (a ≡ c) × (b ≡ d)
cut_same mark [] b [] d e f g = (refl, ap (drop 1) e)
cut_same mark [] b (x ∷ c) d e f g = absurd (g 0 (omega arith) (sym (ap (λ bs. get_or bs 0 0) e)))
cut_same mark (x ∷ a) b [] d e f g = absurd (f 0 (omega arith) (ap (λ bs. get_or bs 0 0) e))
cut_same mark (x ∷ a) b (y ∷ c) d e f g =
    let same = cut_same mark a b c d (ap (drop 1) e) (λ i l. f (suc i) (omega (arith, l))) (λ i l. g (suc i) (omega (arith, l))) in
    let first : x ≡ y = ap (λ bs. get_or bs 0 0) e in
    (ap (λ z. z ∷ a) first ∙ ap (λ bs. y ∷ bs) same.0, same.1)

-- a byte that no number has
pub record IsNoDigit (mark : ℕ) : Type 0 where
  pub plus : 43 ≢ mark
  pub digit : (c : ℕ) → 48 ≤ c → c ≤ 57 → c ≢ mark

digits_lack : (mark : ℕ) → IsNoDigit mark → (ds : List ℕ) → AllDigits 10 ds → Lacks mark ds
digits_lack mark bad ds all i l e = let k = digit_at ds i all l in bad.digit (get_or ds i 0) (omega (arith, k)) (omega (arith, k)) e

-- a number has no such byte
pub number_lacks : (mark : ℕ) → IsNoDigit mark → (word : List ℕ) (n : ℕ) → IsNumber word n → Lacks mark word
number_lacks mark bad [] n is = λ i l. absurd (omega (arith, l))
number_lacks mark bad (c ∷ cs) n is = go (eqb c 43) refl
  where
    behind : c ≡ 43 → Lacks mark cs → Lacks mark (c ∷ cs)
    behind plus lacks zero l e = bad.plus (sym plus ∙ e)
    behind plus lacks (suc i) l e = lacks i (omega (arith, l)) e

    go : (t : Bool) → eqb c 43 ≡ t → Lacks mark (c ∷ cs)
    go true e = behind (eqb-true c 43 e) (digits_lack mark bad cs (subst (λ (b : Bool). AllDigits 10 (drop (cond b 1 0) (c ∷ cs))) e is.numeral.1))
    go false e = digits_lack mark bad (c ∷ cs) (subst (λ (b : Bool). AllDigits 10 (drop (cond b 1 0) (c ∷ cs))) e is.numeral.1)

-- a space, a comma and a colon are none
pub space_no_digit : IsNoDigit 32
space_no_digit = record { plus = λ e. absurd (omega (arith, e)); digit = λ c low high e. absurd (omega (arith, low, e)) }

pub comma_no_digit : IsNoDigit 44
comma_no_digit = record { plus = λ e. absurd (omega (arith, e)); digit = λ c low high e. absurd (omega (arith, low, e)) }

pub colon_no_digit : IsNoDigit 58
colon_no_digit = record { plus = λ e. absurd (omega (arith, e)); digit = λ c low high e. absurd (omega (arith, high, e)) }

-- a word is one number
pub same_number : (word : List ℕ) (m n : ℕ) → IsNumber word m → IsNumber word n → m ≡ n
same_number word m n a b = a.value ∙ sym b.value
