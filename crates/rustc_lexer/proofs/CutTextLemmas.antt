-- A text that is cut off after its first lexeme is read as the longer text is.
--     at_cut, begins_cut       a test that fails in the longer text fails in the shorter one
--     prefix_cut, body_cut     runs and bodies that end before the cut
--     number_cut               numbers, if no point comes before the cut
use Rattle.std.proofs.Common.{◌≡◌, ℕ, zero, suc, ◌+◌, ◌-◌, ◌≤◌, ◌<◌, ◌==◌, Bool, true, false, not, ◌&&◌, ◌||◌, nat_le, List, [], ◌∷◌, length, take, drop, refl, sym, ◌∙◌, ap, arith, if◌then◌else◌, Option, None}
use Rattle.std.proofs.lemmas.Bool.Decides.{nat_tests}
use Rattle.std.proofs.lemmas.List.{take-take, drop-take}
use Rattle.std.specs.List.{list_all, list_any, prefix_len}
use Rattle.std.specs.Option.{is_some}
use Rattle.std.specs.Prelude.{codes}
use Rattle.ucd_derived.specs.Binary.{is_xid_start, is_xid_continue}
use Rattle.ucd_derived.specs.XidContinueRanges.{xid_continue_ranges}
use Rattle.ucd_derived.specs.XidStartRanges.{xid_start_ranges}
use Rattle.ucd_table.specs.Rows.{in_ranges}
use Rattle.rustc_lexer.specs.Character.{char_at, begins_at, is, is_id_start, is_id_continue, continues, identifier_len, is_digit, is_hex_digit, begins, utf8_len}
use Rattle.rustc_lexer.specs.Lexeme.{numeral}
use Rattle.rustc_lexer.specs.Literals.{with_suffix, quoted_rest, quoted_body, string_body, raw_body, raw_form, hashes_of}
use Rattle.rustc_lexer.specs.Numbers.{run, sign_len, is_exponent_mark, exponent, after_fraction, fraction, begins_fraction, after_run, based, number}
use Rattle.rustc_lexer.specs.Scanned.{Scanned, further}
use Rattle.rustc_lexer.proofs.AgreeLemmas.{Agree, agree_at, at_least_local}
use Rattle.rustc_lexer.proofs.BlankLemmas.{is_solid, start_stops}
use Rattle.rustc_lexer.proofs.BodyLocalLemmas.{form_at}
use Rattle.rustc_lexer.proofs.EscapeLemmas.{string_from, string_same, quoted_from, quoted_same}
use Rattle.rustc_lexer.proofs.LocalLemmas.{behind_base, exponent_of}
use Rattle.rustc_lexer.specs.declared.token.Base.{Base}
use Rattle.rustc_lexer.specs.declared.token.Base.TheVariants.{Binary, Octal, Hexadecimal, Decimal}
use Rattle.rustc_lexer.specs.declared.token.LiteralKind.{LiteralKind}
use Rattle.rustc_lexer.specs.declared.token.LiteralKind.TheVariants.{Float, Int}
use Rattle.rustc_lexer.specs.declared.token.TokenKind.TheVariants.{Literal}

-- ---- characters

-- the cut text has the same first characters
pub cut_agree : (m : ℕ) (cs : List ℕ) → Agree m cs (take m cs)
cut_agree m cs = record { same = sym (take-take m m cs (omega arith)) }

pub same_at : (i m : ℕ) (cs : List ℕ) → i < m → char_at (take m cs) i ≡ char_at cs i
same_at i m cs l = agree_at i (cut_agree m cs) l

pub at_cut : (p : ℕ → Bool) → p 0 ≡ false → (m i : ℕ) (cs : List ℕ) → p (char_at cs i) ≡ false → p (char_at (take m cs) i) ≡ false
at_cut p z zero i cs h = z
at_cut p z (suc m) i [] h = z
at_cut p z (suc m) zero (c ∷ cs) h = h
at_cut p z (suc m) (suc i) (c ∷ cs) h = at_cut p z m i cs h

and_false : (u : Bool) → (u && false) ≡ false
and_false true = refl
and_false false = refl

first_solid : (w : ℕ) (ws : List ℕ) → list_all is_solid (w ∷ ws) ≡ true → (0 == w) ≡ false
first_solid w ws h = by_test (is_solid w) refl h
  where
    by_test : (u : Bool) → is_solid w ≡ u → (u && list_all is_solid ws) ≡ true → (0 == w) ≡ false
    by_test true e h = grind (arith, nat_tests, e)
    by_test false e h = absurd (let t : false ≡ true = h in cc)

rest_solid : (w : ℕ) (ws : List ℕ) → list_all is_solid (w ∷ ws) ≡ true → list_all is_solid ws ≡ true
rest_solid w ws h = by_test (is_solid w) h
  where
    by_test : (u : Bool) → (u && list_all is_solid ws) ≡ true → list_all is_solid ws ≡ true
    by_test true h = h
    by_test false h = absurd (let t : false ≡ true = h in cc)

-- a word that does not stand in front of the text does not stand in front of the cut one
pub begins_cut : (ws : List ℕ) (i m : ℕ) (cs : List ℕ) → list_all is_solid ws ≡ true → begins_at i ws cs ≡ false → begins_at i ws (take m cs) ≡ false
begins_cut [] i m cs s h = absurd (let t : true ≡ false = h in cc)
begins_cut (w ∷ []) i m cs s h = at_cut (λ c. c == w) (first_solid w [] s) m i cs h
begins_cut (w ∷ v ∷ ws) i m cs s h = by_test (char_at cs i == w) refl h (λ k. begins_cut (v ∷ ws) (suc i) m cs (rest_solid w (v ∷ ws) s) k)
  where
    by_test : (u : Bool) → (char_at cs i == w) ≡ u → (u && begins_at (suc i) (v ∷ ws) cs) ≡ false →
        (begins_at (suc i) (v ∷ ws) cs ≡ false → begins_at (suc i) (v ∷ ws) (take m cs) ≡ false) →
        ((char_at (take m cs) i == w) && begins_at (suc i) (v ∷ ws) (take m cs)) ≡ false
    by_test true e h again = (let more = again h in rw more (and_false (char_at (take m cs) i == w)))
    by_test false e h again = (let first = at_cut (λ c. c == w) (first_solid w (v ∷ ws) s) m i cs e in rw first refl)

pub drop_cut : (p m : ℕ) (cs : List ℕ) → p ≤ m → drop p (take m cs) ≡ take (m - p) (drop p cs)
drop_cut p m cs l =
    let e : m ≡ p + (m - p) = omega (arith, l) in
    ap (λ k. drop p (take k cs)) e ∙ drop-take p (m - p) cs

pub at_drop : (p s : ℕ) (xs : List ℕ) → char_at (drop p xs) s ≡ char_at xs (p + s)
at_drop zero s xs = ap (char_at xs) (omega arith)
at_drop (suc p) s [] = refl
at_drop (suc p) s (x ∷ xs) = at_drop p s xs ∙ ap (char_at (x ∷ xs)) (let e : suc (p + s) ≡ suc p + s = omega arith in e)

-- ---- runs

pub prefix_cut : (p : ℕ → Bool) (m : ℕ) (cs : List ℕ) → prefix_len p cs ≤ m → prefix_len p (take m cs) ≡ prefix_len p cs
prefix_cut p zero cs l = omega (arith, l)
prefix_cut p (suc m) [] l = refl
prefix_cut p (suc m) (c ∷ cs) l = by_test (p c) l (λ k. prefix_cut p m cs k)
  where
    by_test : (u : Bool) → (if u then 1 + prefix_len p cs else 0) ≤ suc m → (prefix_len p cs ≤ m → prefix_len p (take m cs) ≡ prefix_len p cs) →
        (if u then 1 + prefix_len p (take m cs) else 0) ≡ (if u then 1 + prefix_len p cs else 0)
    by_test true l again = ap (λ k. 1 + k) (again (omega (arith, l)))
    by_test false l again = refl

-- a run of a cut text is no longer
pub prefix_less : (p : ℕ → Bool) (m : ℕ) (cs : List ℕ) → prefix_len p (take m cs) ≤ prefix_len p cs
prefix_less p zero cs = omega arith
prefix_less p (suc m) [] = omega arith
prefix_less p (suc m) (c ∷ cs) = by_test (p c) (prefix_less p m cs)
  where
    by_test : (u : Bool) → prefix_len p (take m cs) ≤ prefix_len p cs → (if u then 1 + prefix_len p (take m cs) else 0) ≤ (if u then 1 + prefix_len p cs else 0)
    by_test true l = omega (arith, l)
    by_test false l = omega arith

pub identifier_cut : (m : ℕ) (cs : List ℕ) → identifier_len cs ≤ m → identifier_len (take m cs) ≡ identifier_len cs
identifier_cut zero cs l = (let no = start_stops.at_end in rw no (omega (arith, l)))
identifier_cut (suc m) [] l = refl
identifier_cut (suc m) (c ∷ cs) l = by_test (is_id_start c) l (λ k. prefix_cut is_id_continue m cs k)
  where
    by_test : (u : Bool) → (if u then 1 + continues cs else 0) ≤ suc m → (continues cs ≤ m → continues (take m cs) ≡ continues cs) →
        (if u then 1 + continues (take m cs) else 0) ≡ (if u then 1 + continues cs else 0)
    by_test true l again = ap (λ k. 1 + k) (again (omega (arith, l)))
    by_test false l again = refl

-- ---- bodies

-- a choice that is answered alike is the same where its branches are the same up to m characters
pub same_if : {A : Type 0} (m : ℕ) (b : Bool) (x y u v : Scanned A) → (if b then x else y).size ≤ m →
    (x.size ≤ m → u ≡ x) → (y.size ≤ m → v ≡ y) → (if b then u else v) ≡ (if b then x else y)
same_if m true x y u v l f g = f l
same_if m false x y u v l f g = g l

string_from_long : (e : Bool) (c : ℕ) (cs : List ℕ) → 1 ≤ (string_from e (c ∷ cs)).size
string_from_long true c cs = omega arith
string_from_long false c cs = by_test (is "\"" c)
  where
    by_test : (u : Bool) → 1 ≤ (if u then record { value = true; size = 1 } else further 1 (string_from (is "\\" c) cs)).size
    by_test true = omega arith
    by_test false = omega arith

string_from_cut : (e : Bool) (m : ℕ) (cs : List ℕ) → (string_from e cs).size ≤ m → string_from e (take m cs) ≡ string_from e cs
string_from_cut e zero [] l = refl
string_from_cut e zero (c ∷ cs) l = absurd (omega (arith, l, string_from_long e c cs))
string_from_cut e (suc m) [] l = refl
string_from_cut true (suc m) (c ∷ cs) l = ap (further 1) (string_from_cut false m cs (omega (arith, l)))
string_from_cut false (suc m) (c ∷ cs) l =
    same_if (suc m) (is "\"" c) _ _ _ _ l (λ k. refl) (λ k. ap (further 1) (string_from_cut (is "\\" c) m cs (omega (arith, k))))

pub string_cut : (m : ℕ) (cs : List ℕ) → (string_body cs).size ≤ m → string_body (take m cs) ≡ string_body cs
string_cut m cs = rw (string_same cs, string_same (take m cs)) (string_from_cut false m cs)

-- what is left of a character, behind a test for its end and one for a missing quote
abbrev quoted_step : Bool → Bool → Scanned Bool → Scanned Bool
quoted_step ends breaks more = if ends then record { value = true; size = 1 } else if breaks then record { value = false; size = 0 } else further 1 more

quoted_from_long : (e : Bool) (cs : List ℕ) → (quoted_from e cs).value ≡ true → 1 ≤ (quoted_from e cs).size
quoted_from_long e [] h = absurd (let t : false ≡ true = h in cc)
quoted_from_long true (c ∷ cs) h = omega arith
quoted_from_long false (c ∷ cs) h = by_tests (is "'" c) (is "/" c || (c == 10 && not (begins "'" cs))) h
  where
    by_tests : (u v : Bool) → (quoted_step u v (quoted_from (is "\\" c) cs)).value ≡ true → 1 ≤ (quoted_step u v (quoted_from (is "\\" c) cs)).size
    by_tests true v h = omega arith
    by_tests false true h = absurd (let t : false ≡ true = h in cc)
    by_tests false false h = omega arith

quoted_from_cut : (e : Bool) (m : ℕ) (cs : List ℕ) → (quoted_from e cs).value ≡ true → (quoted_from e cs).size ≤ m → quoted_from e (take m cs) ≡ quoted_from e cs
quoted_from_cut e zero cs h l = absurd (omega (arith, l, quoted_from_long e cs h))
quoted_from_cut e (suc m) [] h l = refl
quoted_from_cut true (suc m) (c ∷ cs) h l = ap (further 1) (quoted_from_cut false m cs h (omega (arith, l)))
quoted_from_cut false (suc m) (c ∷ cs) h l =
    by_tests (is "'" c) (is "/" c || (c == 10 && not (begins "'" cs))) (is "/" c || (c == 10 && not (begins "'" (take m cs)))) h l
    (λ some. ap (λ (b : Bool). is "/" c || (c == 10 && not b)) (ap (is "'") (same_at 0 m cs some)))
    (λ w. quoted_from_long (is "\\" c) cs w) (λ w k. quoted_from_cut (is "\\" c) m cs w k)
  where
    by_tests : (u v t : Bool) → (quoted_step u v (quoted_from (is "\\" c) cs)).value ≡ true → (quoted_step u v (quoted_from (is "\\" c) cs)).size ≤ suc m →
        (0 < m → t ≡ v) →
        ((quoted_from (is "\\" c) cs).value ≡ true → 1 ≤ (quoted_from (is "\\" c) cs).size) →
        ((quoted_from (is "\\" c) cs).value ≡ true → (quoted_from (is "\\" c) cs).size ≤ m → quoted_from (is "\\" c) (take m cs) ≡ quoted_from (is "\\" c) cs) →
        quoted_step u t (quoted_from (is "\\" c) (take m cs)) ≡ quoted_step u v (quoted_from (is "\\" c) cs)
    by_tests true v t h l same long again = refl
    by_tests false true t h l same long again = absurd (let t : false ≡ true = h in cc)
    by_tests false false t h l same long again =
        rw (same (omega (arith, l, long h))) (ap (further 1) (again h (omega (arith, l))))

quoted_long : (cs : List ℕ) → (quoted_rest cs).value ≡ true → 1 ≤ (quoted_rest cs).size
quoted_long cs = rw (quoted_same cs) (quoted_from_long false cs)

quoted_cut : (m : ℕ) (cs : List ℕ) → (quoted_rest cs).value ≡ true → (quoted_rest cs).size ≤ m → quoted_rest (take m cs) ≡ quoted_rest cs
quoted_cut m cs = rw (quoted_same cs, quoted_same (take m cs)) (quoted_from_cut false m cs)

abbrev quoted_with : Bool → List ℕ → Scanned Bool
quoted_with u xs = if u then record { value = true; size = 2 } else quoted_rest xs

-- no quote stands behind one character that may stand alone
abbrev is_short : List ℕ → Bool
is_short cs = is "'" (char_at cs 1) && not (begins "\\" cs)

short_cut : (m : ℕ) (cs : List ℕ) → 1 ≤ m → is_short cs ≡ false → is_short (take m cs) ≡ false
short_cut m cs some e = by_quote (is "'" (char_at cs 1)) refl e
  where
    by_quote : (u : Bool) → is "'" (char_at cs 1) ≡ u → (u && not (begins "\\" cs)) ≡ false → is_short (take m cs) ≡ false
    by_quote false f e = (let no = at_cut (is "'") refl m 1 cs f in rw no refl)
    by_quote true f e =
        let same : begins "\\" (take m cs) ≡ begins "\\" cs = ap (is "\\") (same_at 0 m cs (omega (arith, some))) in
        ap (λ (b : Bool). is "'" (char_at (take m cs) 1) && not b) same ∙ ap (λ (b : Bool). is "'" (char_at (take m cs) 1) && b) e
        ∙ and_false (is "'" (char_at (take m cs) 1))

pub quoted_body_cut : (m : ℕ) (cs : List ℕ) → (quoted_body cs).value ≡ true → (quoted_body cs).size ≤ m → quoted_body (take m cs) ≡ quoted_body cs
quoted_body_cut m cs h l = by_test (is_short cs) refl h l
  where
    by_test : (u : Bool) → is_short cs ≡ u → (quoted_with u cs).value ≡ true → (quoted_with u cs).size ≤ m → quoted_body (take m cs) ≡ quoted_with u cs
    by_test true e h l =
        let first = same_at 0 m cs (omega (arith, l)) in
        let second = same_at 1 m cs (omega (arith, l)) in
        rw (first, second, e) refl
    by_test false e h l =
        let some = quoted_long cs h in
        let no = short_cut m cs (omega (arith, l, some)) e in
        ap (λ u. quoted_with u (take m cs)) no ∙ quoted_cut m cs h l

-- a raw body of which the first character is c, and in which k hashes follow it
abbrev raw_step : ℕ → Bool → Scanned Bool → Scanned Bool
raw_step n ends more = if ends then record { value = true; size = 1 + n } else further 1 more

raw_long : (n : ℕ) (cs : List ℕ) → (raw_body n cs).value ≡ true → 1 ≤ (raw_body n cs).size
raw_long n [] h = absurd (let t : false ≡ true = h in cc)
raw_long n (c ∷ cs) h = by_test (is "\"" c && nat_le n (prefix_len (is "#") cs))
  where
    by_test : (u : Bool) → 1 ≤ (raw_step n u (raw_body n cs)).size
    by_test true = omega arith
    by_test false = omega arith

pub raw_cut : (n m : ℕ) (cs : List ℕ) → (raw_body n cs).value ≡ true → (raw_body n cs).size ≤ m → raw_body n (take m cs) ≡ raw_body n cs
raw_cut n zero cs h l = absurd (omega (arith, l, raw_long n cs h))
raw_cut n (suc m) [] h l = refl
raw_cut n (suc m) (c ∷ cs) h l = by_test (is "\"" c && nat_le n (prefix_len (is "#") cs)) refl h l (λ w k. raw_cut n m cs w k)
  where
    ends : (q : Bool) → (q && nat_le n (prefix_len (is "#") cs)) ≡ true → n ≤ m → (q && nat_le n (prefix_len (is "#") (take m cs))) ≡ true
    ends true e k = at_least_local (is "#") n m cs (take m cs) (cut_agree m cs) k ∙ e
    ends false e k = e

    goes_on : (q : Bool) → (q && nat_le n (prefix_len (is "#") cs)) ≡ false → (q && nat_le n (prefix_len (is "#") (take m cs))) ≡ false
    goes_on true e = (let less = prefix_less (is "#") m cs in grind (arith, nat_tests, e, less))
    goes_on false e = refl

    by_test : (u : Bool) → (is "\"" c && nat_le n (prefix_len (is "#") cs)) ≡ u →
        (raw_step n u (raw_body n cs)).value ≡ true → (raw_step n u (raw_body n cs)).size ≤ suc m →
        ((raw_body n cs).value ≡ true → (raw_body n cs).size ≤ m → raw_body n (take m cs) ≡ raw_body n cs) →
        raw_step n (is "\"" c && nat_le n (prefix_len (is "#") (take m cs))) (raw_body n (take m cs)) ≡ raw_step n u (raw_body n cs)
    by_test true e h l again =
        (let same = ends (is "\"" c) e (omega (arith, l)) in ap (λ u. raw_step n u (raw_body n (take m cs))) same)
    by_test false e h l again =
        (let same = goes_on (is "\"" c) e in ap (λ u. raw_step n u (raw_body n (take m cs))) same ∙ ap (further 1) (again h (omega (arith, l))))

abbrev with_hashes : ℕ → Scanned Bool → Scanned (Option ℕ)
with_hashes n body = record { value = hashes_of body.value n; size = body.size }

hashes_whole : (u : Bool) (n : ℕ) → is_some (hashes_of u n) ≡ true → u ≡ true
hashes_whole true n h = refl
hashes_whole false n h = absurd (let t : false ≡ true = h in cc)

-- a form whose quote stands there or not
abbrev form_with : Bool → ℕ → List ℕ → Scanned (Option ℕ)
form_with u n cs =
    if u then further n (with_hashes n (further 1 (raw_body n (drop 1 (drop n cs)))))
    else further n (record { value = None; size = length (take 1 (drop n cs)) })

form_cut : (n m : ℕ) (cs : List ℕ) → is_some (form_at n cs).value ≡ true → (form_at n cs).size ≤ m → form_at n (take m cs) ≡ form_at n cs
form_cut n m cs h l = by_test (is "\"" (char_at cs n)) refl h l
  where
    by_test : (u : Bool) → is "\"" (char_at cs n) ≡ u → is_some (form_with u n cs).value ≡ true → (form_with u n cs).size ≤ m →
        form_at n (take m cs) ≡ form_with u n cs
    by_test false e h l = absurd (let t : false ≡ true = h in cc)
    by_test true e h l =
        let body = drop 1 (drop n cs) in
        let done = hashes_whole (raw_body n body).value n h in
        let quote = ap (is "\"") (same_at n m cs (omega (arith, l))) ∙ e in
        let rest : drop 1 (drop n (take m cs)) ≡ take (m - n - 1) body =
        ap (drop 1) (drop_cut n m cs (omega (arith, l))) ∙ drop_cut 1 (m - n) (drop n cs) (omega (arith, l)) in
        ap (λ u. form_with u n (take m cs)) quote
        ∙ ap (λ xs. further n (with_hashes n (further 1 (raw_body n xs)))) rest
        ∙ ap (λ (s : Scanned Bool). further n (with_hashes n (further 1 s))) (raw_cut n (m - n - 1) body done (omega (arith, l)))

form_long : (n : ℕ) (cs : List ℕ) → n ≤ (form_at n cs).size
form_long n cs = by_test (is "\"" (char_at cs n))
  where
    by_test : (u : Bool) → n ≤ (form_with u n cs).size
    by_test true = omega arith
    by_test false = omega arith

-- a form that is whole has at least its quote
pub raw_form_long : (cs : List ℕ) → is_some (raw_form cs).value ≡ true → 1 + prefix_len (is "#") cs ≤ (raw_form cs).size
raw_form_long cs h = by_test (is "\"" (char_at cs (prefix_len (is "#") cs))) h
  where
    by_test : (u : Bool) → is_some (form_with u (prefix_len (is "#") cs) cs).value ≡ true → 1 + prefix_len (is "#") cs ≤ (form_with u (prefix_len (is "#") cs) cs).size
    by_test true h = omega arith
    by_test false h = absurd (let t : false ≡ true = h in cc)

pub raw_form_cut : (m : ℕ) (cs : List ℕ) → is_some (raw_form cs).value ≡ true → (raw_form cs).size ≤ m → raw_form (take m cs) ≡ raw_form cs
raw_form_cut m cs h l =
    let n : ℕ = prefix_len (is "#") cs in
    let long = form_long n cs in
    ap (λ k. form_at k (take m cs)) (prefix_cut (is "#") m cs (omega (arith, l, long))) ∙ form_cut n m cs h l

-- ---- numbers: what is read up to m characters, where no point stands behind it

-- nothing that belongs to a number stands behind what f reads of the cut text
unfoldable pub Goes : {A : Type 0} → ℕ → (List ℕ → Scanned A) → List ℕ → Type 0
Goes m f cs = (f cs).size ≤ m → is "." (char_at (take m cs) (f cs).size) ≡ false → f (take m cs) ≡ f cs

goes_if : {A : Type 0} (m : ℕ) (cs : List ℕ) (t : List ℕ → Bool) (f g : List ℕ → Scanned A) →
    (t cs ≡ true → (f cs).size ≤ m → t (take m cs) ≡ true) →
    (t cs ≡ false → (g cs).size ≤ m → is "." (char_at (take m cs) (g cs).size) ≡ false → t (take m cs) ≡ false) →
    (t cs ≡ true → Goes m f cs) → (t cs ≡ false → Goes m g cs) → Goes m (λ xs. if t xs then f xs else g xs) cs
unfolding Goes
goes_if m cs t f g stays fails lf lg l p = by_test (t cs) (t (take m cs)) stays fails lf lg l p
  where
    by_test : (u v : Bool) → (u ≡ true → (f cs).size ≤ m → v ≡ true) →
        (u ≡ false → (g cs).size ≤ m → is "." (char_at (take m cs) (g cs).size) ≡ false → v ≡ false) →
        (u ≡ true → (f cs).size ≤ m → is "." (char_at (take m cs) (f cs).size) ≡ false → f (take m cs) ≡ f cs) →
        (u ≡ false → (g cs).size ≤ m → is "." (char_at (take m cs) (g cs).size) ≡ false → g (take m cs) ≡ g cs) →
        (if u then f cs else g cs).size ≤ m → is "." (char_at (take m cs) (if u then f cs else g cs).size) ≡ false →
        (if v then f (take m cs) else g (take m cs)) ≡ (if u then f cs else g cs)
    by_test true v stays fails lf lg l p = (let same = stays refl l in rw same (lf refl l p))
    by_test false v stays fails lf lg l p = (let same = fails refl l p in rw same (lg refl l p))

goes_same : {A : Type 0} (m : ℕ) (s : Scanned A) (cs : List ℕ) → Goes m (λ _. s) cs
unfolding Goes
goes_same m s cs l p = refl

goes_further : {A : Type 0} (m p : ℕ) (f : List ℕ → Scanned A) (cs : List ℕ) → Goes (m - p) f (drop p cs) → Goes m (λ xs. further p (f (drop p xs))) cs
unfolding Goes
goes_further m p f cs lf l q =
    let inside : p ≤ m = omega (arith, l) in
    let cut = drop_cut p m cs inside in
    let s : ℕ = (f (drop p cs)).size in
    let next : is "." (char_at (take (m - p) (drop p cs)) s) ≡ false =
    ap (λ xs. is "." (char_at xs s)) (sym cut) ∙ ap (is ".") (at_drop p s (take m cs)) ∙ q in
    ap (λ xs. further p (f xs)) cut ∙ ap (further p) (lf (omega (arith, l)) next)

run_cut : (p : ℕ → Bool) (m : ℕ) (cs : List ℕ) → (run p cs).size ≤ m → run p (take m cs) ≡ run p cs
run_cut p m cs l =
    let n : ℕ = (run p cs).size in
    ap (λ k. record { value = list_any p (take k (take m cs)); size = k }) (prefix_cut (λ c. p c || is "_" c) m cs l)
    ∙ ap (λ xs. record { value = list_any p xs; size = n }) (take-take n m cs l)

goes_behind : {A : Type 0} (m : ℕ) (p : ℕ → Bool) (f : List ℕ → Scanned A) (cs : List ℕ) → ((k : ℕ) (xs : List ℕ) → Goes k f xs) →
    Goes m (λ xs. further (run p xs).size (f (drop (run p xs).size xs))) cs
unfolding Goes
goes_behind m p f cs lf l q =
    let n : ℕ = (run p cs).size in
    ap (λ (d : Scanned Bool). further d.size (f (drop d.size (take m cs)))) (run_cut p m cs (omega (arith, l)))
    ∙ goes_further m n f cs (lf (m - n) (drop n cs)) l q

-- a test of the first character, where what passes it is read
first_yes : (t : ℕ → Bool) (m : ℕ) (cs : List ℕ) → t (char_at cs 0) ≡ true → 1 ≤ m → t (char_at (take m cs) 0) ≡ true
first_yes t m cs h l = ap t (same_at 0 m cs (omega (arith, l))) ∙ h

sign_cut : (m : ℕ) (cs : List ℕ) → sign_len cs ≤ m → sign_len (take m cs) ≡ sign_len cs
sign_cut m cs l = by_test (is "+" (char_at cs 0) || is "-" (char_at cs 0)) refl l
  where
    by_test : (u : Bool) → (is "+" (char_at cs 0) || is "-" (char_at cs 0)) ≡ u → (if u then 1 else 0) ≤ m → sign_len (take m cs) ≡ (if u then 1 else 0)
    by_test true e l = (let same = first_yes (λ c. is "+" c || is "-" c) m cs e l in rw same refl)
    by_test false e l = (let same = at_cut (λ c. is "+" c || is "-" c) refl m 0 cs e in rw same refl)

exponent_goes : (base : Base) (m : ℕ) (cs : List ℕ) → Goes m (exponent base) cs
unfolding Goes
exponent_goes base m cs l p =
    let n : ℕ = sign_len cs in
    ap (λ k. exponent_of base k (run is_digit (drop k (take m cs)))) (sign_cut m cs (omega (arith, l)))
    ∙ ap (λ xs. exponent_of base n (run is_digit xs)) (drop_cut n m cs (omega (arith, l)))
    ∙ ap (exponent_of base n) (run_cut is_digit (m - n) (drop n cs) (omega (arith, l)))

mark_goes : (X : List ℕ → Scanned LiteralKind) (base : Base) (m : ℕ) (cs : List ℕ) → ((k : ℕ) → Goes k X cs) →
    Goes m (λ xs. if is_exponent_mark (char_at xs 0) then further 1 (exponent base (drop 1 xs)) else X xs) cs
mark_goes X base m cs other =
    goes_if m cs (λ xs. is_exponent_mark (char_at xs 0)) (λ xs. further 1 (exponent base (drop 1 xs))) X
    (λ h l. first_yes is_exponent_mark m cs h (omega (arith, l))) (λ h l p. at_cut is_exponent_mark refl m 0 cs h)
    (λ h. goes_further m 1 (exponent base) cs (exponent_goes base (m - 1) (drop 1 cs))) (λ h. other m)

after_fraction_goes : (base : Base) (m : ℕ) (cs : List ℕ) → Goes m (after_fraction base) cs
after_fraction_goes base m cs = mark_goes (λ _. record { value = Float base false; size = 0 }) base m cs (λ k. goes_same k _ cs)

digits_long : (cs : List ℕ) → is_digit (char_at cs 0) ≡ true → 1 ≤ (run is_digit cs).size
digits_long [] h = absurd (let t : false ≡ true = h in cc)
digits_long (c ∷ cs) h = (let first : (is_digit c || is "_" c) ≡ true = rw h refl in rw first (omega arith))

fraction_goes : (base : Base) (m : ℕ) (cs : List ℕ) → Goes m (fraction base) cs
fraction_goes base m cs =
    goes_if m cs (λ xs. is_digit (char_at xs 0)) (λ xs. further (run is_digit xs).size (after_fraction base (drop (run is_digit xs).size xs))) (λ _. record { value = Float base false; size = 0 })
    (λ h l. first_yes is_digit m cs h (omega (arith, l, digits_long cs h))) (λ h l p. at_cut is_digit refl m 0 cs h)
    (λ h. goes_behind m is_digit (after_fraction base) cs (after_fraction_goes base)) (λ h. goes_same m _ cs)

-- a word that stands in front, as far as it goes
pub begins_same : (ws : List ℕ) (i m : ℕ) (cs : List ℕ) → i + length ws ≤ m → begins_at i ws (take m cs) ≡ begins_at i ws cs
begins_same [] i m cs l = refl
begins_same (w ∷ []) i m cs l = ap (λ c. c == w) (same_at i m cs (omega (arith, l)))
begins_same (w ∷ v ∷ ws) i m cs l =
    ap (λ c. (c == w) && begins_at (suc i) (v ∷ ws) (take m cs)) (same_at i m cs (omega (arith, l)))
    ∙ ap (λ u. (char_at cs i == w) && u) (begins_same (v ∷ ws) (suc i) m cs (omega (arith, l)))

behind_point : ℕ → Bool
behind_point c = is "." c || is_id_start c

no_mark_at_end : behind_point 0 ≡ false
unfolding behind_point
no_mark_at_end = (let none = start_stops.at_end in rw none refl)

fraction_stays : (m : ℕ) (cs : List ℕ) → 1 ≤ m → begins_fraction cs ≡ true → begins_fraction (take m cs) ≡ true
unfolding behind_point
fraction_stays m cs l h = by_tests (begins "." cs) (behind_point (char_at cs 1)) refl refl h
  where
    by_tests : (u v : Bool) → begins "." cs ≡ u → behind_point (char_at cs 1) ≡ v → (u && not v) ≡ true → begins_fraction (take m cs) ≡ true
    by_tests true false e f h =
        let point = begins_same (codes ".") 0 m cs l ∙ e in
        let next = at_cut behind_point no_mark_at_end m 1 cs f in
        ap (λ u. u && not (behind_point (char_at (take m cs) 1))) point ∙ ap (λ v. true && not v) next
    by_tests true true e f h = absurd (let t : false ≡ true = h in cc)
    by_tests false v e f h = absurd (let t : false ≡ true = h in cc)

no_fraction : (m : ℕ) (cs : List ℕ) → is "." (char_at (take m cs) 0) ≡ false → begins_fraction (take m cs) ≡ false
no_fraction m cs h = ap (λ u. u && not (is "." (char_at (take m cs) 1) || is_id_start (char_at (take m cs) 1))) h

mark_no_point : (c : ℕ) → is_exponent_mark c ≡ true → is "." c ≡ false
mark_no_point c h = by_test (is "." c) refl
  where
    by_test : (u : Bool) → is "." c ≡ u → u ≡ false
    by_test false e = refl
    by_test true e = (let same : c ≡ 46 = grind (arith, nat_tests, e) in let t : is_exponent_mark 46 ≡ true = ap is_exponent_mark (sym same) ∙ h in absurd (let f : false ≡ true = t in cc))

-- what follows a run that no point follows
abbrev after_digits : Base → List ℕ → Scanned LiteralKind
after_digits base xs = if is_exponent_mark (char_at xs 0) then further 1 (exponent base (drop 1 xs)) else record { value = Int base false; size = 0 }

fraction_fails : (base : Base) (m : ℕ) (cs : List ℕ) → (after_digits base cs).size ≤ m →
    is "." (char_at (take m cs) (after_digits base cs).size) ≡ false → begins_fraction (take m cs) ≡ false
fraction_fails base m cs l p = by_test (is_exponent_mark (char_at cs 0)) refl p
  where
    by_test : (u : Bool) → is_exponent_mark (char_at cs 0) ≡ u →
        is "." (char_at (take m cs) (if u then further 1 (exponent base (drop 1 cs)) else record { value = Int base false; size = 0 }).size) ≡ false →
        begins_fraction (take m cs) ≡ false
    by_test true e p = no_fraction m cs (at_cut (is ".") refl m 0 cs (mark_no_point (char_at cs 0) e))
    by_test false e p = no_fraction m cs p

after_run_goes : (base : Base) (m : ℕ) (cs : List ℕ) → Goes m (after_run base) cs
after_run_goes base m cs =
    goes_if m cs begins_fraction (λ xs. further 1 (fraction base (drop 1 xs))) (after_digits base)
    (λ h l. fraction_stays m cs (omega (arith, l)) h) (λ h l p. fraction_fails base m cs l p)
    (λ h. goes_further m 1 (fraction base) cs (fraction_goes base (m - 1) (drop 1 cs)))
    (λ h. mark_goes (λ _. record { value = Int base false; size = 0 }) base m cs (λ k. goes_same k _ cs))

behind_goes : (base : Base) (digits : Scanned Bool) (m : ℕ) (cs : List ℕ) → Goes m (behind_base base digits) cs
behind_goes base digits m cs =
    goes_if m cs (λ _. digits.value) (λ xs. further digits.size (after_run base (drop digits.size xs))) (λ _. record { value = Int base true; size = digits.size })
    (λ h l. h) (λ h l p. h)
    (λ h. goes_further m digits.size (after_run base) cs (after_run_goes base (m - digits.size) (drop digits.size cs))) (λ h. goes_same m _ cs)

behind_long : (base : Base) (digits : Scanned Bool) (cs : List ℕ) → digits.size ≤ (behind_base base digits cs).size
behind_long base digits cs = by_test digits.value
  where
    by_test : (u : Bool) → digits.size ≤ (if u then further digits.size (after_run base (drop digits.size cs)) else record { value = Int base true; size = digits.size }).size
    by_test true = omega arith
    by_test false = omega arith

based_goes : (base : Base) (p : ℕ → Bool) (m : ℕ) (cs : List ℕ) → Goes m (based base p) cs
unfolding Goes
based_goes base p m cs l q =
    let long = behind_long base (run p cs) cs in
    ap (λ digits. behind_base base digits (take m cs)) (run_cut p m cs (omega (arith, l, long))) ∙ behind_goes base (run p cs) m cs l q

number_goes : (m : ℕ) (cs : List ℕ) → Goes m number cs
number_goes m cs =
    goes_if m cs (begins "0b") (λ xs. further 2 (based Binary is_digit (drop 2 xs))) _
    (λ h l. begins_same (codes "0b") 0 m cs (omega (arith, l)) ∙ h) (λ h l p. begins_cut (codes "0b") 0 m cs refl h)
    (λ h. goes_further m 2 (based Binary is_digit) cs (based_goes Binary is_digit (m - 2) (drop 2 cs)))
    (λ h. goes_if m cs (begins "0o") (λ xs. further 2 (based Octal is_digit (drop 2 xs))) _
    (λ h l. begins_same (codes "0o") 0 m cs (omega (arith, l)) ∙ h) (λ h l p. begins_cut (codes "0o") 0 m cs refl h)
    (λ h. goes_further m 2 (based Octal is_digit) cs (based_goes Octal is_digit (m - 2) (drop 2 cs)))
    (λ h. goes_if m cs (begins "0x") (λ xs. further 2 (based Hexadecimal is_hex_digit (drop 2 xs))) _
    (λ h l. begins_same (codes "0x") 0 m cs (omega (arith, l)) ∙ h) (λ h l p. begins_cut (codes "0x") 0 m cs refl h)
    (λ h. goes_further m 2 (based Hexadecimal is_hex_digit) cs (based_goes Hexadecimal is_hex_digit (m - 2) (drop 2 cs)))
    (λ h. goes_behind m is_digit (after_run Decimal) cs (after_run_goes Decimal))))

-- ---- suffixes

pub suffix_cut : (kind : LiteralKind) (n m : ℕ) (cs : List ℕ) → (with_suffix kind n cs).size ≤ m → with_suffix kind n (take m cs) ≡ with_suffix kind n cs
suffix_cut kind n m cs l =
    ap (λ xs. record { value = Literal kind (utf8_len xs); size = n + identifier_len (drop n (take m cs)) }) (take-take n m cs (omega (arith, l)))
    ∙ ap (λ xs. record { value = Literal kind (utf8_len (take n cs)); size = n + identifier_len xs }) (drop_cut n m cs (omega (arith, l)))
    ∙ ap (λ k. record { value = Literal kind (utf8_len (take n cs)); size = n + k }) (identifier_cut (m - n) (drop n cs) (omega (arith, l)))

past_end : (m n : ℕ) (cs : List ℕ) → m ≤ n → char_at (take m cs) n ≡ 0
past_end zero n cs l = refl
past_end (suc m) n [] l = refl
past_end (suc m) zero (c ∷ cs) l = absurd (omega (arith, l))
past_end (suc m) (suc n) (c ∷ cs) l = past_end m n cs (omega (arith, l))

point_no_start : is_id_start 46 ≡ false
unfolding is_xid_start is_xid_continue in_ranges xid_start_ranges xid_continue_ranges
point_no_start = refl

start_no_point : (c : ℕ) → is_id_start c ≡ true → is "." c ≡ false
start_no_point c h = by_test (is "." c) refl
  where
    by_test : (u : Bool) → is "." c ≡ u → u ≡ false
    by_test false e = refl
    by_test true e = (let same : c ≡ 46 = grind (arith, nat_tests, e) in let t : is_id_start 46 ≡ true = ap is_id_start (sym same) ∙ h in absurd (let f : false ≡ true = sym point_no_start ∙ t in cc))

pub ident_long : (xs : List ℕ) → is_id_start (char_at xs 0) ≡ true → 1 ≤ identifier_len xs
ident_long xs h = rw h (omega arith)

-- behind a number stands no point, where only its suffix follows
suffix_no_point : (n m : ℕ) (cs : List ℕ) → n + identifier_len (drop n cs) ≡ m → is "." (char_at (take m cs) n) ≡ false
suffix_no_point n m cs e = by_test (is_id_start (char_at (drop n cs) 0)) refl e
  where
    by_test : (u : Bool) → is_id_start (char_at (drop n cs) 0) ≡ u → n + (if u then 1 + continues (drop 1 (drop n cs)) else 0) ≡ m →
        is "." (char_at (take m cs) n) ≡ false
    by_test false f e = ap (is ".") (past_end m n cs (omega (arith, e)))
    by_test true f e =
        let here : char_at (drop n cs) 0 ≡ char_at cs n = at_drop n 0 cs ∙ ap (char_at cs) (let z : n + 0 ≡ n = omega arith in z) in
        at_cut (is ".") refl m n cs (start_no_point (char_at cs n) (ap is_id_start (sym here) ∙ f))

pub numeral_cut : (m : ℕ) (cs : List ℕ) → (numeral cs).size ≡ m → numeral (take m cs) ≡ numeral cs
unfolding Goes
numeral_cut m cs e =
    let n : ℕ = (number cs).size in
    ap (λ (w : Scanned LiteralKind). with_suffix w.value w.size (take m cs)) (number_goes m cs (omega (arith, e)) (suffix_no_point n m cs e))
    ∙ suffix_cut (number cs).value n m cs (omega (arith, e))
