-- What a `#` begins, and what is known of the run of hashes behind it.
use Rattle.std.proofs.Common.{◌≡◌, ℕ, suc, ◌-◌, ◌≤◌, ◌==◌, ◌&&◌, min, Bool, true, false, List, [], ◌∷◌, length, take, drop, Option, refl, sym, ◌∙◌, ap, subst, arith, chars, IsUtf8, if◌then◌else◌}
use Rattle.std.proofs.Math.Nat.{min-le_left}
use Rattle.std.proofs.lemmas.Bool.Decides.{nat_tests}
use Rattle.std.proofs.lemmas.List.{drop-drop}
use Rattle.std.specs.List.{prefix_len}
use Rattle.std.specs.Option.{is_some}
use Rattle.rustc_lexer.specs.Character.{char_at, is, utf8_len}
use Rattle.rustc_lexer.specs.FirstCharacter.{ArePlain, hash}
use Rattle.rustc_lexer.specs.Lexeme.{begins_guarded, guarded, lexeme_of}
use Rattle.rustc_lexer.specs.Literals.{guarded_form, hashes, hashes_of, literal, string_body}
use Rattle.rustc_lexer.specs.Scanned.{IsRead, Scanned, further}
use Rattle.rustc_lexer.specs.declared.token.LiteralKind.TheVariants.{GuardedStr}
use Rattle.rustc_lexer.specs.declared.token.TokenKind.{TokenKind}
use Rattle.rustc_lexer.specs.declared.token.TokenKind.TheVariants.{Pound}
use Rattle.rustc_lexer.proofs.HashByteLemmas.{none_passes}
use Rattle.rustc_lexer.proofs.ReadLemmas.{bytes_of_hashes, is_other, literal_read, read_further}
use Rattle.rustc_lexer.proofs.RunLemmas.{first_of_drop}
use Rattle.rustc_lexer.proofs.TokenLemmas.{bytes_passed}

-- ---- what is known of a run

-- nothing, where no more than n bytes are left
pub plain_short : (rest : List ℕ) (n : ℕ) → length rest ≤ n → ArePlain rest n
plain_short rest n l = record { hashed = omega (arith, l); plain = λ k. absurd (omega (arith, l, k)) }

shorter : {A : Type 0} {s : Scanned A} {text rest : List ℕ} {told : A} → IsUtf8 text → IsRead s text told rest → length rest ≤ length text
shorter {A} {s} {text} {rest} u r = omega (arith, bytes_passed text rest s.size u r.utf8 r.rest)

-- a lexeme that no hash begins is behind the run
pub plain_past : {A : Type 0} {s : Scanned A} {text rest : List ℕ} {told : A} (n : ℕ) → IsUtf8 text → (char_at (chars text) 0 == 35) ≡ false → ArePlain text n → IsRead s text told rest → ArePlain rest n
plain_past {A} {s} {text} {rest} n u other p r =
    let none = none_passes (chars text) other in
    let less = shorter u r in
    plain_short rest n (omega (arith, p.hashed, none, less))

-- one that begins where nothing is known leaves nothing known
pub plain_far : {A : Type 0} {s : Scanned A} {text rest : List ℕ} {told : A} (n : ℕ) → IsUtf8 text → length text ≤ n → IsRead s text told rest → ArePlain rest n
plain_far {A} {s} {text} {rest} n u l r = (let less = shorter u r in plain_short rest n (omega (arith, l, less)))

-- ---- a hash by itself

run_of_more : (cs : List ℕ) → char_at cs 0 ≡ 35 → prefix_len (is "#") cs ≡ suc (prefix_len (is "#") (drop 1 cs))
run_of_more [] e = absurd (let t : 0 ≡ 35 = e in omega (arith, t))
run_of_more (c ∷ cs) e = (let hash : c ≡ 35 = e in rw hash (omega arith))

char_behind : (cs : List ℕ) (i : ℕ) → char_at cs (suc i) ≡ char_at (drop 1 cs) i
char_behind [] i = refl
char_behind (c ∷ cs) i = refl

and_no : (u v : Bool) → v ≡ false → (u && v) ≡ false
and_no true v e = e
and_no false v e = refl

no_quote : (cs : List ℕ) → char_at cs 0 ≡ 35 → begins_guarded cs ≡ false → is "\"" (char_at cs (prefix_len (is "#") cs)) ≡ false
no_quote cs e n = (let yes : is "#" (char_at cs 0) ≡ true = ap (is "#") e in sym (ap (λ u. u && is "\"" (char_at cs (prefix_len (is "#") cs))) yes) ∙ n)

-- the hash behind a hash begins no guarded string either
hash_next : (cs : List ℕ) → char_at cs 0 ≡ 35 → begins_guarded cs ≡ false → begins_guarded (drop 1 cs) ≡ false
hash_next cs e n =
    let same : char_at cs (prefix_len (is "#") cs) ≡ char_at (drop 1 cs) (prefix_len (is "#") (drop 1 cs)) =
    ap (char_at cs) (run_of_more cs e) ∙ char_behind cs (prefix_len (is "#") (drop 1 cs)) in
    and_no (is "#" (char_at (drop 1 cs) 0)) _ (ap (is "\"") (sym same) ∙ no_quote cs e n)

pub alone_row : (cs : List ℕ) → begins_guarded cs ≡ false → hash cs ≡ lexeme_of Pound 1
alone_row cs n = ap (λ u. if u then guarded cs else lexeme_of Pound 1) n

one_byte : (text rest : List ℕ) → IsUtf8 text → IsUtf8 rest → char_at (chars text) 0 ≡ 35 → chars rest ≡ drop 1 (chars text) → length text ≡ suc (length rest)
one_byte text rest u v e r =
    let size : utf8_len (take 1 (chars text)) ≡ 1 = first_byte (chars text) e in
    omega (arith, size, bytes_passed text rest 1 u v r)
  where
    first_byte : (cs : List ℕ) → char_at cs 0 ≡ 35 → utf8_len (take 1 cs) ≡ 1
    first_byte [] e = absurd (let t : 0 ≡ 35 = e in omega (arith, t))
    first_byte (c ∷ cs) e = (let hash : c ≡ 35 = e in rw hash refl)

-- of a run of which n hashes are known, one less is known behind the first
pub plain_next : (text rest : List ℕ) (n : ℕ) → IsUtf8 text → IsUtf8 rest → char_at (chars text) 0 ≡ 35 → chars rest ≡ drop 1 (chars text) → begins_guarded (chars text) ≡ false →
    length text - n ≤ prefix_len (is "#") (chars text) → ArePlain rest n
plain_next text rest n u v e r none l =
    let one = one_byte text rest u v e r in
    let run = run_of_more (chars text) e in
    let same = ap (prefix_len (is "#")) r in
    record { hashed = omega (arith, l, one, run, same); plain = λ k. ap begins_guarded r ∙ hash_next (chars text) e none }

-- ---- a run that was looked at

-- no quote stands behind the hashes
pub none_guarded : (text opening : List ℕ) (n : ℕ) → IsRead (hashes (chars text)) text n opening → (char_at (chars opening) 0 ≡ 34 → ⊥) → begins_guarded (chars text) ≡ false
none_guarded text opening n h other =
    and_no (is "#" (char_at (chars text) 0)) _ (is_other 34 _ _ (first_of_drop (chars text) (chars opening) (hashes (chars text)).size h.rest) other)

-- all hashes of the run are known
pub run_known : (text opening : List ℕ) (n : ℕ) → IsUtf8 text → IsRead (hashes (chars text)) text n opening → length text - length opening ≤ prefix_len (is "#") (chars text)
run_known text opening n u h =
    omega (arith, bytes_passed text opening (prefix_len (is "#") (chars text)) u h.utf8 h.rest, bytes_of_hashes (chars text))

-- a quote stands there
pub is_guarded : (text opening : List ℕ) (n : ℕ) → char_at (chars text) 0 ≡ 35 → IsRead (hashes (chars text)) text n opening → char_at (chars opening) 0 ≡ 34 → hash (chars text) ≡ guarded (chars text)
is_guarded text opening n e h quote =
    let cs : List ℕ = chars text in
    let at_quote : char_at cs (hashes cs).size ≡ 34 = sym (first_of_drop cs (chars opening) (hashes cs).size h.rest) ∙ quote in
    let yes : begins_guarded cs ≡ true = ap (λ c. is "#" c && is "\"" (char_at cs (prefix_len (is "#") cs))) e ∙ ap (is "\"") at_quote in
    ap (λ u. if u then guarded cs else lexeme_of Pound 1) yes

-- ---- a guarded string

-- a string after n hashes, of which so many are missing behind it
pub form_read : (text body mark left : List ℕ) (n missing : ℕ) (terminated : Bool) → chars body ≡ drop 1 (chars text) → IsRead (string_body (chars body)) body terminated mark →
    missing ≡ n - min n (hashes (chars mark)).size → chars left ≡ drop (min n (hashes (chars mark)).size) (chars mark) → IsUtf8 left →
    IsRead (guarded_form n (chars text)) text (hashes_of (terminated && (missing == 0)) n) left
form_read text body mark left n missing terminated e r few rest u =
    let cs : List ℕ = chars text in
    let b : Scanned Bool = further 1 (string_body (drop 1 cs)) in
    let all : IsRead b text terminated mark =
    subst (λ xs. IsRead (further 1 (string_body xs)) text terminated mark) e (read_further (string_body (chars body)) text body mark terminated 1 e r) in
    let closing : ℕ = min n (prefix_len (is "#") (drop b.size cs)) in
    let same : min n (hashes (chars mark)).size ≡ closing = ap (λ xs. min n (prefix_len (is "#") xs)) all.rest in
    let most = min-le_left n (prefix_len (is "#") (drop b.size cs)) in
    let none : (missing == 0) ≡ (closing == n) = all_there missing closing n (few ∙ ap (λ k. n - k) same) most in
    let left_is : chars left ≡ drop closing (drop b.size cs) = rest ∙ ap (λ k. drop k (chars mark)) same ∙ ap (drop closing) all.rest in
    record {
      value = ap (λ v. hashes_of (v && (missing == 0)) n) all.value ∙ ap (λ v. hashes_of (b.value && v) n) none;
      rest = left_is ∙ drop-drop closing b.size cs;
      utf8 = u;
    }
  where
    all_there : (m k n : ℕ) → m ≡ n - k → k ≤ n → (m == 0) ≡ (k == n)
    all_there m k n e l = grind (arith, nat_tests)

-- the kind and the suffix of one
pub string_read : (text opening rest left : List ℕ) (n : ℕ) (told : Option ℕ) (token : TokenKind) → IsRead (hashes (chars text)) text n opening →
    IsRead (guarded_form n (chars opening)) opening told rest →
    ((m : ℕ) → chars rest ≡ drop m (chars text) → IsRead (literal (is_some told) (GuardedStr told) m (chars text)) text token left) →
    IsRead (guarded (chars text)) text token left
string_read text opening rest left n told token h r made =
    let cs : List ℕ = chars text in
    let front : chars opening ≡ drop n cs = h.rest ∙ ap (λ k. drop k cs) (sym h.value) in
    subst (λ k. IsRead (let b : Scanned (Option ℕ) = further k (guarded_form k (drop k cs)) in literal (is_some b.value) (GuardedStr b.value) b.size cs) text token left) h.value
    (literal_read (guarded_form n) is_some GuardedStr n front r made)
