-- The characters of a lexeme, taken alone, are that lexeme, row by row.
use Rattle.std.proofs.Common.{◌≡◌, ℕ, zero, suc, ◌+◌, ◌-◌, ◌≤◌, ◌<◌, Bool, true, false, not, ◌&&◌, ◌||◌, List, [], ◌∷◌, length, take, drop, refl, sym, ◌∙◌, ap, arith, slice_index_or, if◌then◌else◌, Option}
use Rattle.std.proofs.lemmas.Bool.{and_parts, or_parts}
use Rattle.std.proofs.lemmas.Bool.Decides.{nat_tests}
use Rattle.std.proofs.lemmas.List.{take-take, length-drop, length-take-le}
use Rattle.std.specs.List.{list_all, prefix_len, slice_range}
use Rattle.std.specs.Option.{is_some}
use Rattle.std.specs.Prelude.{chars, codes}
use Rattle.ucd_derived.specs.Binary.{is_xid_start, is_xid_continue}
use Rattle.ucd_derived.specs.XidContinueRanges.{xid_continue_ranges}
use Rattle.ucd_derived.specs.XidStartRanges.{xid_start_ranges}
use Rattle.ucd_table.specs.Rows.{in_ranges}
use Rattle.rustc_lexer.specs.Character.{char_at, begins, begins_at, is, is_whitespace, is_id_start, is_id_continue, is_digit, continues, identifier_len, utf8_len}
use Rattle.rustc_lexer.specs.Comments.{block_comment, line_comment}
use Rattle.rustc_lexer.specs.Lexeme.{Lexeme, lexeme, lexeme_of, quoted, string, raw_string, numeral, is_prefix_mark, plain_word, marked_word, word, lifetime, begins_lifetime, quote, one_char_kind, begins_guarded, guarded}
use Rattle.rustc_lexer.specs.Lexing.{tokens_of, token_of}
use Rattle.rustc_lexer.specs.Literals.{bare, literal, quoted_body, string_body, raw_form}
use Rattle.rustc_lexer.specs.Seams.{is_whole_literal, stands_alone}
use Rattle.rustc_lexer.specs.TokensAt.{IsTokenAt}
use Rattle.rustc_lexer.specs.Scanned.{Scanned, further}
use Rattle.rustc_lexer.specs.declared.token.LiteralKind.{LiteralKind}
use Rattle.rustc_lexer.specs.declared.token.LiteralKind.TheVariants.{Byte, Char, Str, ByteStr, CStr, RawStr, RawByteStr, RawCStr, GuardedStr}
use Rattle.rustc_lexer.specs.declared.token.Token.{Token}
use Rattle.rustc_lexer.specs.declared.token.TokenKind.{TokenKind}
use Rattle.rustc_lexer.specs.declared.token.TokenKind.TheVariants.{Ident, RawIdent, ForcedKeywordIdent, UnknownPrefix, UnknownPrefixLifetime, RawLifetime, Lifetime, Literal}
use Rattle.rustc_lexer.proofs.BlankLemmas.{is_solid, start_stops}
use Rattle.rustc_lexer.proofs.CutTextLemmas.{at_cut, at_drop, begins_cut, begins_same, drop_cut, ident_long, identifier_cut, numeral_cut, prefix_cut, quoted_body_cut, raw_form_cut, raw_form_long, same_at, string_cut, suffix_cut}
use Rattle.rustc_lexer.proofs.BodyLocalLemmas.{guarded_at}
use Rattle.rustc_lexer.proofs.GuardedCutLemmas.{guarded_cut, guarded_fails, guarded_stays}
use Rattle.rustc_lexer.proofs.LocalLemmas.{guarded_long, literal_long, name, name_at, name_long}
use Rattle.rustc_lexer.proofs.PositiveLemmas.{lexeme_positive}
use Rattle.rustc_lexer.proofs.TokenLemmas.{first_of_tokens, length_text}

-- what f reads of cs, where it stands alone and takes m characters, it reads of these
unfoldable pub Kept : ℕ → (List ℕ → Lexeme) → List ℕ → Type 0
Kept m f cs = stands_alone (f cs).value ≡ true → (f cs).size ≡ m → f (take m cs) ≡ f cs

kept_if : (m : ℕ) (cs : List ℕ) (t : List ℕ → Bool) (f g : List ℕ → Lexeme) →
    (t cs ≡ true → stands_alone (f cs).value ≡ true → (f cs).size ≡ m → t (take m cs) ≡ true) →
    (t cs ≡ false → stands_alone (g cs).value ≡ true → (g cs).size ≡ m → t (take m cs) ≡ false) →
    (t cs ≡ true → Kept m f cs) → (t cs ≡ false → Kept m g cs) → Kept m (λ xs. if t xs then f xs else g xs) cs
unfolding Kept
kept_if m cs t f g stays fails lf lg h e = by_test (t cs) (t (take m cs)) stays fails lf lg h e
  where
    by_test : (u v : Bool) → (u ≡ true → stands_alone (f cs).value ≡ true → (f cs).size ≡ m → v ≡ true) →
        (u ≡ false → stands_alone (g cs).value ≡ true → (g cs).size ≡ m → v ≡ false) →
        (u ≡ true → stands_alone (f cs).value ≡ true → (f cs).size ≡ m → f (take m cs) ≡ f cs) →
        (u ≡ false → stands_alone (g cs).value ≡ true → (g cs).size ≡ m → g (take m cs) ≡ g cs) →
        stands_alone (if u then f cs else g cs).value ≡ true → (if u then f cs else g cs).size ≡ m →
        (if v then f (take m cs) else g (take m cs)) ≡ (if u then f cs else g cs)
    by_test true v stays fails lf lg h e = (let same = stays refl h e in rw same (lf refl h e))
    by_test false v stays fails lf lg h e = (let same = fails refl h e in rw same (lg refl h e))

-- a row that never stands alone
kept_not : (m : ℕ) (f : List ℕ → Lexeme) (cs : List ℕ) → stands_alone (f cs).value ≡ false → Kept m f cs
unfolding Kept
kept_not m f cs n h e = absurd (let t : false ≡ true = sym n ∙ h in cc)

never : (v : Bool) (f : Lexeme) → stands_alone f.value ≡ false → stands_alone f.value ≡ true → v ≡ true
never v f n h = absurd (let t : false ≡ true = sym n ∙ h in cc)

-- ---- tests

and_false : (u : Bool) → (u && false) ≡ false
and_false true = refl
and_false false = refl

start_stays : (ws : List ℕ) (i m : ℕ) (cs : List ℕ) → length ws ≤ m → i < m → (begins_at 0 ws cs && is_id_start (char_at cs i)) ≡ true →
    (begins_at 0 ws (take m cs) && is_id_start (char_at (take m cs) i)) ≡ true
start_stays ws i m cs l k h =
    ap (λ u. u && is_id_start (char_at (take m cs) i)) (begins_same ws 0 m cs (omega (arith, l)))
    ∙ ap (λ c. begins_at 0 ws cs && is_id_start c) (same_at i m cs k) ∙ h

start_fails : (ws : List ℕ) (i m : ℕ) (cs : List ℕ) → list_all is_solid ws ≡ true → (begins_at 0 ws cs && is_id_start (char_at cs i)) ≡ false →
    (begins_at 0 ws (take m cs) && is_id_start (char_at (take m cs) i)) ≡ false
start_fails ws i m cs s h = by_test (begins_at 0 ws cs) refl h
  where
    by_test : (u : Bool) → begins_at 0 ws cs ≡ u → (u && is_id_start (char_at cs i)) ≡ false →
        (begins_at 0 ws (take m cs) && is_id_start (char_at (take m cs) i)) ≡ false
    by_test true e h = (let no = at_cut is_id_start start_stops.at_end m i cs h in rw no (and_false (begins_at 0 ws (take m cs))))
    by_test false e h = (let no = begins_cut ws 0 m cs s e in rw no refl)

or_stays : (a b : List ℕ) (m : ℕ) (cs : List ℕ) → length a ≤ m → length b ≤ m → (begins_at 0 a cs || begins_at 0 b cs) ≡ true →
    (begins_at 0 a (take m cs) || begins_at 0 b (take m cs)) ≡ true
or_stays a b m cs l k h =
    ap (λ u. u || begins_at 0 b (take m cs)) (begins_same a 0 m cs (omega (arith, l)))
    ∙ ap (λ u. begins_at 0 a cs || u) (begins_same b 0 m cs (omega (arith, k))) ∙ h

or_fails : (a b : List ℕ) (m : ℕ) (cs : List ℕ) → list_all is_solid a ≡ true → list_all is_solid b ≡ true → (begins_at 0 a cs || begins_at 0 b cs) ≡ false →
    (begins_at 0 a (take m cs) || begins_at 0 b (take m cs)) ≡ false
or_fails a b m cs s r h =
    let parts = or_parts (begins_at 0 a cs) (begins_at 0 b cs) h in
    let first = begins_cut a 0 m cs s parts.0 in
    let second = begins_cut b 0 m cs r parts.1 in
    rw (first, second) refl

-- ---- literals

literal_whole : (u : Bool) (l : LiteralKind) (n : ℕ) (cs : List ℕ) → is_whole_literal l ≡ u → stands_alone (literal u l n cs).value ≡ true → u ≡ true
literal_whole true l n cs k h = refl
literal_whole false l n cs k h = sym k ∙ h

-- a literal that is whole exactly where its body is
literal_kept : {A : Type 0} (kind : A → LiteralKind) (whole : A → Bool) (body : List ℕ → Scanned A) (m : ℕ) (cs : List ℕ) →
    ((v : A) → is_whole_literal (kind v) ≡ whole v) → (whole (body cs).value ≡ true → (body cs).size ≤ m → body (take m cs) ≡ body cs) →
    Kept m (λ xs. literal (whole (body xs).value) (kind (body xs).value) (body xs).size xs) cs
unfolding Kept
literal_kept {A} kind whole body m cs k lf h e =
    let s : Scanned A = body cs in
    let all = literal_whole (whole s.value) (kind s.value) s.size cs (k s.value) h in
    let long = literal_long (whole s.value) (kind s.value) s.size cs in
    let fits : (literal true (kind s.value) s.size cs).size ≤ m =
    (let same : (literal true (kind s.value) s.size cs).size ≡ m = ap (λ u. (literal u (kind s.value) s.size cs).size) (sym all) ∙ e in omega (arith, same)) in
    ap (λ (r : Scanned A). literal (whole r.value) (kind r.value) r.size (take m cs)) (lf all (omega (arith, long, e)))
    ∙ ap (λ u. literal u (kind s.value) s.size (take m cs)) all
    ∙ suffix_cut (kind s.value) s.size m cs fits
    ∙ ap (λ u. literal u (kind s.value) s.size cs) (sym all)

quoted_kept : (kind : Bool → LiteralKind) (p m : ℕ) (cs : List ℕ) → ((v : Bool) → is_whole_literal (kind v) ≡ v) → Kept m (quoted kind p) cs
quoted_kept kind p m cs k =
    literal_kept kind (λ v. v) (λ xs. further p (quoted_body (drop p xs))) m cs k
    (λ h l. ap (λ xs. further p (quoted_body xs)) (drop_cut p m cs (omega (arith, l))) ∙ ap (further p) (quoted_body_cut (m - p) (drop p cs) h (omega (arith, l))))

string_kept : (kind : Bool → LiteralKind) (p m : ℕ) (cs : List ℕ) → ((v : Bool) → is_whole_literal (kind v) ≡ v) → Kept m (string kind p) cs
string_kept kind p m cs k =
    literal_kept kind (λ v. v) (λ xs. further p (string_body (drop p xs))) m cs k
    (λ h l. ap (λ xs. further p (string_body xs)) (drop_cut p m cs (omega (arith, l))) ∙ ap (further p) (string_cut (m - p) (drop p cs) (omega (arith, l))))

raw_kept : (kind : Option ℕ → LiteralKind) (p m : ℕ) (cs : List ℕ) → ((v : Option ℕ) → is_whole_literal (kind v) ≡ is_some v) → Kept m (raw_string kind p) cs
raw_kept kind p m cs k =
    literal_kept kind is_some (λ xs. further p (raw_form (drop p xs))) m cs k
    (λ h l. ap (λ xs. further p (raw_form xs)) (drop_cut p m cs (omega (arith, l))) ∙ ap (further p) (raw_form_cut (m - p) (drop p cs) h (omega (arith, l))))

quoted_long : (kind : Bool → LiteralKind) (p : ℕ) (cs : List ℕ) → p + (quoted_body (drop p cs)).size ≤ (quoted kind p cs).size
quoted_long kind p cs = (let body : Scanned Bool = further p (quoted_body (drop p cs)) in literal_long body.value (kind body.value) body.size cs)

string_long : (kind : Bool → LiteralKind) (p : ℕ) (cs : List ℕ) → p ≤ (string kind p cs).size
string_long kind p cs =
    let body : Scanned Bool = further p (string_body (drop p cs)) in
    let long = literal_long body.value (kind body.value) body.size cs in omega (arith, long)

raw_long : (kind : Option ℕ → LiteralKind) (p : ℕ) (cs : List ℕ) → ((v : Option ℕ) → is_whole_literal (kind v) ≡ is_some v) →
    stands_alone (raw_string kind p cs).value ≡ true → p + 1 ≤ (raw_string kind p cs).size
raw_long kind p cs k h =
    let form : Scanned (Option ℕ) = further p (raw_form (drop p cs)) in
    let long = literal_long (is_some form.value) (kind form.value) form.size cs in
    let all = literal_whole (is_some form.value) (kind form.value) form.size cs (k form.value) h in
    omega (arith, long, raw_form_long (drop p cs) all)

guarded_kept : (m : ℕ) (cs : List ℕ) → Kept m guarded cs
guarded_kept m cs = literal_kept GuardedStr is_some (λ xs. guarded_at (prefix_len (is "#") xs) xs) m cs (λ v. refl) (λ h l. guarded_cut m cs l)

-- ---- words

mark_off : (u : Bool) → stands_alone (if u then UnknownPrefix else Ident) ≡ true → u ≡ false
mark_off true h = absurd (let t : false ≡ true = h in cc)
mark_off false h = refl

plain_kept : (m : ℕ) (cs : List ℕ) → Kept m plain_word cs
unfolding Kept
plain_kept m cs h e =
    let n : ℕ = identifier_len cs in
    let off = mark_off (is_prefix_mark (char_at cs n)) h in
    ap (λ k. lexeme_of (if is_prefix_mark (char_at (take m cs) k) then UnknownPrefix else Ident) k) (identifier_cut m cs (omega (arith, e)))
    ∙ ap (λ u. lexeme_of (if u then UnknownPrefix else Ident) n) (at_cut is_prefix_mark refl m n cs off ∙ sym off)

marked_kept : (kind : TokenKind) (m : ℕ) (cs : List ℕ) → Kept m (marked_word kind) cs
unfolding Kept
marked_kept kind m cs h e =
    ap (λ xs. lexeme_of kind (2 + identifier_len xs)) (drop_cut 2 m cs (omega (arith, e)))
    ∙ ap (λ n. lexeme_of kind (2 + n)) (identifier_cut (m - 2) (drop 2 cs) (omega (arith, e)))

marked_long : (b : Bool) (m : ℕ) (cs : List ℕ) → (b && is_id_start (char_at cs 2)) ≡ true → 2 + identifier_len (drop 2 cs) ≡ m → 3 ≤ m
marked_long b m cs h e =
    let start = (and_parts b (is_id_start (char_at cs 2)) h).1 in
    let some = ident_long (drop 2 cs) (ap is_id_start (at_drop 2 0 cs) ∙ start) in
    omega (arith, e, some)

word_kept : (m : ℕ) (cs : List ℕ) → Kept m word cs
word_kept m cs =
    kept_if m cs (λ xs. begins "r#" xs && is_id_start (char_at xs 2)) (marked_word RawIdent) _
    (λ h w e. (let long = marked_long (begins "r#" cs) m cs h e in start_stays (codes "r#") 2 m cs (omega (arith, long)) (omega (arith, long)) h))
    (λ h w e. start_fails (codes "r#") 2 m cs refl h) (λ h. marked_kept RawIdent m cs)
    (λ h. kept_if m cs (λ xs. begins "r#" xs || begins "r\"" xs) (raw_string RawStr 1) _
    (λ h w e. (let long = raw_long RawStr 1 cs (λ v. refl) w in or_stays (codes "r#") (codes "r\"") m cs (omega (arith, long, e)) (omega (arith, long, e)) h))
    (λ h w e. or_fails (codes "r#") (codes "r\"") m cs refl refl h) (λ h. raw_kept RawStr 1 m cs (λ v. refl))
    (λ h. kept_if m cs (begins "b'") (quoted Byte 2) _
    (λ h w e. (let long = quoted_long Byte 2 cs in begins_same (codes "b'") 0 m cs (omega (arith, long, e)) ∙ h))
    (λ h w e. begins_cut (codes "b'") 0 m cs refl h) (λ h. quoted_kept Byte 2 m cs (λ v. refl))
    (λ h. kept_if m cs (begins "b\"") (string ByteStr 2) _
    (λ h w e. (let long = string_long ByteStr 2 cs in begins_same (codes "b\"") 0 m cs (omega (arith, long, e)) ∙ h))
    (λ h w e. begins_cut (codes "b\"") 0 m cs refl h) (λ h. string_kept ByteStr 2 m cs (λ v. refl))
    (λ h. kept_if m cs (begins "c\"") (string CStr 2) _
    (λ h w e. (let long = string_long CStr 2 cs in begins_same (codes "c\"") 0 m cs (omega (arith, long, e)) ∙ h))
    (λ h w e. begins_cut (codes "c\"") 0 m cs refl h) (λ h. string_kept CStr 2 m cs (λ v. refl))
    (λ h. kept_if m cs (λ xs. begins "br#" xs || begins "br\"" xs) (raw_string RawByteStr 2) _
    (λ h w e. (let long = raw_long RawByteStr 2 cs (λ v. refl) w in or_stays (codes "br#") (codes "br\"") m cs (omega (arith, long, e)) (omega (arith, long, e)) h))
    (λ h w e. or_fails (codes "br#") (codes "br\"") m cs refl refl h) (λ h. raw_kept RawByteStr 2 m cs (λ v. refl))
    (λ h. kept_if m cs (λ xs. begins "cr#" xs || begins "cr\"" xs) (raw_string RawCStr 2) _
    (λ h w e. (let long = raw_long RawCStr 2 cs (λ v. refl) w in or_stays (codes "cr#") (codes "cr\"") m cs (omega (arith, long, e)) (omega (arith, long, e)) h))
    (λ h w e. or_fails (codes "cr#") (codes "cr\"") m cs refl refl h) (λ h. raw_kept RawCStr 2 m cs (λ v. refl))
    (λ h. kept_if m cs (λ xs. begins "k#" xs && is_id_start (char_at xs 2)) (marked_word ForcedKeywordIdent) plain_word
    (λ h w e. (let long = marked_long (begins "k#" cs) m cs h e in start_stays (codes "k#") 2 m cs (omega (arith, long)) (omega (arith, long)) h))
    (λ h w e. start_fails (codes "k#") 2 m cs refl h) (λ h. marked_kept ForcedKeywordIdent m cs)
    (λ h. plain_kept m cs))))))))

-- ---- what begins with `'`

bare_kept : (kind : LiteralKind) (n m : ℕ) (cs : List ℕ) → Kept m (bare kind n) cs
unfolding Kept
bare_kept kind n m cs h e = ap (λ xs. record { value = Literal kind (utf8_len xs); size = n }) (take-take n m cs (omega (arith, e)))

lexeme_same : (w : Lexeme) (m : ℕ) (cs : List ℕ) → Kept m (λ _. w) cs
unfolding Kept
lexeme_same w m cs h e = refl

hash_off : (numbered : Bool) (n m : ℕ) (cs : List ℕ) → (is "#" (char_at cs n) && not numbered) ≡ false → (is "#" (char_at (take m cs) n) && not numbered) ≡ false
hash_off true n m cs h = and_false (is "#" (char_at (take m cs) n))
hash_off false n m cs h = by_test (is "#" (char_at cs n)) refl h
  where
    by_test : (u : Bool) → is "#" (char_at cs n) ≡ u → (u && true) ≡ false → (is "#" (char_at (take m cs) n) && true) ≡ false
    by_test true e h = absurd (let t : true ≡ false = h in cc)
    by_test false e h = (let no = at_cut (is "#") refl m n cs e in rw no refl)

name_kept : (numbered : Bool) (n m : ℕ) (cs : List ℕ) → Kept m (name_at numbered n) cs
name_kept numbered n m cs =
    kept_if m cs (λ xs. is "'" (char_at xs n)) (bare (Char true) (n + 1)) _
    (λ h w e. ap (is "'") (same_at n m cs (omega (arith, e))) ∙ h) (λ h w e. at_cut (is "'") refl m n cs h) (λ h. bare_kept (Char true) (n + 1) m cs)
    (λ h. kept_if m cs (λ xs. is "#" (char_at xs n) && not numbered) (λ _. lexeme_of UnknownPrefixLifetime n) (λ _. lexeme_of (Lifetime numbered) n)
    (λ h w e. absurd (let t : false ≡ true = w in cc)) (λ h w e. hash_off numbered n m cs h)
    (λ h. kept_not m (λ _. lexeme_of UnknownPrefixLifetime n) cs refl) (λ h. lexeme_same (lexeme_of (Lifetime numbered) n) m cs))

plain_lifetime_kept : (m : ℕ) (cs : List ℕ) → Kept m name cs
unfolding Kept
plain_lifetime_kept m cs h e =
    let n : ℕ = 2 + continues (drop 2 cs) in
    let long = name_long (is_digit (char_at cs 1)) n cs in
    let fits : n ≤ m = omega (arith, long, e) in
    ap (λ c. name_at (is_digit c) (2 + continues (drop 2 (take m cs))) (take m cs)) (same_at 1 m cs (omega (arith, fits)))
    ∙ ap (λ xs. name_at (is_digit (char_at cs 1)) (2 + continues xs) (take m cs)) (drop_cut 2 m cs (omega (arith, fits)))
    ∙ ap (λ k. name_at (is_digit (char_at cs 1)) (2 + k) (take m cs)) (prefix_cut is_id_continue (m - 2) (drop 2 cs) (omega (arith, fits)))
    ∙ name_kept (is_digit (char_at cs 1)) n m cs h e

lifetime_kept : (m : ℕ) (cs : List ℕ) → Kept m lifetime cs
lifetime_kept m cs =
    kept_if m cs (λ xs. begins "'r#" xs && is_id_start (char_at xs 3)) (λ xs. lexeme_of RawLifetime (3 + continues (drop 3 xs))) name
    (λ h w e. absurd (let t : false ≡ true = w in cc)) (λ h w e. start_fails (codes "'r#") 3 m cs refl h)
    (λ h. kept_not m (λ xs. lexeme_of RawLifetime (3 + continues (drop 3 xs))) cs refl) (λ h. plain_lifetime_kept m cs)

-- a letter or a digit
is_letter : ℕ → Bool
is_letter c = is_id_start c || is_digit c

no_letter_at_end : is_letter 0 ≡ false
unfolding is_letter
no_letter_at_end = (let none = start_stops.at_end in rw none refl)

lifetime_long : (m : ℕ) (cs : List ℕ) → (lifetime cs).size ≡ m → stands_alone (lifetime cs).value ≡ true → 2 ≤ m
lifetime_long m cs e w = by_test (begins "'r#" cs && is_id_start (char_at cs 3)) e
  where
    by_test : (u : Bool) → (if u then lexeme_of RawLifetime (3 + continues (drop 3 cs)) else name cs).size ≡ m → 2 ≤ m
    by_test true e = omega (arith, e)
    by_test false e = (let long = name_long (is_digit (char_at cs 1)) (2 + continues (drop 2 cs)) cs in omega (arith, e, long))

lifetime_stays : (m : ℕ) (cs : List ℕ) → 2 ≤ m → begins_lifetime cs ≡ true → begins_lifetime (take m cs) ≡ true
unfolding is_letter
lifetime_stays m cs l h = by_tests (is "'" (char_at cs 2)) refl h
  where
    by_tests : (u : Bool) → is "'" (char_at cs 2) ≡ u → (not u && is_letter (char_at cs 1)) ≡ true → begins_lifetime (take m cs) ≡ true
    by_tests true e h = absurd (let t : false ≡ true = h in cc)
    by_tests false e h =
        let no = at_cut (is "'") refl m 2 cs e in
        ap (λ u. not u && is_letter (char_at (take m cs) 1)) no ∙ ap is_letter (same_at 1 m cs (omega (arith, l))) ∙ h

-- a `\` is no letter
backslash_no_letter : is_letter 92 ≡ false
unfolding is_letter is_xid_start is_xid_continue in_ranges xid_start_ranges xid_continue_ranges
backslash_no_letter = refl

letter_no_backslash : (c : ℕ) → is_letter c ≡ true → is "\\" c ≡ false
letter_no_backslash c h = by_test (is "\\" c) refl
  where
    by_test : (u : Bool) → is "\\" c ≡ u → u ≡ false
    by_test false e = refl
    by_test true e = (let same : c ≡ 92 = grind (arith, nat_tests, e) in let t : is_letter 92 ≡ true = ap is_letter (sym same) ∙ h in absurd (let f : false ≡ true = sym backslash_no_letter ∙ t in cc))

-- a letter between two quotes is a character of three
three_long : (cs : List ℕ) → is "'" (char_at cs 2) ≡ true → is_letter (char_at cs 1) ≡ true → (quoted_body (drop 1 cs)).size ≡ 2
three_long cs q h =
    let second : is "'" (char_at (drop 1 cs) 1) ≡ true = ap (is "'") (at_drop 1 1 cs) ∙ q in
    let first : begins "\\" (drop 1 cs) ≡ false = ap (is "\\") (at_drop 1 0 cs) ∙ letter_no_backslash (char_at cs 1) h in
    rw (second, first) refl

lifetime_fails : (m : ℕ) (cs : List ℕ) → (quoted Char 1 cs).size ≡ m → begins_lifetime cs ≡ false → begins_lifetime (take m cs) ≡ false
unfolding is_letter
lifetime_fails m cs e h = by_tests (is_letter (char_at cs 1)) (is "'" (char_at cs 2)) refl refl h
  where
    by_tests : (u v : Bool) → is_letter (char_at cs 1) ≡ u → is "'" (char_at cs 2) ≡ v → (not v && u) ≡ false → begins_lifetime (take m cs) ≡ false
    by_tests false v f g h =
        ap (λ u. not (is "'" (char_at (take m cs) 2)) && u) (at_cut is_letter no_letter_at_end m 1 cs f) ∙ and_false (not (is "'" (char_at (take m cs) 2)))
    by_tests true true f g h =
        let long = quoted_long Char 1 cs in
        let three = three_long cs g f in
        let quote = ap (is "'") (same_at 2 m cs (omega (arith, long, three, e))) ∙ g in
        ap (λ v. not v && is_letter (char_at (take m cs) 1)) quote
    by_tests true false f g h = absurd (let t : true ≡ false = h in cc)

quote_kept : (m : ℕ) (cs : List ℕ) → Kept m quote cs
quote_kept m cs =
    kept_if m cs begins_lifetime lifetime (quoted Char 1)
    (λ h w e. lifetime_stays m cs (lifetime_long m cs e w) h) (λ h w e. lifetime_fails m cs e h)
    (λ h. lifetime_kept m cs) (λ h. quoted_kept Char 1 m cs (λ v. refl))

-- ---- all rows

numeral_kept : (m : ℕ) (cs : List ℕ) → Kept m numeral cs
unfolding Kept
numeral_kept m cs h e = numeral_cut m cs e

one_char_kept : (k c : ℕ) (cs : List ℕ) → Kept (suc k) (λ xs. lexeme_of (one_char_kind (char_at xs 0)) 1) (c ∷ cs)
unfolding Kept
one_char_kept k c cs h e = refl

-- of a text that begins with c at least one character is left
lexeme_kept : (k c : ℕ) (cs : List ℕ) → Kept (suc k) lexeme (c ∷ cs)
lexeme_kept k c cs =
    let t : List ℕ = c ∷ cs in
    let m : ℕ = suc k in
    kept_if m t (begins "//") _ _ (λ h w e. never _ (line_comment t) refl w) (λ h w e. begins_cut (codes "//") 0 m t refl h) (λ h. kept_not m _ t refl)
    (λ h. kept_if m t (begins "/*") _ _ (λ h w e. never _ (block_comment t) refl w) (λ h w e. begins_cut (codes "/*") 0 m t refl h) (λ h. kept_not m _ t refl)
    (λ h. kept_if m t (λ xs. is_whitespace (char_at xs 0)) _ _ (λ h w e. h) (λ h w e. h) (λ h. kept_not m _ t refl)
    (λ h. kept_if m t (λ xs. is_id_start (char_at xs 0)) _ _ (λ h w e. h) (λ h w e. h) (λ h. word_kept m t)
    (λ h. kept_if m t (λ xs. is_digit (char_at xs 0)) _ _ (λ h w e. h) (λ h w e. h) (λ h. numeral_kept m t)
    (λ h. kept_if m t begins_guarded guarded _
    (λ h w e. (let long = guarded_long t in guarded_stays m t h (omega (arith, long, e)))) (λ h w e. guarded_fails m t h) (λ h. guarded_kept m t)
    (λ h. kept_if m t (λ xs. is "'" (char_at xs 0)) _ _ (λ h w e. h) (λ h w e. h) (λ h. quote_kept m t)
    (λ h. kept_if m t (λ xs. is "\"" (char_at xs 0)) _ _ (λ h w e. h) (λ h w e. h) (λ h. string_kept Str 1 m t (λ v. refl))
    (λ h. one_char_kept k c cs))))))))

-- the lexeme of its own characters
pub lexeme_alone : (c : ℕ) (cs : List ℕ) → stands_alone (lexeme (c ∷ cs)).value ≡ true →
    lexeme (take (lexeme (c ∷ cs)).size (c ∷ cs)) ≡ lexeme (c ∷ cs)
unfolding Kept
lexeme_alone c cs w = by_size (lexeme (c ∷ cs)).size refl (lexeme_positive c cs)
  where
    by_size : (m : ℕ) → (lexeme (c ∷ cs)).size ≡ m → 1 ≤ m → lexeme (take m (c ∷ cs)) ≡ lexeme (c ∷ cs)
    by_size zero e l = absurd (omega (arith, l))
    by_size (suc k) e l = lexeme_kept k c cs w e

drop_taken : (m : ℕ) (cs : List ℕ) → drop m (take m cs) ≡ []
drop_taken zero cs = refl
drop_taken (suc m) [] = refl
drop_taken (suc m) (c ∷ cs) = drop_taken m cs

-- a text of so many characters, of which the lexeme takes all
alone_by : (m c : ℕ) (cs : List ℕ) → 1 ≤ m → (lexeme (c ∷ cs)).size ≡ m → lexeme (take m (c ∷ cs)) ≡ lexeme (c ∷ cs) →
    tokens_of (take m (c ∷ cs)) ≡ token_of (lexeme (c ∷ cs)) (c ∷ cs) ∷ []
alone_by zero c cs l e same = absurd (omega (arith, l))
alone_by (suc k) c cs l e same =
    let w : Lexeme = lexeme (c ∷ cs) in
    let xs : List ℕ = take (suc k) (c ∷ cs) in
    first_of_tokens c (take k cs)
    ∙ ap (λ (v : Lexeme). token_of v xs ∷ tokens_of (drop v.size xs)) same
    ∙ ap (λ n. record { kind = w.value; len = utf8_len (take n xs) } ∷ tokens_of (drop n xs)) e
    ∙ ap (λ ys. record { kind = w.value; len = utf8_len ys } ∷ tokens_of (drop (suc k) xs)) (take-take (suc k) (suc k) (c ∷ cs) (omega arith))
    ∙ ap (λ ys. record { kind = w.value; len = utf8_len xs } ∷ tokens_of ys) (drop_taken (suc k) (c ∷ cs))
    ∙ ap (λ n. record { kind = w.value; len = utf8_len (take n (c ∷ cs)) } ∷ []) (sym e)

pub token_alone : (cs : List ℕ) (t : Token) (ts : List Token) → tokens_of cs ≡ t ∷ ts → stands_alone t.kind ≡ true →
    tokens_of (take (lexeme cs).size cs) ≡ t ∷ []
token_alone [] t ts e h = absurd (let l : 0 ≡ suc (length ts) = ap length e in omega (arith, l))
token_alone (c ∷ cs) t ts e h =
    let w : Lexeme = lexeme (c ∷ cs) in
    let first : t ≡ token_of w (c ∷ cs) = ap (λ l. slice_index_or l 0 t) (sym e ∙ first_of_tokens c cs) in
    let alone : stands_alone w.value ≡ true = ap (λ (x : Token). stands_alone x.kind) (sym first) ∙ h in
    alone_by w.size c cs (lexeme_positive c cs) refl (lexeme_alone c cs alone) ∙ ap (λ x. x ∷ []) (sym first)

no_taken : (n : ℕ) (cs : List ℕ) → cs ≡ [] → take n cs ≡ []
no_taken zero cs e = refl
no_taken (suc n) [] e = refl
no_taken (suc n) (c ∷ cs) e = absurd (let l : suc (length cs) ≡ 0 = ap length e in omega (arith, l))

-- the same of bytes: those of a token that stands in a text
slice_long : (text : List ℕ) (at n : ℕ) → at + n ≤ length text → length (slice_range text at (at + n)) ≡ n
slice_long text at n l =
    let e : at + n - at ≡ n = omega arith in
    ap (λ k. length (take k (drop at text))) e ∙ length-take-le n (drop at text) (omega (arith, l, length-drop at text))

pub token_alone_at : (text : List ℕ) (at : ℕ) (t : Token) → IsTokenAt text at t → stands_alone t.kind ≡ true →
    tokens_of (chars (slice_range text at (at + t.len))) ≡ t ∷ []
token_alone_at text at t h alone = by_chars (chars (drop at text)) refl
  where
    by_chars : (cs : List ℕ) → chars (drop at text) ≡ cs → tokens_of (chars (slice_range text at (at + t.len))) ≡ t ∷ []
    by_chars [] e =
        let slice : List ℕ = slice_range text at (at + t.len) in
        let none : chars slice ≡ [] = h.word ∙ ap (λ cs. take (lexeme cs).size cs) e ∙ no_taken (lexeme []).size [] refl in
        let bytes = length_text slice h.utf8 ∙ ap utf8_len none in
        absurd (omega (arith, bytes, slice_long text at t.len h.stop.0, h.positive))
    by_chars (c ∷ cs) e =
        let slice : List ℕ = slice_range text at (at + t.len) in
        let w : Lexeme = lexeme (c ∷ cs) in
        let word : chars slice ≡ take w.size (c ∷ cs) = h.word ∙ ap (λ cs. take (lexeme cs).size cs) e in
        let kind : t.kind ≡ w.value = h.kind ∙ ap (λ cs. (lexeme cs).value) e in
        let long : utf8_len (take w.size (c ∷ cs)) ≡ t.len = ap utf8_len (sym word) ∙ sym (length_text slice h.utf8) ∙ slice_long text at t.len h.stop.0 in
        let one = alone_by w.size c cs (lexeme_positive c cs) refl (lexeme_alone c cs (ap stands_alone (sym kind) ∙ alone)) in
        ap tokens_of word ∙ one ∙ ap (λ k. record { kind = k; len = utf8_len (take w.size (c ∷ cs)) } ∷ []) (sym kind)
        ∙ ap (λ n. record { kind = t.kind; len = n } ∷ []) long
