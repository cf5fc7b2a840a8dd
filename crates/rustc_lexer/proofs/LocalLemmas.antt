-- A lexeme depends only on its own characters and the two that follow, row by row; and a hash
-- depends on the run of hashes that goes on there.
use Rattle.std.proofs.Common.{◌≡◌, ℕ, ◌+◌, ◌≤◌, ◌<◌, ◌==◌, Bool, true, false, not, ◌&&◌, ◌||◌, List, [], ◌∷◌, take, drop, refl, sym, ◌∙◌, ap, subst, arith, if◌then◌else◌, Option}
use Rattle.std.proofs.lemmas.Bool.Decides.{nat_tests}
use Rattle.rustc_lexer.specs.Character.{char_at, begins, is, is_whitespace, is_id_start, is_id_continue, is_digit, is_hex_digit, continues, identifier_len, utf8_len}
use Rattle.rustc_lexer.specs.Comments.{line_style, line_comment, block_style, block_body, block_comment}
use Rattle.rustc_lexer.specs.Lexeme.{Lexeme, lexeme_of, white_space, quoted, string, raw_string, numeral, plain_word, marked_word, word, lifetime, begins_lifetime, quote, one_char_kind, begins_guarded, guarded, lexeme}
use Rattle.std.specs.List.{prefix_len}
use Rattle.std.specs.Option.{is_some}
use Rattle.rustc_lexer.specs.FirstCharacter.{hash}
use Rattle.rustc_lexer.specs.Lexing.{look_ahead, run_on}
use Rattle.rustc_lexer.specs.Literals.{with_suffix, bare, literal, quoted_rest, quoted_body, string_body, raw_form, guarded_form}
use Rattle.rustc_lexer.specs.Numbers.{run, sign_len, is_exponent_mark, exponent, after_fraction, fraction, begins_fraction, after_run, based, number}
use Rattle.rustc_lexer.specs.Scanned.{Scanned, further}
use Rattle.rustc_lexer.proofs.AgreeLemmas.{Agree, agree_less, agree_at, agree_drop, prefix_len_local, identifier_local}
use Rattle.rustc_lexer.proofs.BodyLocalLemmas.{string_local, quoted_local, raw_form_local, block_local, guarded_at, guarded_form_local}
use Rattle.rustc_lexer.proofs.FrontRowLemmas.{by_hash}
use Rattle.rustc_lexer.proofs.PositiveLemmas.{choice}
use Rattle.rustc_lexer.specs.declared.token.Base.{Base}
use Rattle.rustc_lexer.specs.declared.token.Base.TheVariants.{Binary, Octal, Hexadecimal, Decimal}
use Rattle.rustc_lexer.specs.declared.token.DocStyle.{DocStyle}
use Rattle.rustc_lexer.specs.declared.token.LiteralKind.{LiteralKind}
use Rattle.rustc_lexer.specs.declared.token.LiteralKind.TheVariants.{Byte, Char, Str, ByteStr, CStr, RawStr, RawByteStr, RawCStr, GuardedStr, Float, Int}
use Rattle.rustc_lexer.specs.declared.token.TokenKind.{TokenKind}
use Rattle.rustc_lexer.specs.declared.token.TokenKind.TheVariants.{Whitespace, RawIdent, ForcedKeywordIdent, UnknownPrefixLifetime, RawLifetime, Lifetime, BlockComment, Literal, Pound}

-- what is read from cs, and has at least j characters, is read from ds too where this agrees two characters further
unfoldable pub Local : {A : Type 0} → ℕ → (List ℕ → Scanned A) → List ℕ → List ℕ → Type 0
Local j f cs ds = j ≤ (f cs).size → Agree ((f cs).size + 2) cs ds → f ds ≡ f cs

-- a choice is local where its test is answered alike and both its branches are local
local_if : {A : Type 0} (j : ℕ) (cs ds : List ℕ) (b : List ℕ → Bool) (f g : List ℕ → Scanned A) → (Agree (j + 2) cs ds → b ds ≡ b cs) →
    (b cs ≡ true → Local j f cs ds) → (b cs ≡ false → Local j g cs ds) → Local j (λ xs. if b xs then f xs else g xs) cs ds
unfolding Local
local_if j cs ds b f g t lf lg h a = by_test (b cs) (b ds) (t (agree_less (j + 2) a (omega arith))) lf lg h a
  where
    by_test : (u v : Bool) → v ≡ u →
        (u ≡ true → j ≤ (f cs).size → Agree ((f cs).size + 2) cs ds → f ds ≡ f cs) →
        (u ≡ false → j ≤ (g cs).size → Agree ((g cs).size + 2) cs ds → g ds ≡ g cs) →
        j ≤ (if u then f cs else g cs).size → Agree ((if u then f cs else g cs).size + 2) cs ds →
        (if v then f ds else g ds) ≡ (if u then f cs else g cs)
    by_test true v e lf lg h a = rw e (lf refl h a)
    by_test false v e lf lg h a = rw e (lg refl h a)

-- what is read in any case
local_same : {A : Type 0} (j : ℕ) (s : Scanned A) (cs ds : List ℕ) → Local j (λ _. s) cs ds
unfolding Local
local_same j s cs ds h a = refl

-- what is read behind m characters
local_further : {A : Type 0} (m : ℕ) (f : List ℕ → Scanned A) (cs ds : List ℕ) → Local 0 f (drop m cs) (drop m ds) →
    Local 0 (λ xs. further m (f (drop m xs))) cs ds
unfolding Local
local_further m f cs ds lf h a =
    let b : Agree (m + ((f (drop m cs)).size + 2)) cs ds = agree_less _ a (omega arith) in
    ap (further m) (lf (omega arith) (agree_drop m b))

-- ---- numbers

run_local : (p : ℕ → Bool) (n : ℕ) (cs ds : List ℕ) → Agree n cs ds → (run p cs).size < n → run p ds ≡ run p cs
run_local p n cs ds a l =
    let e : (run p ds).size ≡ (run p cs).size = prefix_len_local (λ c. p c || is "_" c) n cs ds a l in
    rw (e, sym (agree_less (run p cs).size a (omega arith)).same)

-- what is read behind a run
local_behind : {A : Type 0} (p : ℕ → Bool) (f : List ℕ → Scanned A) (cs ds : List ℕ) → ((xs ys : List ℕ) → Local 0 f xs ys) →
    Local 0 (λ xs. further (run p xs).size (f (drop (run p xs).size xs))) cs ds
unfolding Local
local_behind p f cs ds lf h a =
    let n : ℕ = (run p cs).size in
    let e : (run p ds).size ≡ n = ap (λ (s : Scanned Bool). s.size) (run_local p _ cs ds a (omega arith)) in
    let b : Agree (n + ((f (drop n cs)).size + 2)) cs ds = agree_less _ a (omega arith) in
    rw e (ap (further n) (lf (drop n cs) (drop n ds) (omega arith) (agree_drop n b)))

sign_local : (cs ds : List ℕ) → Agree 1 cs ds → sign_len ds ≡ sign_len cs
sign_local cs ds a = ap (λ c. if is "+" c || is "-" c then 1 else 0) (agree_at 0 a (omega arith))

-- an exponent with a sign of n characters and these digits
abbrev pub exponent_of : Base → ℕ → Scanned Bool → Scanned LiteralKind
exponent_of base n digits = record { value = Float base (not digits.value); size = n + digits.size }

exponent_local : (base : Base) (cs ds : List ℕ) → Local 0 (exponent base) cs ds
unfolding Local
exponent_local base cs ds h a =
    let n : ℕ = sign_len cs in
    let b : Agree (n + ((run is_digit (drop n cs)).size + 2)) cs ds = agree_less _ a (omega arith) in
    rw (sign_local cs ds (agree_less 1 a (omega arith)))
    (ap (exponent_of base n) (run_local is_digit _ (drop n cs) (drop n ds) (agree_drop n b) (omega arith)))

after_fraction_local : (base : Base) (cs ds : List ℕ) → Local 0 (after_fraction base) cs ds
after_fraction_local base cs ds =
    local_if 0 cs ds (λ xs. is_exponent_mark (char_at xs 0)) _ _ (λ a. ap is_exponent_mark (agree_at 0 a (omega arith)))
    (λ h. local_further 1 (exponent base) cs ds (exponent_local base (drop 1 cs) (drop 1 ds))) (λ h. local_same 0 _ cs ds)

fraction_local : (base : Base) (cs ds : List ℕ) → Local 0 (fraction base) cs ds
fraction_local base cs ds =
    local_if 0 cs ds (λ xs. is_digit (char_at xs 0)) _ _ (λ a. ap is_digit (agree_at 0 a (omega arith)))
    (λ h. local_behind is_digit (after_fraction base) cs ds (after_fraction_local base)) (λ h. local_same 0 _ cs ds)

after_run_local : (base : Base) (cs ds : List ℕ) → Local 0 (after_run base) cs ds
after_run_local base cs ds =
    local_if 0 cs ds begins_fraction _ _ (λ a. rw (agree_at 0 a (omega arith), agree_at 1 a (omega arith)))
    (λ h. local_further 1 (fraction base) cs ds (fraction_local base (drop 1 cs) (drop 1 ds)))
    (λ h. local_if 0 cs ds (λ xs. is_exponent_mark (char_at xs 0)) _ _ (λ a. ap is_exponent_mark (agree_at 0 a (omega arith)))
    (λ k. local_further 1 (exponent base) cs ds (exponent_local base (drop 1 cs) (drop 1 ds))) (λ k. local_same 0 _ cs ds))

-- what `based` reads behind the run `digits`
abbrev pub behind_base : Base → Scanned Bool → List ℕ → Scanned LiteralKind
behind_base base digits cs =
    if digits.value then further digits.size (after_run base (drop digits.size cs)) else record { value = Int base true; size = digits.size }

behind_long : (base : Base) (digits : Scanned Bool) (cs : List ℕ) → digits.size ≤ (behind_base base digits cs).size
behind_long base digits cs = choice (λ (s : Scanned LiteralKind). digits.size ≤ s.size) digits.value _ _ (λ h. omega arith) (λ h. omega arith)

behind_local : (base : Base) (digits : Scanned Bool) (cs ds : List ℕ) → Local 0 (behind_base base digits) cs ds
behind_local base digits cs ds =
    local_if 0 cs ds (λ xs. digits.value) _ _ (λ a. refl)
    (λ h. local_further digits.size (after_run base) cs ds (after_run_local base (drop digits.size cs) (drop digits.size ds))) (λ h. local_same 0 _ cs ds)

based_local : (base : Base) (p : ℕ → Bool) (cs ds : List ℕ) → Local 0 (based base p) cs ds
unfolding Local
based_local base p cs ds h a =
    let long = behind_long base (run p cs) cs in
    ap (λ digits. behind_base base digits ds) (run_local p _ cs ds a (omega arith)) ∙ behind_local base (run p cs) cs ds h a

number_local : (cs ds : List ℕ) → Local 0 number cs ds
number_local cs ds =
    local_if 0 cs ds (begins "0b") _ _ (λ a. rw (agree_at 0 a (omega arith), agree_at 1 a (omega arith)))
    (λ h. local_further 2 (based Binary is_digit) cs ds (based_local Binary is_digit (drop 2 cs) (drop 2 ds)))
    (λ h. local_if 0 cs ds (begins "0o") _ _ (λ a. rw (agree_at 0 a (omega arith), agree_at 1 a (omega arith)))
    (λ h. local_further 2 (based Octal is_digit) cs ds (based_local Octal is_digit (drop 2 cs) (drop 2 ds)))
    (λ h. local_if 0 cs ds (begins "0x") _ _ (λ a. rw (agree_at 0 a (omega arith), agree_at 1 a (omega arith)))
    (λ h. local_further 2 (based Hexadecimal is_hex_digit) cs ds (based_local Hexadecimal is_hex_digit (drop 2 cs) (drop 2 ds)))
    (λ h. local_behind is_digit (after_run Decimal) cs ds (after_run_local Decimal))))

-- ---- suffixes

pub literal_long : (whole : Bool) (kind : LiteralKind) (n : ℕ) (cs : List ℕ) → n ≤ (literal whole kind n cs).size
literal_long whole kind n cs = choice (λ (s : Scanned TokenKind). n ≤ s.size) whole _ _ (λ h. omega arith) (λ h. omega arith)

bare_local : (kind : LiteralKind) (n : ℕ) (cs ds : List ℕ) → Agree n cs ds → bare kind n ds ≡ bare kind n cs
bare_local kind n cs ds a = ap (λ xs. record { value = Literal kind (utf8_len xs); size = n }) (sym a.same)

suffix_local : (kind : LiteralKind) (n : ℕ) (cs ds : List ℕ) → Agree ((with_suffix kind n cs).size + 1) cs ds → with_suffix kind n ds ≡ with_suffix kind n cs
suffix_local kind n cs ds a =
    let b : Agree (n + (identifier_len (drop n cs) + 1)) cs ds = agree_less _ a (omega arith) in
    rw (sym (agree_less n a (omega arith)).same, identifier_local _ (drop n cs) (drop n ds) (agree_drop n b) (omega arith))

literal_local : (whole : Bool) (kind : LiteralKind) (n : ℕ) (cs ds : List ℕ) → Agree ((literal whole kind n cs).size + 1) cs ds →
    literal whole kind n ds ≡ literal whole kind n cs
literal_local true kind n cs ds a = suffix_local kind n cs ds a
literal_local false kind n cs ds a = bare_local kind n cs ds (agree_less n a (omega arith))

numeral_local : (cs ds : List ℕ) → Local 1 numeral cs ds
unfolding Local
numeral_local cs ds h a =
    ap (λ (w : Scanned LiteralKind). with_suffix w.value w.size ds) (number_local cs ds (omega arith) (agree_less _ a (omega arith)))
    ∙ suffix_local (number cs).value (number cs).size cs ds (agree_less _ a (omega arith))

-- ---- literals in quotes

quoted_rest_local : (cs ds : List ℕ) → Local 0 quoted_rest cs ds
unfolding Local
quoted_rest_local cs ds h a = quoted_local ((quoted_rest cs).size + 1) cs ds (agree_less _ a (omega arith)) (omega arith)

quoted_body_local : (cs ds : List ℕ) → Local 0 quoted_body cs ds
quoted_body_local cs ds =
    local_if 0 cs ds (λ xs. is "'" (char_at xs 1) && not (begins "\\" xs)) _ _ (λ a. rw (agree_at 0 a (omega arith), agree_at 1 a (omega arith)))
    (λ h. local_same 0 _ cs ds) (λ h. quoted_rest_local cs ds)

quoted_row : (kind : Bool → LiteralKind) (p : ℕ) (cs ds : List ℕ) → Local 1 (quoted kind p) cs ds
unfolding Local
quoted_row kind p cs ds h a =
    let body : Scanned Bool = further p (quoted_body (drop p cs)) in
    let long = literal_long body.value (kind body.value) body.size cs in
    let b : Agree (p + ((quoted_body (drop p cs)).size + 2)) cs ds = agree_less _ a (omega arith) in
    rw (quoted_body_local (drop p cs) (drop p ds) (omega arith) (agree_drop p b))
    (literal_local body.value (kind body.value) body.size cs ds (agree_less _ a (omega arith)))

string_row : (kind : Bool → LiteralKind) (p : ℕ) (cs ds : List ℕ) → Local 1 (string kind p) cs ds
unfolding Local
string_row kind p cs ds h a =
    let body : Scanned Bool = further p (string_body (drop p cs)) in
    let long = literal_long body.value (kind body.value) body.size cs in
    let b : Agree (p + ((string_body (drop p cs)).size + 2)) cs ds = agree_less _ a (omega arith) in
    rw (string_local _ (drop p cs) (drop p ds) (agree_drop p b) (omega arith))
    (literal_local body.value (kind body.value) body.size cs ds (agree_less _ a (omega arith)))

raw_row : (kind : Option ℕ → LiteralKind) (p : ℕ) (cs ds : List ℕ) → Local 1 (raw_string kind p) cs ds
unfolding Local
raw_row kind p cs ds h a =
    let form : Scanned (Option ℕ) = further p (raw_form (drop p cs)) in
    let long = literal_long (is_some form.value) (kind form.value) form.size cs in
    let b : Agree (p + ((raw_form (drop p cs)).size + 2)) cs ds = agree_less _ a (omega arith) in
    rw (raw_form_local _ (drop p cs) (drop p ds) (agree_drop p b) (omega arith))
    (literal_local (is_some form.value) (kind form.value) form.size cs ds (agree_less _ a (omega arith)))

pub guarded_long : (cs : List ℕ) → 1 + prefix_len (is "#") cs ≤ (guarded cs).size
guarded_long cs =
    let form : Scanned (Option ℕ) = guarded_at (prefix_len (is "#") cs) cs in
    let long = literal_long (is_some form.value) (GuardedStr form.value) form.size cs in omega (arith, long)

-- a guarded string with these hashes and this body
abbrev guarded_with : List ℕ → Scanned (Option ℕ) → Lexeme
guarded_with cs form = literal (is_some form.value) (GuardedStr form.value) form.size cs

guarded_row : (cs ds : List ℕ) → Local 1 guarded cs ds
unfolding Local
guarded_row cs ds h a =
    let n : ℕ = prefix_len (is "#") cs in
    let form : Scanned (Option ℕ) = guarded_at n cs in
    let long = literal_long (is_some form.value) (GuardedStr form.value) form.size cs in
    let run : prefix_len (is "#") ds ≡ n = prefix_len_local (is "#") _ cs ds a (omega (arith, long)) in
    let b : Agree (n + ((guarded_form n (drop n cs)).size + 2)) cs ds = agree_less _ a (omega (arith, long)) in
    ap (λ k. guarded_with ds (guarded_at k ds)) run
    ∙ ap (λ s. guarded_with ds (further n s)) (guarded_form_local n _ (drop n cs) (drop n ds) (agree_drop n b) (omega arith))
    ∙ literal_local (is_some form.value) (GuardedStr form.value) form.size cs ds (agree_less _ a (omega arith))

-- ---- comments

line_long : (cs : List ℕ) → begins "//" cs ≡ true → 2 ≤ (line_comment cs).size
line_long [] h = absurd (grind (arith, nat_tests))
line_long (c ∷ []) h = absurd (grind (arith, nat_tests))
line_long (c ∷ d ∷ cs) h =
    let e : c ≡ 47 = grind (arith, nat_tests) in
    let f : d ≡ 47 = grind (arith, nat_tests) in
    rw (e, f) (omega arith)

line_row : (cs ds : List ℕ) → begins "//" cs ≡ true → Local 1 line_comment cs ds
unfolding Local
line_row cs ds e h a =
    let long = line_long cs e in
    let style : line_style ds ≡ line_style cs =
    rw (agree_at 0 a (omega arith), agree_at 1 a (omega arith), agree_at 2 a (omega arith), agree_at 3 a (omega arith)) in
    rw (style, prefix_len_local (λ c. not (c == 10)) _ cs ds a (omega arith))

-- the comment with this body
abbrev block_with : Option DocStyle → Scanned Bool → Scanned TokenKind
block_with style body = record { value = BlockComment style body.value; size = body.size }

block_row : (cs ds : List ℕ) → Local 1 block_comment cs ds
unfolding Local
block_row cs ds h a =
    let b : Agree (2 + ((block_body 0 (drop 2 cs)).size + 2)) cs ds = agree_less _ a (omega arith) in
    let style : block_style ds ≡ block_style cs =
    rw (agree_at 0 a (omega arith), agree_at 1 a (omega arith), agree_at 2 a (omega arith), agree_at 3 a (omega arith)) in
    rw style (ap (λ body. block_with (block_style cs) (further 2 body)) (block_local 0 _ (drop 2 cs) (drop 2 ds) (agree_drop 2 b) (omega arith)))

-- ---- words

white_row : (cs ds : List ℕ) → Local 1 white_space cs ds
unfolding Local
white_row cs ds h a = ap (lexeme_of Whitespace) (prefix_len_local is_whitespace _ cs ds a (omega arith))

plain_row : (cs ds : List ℕ) → Local 1 plain_word cs ds
unfolding Local
plain_row cs ds h a =
    rw (identifier_local _ cs ds a (omega arith), agree_at (identifier_len cs) a (omega arith))

marked_row : (kind : TokenKind) (cs ds : List ℕ) → Local 1 (marked_word kind) cs ds
unfolding Local
marked_row kind cs ds h a =
    let b : Agree (2 + (identifier_len (drop 2 cs) + 2)) cs ds = agree_less _ a (omega arith) in
    ap (λ n. lexeme_of kind (2 + n)) (identifier_local _ (drop 2 cs) (drop 2 ds) (agree_drop 2 b) (omega arith))

word_row : (cs ds : List ℕ) → Local 1 word cs ds
word_row cs ds =
    local_if 1 cs ds (λ xs. begins "r#" xs && is_id_start (char_at xs 2)) _ _
    (λ a. rw (agree_at 0 a (omega arith), agree_at 1 a (omega arith), agree_at 2 a (omega arith))) (λ h. marked_row RawIdent cs ds)
    (λ h. local_if 1 cs ds (λ xs. begins "r#" xs || begins "r\"" xs) _ _
    (λ a. rw (agree_at 0 a (omega arith), agree_at 1 a (omega arith))) (λ h. raw_row RawStr 1 cs ds)
    (λ h. local_if 1 cs ds (begins "b'") _ _
    (λ a. rw (agree_at 0 a (omega arith), agree_at 1 a (omega arith))) (λ h. quoted_row Byte 2 cs ds)
    (λ h. local_if 1 cs ds (begins "b\"") _ _
    (λ a. rw (agree_at 0 a (omega arith), agree_at 1 a (omega arith))) (λ h. string_row ByteStr 2 cs ds)
    (λ h. local_if 1 cs ds (begins "c\"") _ _
    (λ a. rw (agree_at 0 a (omega arith), agree_at 1 a (omega arith))) (λ h. string_row CStr 2 cs ds)
    (λ h. local_if 1 cs ds (λ xs. begins "br#" xs || begins "br\"" xs) _ _
    (λ a. rw (agree_at 0 a (omega arith), agree_at 1 a (omega arith), agree_at 2 a (omega arith))) (λ h. raw_row RawByteStr 2 cs ds)
    (λ h. local_if 1 cs ds (λ xs. begins "cr#" xs || begins "cr\"" xs) _ _
    (λ a. rw (agree_at 0 a (omega arith), agree_at 1 a (omega arith), agree_at 2 a (omega arith))) (λ h. raw_row RawCStr 2 cs ds)
    (λ h. local_if 1 cs ds (λ xs. begins "k#" xs && is_id_start (char_at xs 2)) _ _
    (λ a. rw (agree_at 0 a (omega arith), agree_at 1 a (omega arith), agree_at 2 a (omega arith))) (λ h. marked_row ForcedKeywordIdent cs ds)
    (λ h. plain_row cs ds))))))))

-- ---- what begins with `'`

-- what is read where n characters from the `'` on are a name, a number or neither
abbrev pub name_at : Bool → ℕ → List ℕ → Lexeme
name_at numbered n cs =
    if is "'" (char_at cs n) then bare (Char true) (n + 1) cs
    else if is "#" (char_at cs n) && not numbered then lexeme_of UnknownPrefixLifetime n
    else lexeme_of (Lifetime numbered) n

pub name_long : (numbered : Bool) (n : ℕ) (cs : List ℕ) → n ≤ (name_at numbered n cs).size
name_long numbered n cs =
    choice (λ (s : Lexeme). n ≤ s.size) (is "'" (char_at cs n)) _ _ (λ h. omega arith)
    (λ h. choice (λ (s : Lexeme). n ≤ s.size) (is "#" (char_at cs n) && not numbered) _ _ (λ k. omega arith) (λ k. omega arith))

name_same : (numbered : Bool) (n : ℕ) (cs ds : List ℕ) → Agree (n + 1) cs ds → name_at numbered n ds ≡ name_at numbered n cs
name_same numbered n cs ds a = rw (agree_at n a (omega arith), bare_local (Char true) (n + 1) cs ds a)

-- a lifetime that isn't raw, or a character
abbrev pub name : List ℕ → Lexeme
name cs = name_at (is_digit (char_at cs 1)) (2 + continues (drop 2 cs)) cs

name_row : (cs ds : List ℕ) → Local 2 name cs ds
unfolding Local
name_row cs ds h a =
    let n : ℕ = 2 + continues (drop 2 cs) in
    let long = name_long (is_digit (char_at cs 1)) n cs in
    let b : Agree (2 + (continues (drop 2 cs) + 2)) cs ds = agree_less _ a (omega arith) in
    rw (agree_at 1 a (omega arith), prefix_len_local is_id_continue _ (drop 2 cs) (drop 2 ds) (agree_drop 2 b) (omega arith))
    (name_same (is_digit (char_at cs 1)) n cs ds (agree_less (n + 1) a (omega arith)))

raw_lifetime_row : (cs ds : List ℕ) → Local 2 (λ xs. lexeme_of RawLifetime (3 + continues (drop 3 xs))) cs ds
unfolding Local
raw_lifetime_row cs ds h a =
    let b : Agree (3 + (continues (drop 3 cs) + 2)) cs ds = agree_less _ a (omega arith) in
    ap (λ n. lexeme_of RawLifetime (3 + n)) (prefix_len_local is_id_continue _ (drop 3 cs) (drop 3 ds) (agree_drop 3 b) (omega arith))

lifetime_long : (cs : List ℕ) → 2 ≤ (lifetime cs).size
lifetime_long cs =
    let long = name_long (is_digit (char_at cs 1)) (2 + continues (drop 2 cs)) cs in
    choice (λ (s : Lexeme). 2 ≤ s.size) (begins "'r#" cs && is_id_start (char_at cs 3)) _ _ (λ h. omega arith) (λ h. omega (arith, long))

lifetime_local : (cs ds : List ℕ) → Local 2 lifetime cs ds
lifetime_local cs ds =
    local_if 2 cs ds (λ xs. begins "'r#" xs && is_id_start (char_at xs 3)) _ _
    (λ a. rw (agree_at 0 a (omega arith), agree_at 1 a (omega arith), agree_at 2 a (omega arith), agree_at 3 a (omega arith)))
    (λ h. raw_lifetime_row cs ds) (λ h. name_row cs ds)

lifetime_row : (cs ds : List ℕ) → Local 1 lifetime cs ds
unfolding Local
lifetime_row cs ds h a = lifetime_local cs ds (lifetime_long cs) a

quote_row : (cs ds : List ℕ) → Local 1 quote cs ds
quote_row cs ds =
    local_if 1 cs ds begins_lifetime _ _ (λ a. rw (agree_at 1 a (omega arith), agree_at 2 a (omega arith)))
    (λ h. lifetime_row cs ds) (λ h. quoted_row Char 1 cs ds)

-- ---- all rows

one_char_row : (cs ds : List ℕ) → Local 1 (λ xs. lexeme_of (one_char_kind (char_at xs 0)) 1) cs ds
unfolding Local
one_char_row cs ds h a = ap (λ c. lexeme_of (one_char_kind c) 1) (agree_at 0 a (omega arith))

lexeme_row : (cs ds : List ℕ) → is "#" (char_at cs 0) ≡ false → Local 1 lexeme cs ds
lexeme_row cs ds no_hash =
    local_if 1 cs ds (begins "//") _ _ (λ a. rw (agree_at 0 a (omega arith), agree_at 1 a (omega arith))) (λ h. line_row cs ds h)
    (λ h. local_if 1 cs ds (begins "/*") _ _ (λ a. rw (agree_at 0 a (omega arith), agree_at 1 a (omega arith))) (λ h. block_row cs ds)
    (λ h. local_if 1 cs ds (λ xs. is_whitespace (char_at xs 0)) _ _ (λ a. ap is_whitespace (agree_at 0 a (omega arith))) (λ h. white_row cs ds)
    (λ h. local_if 1 cs ds (λ xs. is_id_start (char_at xs 0)) _ _ (λ a. ap is_id_start (agree_at 0 a (omega arith))) (λ h. word_row cs ds)
    (λ h. local_if 1 cs ds (λ xs. is_digit (char_at xs 0)) _ _ (λ a. ap is_digit (agree_at 0 a (omega arith))) (λ h. numeral_local cs ds)
    (λ h. local_if 1 cs ds begins_guarded _ _ (λ a. rw (agree_at 0 a (omega arith), no_hash) refl) (λ h. guarded_row cs ds)
    (λ h. local_if 1 cs ds (λ xs. is "'" (char_at xs 0)) _ _ (λ a. ap (is "'") (agree_at 0 a (omega arith))) (λ h. quote_row cs ds)
    (λ h. local_if 1 cs ds (λ xs. is "\"" (char_at xs 0)) _ _ (λ a. ap (is "\"") (agree_at 0 a (omega arith))) (λ h. string_row Str 1 cs ds)
    (λ h. one_char_row cs ds))))))))

-- whether a guarded string begins hangs on the run, and the character after it
guarded_test : (cs ds : List ℕ) → Agree (1 + prefix_len (is "#") cs) cs ds → begins_guarded ds ≡ begins_guarded cs
guarded_test cs ds a =
    rw (prefix_len_local (is "#") _ cs ds a (omega arith), agree_at 0 a (omega arith), agree_at (prefix_len (is "#") cs) a (omega arith))

-- all hashes of a run are ahead of its first, or that itself
run_ahead : (cs : List ℕ) → is "#" (char_at cs 0) ≡ true → prefix_len (is "#") cs ≤ 1 + run_on (take 1 cs) (drop 1 cs)
run_ahead [] e = absurd (let t : false ≡ true = e in cc)
run_ahead (c ∷ cs) e = rw e (omega arith)

-- a guarded string, or a hash
abbrev row : Bool → List ℕ → Lexeme
row u xs = if u then guarded xs else lexeme_of Pound 1

hash_row : (cs ds : List ℕ) → is "#" (char_at cs 0) ≡ true → Agree ((hash cs).size + look_ahead (take (hash cs).size cs) (drop (hash cs).size cs)) cs ds → hash ds ≡ hash cs
unfolding Local
hash_row cs ds e a = by_test (begins_guarded cs) refl a
  where
    by_test : (u : Bool) → begins_guarded cs ≡ u → Agree ((row u cs).size + look_ahead (take (row u cs).size cs) (drop (row u cs).size cs)) cs ds → hash ds ≡ row u cs
    by_test true f a =
        let long = guarded_long cs in
        ap (λ u. row u ds) (guarded_test cs ds (agree_less _ a (omega (arith, long))) ∙ f) ∙ guarded_row cs ds (omega (arith, long)) (agree_less _ a (omega arith))
    by_test false f a = (let run = run_ahead cs e in ap (λ u. row u ds) (guarded_test cs ds (agree_less _ a (omega (arith, run))) ∙ f))

-- a lexeme depends on no more than the characters that it looks ahead at
pub lexeme_local : (cs ds : List ℕ) → 1 ≤ (lexeme cs).size → Agree ((lexeme cs).size + look_ahead (take (lexeme cs).size cs) (drop (lexeme cs).size cs)) cs ds →
    lexeme ds ≡ lexeme cs
unfolding Local
lexeme_local cs ds h a = by_test (is "#" (char_at cs 0)) refl
  where
    by_test : (u : Bool) → is "#" (char_at cs 0) ≡ u → lexeme ds ≡ lexeme cs
    by_test true e =
        let first : char_at cs 0 ≡ 35 = grind (arith, nat_tests) in
        let same = by_hash cs first in
        let b = subst (λ (w : Lexeme). Agree (w.size + look_ahead (take w.size cs) (drop w.size cs)) cs ds) same a in
        by_hash ds (agree_at 0 a (omega (arith, h)) ∙ first) ∙ hash_row cs ds e b ∙ sym same
    by_test false e = lexeme_row cs ds e h (agree_less _ a (omega arith))
