-- What a cursor's calls read.
use Rattle.std.proofs.Common.{◌≡◌, ℕ, suc, ◌+◌, ◌-◌, ◌≤◌, ◌==◌, min, Bool, true, false, List, [], ◌∷◌, length, drop, Option, Some, None, refl, sym, ◌∙◌, ap, subst, arith, chars, encode_utf8_all, IsUtf8, one-add, if◌then◌else◌}
use Rattle.std.specs.List.{prefix_len, list_all}
use Rattle.std.proofs.lemmas.List.{drop-drop}
use Rattle.std.proofs.lemmas.List.Sums.{prefix_len-le-length}
use Rattle.std.proofs.lemmas.Bool.Decides.{nat_tests}
use Rattle.std.proofs.lemmas.Str.{encodes-chars}
use Rattle.rustc_lexer.specs.Character.{char_at, is, identifier_len}
use Rattle.rustc_lexer.specs.Cursors.{next_token, past_token, next_guarded, past_guarded, pending_past, guarded_of, later_suffix, suffix_of, bytes_of}
use Rattle.rustc_lexer.specs.Lexeme.{Lexeme, lexeme}
use Rattle.rustc_lexer.specs.Literals.{hashes, string_body, guard_end, guarded_body, guarded_string}
use Rattle.rustc_lexer.specs.Scanned.{Scanned, further, IsRead}
use Rattle.rustc_lexer.specs.declared.token.TokenKind.{TokenKind}
use Rattle.rustc_lexer.proofs.CutLemmas.{behind_chars}
use Rattle.rustc_lexer.proofs.SuffixLemmas.{suffix_inside}
use Rattle.rustc_lexer.proofs.TokenLemmas.{bytes_passed, none_left, chars_at_most}
use Rattle.rustc_lexer.proofs.RunLemmas.{first_of_drop}
use Rattle.rustc_lexer.proofs.ReadLemmas.{read_further, is_other}

-- what is left behind n characters, in bytes
pub rest_in_bytes : (text rest : List ℕ) (n : ℕ) → IsUtf8 text → IsUtf8 rest → chars rest ≡ drop n (chars text) → rest ≡ drop (bytes_of n text) text
rest_in_bytes text rest n u v e =
    let behind = behind_chars text n u in
    sym (encodes-chars rest v) ∙ ap encode_utf8_all (e ∙ sym behind.rest) ∙ encodes-chars (drop (bytes_of n text) text) behind.rest_utf8

pub record Advances (text rest : List ℕ) (pending : ℕ) (kind : TokenKind) : Type 0 where
  pub shorter : length rest ≤ length text
  pub suffix : suffix_of kind ≤ length text - length rest
  pub token : next_token (record { rest = text; pending = pending }) ≡ record { kind = later_suffix pending kind; len = pending + (length text - length rest) }
  pub past : past_token (record { rest = text; pending = pending }) ≡ record { rest = rest; pending = 0 }

pub advances : (text rest : List ℕ) (pending : ℕ) (kind : TokenKind) → IsUtf8 text → (length text ≡ 0 → ⊥) →
    IsRead (lexeme (chars text)) text kind rest → Advances text rest pending kind
advances text rest pending kind u some r =
    let w : Lexeme = lexeme (chars text) in
    let len : length text ≡ bytes_of w.size text + length rest = bytes_passed text rest w.size u r.utf8 r.rest in
    let by : bytes_of w.size text ≡ length text - length rest = omega (arith, len) in
    let full : (length text == 0) ≡ false = grind (arith, nat_tests) in
    record {
      shorter = omega (arith, len);
      suffix = (let s = suffix_inside (chars text) in rw (r.value) (omega (arith, by, s)));
      token = rw (full, r.value, ← by);
      past = rw full (ap (λ xs. record { rest = xs; pending = 0 }) (sym (rest_in_bytes text rest w.size u r.utf8 r.rest)));
    }

-- ---- hashes that close

pub record ClosingOn (n : ℕ) (cs : List ℕ) (left : ℕ) (ds : List ℕ) : Type 0 where
  pub rest : drop (min left (hashes ds).size) ds ≡ drop (min n (hashes cs).size) cs
  pub missing : left - min left (hashes ds).size ≡ n - min n (hashes cs).size

-- ---- identifiers

-- a text has no bytes where it has no characters
no_bytes : (ds : List ℕ) → IsUtf8 ds → (length ds == 0) ≡ (length (chars ds) == 0)
no_bytes ds u = by_chars (chars ds) refl
  where
    by_chars : (cs : List ℕ) → chars ds ≡ cs → (length ds == 0) ≡ (length cs == 0)
    by_chars [] e = (let none = none_left ds u e in rw none)
    by_chars (c ∷ cs) e = (let some : 1 ≤ length ds = omega (arith, ap length e, chars_at_most ds u) in grind (arith, nat_tests))

not_zero : (n : ℕ) → (suc n == 0) ≡ false
not_zero n = grind (arith, nat_tests)

none_behind : (p : ℕ → Bool) (cs : List ℕ) → (length (drop (prefix_len p cs) cs) == 0) ≡ list_all p cs
none_behind p [] = refl
none_behind p (c ∷ cs) = by_first (p c) refl (none_behind p cs)
  where
    by_first : (b : Bool) → p c ≡ b → (length (drop (prefix_len p cs) cs) == 0) ≡ list_all p cs →
        (length (drop (prefix_len p (c ∷ cs)) (c ∷ cs)) == 0) ≡ list_all p (c ∷ cs)
    by_first true e again = rw (e, one-add) again
    by_first false e again = rw e (not_zero (length cs))

-- all characters pass a test where none is left behind those that do
pub all_passed : (p : ℕ → Bool) (left cs : List ℕ) → IsUtf8 left → chars left ≡ drop (prefix_len p cs) cs → (length left == 0) ≡ list_all p cs
all_passed p left cs u e = no_bytes left u ∙ ap (λ xs. length xs == 0) e ∙ none_behind p cs

-- ---- guarded strings

pub guarded_read : (text body mark closed left : List ℕ) (n : ℕ) → chars body ≡ drop 1 (chars text) →
    IsRead (string_body (chars body)) body true mark → chars closed ≡ drop (min n (hashes (chars mark)).size) (chars mark) →
    chars left ≡ drop (identifier_len (chars closed)) (chars closed) → IsUtf8 left → IsRead (guarded_body n (chars text)) text true left
guarded_read text body mark closed left n e r hashes_on suffix u =
    let cs : List ℕ = chars text in
    let b : Scanned Bool = further 1 (string_body (drop 1 cs)) in
    let all : IsRead b text true mark =
    subst (λ xs. IsRead (further 1 (string_body xs)) text true mark) e (read_further (string_body (chars body)) text body mark true 1 e r) in
    let ds : List ℕ = drop b.size cs in
    let k : ℕ = min n (hashes ds).size in
    let closing : chars closed ≡ drop k ds = hashes_on ∙ ap (λ xs. drop (min n (hashes xs).size) xs) all.rest in
    let behind : chars left ≡ drop (identifier_len (drop k ds)) (drop k ds) = suffix ∙ ap (λ xs. drop (identifier_len xs) xs) closing in
    let rest : chars left ≡ drop (b.size + (k + identifier_len (drop k ds))) cs =
    behind ∙ drop-drop (identifier_len (drop k ds)) k ds ∙ drop-drop (k + identifier_len (drop k ds)) b.size cs in
    let ends : b.value ≡ true = sym all.value in
    record { value = all.value; rest = rw ends rest; utf8 = u }

pub guarded_whole : (text opening left : List ℕ) (n : ℕ) (terminated : Bool) → IsRead (hashes (chars text)) text n opening →
    char_at (chars opening) 0 ≡ 34 → IsRead (guarded_body n (chars opening)) opening terminated left →
    IsRead (guarded_string (chars text)) text (Some terminated) left
guarded_whole text opening left n terminated h quote r =
    let cs : List ℕ = chars text in
    let k : ℕ = (hashes cs).size in
    let at_quote : char_at cs k ≡ 34 = sym (first_of_drop cs (chars opening) k h.rest) ∙ quote in
    let same : guarded_body n (chars opening) ≡ guarded_body k (drop k cs) = ap (λ m. guarded_body m (chars opening)) h.value ∙ ap (guarded_body k) h.rest in
    let all : IsRead (further k (guarded_body k (drop k cs))) text terminated left =
    subst (λ s. IsRead (further k s) text terminated left) same (read_further (guarded_body n (chars opening)) text opening left terminated k h.rest r) in
    record { value = rw at_quote (ap Some all.value); rest = rw at_quote all.rest; utf8 = all.utf8 }

pub no_guarded : (text opening : List ℕ) (n : ℕ) → IsRead (hashes (chars text)) text n opening → (char_at (chars opening) 0 ≡ 34 → ⊥) →
    IsRead (guarded_string (chars text)) text None opening
no_guarded text opening n h other =
    let cs : List ℕ = chars text in
    let apart : (char_at cs (hashes cs).size == 34) ≡ false = is_other 34 _ _ (first_of_drop cs (chars opening) (hashes cs).size h.rest) other in
    record { value = rw apart; rest = rw apart h.rest; utf8 = h.utf8 }

pub record Guards (text rest : List ℕ) (pending n : ℕ) (found : Option Bool) : Type 0 where
  pub shorter : length rest ≤ length text
  pub few : n ≤ length text
  pub guarded : next_guarded (record { rest = text; pending = pending }) ≡ guarded_of n pending (length text - length rest) found
  pub past : past_guarded (record { rest = text; pending = pending }) ≡ record { rest = rest; pending = pending_past (pending + (length text - length rest)) found }

pub guards : (text rest opening : List ℕ) (pending n : ℕ) (found : Option Bool) → IsUtf8 text → IsRead (hashes (chars text)) text n opening →
    IsRead (guarded_string (chars text)) text found rest → Guards text rest pending n found
guards text rest opening pending n found u h r =
    let size : ℕ = (guarded_string (chars text)).size in
    let len : length text ≡ bytes_of size text + length rest = bytes_passed text rest size u r.utf8 r.rest in
    let by : bytes_of size text ≡ length text - length rest = omega (arith, len) in
    record {
      shorter = omega (arith, len);
      few = omega (arith, h.value, prefix_len-le-length (is "#") (chars text), chars_at_most text u);
      guarded = rw (h.value, r.value, ← by);
      past = ap (λ xs. record { rest = xs; pending = pending_past (pending + bytes_of size text) (guarded_string (chars text)).value }) (sym (rest_in_bytes text rest size u r.utf8 r.rest))
          ∙ ap (λ m. record { rest = rest; pending = pending_past (pending + m) (guarded_string (chars text)).value }) by
          ∙ ap (λ f. record { rest = rest; pending = pending_past (pending + (length text - length rest)) f }) (sym r.value);
    }

-- the same where the string is not terminated
pub guarded_unended : (n : ℕ) (text body mark : List ℕ) → chars body ≡ drop 1 (chars text) → IsRead (string_body (chars body)) body false mark →
    IsRead (guarded_body n (chars text)) text false mark
guarded_unended n text body mark e r =
    let cs : List ℕ = chars text in
    let b : Scanned Bool = further 1 (string_body (drop 1 cs)) in
    let all : IsRead b text false mark = subst (λ xs. IsRead (further 1 (string_body xs)) text false mark) e (read_further (string_body (chars body)) text body mark false 1 e r) in
    record { value = all.value; rest = all.rest ∙ ap (λ k. drop k cs) (size_is b.value b.size (b.size + guard_end n (drop b.size cs)) all.value); utf8 = all.utf8 }
  where
    size_is : (v : Bool) (s t : ℕ) → false ≡ v → s ≡ (if v then t else s)
    size_is false s t e = refl
    size_is true s t e = absurd (let no : false ≡ true = e in cc)
