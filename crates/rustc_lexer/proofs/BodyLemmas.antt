-- The bodies of comments and literals, one step on.
use Rattle.std.proofs.Common.{◌≡◌, ℕ, zero, suc, ◌+◌, ◌-◌, ◌<◌, ◌≤◌, ◌&&◌, ◌==◌, not, nat_le, Bool, true, false, List, [], ◌∷◌, length, drop, chars, IsUtf8, refl, sym, ◌∙◌, ap, subst, arith, true≢false, if◌then◌else◌}
use Rattle.std.specs.List.{prefix_len, position_or_len}
use Rattle.std.proofs.lemmas.Bool.Decides.{nat_tests}
use Rattle.std.proofs.lemmas.List.{drop-drop, length-drop}
use Rattle.memchr.specs.Find.{is_byte, is_byte2}
use Rattle.rustc_lexer.specs.Character.{char_at, is}
use Rattle.rustc_lexer.specs.Scanned.{Scanned, further, IsRead}
use Rattle.rustc_lexer.specs.Comments.{block_body}
use Rattle.rustc_lexer.specs.Literals.{quoted_rest, string_body, raw_body, raw_form, hashes, hashes_of}
use Rattle.rustc_lexer.proofs.EscapeLemmas.{string_from, string_same, quoted_from, quoted_same}
use Rattle.rustc_lexer.proofs.RunLemmas.{first_of_drop}
use Rattle.rustc_lexer.proofs.ReadLemmas.{Leads, leads_on, read_at_end}

drop_more : (n c : ℕ) (cs : List ℕ) → drop n cs ≡ drop (1 + n) (c ∷ cs)
drop_more n c cs = drop-drop n 1 (c ∷ cs)

-- ---- searches

-- the first character of what follows those that fail a test passes it
pub found_passes : (p : ℕ → Bool) (cs : List ℕ) (d : ℕ) (ds : List ℕ) → drop (position_or_len p cs) cs ≡ d ∷ ds → p d ≡ true
found_passes p [] d ds e = let t : [] ≡ d ∷ ds = e in (cc)
found_passes p (c ∷ cs) d ds e = by_test (p c) refl e (λ again. found_passes p cs d ds again)
  where
    by_test : (b : Bool) → p c ≡ b → drop (if not b then 1 + position_or_len p cs else 0) (c ∷ cs) ≡ d ∷ ds →
        (drop (position_or_len p cs) cs ≡ d ∷ ds → p d ≡ true) → p d ≡ true
    by_test true h e again = let t : c ≡ d = ap (λ xs. char_at xs 0) e in ap p (sym t) ∙ h
    by_test false h e again = again (drop_more (position_or_len p cs) c cs ∙ e)

-- ---- bodies, one step on

-- a body that takes one character and goes on
one_more : {A : Type 0} (s : Scanned A) (c : ℕ) (cs : List ℕ) → Leads (further 1 s) (c ∷ cs) s cs
one_more s c cs = record { value = refl; rest = drop_more s.size c cs }

two_more : {A : Type 0} (s : Scanned A) (c d : ℕ) (cs : List ℕ) → Leads (further 2 s) (c ∷ d ∷ cs) s cs
two_more s c d cs = record { value = refl; rest = drop-drop s.size 2 (c ∷ d ∷ cs) }

stays : {A : Type 0} (s : Scanned A) (cs : List ℕ) → Leads s cs s cs
stays s cs = record { value = refl; rest = refl }

-- where nothing is passed over
at_once : (f : List ℕ → Scanned Bool) (cs : List ℕ) (k : ℕ) → k ≡ 0 → Leads (f cs) cs (f (drop k cs)) (drop k cs)
at_once f cs k e = rw e (stays (f cs) cs)

-- ---- strings

-- characters that are no quote and no escape are passed over
string_from_plain : (cs : List ℕ) →
    Leads (string_from false cs) cs
    (string_from false (drop (position_or_len (is_byte2 34 92) cs) cs)) (drop (position_or_len (is_byte2 34 92) cs) cs)
string_from_plain [] = stays _ []
string_from_plain (c ∷ cs) = by_test (is "\"" c) (is "\\" c) refl refl (string_from_plain cs)
  where
    by_test : (a b : Bool) → is "\"" c ≡ a → is "\\" c ≡ b →
        Leads (string_from false cs) cs
        (string_from false (drop (position_or_len (is_byte2 34 92) cs) cs)) (drop (position_or_len (is_byte2 34 92) cs) cs) →
        Leads (string_from false (c ∷ cs)) (c ∷ cs)
        (string_from false (drop (position_or_len (is_byte2 34 92) (c ∷ cs)) (c ∷ cs))) (drop (position_or_len (is_byte2 34 92) (c ∷ cs)) (c ∷ cs))
    by_test true b e f again = at_once (string_from false) (c ∷ cs) (position_or_len (is_byte2 34 92) (c ∷ cs)) (rw e)
    by_test false true e f again = at_once (string_from false) (c ∷ cs) (position_or_len (is_byte2 34 92) (c ∷ cs)) (rw (e, f))
    by_test false false e f again =
        rw (e, f) (subst (λ ds. Leads (further 1 (string_from false cs)) (c ∷ cs) (string_from false ds) ds)
        (drop_more (position_or_len (is_byte2 34 92) cs) c cs) (leads_on (one_more (string_from false cs) c cs) again))

pub string_plain : (cs : List ℕ) →
    Leads (string_body cs) cs
    (string_body (drop (position_or_len (is_byte2 34 92) cs) cs)) (drop (position_or_len (is_byte2 34 92) cs) cs)
string_plain cs = rw (string_same cs, string_same (drop (position_or_len (is_byte2 34 92) cs) cs)) (string_from_plain cs)

pub string_escape : (cs : List ℕ) → Leads (string_body (92 ∷ cs)) (92 ∷ cs) (string_body (drop 1 cs)) (drop 1 cs)
string_escape [] = record { value = refl; rest = refl }
string_escape (c ∷ cs) = two_more (string_body cs) 92 c cs

-- a quote ends it
string_done : (cs : List ℕ) → string_body (34 ∷ cs) ≡ record { value = true; size = 1 }
string_done [] = refl
string_done (c ∷ cs) = refl

module _ (rest mark after : List ℕ) (c : ℕ) (found : chars mark ≡ drop (position_or_len (is_byte2 34 92) (chars rest)) (chars rest)) where
  pub string_at_mark : Leads (string_body (chars rest)) (chars rest) (string_body (chars mark)) (chars mark)
  string_at_mark = subst (λ cs. Leads (string_body (chars rest)) (chars rest) (string_body cs) cs) (sym found) (string_plain (chars rest))

  pub string_goes_on : (next : List ℕ) → chars mark ≡ c ∷ chars after → (c ≡ 34 → ⊥) → chars next ≡ drop 1 (chars after) →
      Leads (string_body (chars rest)) (chars rest) (string_body (chars next)) (chars next)
  string_goes_on next here no_quote on =
      let passes = found_passes (is_byte2 34 92) (chars rest) c (chars after) (sym found ∙ here) in
      let escape : c ≡ 92 = grind (arith, nat_tests) in
      let lead : Leads (string_body (chars mark)) (chars mark) (string_body (chars next)) (chars next) =
      rw (here, escape, on) (string_escape (chars after)) in
      leads_on string_at_mark lead

pub string_ends : (mark after : List ℕ) (c : ℕ) → chars mark ≡ c ∷ chars after → c ≡ 34 → IsUtf8 after → IsRead (string_body (chars mark)) mark true after
string_ends mark after c here quote u = (let done = string_done (chars after) in record { value = rw (here, quote, done); rest = rw (here, quote, done); utf8 = u })

pub string_unended : (mark : List ℕ) → chars mark ≡ [] → IsUtf8 mark → IsRead (string_body (chars mark)) mark false mark
string_unended mark none u = record { value = rw none; rest = rw none; utf8 = u }

-- ---- characters

from_escape : (cs : List ℕ) → Leads (quoted_from false (92 ∷ cs)) (92 ∷ cs) (quoted_from false (drop 1 cs)) (drop 1 cs)
from_escape [] = record { value = refl; rest = refl }
from_escape (c ∷ cs) = leads_on (one_more (further 1 (quoted_from false cs)) 92 (c ∷ cs)) (one_more (quoted_from false cs) c cs)

pub quoted_escape : (rest after next : List ℕ) (c : ℕ) → chars rest ≡ c ∷ chars after → c ≡ 92 → chars next ≡ drop 1 (chars after) →
    Leads (quoted_from false (chars rest)) (chars rest) (quoted_from false (chars next)) (chars next)
quoted_escape rest after next c here escape on = rw (here, escape, on) (from_escape (chars after))

-- a line feed breaks off where no quote follows it
pub quoted_broken : (text rest after : List ℕ) (c : ℕ) →
    Leads (quoted_from false (chars text)) (chars text) (quoted_from false (chars rest)) (chars rest) → IsUtf8 rest →
    chars rest ≡ c ∷ chars after → c ≡ 10 → (char_at (chars after) 0 == 39) ≡ false → IsRead (quoted_rest (chars text)) text false rest
quoted_broken text rest after c lead u here feed other =
    let stop : quoted_from false (chars rest) ≡ record { value = false; size = 0 } = rw (here, feed, other) refl in
    let done : IsRead (quoted_from false (chars rest)) rest false rest =
    subst (λ s. IsRead s rest false rest) (sym stop) (record { value = refl; rest = refl; utf8 = u }) in
    subst (λ s. IsRead s text false rest) (sym (quoted_same (chars text))) (read_at_end lead done)

-- ---- raw strings

pub raw_plain : (n : ℕ) (cs : List ℕ) →
    Leads (raw_body n cs) cs (raw_body n (drop (position_or_len (is_byte 34) cs) cs)) (drop (position_or_len (is_byte 34) cs) cs)
raw_plain n [] = stays _ []
raw_plain n (c ∷ cs) = by_test (is "\"" c) refl (raw_plain n cs)
  where
    by_test : (a : Bool) → is "\"" c ≡ a →
        Leads (raw_body n cs) cs (raw_body n (drop (position_or_len (is_byte 34) cs) cs)) (drop (position_or_len (is_byte 34) cs) cs) →
        Leads (raw_body n (c ∷ cs)) (c ∷ cs)
        (raw_body n (drop (position_or_len (is_byte 34) (c ∷ cs)) (c ∷ cs))) (drop (position_or_len (is_byte 34) (c ∷ cs)) (c ∷ cs))
    by_test true e again = at_once (raw_body n) (c ∷ cs) (position_or_len (is_byte 34) (c ∷ cs)) (rw e)
    by_test false e again =
        rw e (subst (λ ds. Leads (further 1 (raw_body n cs)) (c ∷ cs) (raw_body n ds) ds)
        (drop_more (position_or_len (is_byte 34) cs) c cs) (leads_on (one_more (raw_body n cs) c cs) again))

pub raw_quote : (n : ℕ) (cs : List ℕ) → nat_le n (prefix_len (is "#") cs) ≡ false → Leads (raw_body n (34 ∷ cs)) (34 ∷ cs) (raw_body n cs) cs
raw_quote n cs h = rw h (one_more (raw_body n cs) 34 cs)

module _ (n : ℕ) (rest mark : List ℕ) (found : chars mark ≡ drop (position_or_len (is_byte 34) (chars rest)) (chars rest)) where
  pub raw_at_mark : Leads (raw_body n (chars rest)) (chars rest) (raw_body n (chars mark)) (chars mark)
  raw_at_mark = subst (λ cs. Leads (raw_body n (chars rest)) (chars rest) (raw_body n cs) cs) (sym found) (raw_plain n (chars rest))

  at_quote : (after : List ℕ) (c : ℕ) → chars mark ≡ c ∷ chars after → c ≡ 34
  at_quote after c here =
      let passes = found_passes (is_byte 34) (chars rest) c (chars after) (sym found ∙ here) in grind (arith, nat_tests)

  pub raw_goes_on : (after : List ℕ) (c : ℕ) → chars mark ≡ c ∷ chars after → nat_le n (prefix_len (is "#") (chars after)) ≡ false →
      Leads (raw_body n (chars rest)) (chars rest) (raw_body n (chars after)) (chars after)
  raw_goes_on after c here few =
      let lead : Leads (raw_body n (chars mark)) (chars mark) (raw_body n (chars after)) (chars after) =
      rw (here, at_quote after c here) (raw_quote n (chars after) few) in
      leads_on raw_at_mark lead

  pub raw_ends : (after end : List ℕ) (c : ℕ) → chars mark ≡ c ∷ chars after → nat_le n (prefix_len (is "#") (chars after)) ≡ true →
      chars end ≡ drop n (chars after) → IsUtf8 end → IsRead (raw_body n (chars mark)) mark true end
  raw_ends after end c here hashes left u =
      let quote = at_quote after c here in
      record {
        value = rw (here, quote, hashes);
        rest = rw (here, quote, hashes) (left ∙ drop_more n 34 (chars after));
        utf8 = u;
      }

pub raw_unended : (n : ℕ) (mark : List ℕ) → chars mark ≡ [] → IsUtf8 mark → IsRead (raw_body n (chars mark)) mark false mark
raw_unended n mark none u = record { value = rw none; rest = rw none; utf8 = u }

pub raw_whole : (text opening body left : List ℕ) (n : ℕ) (terminated : Bool) → IsRead (hashes (chars text)) text n opening →
    char_at (chars opening) 0 ≡ 34 → chars body ≡ drop 1 (chars opening) → IsRead (raw_body n (chars body)) body terminated left →
    IsRead (raw_form (chars text)) text (hashes_of terminated n) left
raw_whole text opening body left n terminated h quote behind r =
    let cs : List ℕ = chars text in
    let k : ℕ = prefix_len (is "#") cs in
    let at_quote : char_at cs k ≡ 34 = sym (first_of_drop cs (chars opening) k h.rest) ∙ quote in
    let here : chars body ≡ drop 1 (drop k cs) = behind ∙ ap (drop 1) h.rest in
    let same : raw_body n (chars body) ≡ raw_body k (drop 1 (drop k cs)) = ap (λ m. raw_body m (chars body)) h.value ∙ ap (raw_body k) here in
    let size : ℕ = (raw_body k (drop 1 (drop k cs))).size in
    let rest : chars left ≡ drop (k + (1 + size)) cs =
    r.rest ∙ ap (λ b. drop b.size (chars body)) same ∙ ap (drop size) here ∙ drop-drop size 1 (drop k cs) ∙ drop-drop (1 + size) k cs in
    record {
      value = rw at_quote (ap (λ b. hashes_of b n) (r.value ∙ ap (λ b. b.value) same) ∙ ap (hashes_of (raw_body k (drop 1 (drop k cs))).value) h.value);
      rest = rw at_quote rest;
      utf8 = r.utf8;
    }

-- ---- lengths

-- what follows a character behind others is shorter, and so is what follows that
pub shorter_behind : (rest mark after : List ℕ) (k c : ℕ) → mark ≡ drop k rest → mark ≡ c ∷ after → length after < length rest
shorter_behind rest mark after k c e f = omega (arith, ap length e, ap length f, length-drop k rest)

pub shorter_still : (rest mark after next : List ℕ) (k c : ℕ) → mark ≡ drop k rest → mark ≡ c ∷ after → next ≡ drop 1 after → length next < length rest
shorter_still rest mark after next k c e f g =
    let l = shorter_behind rest mark after k c e f in omega (arith, l, ap length g, length-drop 1 after)

-- ---- hashes

pub record HashesOn (n : ℕ) (cs : List ℕ) (left : ℕ) (ds : List ℕ) : Type 0 where
  pub fits : nat_le left (prefix_len (is "#") ds) ≡ nat_le n (prefix_len (is "#") cs)
  pub rest : drop left ds ≡ drop n cs

-- ---- comments

pub comment_opens : (depth c : ℕ) (cs : List ℕ) → (is "/" c && is "*" (char_at cs 0)) ≡ true →
    Leads (block_body depth (c ∷ cs)) (c ∷ cs) (block_body (depth + 1) (drop 1 cs)) (drop 1 cs)
comment_opens depth c [] h = absurd (true≢false (sym h ∙ grind (arith, nat_tests)))
comment_opens depth c (d ∷ cs) h =
    let e : depth + 1 ≡ suc depth = omega arith in rw (h, e, block_body) (two_more (block_body (suc depth) cs) c d cs)

pub comment_closes : (depth c : ℕ) (cs : List ℕ) → (is "/" c && is "*" (char_at cs 0)) ≡ false →
    (is "*" c && is "/" (char_at cs 0)) ≡ true → (depth ≡ 0 → ⊥) →
    Leads (block_body depth (c ∷ cs)) (c ∷ cs) (block_body (depth - 1) (drop 1 cs)) (drop 1 cs)
comment_closes depth c [] g h n = absurd (true≢false (sym h ∙ grind (arith, nat_tests)))
comment_closes zero c (d ∷ cs) g h n = absurd (n refl)
comment_closes (suc depth) c (d ∷ cs) g h n =
    let e : suc depth - 1 ≡ depth = omega arith in rw (g, h, e, block_body) (two_more (block_body depth cs) c d cs)

pub comment_ends : (c : ℕ) (cs : List ℕ) → (is "/" c && is "*" (char_at cs 0)) ≡ false →
    (is "*" c && is "/" (char_at cs 0)) ≡ true → block_body 0 (c ∷ cs) ≡ record { value = true; size = 2 }
comment_ends c [] g h = absurd (true≢false (sym h ∙ grind (arith, nat_tests)))
comment_ends c (d ∷ cs) g h = rw (g, h, block_body)

pub comment_goes_on : (depth c : ℕ) (cs : List ℕ) → (is "/" c && is "*" (char_at cs 0)) ≡ false →
    (is "*" c && is "/" (char_at cs 0)) ≡ false → Leads (block_body depth (c ∷ cs)) (c ∷ cs) (block_body depth cs) cs
comment_goes_on depth c [] g h = record { value = refl; rest = refl }
comment_goes_on depth c (d ∷ cs) g h = rw (g, h, block_body) (one_more (block_body depth (d ∷ cs)) c (d ∷ cs))

-- what a test has told of the character that it was made of
pub told_of : (test : ℕ → Bool) (d e : ℕ) (answer told : Bool) → answer ≡ test d → d ≡ e → answer ≡ told → test e ≡ told
told_of test d e answer told made is_char is_told = ap test (sym is_char) ∙ sym made ∙ is_told

-- the same over the texts that spell these characters
pub over_texts : (f g : List ℕ → Scanned Bool) {rest next cs ds : List ℕ} → rest ≡ cs → next ≡ ds → Leads (f cs) cs (g ds) ds → Leads (f rest) rest (g next) next
over_texts f g {rest} {next} {cs} {ds} e h l =
    subst (λ xs. Leads (f xs) xs (g next) next) (sym e) (subst (λ xs. Leads (f cs) cs (g xs) xs) (sym h) l)

-- comments inside, and what is left, are no more than the text
pub record HasRoom (depth left whole : ℕ) : Type 0 where
  pub fits : depth + left ≤ whole

pub room_for_one : (depth whole c : ℕ) (rest after : List ℕ) → HasRoom depth (length rest) whole → rest ≡ c ∷ after → depth < whole
room_for_one depth whole c rest after r e = omega (arith, r.fits, ap length e)

pub room_opens : (depth whole c : ℕ) (rest after next : List ℕ) → HasRoom depth (length rest) whole → rest ≡ c ∷ after → next ≡ drop 1 after →
    HasRoom (depth + 1) (length next) whole
room_opens depth whole c rest after next r e f = record { fits = omega (arith, r.fits, ap length e, ap length f, length-drop 1 after) }

pub room_goes_on : (depth whole c : ℕ) (rest after : List ℕ) → HasRoom depth (length rest) whole → rest ≡ c ∷ after → HasRoom depth (length after) whole
room_goes_on depth whole c rest after r e = record { fits = omega (arith, r.fits, ap length e) }

pub room_closes : (depth whole c : ℕ) (rest after next : List ℕ) → HasRoom depth (length rest) whole → rest ≡ c ∷ after → next ≡ drop 1 after →
    HasRoom (depth - 1) (length next) whole
room_closes depth whole c rest after next r e f = record { fits = omega (arith, r.fits, ap length e, ap length f, length-drop 1 after) }
