-- The tokens of a printed text are read where they were printed.
use Rattle.std.proofs.Common.{◌≡◌, ℕ, suc, ◌+◌, ◌-◌, ◌≤◌, Bool, true, false, ◌&&◌, List, [], ◌∷◌, ◌++◌, length, take, drop, refl, sym, ap, ◌∙◌, subst, arith, append_assoc, IsUtf8, if◌then◌else◌, nat_eq}
use Rattle.std.proofs.lemmas.List.{length-append, length-map, length-replicate, take_at, drop_at}
use Rattle.std.proofs.lemmas.Str.{IsUtf8-append, IsUtf8-from_is_utf8}
use Rattle.std.specs.Prelude.{codes, map, replicate}
use Rattle.std.specs.Char.{encode_utf8}
use Rattle.std.specs.List.{slice_range}
use Rattle.std.specs.Str.{chars, is_utf8}
use Rattle.rustc_lexer.specs.Lexing.{tokens_of}
use Rattle.rustc_lexer.specs.declared.token.Token.{Token}
use Rattle.tt_data.specs.Walk.{Step}
use Rattle.tt_data.specs.declared.span.TextRange.{TextRange}
use Rattle.bridge.specs.Printing.{PrintedToken, are_joined, depth_after, ends_line, gap, print_of, printed, step_span, text_from, text_of, visible}
use Rattle.bridge.specs.PrintedRanges.{AreSpelledAt, printed_ranges, range_at, range_of_step, ranges_from, read_ranges}
use Rattle.bridge.specs.TokenShares.{share_of, shared_ranges, token_ranges_from}
use Rattle.bridge.specs.declared.printing.token_share.Share.{Share}
use Rattle.bridge.specs.declared.printing.token_share.Share.TheVariants.{Times, QuoteAndName}
use Rattle.bridge.proofs.BackLemmas.{Back, GapIs, back, blank, nothing, blank_tokens, chars_none, end_tokens, gap_is, quote_gap, quoted_text, quoted_tokens, tail_is, tail_of, text_tail, word_tokens}
use Rattle.bridge.proofs.RangeLemmas.{text_ranges}
use Rattle.bridge.proofs.SeamLaws.{SeamLaws}
use Rattle.bridge.proofs.ShareLemmas.{kind_ranges}
use Rattle.bridge.proofs.SpelledLemmas.{AreSpelled, IsWord, are_spelled, none, quoted, word}

-- ---- a word has all of the range of its token

one_range : (s : Share) (r x : TextRange) → shared_ranges s r ≡ x ∷ [] → shared_ranges s r ≡ r ∷ []
one_range (Times n) r x e =
    let once : n ≡ 1 = sym (length-replicate n r) ∙ ap length e in
    ap (λ n. replicate n r) once
one_range QuoteAndName r x e = absurd (let two : 2 ≡ 1 = ap length e in omega (arith, two))

word_range : (a : PrintedToken) (w : IsWord a) (at : ℕ) (ts : List Token) → token_ranges_from at (w.token ∷ ts) ≡ range_at at a ∷ token_ranges_from (at + length a.text) ts
word_range a w at ts =
    let first = w.reads at [] in
    let one : shared_ranges (share_of w.token.kind) (range_at at a) ≡ (step_span first.read).range ∷ [] =
    sym (kind_ranges w.token.kind (record { kind = w.token.kind; start = at; text = a.text }) []) ∙ ap (map range_of_step) first.is in
    ap (λ n. shared_ranges (share_of w.token.kind) (record { start = at; «end» = at + n }) ++ token_ranges_from (at + n) ts) w.long
    ∙ ap (λ rs. rs ++ token_ranges_from (at + length a.text) ts) (one_range (share_of w.token.kind) (range_at at a) (step_span first.read).range one)

-- ---- what follows a word

-- where the tokens after a printed token are, which ends at an offset
abbrev ranges_behind : ℕ → ℕ → PrintedToken → List PrintedToken → List TextRange
ranges_behind at depth a [] = []
ranges_behind at depth a (b ∷ more) = ranges_from (at + length (gap depth a b)) depth (b ∷ more)

ranges_first : (at depth : ℕ) (a : PrintedToken) (more : List PrintedToken) → ranges_from at depth (a ∷ more) ≡ range_at at a ∷ ranges_behind (at + length a.text) (depth_after depth a.step) a more
ranges_first at depth a [] = refl
ranges_first at depth a (b ∷ more) = refl

-- wherever their text begins, the tokens of the text are where they were printed
abbrev ArePlaced : ℕ → List PrintedToken → Type 0
ArePlaced depth ps = (at : ℕ) → token_ranges_from at (tokens_of (chars (text_from depth ps))) ≡ ranges_from at depth ps

tail_ranges : SeamLaws → (depth : ℕ) (a : PrintedToken) (w : IsWord a) (more : List PrintedToken) → Back depth more → ArePlaced depth more
    → (at : ℕ) → token_ranges_from at (tokens_of (chars (tail_of depth a more))) ≡ ranges_behind at depth a more
tail_ranges laws depth a w [] back placed at = ap (token_ranges_from at) (end_tokens laws)
tail_ranges laws depth a w (b ∷ more) back placed at = by_gap (gap_is depth a b w.no_quote)
  where
    behind : (g : List ℕ) → gap depth a b ≡ g → token_ranges_from at (tokens_of (chars (g ++ text_from depth (b ∷ more)))) ≡ ranges_from (at + length g) depth (b ∷ more)
        → token_ranges_from at (tokens_of (chars (gap depth a b ++ text_from depth (b ∷ more)))) ≡ ranges_from (at + length (gap depth a b)) depth (b ∷ more)
    behind g e is = ap (λ g. token_ranges_from at (tokens_of (chars (g ++ text_from depth (b ∷ more))))) e ∙ is ∙ ap (λ g. ranges_from (at + length g) depth (b ∷ more)) (sym e)

    by_gap : GapIs depth a b → token_ranges_from at (tokens_of (chars (gap depth a b ++ text_from depth (b ∷ more)))) ≡ ranges_from (at + length (gap depth a b)) depth (b ∷ more)
    by_gap (blank g e h) = behind (g ∷ []) e (ap (token_ranges_from at) (blank_tokens laws g (text_from depth (b ∷ more)) h back.no_white) ∙ placed (at + 1))
    by_gap (nothing e j q k) = behind [] e (placed at ∙ ap (λ n. ranges_from n depth (b ∷ more)) (let same : at ≡ at + 0 = omega arith in same))

-- ---- all printed tokens

are_placed : SeamLaws → (depth : ℕ) (ps : List PrintedToken) → AreSpelled ps → ArePlaced depth ps
are_placed laws depth [] none at = ap (λ cs. token_ranges_from at (tokens_of cs)) chars_none
are_placed laws depth (a ∷ more) (word _ _ w rest) at =
    let d : ℕ = depth_after depth a.step in
    let b = back laws d more rest in
    ap (token_ranges_from at) (word_tokens depth a w more (tail_is laws d a w more rest b))
    ∙ word_range a w at (tokens_of (chars (tail_of d a more)))
    ∙ ap (λ rs. range_at at a ∷ rs) (tail_ranges laws d a w more b (are_placed laws d more rest) (at + length a.text))
    ∙ sym (ranges_first at depth a more)
are_placed laws depth (q ∷ a ∷ more) (quoted _ _ _ is text w plain rest) at =
    let d : ℕ = depth_after depth q.step in
    let e : ℕ = depth_after d a.step in
    let b = back laws e more rest in
    let one : length q.text ≡ 1 = ap length text in
    let close : length (gap d q a) ≡ 0 = ap length (quote_gap d q a is) in
    let name_at : at + 1 ≡ at + length q.text + length (gap d q a) = omega (arith, one, close) in
    let stop : at + (w.token.len + 1) ≡ (at + 1) + length a.text = omega (arith, w.long) in
    ap (token_ranges_from at) (quoted_tokens laws depth q a more is text w plain (tail_is laws e a w more rest b))
    ∙ ap (λ n. record { start = at; «end» = at + 1 } ∷ record { start = at + 1; «end» = n } ∷ token_ranges_from n (tokens_of (chars (tail_of e a more)))) stop
    ∙ ap (λ rs. record { start = at; «end» = at + 1 } ∷ range_at (at + 1) a ∷ rs) (tail_ranges laws e a w more b (are_placed laws e more rest) ((at + 1) + length a.text))
    ∙ ap (λ rs. record { start = at; «end» = at + 1 } ∷ rs) (sym (ranges_first (at + 1) d a more))
    ∙ ap (λ n. record { start = at; «end» = at + n } ∷ ranges_from (at + 1) d (a ∷ more)) (sym one)
    ∙ ap (λ n. range_at at q ∷ ranges_from n d (a ∷ more)) name_at

-- ---- the printed text is UTF-8

line_utf8 : IsUtf8 (codes "\n")
unfolding chars is_utf8 encode_utf8
line_utf8 = IsUtf8-from_is_utf8 (codes "\n") refl

none_utf8 : IsUtf8 []
unfolding chars is_utf8 encode_utf8
none_utf8 = IsUtf8-from_is_utf8 [] refl

quote_utf8 : IsUtf8 (39 ∷ [])
unfolding chars is_utf8 encode_utf8
quote_utf8 = IsUtf8-from_is_utf8 (39 ∷ []) refl

space_utf8 : IsUtf8 (codes " ")
unfolding chars is_utf8 encode_utf8
space_utf8 = IsUtf8-from_is_utf8 (codes " ") refl

gap_utf8 : (depth : ℕ) (a b : PrintedToken) → IsUtf8 (gap depth a b)
gap_utf8 depth a b = by_test (nat_eq depth 0 && ends_line a.step) (are_joined a b)
  where
    by_test : (u v : Bool) → IsUtf8 (if u then codes "\n" else if v then [] else codes " ")
    by_test true v = line_utf8
    by_test false true = none_utf8
    by_test false false = space_utf8

tail_utf8 : (depth : ℕ) (a : PrintedToken) (more : List PrintedToken) → IsUtf8 (text_from depth more) → IsUtf8 (tail_of depth a more)
tail_utf8 depth a [] u = line_utf8
tail_utf8 depth a (b ∷ more) u = IsUtf8-append (gap depth a b) (text_from depth (b ∷ more)) (gap_utf8 depth a b) u

text_utf8 : (depth : ℕ) (ps : List PrintedToken) → AreSpelled ps → IsUtf8 (text_from depth ps)
text_utf8 depth [] none = none_utf8
text_utf8 depth (a ∷ more) (word _ _ w rest) =
    let d : ℕ = depth_after depth a.step in
    subst IsUtf8 (sym (text_tail depth a more)) (IsUtf8-append a.text (tail_of d a more) w.utf8 (tail_utf8 d a more (text_utf8 d more rest)))
text_utf8 depth (q ∷ a ∷ more) (quoted _ _ _ is text w plain rest) =
    let d : ℕ = depth_after (depth_after depth q.step) a.step in
    subst IsUtf8 (sym (quoted_text depth q a more is text))
    (IsUtf8-append (39 ∷ []) (a.text ++ tail_of d a more) quote_utf8 (IsUtf8-append a.text (tail_of d a more) w.utf8 (tail_utf8 d a more (text_utf8 d more rest))))

pub ranges_are_printed : SeamLaws → (steps : List Step) → read_ranges (print_of steps).text ≡ printed_ranges (printed (visible steps))
ranges_are_printed laws steps =
    let spelled : AreSpelled (printed (visible steps)) = are_spelled laws (visible steps) in
    let text : List ℕ = text_of (printed (visible steps)) in
    sym (text_ranges text (laws.lengths text (text_utf8 0 (printed (visible steps)) spelled))) ∙ are_placed laws 0 (printed (visible steps)) spelled 0

ranges_long : (at depth : ℕ) (ps : List PrintedToken) → length (ranges_from at depth ps) ≡ length ps
ranges_long at depth [] = refl
ranges_long at depth (a ∷ []) = refl
ranges_long at depth (a ∷ b ∷ more) = ap suc (ranges_long (at + length a.text + length (gap (depth_after depth a.step) a b)) (depth_after depth a.step) (b ∷ more))

pub as_many_ranges : SeamLaws → (steps : List Step) → length (read_ranges (print_of steps).text) ≡ length (print_of steps).tokens
as_many_ranges laws steps =
    ap length (ranges_are_printed laws steps)
    ∙ ranges_long 0 0 (printed (visible steps))
    ∙ sym (length-map (printed (visible steps)) (λ a. step_span a.step))

-- ---- each token is spelled at its range

-- the part of a list that begins after another
part_is : (before part rest : List ℕ) → slice_range (before ++ (part ++ rest)) (length before) (length before + length part) ≡ part
part_is before part rest =
    let long : length before + length part - length before ≡ length part = omega arith in
    ap (λ n. take n (drop (length before) (before ++ (part ++ rest)))) long
    ∙ ap (take (length part)) (drop_at before (part ++ rest) (length before) refl)
    ∙ take_at part rest (length part) refl

spelled_at : (whole before : List ℕ) (at depth : ℕ) (ps : List PrintedToken) → at ≤ length before → whole ≡ before ++ text_from depth ps
    → AreSpelledAt whole at ps (ranges_from (length before) depth ps)
spelled_at whole before at depth [] behind is = tt
spelled_at whole before at depth (a ∷ []) behind is =
    (behind, omega arith, ap (λ xs. slice_range xs (length before) (length before + length a.text)) is ∙ part_is before a.text (codes "\n"), tt)
spelled_at whole before at depth (a ∷ b ∷ more) behind is =
    let d : ℕ = depth_after depth a.step in
    let g : List ℕ = gap d a b in
    let rest : List ℕ = text_from d (b ∷ more) in
    let next : List ℕ = before ++ (a.text ++ g) in
    let whole_is : whole ≡ next ++ rest =
    is ∙ ap (λ xs. before ++ xs) (sym (append_assoc a.text g rest)) ∙ sym (append_assoc before (a.text ++ g) rest) in
    let long : length next ≡ length before + length a.text + length g =
    (let first = length-append before (a.text ++ g) in let second = length-append a.text g in omega (arith, first, second)) in
    let more_behind : length before + length a.text ≤ length next = omega (arith, long) in (
      behind,
      omega arith,
      ap (λ xs. slice_range xs (length before) (length before + length a.text)) is ∙ part_is before a.text (g ++ rest),
      subst (λ n. AreSpelledAt whole (length before + length a.text) (b ∷ more) (ranges_from n d (b ∷ more))) long
          (spelled_at whole next (length before + length a.text) d (b ∷ more) more_behind whole_is),
    )

pub tokens_are_spelled : (steps : List Step) → AreSpelledAt (print_of steps).text 0 (printed (visible steps)) (printed_ranges (printed (visible steps)))
tokens_are_spelled steps = spelled_at (print_of steps).text [] 0 0 (printed (visible steps)) (omega arith) refl
