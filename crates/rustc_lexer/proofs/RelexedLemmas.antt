-- The tokens of an edited text, put together from old and relexed ones.
use Rattle.std.proofs.Common.{◌≡◌, ℕ, ◌+◌, ◌-◌, ◌≤◌, ◌<◌, ◌^◌, ◌==◌, true, List, ◌++◌, length, take, drop, get_or, sym, ◌∙◌, ap, subst, arith, All, Option, append_assoc, chars, IsUtf8, IsCharBoundary, length-append}
use Rattle.std.specs.Iterator.{Drains}
use Rattle.std.specs.List.{position_or_len, list_any, splice}
use Rattle.std.proofs.lemmas.Iterator.{YieldsList, items_from_drains}
use Rattle.std.proofs.lemmas.List.{map-id, take-append-drop, get_or-drop, length-drop, length-take, length-take-le, drop-drop}
use Rattle.std.proofs.lemmas.List.Sums.{sum_by-take-drop, sum_by-append}
use Rattle.std.proofs.lemmas.Str.{IsUtf8-drop}
use Rattle.std.proofs.Math.Seq.{take-length, take-add, drop-append-add}
use Rattle.rustc_lexer.specs.Edit.{boundaries_from, boundaries, edited, front_of, is_clear_of, is_moved_boundary, kept, moves_to}
use Rattle.rustc_lexer.specs.Lexing.{tokens_of}
use Rattle.rustc_lexer.specs.Relexing.{IsScan, count_to_meeting, total}
use Rattle.rustc_lexer.proofs.BoundaryLemmas.{boundaries_drop, boundary_at, moved_at, moved_boundaries, all_move, same_position}
use Rattle.rustc_lexer.proofs.FrontLemmas.{IsFront, front_kept}
use Rattle.rustc_lexer.proofs.TokensAtLemmas.{token_places, lengths_positive, lengths_whole}
use Rattle.rustc_lexer.specs.declared.relex.Kept.{Kept}
use Rattle.rustc_lexer.specs.declared.token.Token.{Token}

-- ---- slices up to the end

pub to_the_end : {A : Type 0} (k : ℕ) (xs : List A) → take (length xs - k) (drop k xs) ≡ drop k xs
to_the_end k xs = ap (λ n. take n (drop k xs)) (sym (length-drop k xs)) ∙ take-length (drop k xs)

pub total_split : (k : ℕ) (ts : List Token) → total (take k ts) + total (drop k ts) ≡ total ts
total_split k ts = sum_by-take-drop (λ x. x.len) ts k

pub total_append : (xs ys : List Token) → total (xs ++ ys) ≡ total xs + total ys
total_append xs ys = sum_by-append (λ x. x.len) xs ys

-- ---- what lies behind the edit

edited_length : (text : List ℕ) (start stop : ℕ) (replacement : List ℕ) → start ≤ length text →
    length (take start text ++ replacement) ≡ start + length replacement
edited_length text start stop replacement l =
    length-append (take start text) replacement ∙ ap (λ n. n + length replacement) (length-take-le start text l)

-- what lies at `at` in the text, behind the edit, follows in the edited text at the place to which it was moved
pub edited_behind : (text : List ℕ) (start stop : ℕ) (replacement : List ℕ) (at : ℕ) → start ≤ length text → stop ≤ at →
    drop (at - stop + (start + length replacement)) (edited text start stop replacement) ≡ drop at text
edited_behind text start stop replacement at l h =
    let front : List ℕ = take start text ++ replacement in
    let size = edited_length text start stop replacement l in
    let place : at - stop + (start + length replacement) ≡ length front + (at - stop) = omega (arith, size) in
    let old : stop + (at - stop) ≡ at = omega arith in
    ap (λ xs. drop (at - stop + (start + length replacement)) xs) (sym (append_assoc (take start text) replacement (drop stop text)))
    ∙ ap (λ n. drop n (front ++ drop stop text)) place
    ∙ drop-append-add front (drop stop text) (at - stop)
    ∙ drop-drop (at - stop) stop text
    ∙ ap (λ n. drop n text) old

pub edited_size : (text : List ℕ) (start stop : ℕ) (replacement : List ℕ) → start ≤ length text → stop ≤ length text →
    length (edited text start stop replacement) ≡ start + length replacement + (length text - stop)
edited_size text start stop replacement l h =
    ap length (sym (append_assoc (take start text) replacement (drop stop text)))
    ∙ length-append (take start text ++ replacement) (drop stop text)
    ∙ (let size = edited_length text start stop replacement l in
    let rest = length-drop stop text in
    omega (arith, size, rest))

pub edited_small : (text old new : List ℕ) (start stop : ℕ) (replacement : List ℕ) → old ≡ text → new ≡ edited old start stop replacement →
    start ≤ stop → stop ≤ length text → length text - (stop - start) + length replacement < 2 ^ 32 → length new < 2 ^ 32
edited_small text old new start stop replacement same e o l small =
    let size = ap length e ∙ ap (λ bs. length (edited bs start stop replacement)) same
    ∙ edited_size text start stop replacement (omega arith) l in
    omega (arith, size)

pub front_found : (text new : List ℕ) (start stop : ℕ) (replacement : List ℕ) (ts : List Token) (k at : ℕ) → IsUtf8 text → IsUtf8 new →
    IsCharBoundary text start → new ≡ edited text start stop replacement → ts ≡ tokens_of (chars text) → at ≡ total (take k ts) →
    (0 < k → is_clear_of text start at ≡ true) → IsFront text new start k at
front_found text new start stop replacement ts k at u v b e f h clear =
    front_kept text new start stop replacement k at u v b e (h ∙ ap (λ xs. total (take k xs)) f) clear

-- ---- what was found: the first k tokens end at `at`, `passed` more in front of `bound`, which is not in front of `stop`; n
-- tokens were lexed from `at` on, until they met the boundary behind `met` more

pub record IsFound (text new : List ℕ) (start stop moved : ℕ) (ts : List Token) (k at passed bound met : ℕ) (fresh : List Token) : Type 0 where
  pub front : IsFront text new start k at
  pub is_at : at ≡ total (take k ts)
  pub is_bound : bound ≡ at + total (take passed (drop k ts))
  pub behind : stop ≤ bound
  pub same_moves : (m p : ℕ) → list_any (moves_to stop m p) (boundaries_from at (drop k ts))
      ≡ list_any (moves_to stop m p) (boundaries_from bound (drop passed (drop k ts)))
  pub is_fresh : fresh ≡ take (count_to_meeting at (tokens_of (chars (drop at new))) (bound - stop + moved) (drop passed (drop k ts))) (tokens_of (chars (drop at new)))
  pub count : length fresh ≡ count_to_meeting at (tokens_of (chars (drop at new))) (bound - stop + moved) (drop passed (drop k ts))
  pub meets : at + total fresh ≡ bound - stop + moved + total (take met (drop passed (drop k ts)))
  pub within : k + passed + met ≤ length ts

-- what `relex` lexes of `rest`, and finds among the tokens `old`
pub record IsLexed (at to met : ℕ) (fresh : List Token) (rest : List ℕ) (old : List Token) : Type 0 where
  pub read : fresh ≡ take (count_to_meeting at (tokens_of (chars rest)) to old) (tokens_of (chars rest))
  pub count : length fresh ≡ count_to_meeting at (tokens_of (chars rest)) to old
  pub within : met ≤ length old
  pub meets : at + total fresh ≡ to + total (take met old)

pub found : (text new : List ℕ) (start stop moved : ℕ) (ts : List Token) (k at passed bound met : ℕ) (fresh : List Token)
    (rest : List ℕ) (behind walked : List Token) → rest ≡ drop at new → behind ≡ drop k ts → walked ≡ drop passed behind →
    IsFront text new start k at → at ≡ total (take k ts) → k ≤ length ts → IsScan at stop passed bound behind →
    IsLexed at (bound - stop + moved) met fresh rest walked → IsFound text new start stop moved ts k at passed bound met fresh
found text new start stop moved ts k at passed bound met fresh rest behind walked is_rest is_behind is_walked front e l s x =
    let scan = subst (IsScan at stop passed bound) is_behind s in
    let lexed = subst (λ bs. IsLexed at (bound - stop + moved) met fresh bs (drop passed (drop k ts))) is_rest
    (subst (IsLexed at (bound - stop + moved) met fresh rest) (is_walked ∙ ap (drop passed) is_behind) x) in
    record {
      front = front;
      is_at = e;
      is_bound = scan.place;
      behind = scan.behind;
      same_moves = scan.moves;
      is_fresh = lexed.read;
      count = lexed.count;
      meets = lexed.meets;
      within = omega (arith, scan.within, lexed.within, length-drop passed (drop k ts), length-drop k ts);
    }

-- the tokens behind `at` reach to the end of the text
pub to_text_end : (text : List ℕ) (ts behind : List Token) (k at : ℕ) → IsUtf8 text → ts ≡ tokens_of (chars text) → behind ≡ drop k ts → at ≡ total (take k ts) →
    at + total behind ≡ length text
to_text_end text ts behind k at u f is_behind e =
    let whole : total ts ≡ length text = ap total f ∙ lengths_whole text u in
    let rest = ap total is_behind in
    omega (arith, whole, rest, e, total_split k ts)

-- the rest of the new text and the old tokens that are walked end at the same place
pub same_end : (text new : List ℕ) (start stop : ℕ) (replacement : List ℕ) (at passed bound : ℕ) (rest : List ℕ) (behind walked : List Token) →
    start ≤ length text → stop ≤ length text → new ≡ edited text start stop replacement → at ≤ length new → at + total behind ≡ length text →
    rest ≡ drop at new → walked ≡ drop passed behind → IsScan at stop passed bound behind →
    at + length rest ≡ bound - stop + (start + length replacement) + total walked
same_end text new start stop replacement at passed bound rest behind walked l h e in_new r is_rest is_walked s =
    let size = ap length e ∙ edited_size text start stop replacement l h in
    let left = ap length is_rest ∙ length-drop at new in
    let walk = ap total is_walked in
    omega (arith, size, left, walk, total_split passed behind, s.place, s.behind, in_new, r)

-- the old boundary where the walk ends
pub old_end : (ts : List Token) (k passed met at bound : ℕ) → at ≡ total (take k ts) → bound ≡ at + total (take passed (drop k ts)) →
    total (take (k + passed + met) ts) ≡ bound + total (take met (drop passed (drop k ts)))
old_end ts k passed met at bound e f =
    let one = ap total (take-add (k + passed) met ts) ∙ total_append (take (k + passed) ts) (take met (drop (k + passed) ts)) in
    let two = ap total (take-add k passed ts) ∙ total_append (take k ts) (take passed (drop k ts)) in
    let rest = ap (λ xs. total (take met xs)) (drop-drop passed k ts) in
    omega (arith, one, two, rest)

-- the tokens behind those that were lexed are the old ones
behind_same : (text new : List ℕ) (start stop : ℕ) (replacement : List ℕ) (ts : List Token) (k at passed bound met : ℕ) (fresh : List Token) →
    IsUtf8 text → IsUtf8 new → start ≤ length text → new ≡ edited text start stop replacement → ts ≡ tokens_of (chars text) →
    IsFound text new start stop (start + length replacement) ts k at passed bound met fresh →
    drop (length fresh) (tokens_of (chars (drop at new))) ≡ drop (k + passed + met) ts
behind_same text new start stop replacement ts k at passed bound met fresh u v l e f w =
    let moved : ℕ = start + length replacement in
    let last : ℕ = k + passed + met in
    let all : List Token = tokens_of (chars (drop at new)) in
    let at_end = old_end ts k passed met at bound w.is_at w.is_bound in
    let old : drop last ts ≡ tokens_of (chars (drop (total (take last ts)) text)) =
    ap (drop last) f ∙ (token_places text last u).tokens ∙ ap (λ xs. tokens_of (chars (drop (total (take last xs)) text))) (sym f) in
    let v_rest : IsUtf8 (drop at new) = IsUtf8-drop new at v w.front.boundary in
    let is_fresh : fresh ≡ take (length fresh) all = w.is_fresh ∙ ap (λ n. take n all) (sym w.count) in
    let now : drop (length fresh) all ≡ tokens_of (chars (drop (total fresh) (drop at new))) =
    (token_places (drop at new) (length fresh) v_rest).tokens
    ∙ ap (λ xs. tokens_of (chars (drop (total xs) (drop at new)))) (sym is_fresh) in
    let place : at + total fresh ≡ total (take last ts) - stop + moved = omega (arith, w.meets, at_end, w.behind) in
    now
    ∙ ap (λ bs. tokens_of (chars bs)) (drop-drop (total fresh) at new
    ∙ ap (λ n. drop n new) place
    ∙ ap (λ bs. drop (total (take last ts) - stop + moved) bs) e
    ∙ edited_behind text start stop replacement (total (take last ts)) l (omega (arith, at_end, w.behind)))
    ∙ sym old

pub relexed_tokens : (text new : List ℕ) (start stop : ℕ) (replacement : List ℕ) (ts : List Token) (k at passed bound met : ℕ) (fresh : List Token) →
    IsUtf8 text → IsUtf8 new → start ≤ length text → new ≡ edited text start stop replacement → ts ≡ tokens_of (chars text) →
    IsFound text new start stop (start + length replacement) ts k at passed bound met fresh →
    splice ts k (k + passed + met) fresh ≡ tokens_of (chars new)
relexed_tokens text new start stop replacement ts k at passed bound met fresh u v l e f w =
    let all : List Token = tokens_of (chars (drop at new)) in
    let whole : List Token = tokens_of (chars new) in
    let is_fresh : fresh ≡ take (length fresh) all = w.is_fresh ∙ ap (λ n. take n all) (sym w.count) in
    let rest = behind_same text new start stop replacement ts k at passed bound met fresh u v l e f w in
    ap (λ xs. xs ++ (fresh ++ drop (k + passed + met) ts)) (ap (take k) f ∙ sym w.front.tokens)
    ∙ ap (λ xs. take k whole ++ (xs ++ drop (k + passed + met) ts)) is_fresh
    ∙ ap (λ xs. take k whole ++ (take (length fresh) all ++ xs)) (sym rest)
    ∙ ap (λ xs. take k whole ++ xs) (take-append-drop (length fresh) all ∙ w.front.rest)
    ∙ take-append-drop k whole

-- the test of a moved boundary looks at the old tokens that are walked
same_test : (text new : List ℕ) (start stop moved : ℕ) (ts : List Token) (k at passed bound met : ℕ) (fresh : List Token) (place : ℕ) →
    IsUtf8 text → start ≤ stop → ts ≡ tokens_of (chars text) → IsFound text new start stop moved ts k at passed bound met fresh →
    is_moved_boundary text stop moved place ≡ list_any (λ b. b == place) (boundaries_from (bound - stop + moved) (drop passed (drop k ts)))
same_test text new start stop moved ts k at passed bound met fresh place u o f w =
    let positive = lengths_positive text u in
    let here : 0 + total (take k ts) ≡ at = omega (arith, w.is_at) in
    ap (λ xs. list_any (moves_to stop moved place) (boundaries_from 0 xs)) (sym f)
    ∙ moved_boundaries stop moved place k 0 ts (subst (λ xs. All (λ t. 1 ≤ t.len) xs) (sym f) positive) (omega (arith, w.within)) (omega (arith, w.front.before, w.is_at))
    ∙ ap (λ n. list_any (moves_to stop moved place) (boundaries_from n (drop k ts))) here
    ∙ w.same_moves moved place
    ∙ all_move stop moved place bound (drop passed (drop k ts)) w.behind

-- the boundaries from the first k tokens' end on
later_boundaries : (text new : List ℕ) (start stop moved : ℕ) (ts : List Token) (k at passed bound met : ℕ) (fresh : List Token) →
    ts ≡ tokens_of (chars text) → IsFound text new start stop moved ts k at passed bound met fresh →
    drop k (boundaries new) ≡ boundaries_from at (tokens_of (chars (drop at new)))
later_boundaries text new start stop moved ts k at passed bound met fresh f w =
    let whole : List Token = tokens_of (chars new) in
    let front : take k whole ≡ take k ts = w.front.tokens ∙ ap (take k) (sym f) in
    let size = ap length front in
    let long : k ≤ length whole = omega (arith, size, length-take k whole, length-take k ts, w.within) in
    let here : 0 + total (take k whole) ≡ at = (let e = ap total front in omega (arith, e, w.is_at)) in
    boundaries_drop k 0 whole long ∙ ap (λ n. boundaries_from n (drop k whole)) here ∙ ap (boundaries_from at) (sym w.front.rest)

-- the old boundary that is met stands behind as many tokens
met_is : (text new : List ℕ) (start stop moved : ℕ) (ts : List Token) (k at passed bound met : ℕ) (fresh : List Token) → IsUtf8 text →
    ts ≡ tokens_of (chars text) → IsFound text new start stop moved ts k at passed bound met fresh →
    position_or_len (moves_to stop moved (get_or (boundaries new) (k + length fresh) 0)) (boundaries text) ≡ k + passed + met
unfolding count_to_meeting
met_is text new start stop moved ts k at passed bound met fresh u f w =
    let last : ℕ = k + passed + met in
    let all : List Token = tokens_of (chars (drop at new)) in
    let is_fresh : fresh ≡ take (length fresh) all = w.is_fresh ∙ ap (λ n. take n all) (sym w.count) in
    let inside : length fresh ≤ length all = omega (arith, ap length is_fresh, length-take (length fresh) all) in
    let at_end = old_end ts k passed met at bound w.is_at w.is_bound in
    let read : get_or (boundaries new) (k + length fresh) 0 ≡ at + total (take (length fresh) all) =
    sym (get_or-drop k (boundaries new) (length fresh) 0)
    ∙ ap (λ xs. get_or xs (length fresh) 0) (later_boundaries text new start stop moved ts k at passed bound met fresh f w)
    ∙ boundary_at (length fresh) at all inside in
    let place : get_or (boundaries new) (k + length fresh) 0 ≡ 0 + total (take last ts) - stop + moved =
    omega (arith, read, ap total is_fresh, w.meets, at_end, w.behind) in
    ap (λ xs. position_or_len (moves_to stop moved (get_or (boundaries new) (k + length fresh) 0)) (boundaries_from 0 xs)) (sym f)
    ∙ ap (λ p. position_or_len (moves_to stop moved p) (boundaries_from 0 ts)) place
    ∙ moved_at stop moved last 0 ts (subst (λ xs. All (λ t. 1 ≤ t.len) xs) (sym f) (lengths_positive text u)) w.within (omega (arith, at_end, w.behind))

pub relexed_counts : (text new : List ℕ) (start stop : ℕ) (replacement : List ℕ) (ts : List Token) (k at passed bound met : ℕ) (fresh : List Token) →
    IsUtf8 text → IsUtf8 new → start ≤ stop → start ≤ length text → new ≡ edited text start stop replacement → ts ≡ tokens_of (chars text) →
    k ≡ front_of text start → IsFound text new start stop (start + length replacement) ts k at passed bound met fresh →
    kept text start stop replacement ≡ record { front = k; lexed = length fresh; back = length ts - (k + passed + met) }
unfolding count_to_meeting
relexed_counts text new start stop replacement ts k at passed bound met fresh u v o l e f is_k w =
    let moved : ℕ = start + length replacement in
    let lexed : position_or_len (is_moved_boundary text stop moved) (drop k (boundaries new)) ≡ length fresh =
    ap (position_or_len (is_moved_boundary text stop moved)) (later_boundaries text new start stop moved ts k at passed bound met fresh f w)
    ∙ same_position (is_moved_boundary text stop moved)
    (λ place. list_any (λ b. b == place) (boundaries_from (bound - stop + moved) (drop passed (drop k ts))))
    (λ place. same_test text new start stop moved ts k at passed bound met fresh place u o f w)
    (boundaries_from at (tokens_of (chars (drop at new))))
    ∙ sym w.count in
    ap (λ bs. made bs (front_of text start)) (sym e) ∙ ap (made new) (sym is_k)
    ∙ ap (λ n. counts n (position_or_len (moves_to stop moved (get_or (boundaries new) (k + n) 0)) (boundaries text)) (tokens_of (chars text))) lexed
    ∙ ap (λ n. counts (length fresh) n (tokens_of (chars text))) (met_is text new start stop moved ts k at passed bound met fresh u f w)
    ∙ ap (counts (length fresh) (k + passed + met)) (sym f)
    ∙ ap (left (length fresh)) (length-drop (k + passed + met) ts)
  where
    left : ℕ → ℕ → Kept
    left n back = record { front = k; lexed = n; back = back }

    counts : ℕ → ℕ → List Token → Kept
    counts n last old = left n (length (drop last old))

    made : List ℕ → ℕ → Kept
    made bs front =
        let lexed : ℕ = position_or_len (is_moved_boundary text stop (start + length replacement)) (drop front (boundaries bs)) in
        let last : ℕ = position_or_len (moves_to stop (start + length replacement) (get_or (boundaries bs) (front + lexed) 0)) (boundaries text) in
        record { front = front; lexed = lexed; back = length (drop last (tokens_of (chars text))) }

-- ---- what an iterator gives that is taken to its end

pub drained : {S A : Type 0} {steps : S → Option A → S → Type 0} (s : S) (xs all : List A) → Drains steps s xs → YieldsList steps (λ y. y) s all → xs ≡ all
drained s xs all d y = sym (map-id xs) ∙ items_from_drains xs (d.1.0, d.1.1, λ h. (d.0, d.1.2)) y
