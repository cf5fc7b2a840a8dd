-- Old and relexed tokens, side by side.
use Rattle.std.proofs.Common.{◌≡◌, ℕ, ◌+◌, ◌-◌, ◌≤◌, ◌<◌, ◌^◌, Fits, w64, List, ◌++◌, length, take, drop, refl, sym, ◌∙◌, ap, subst, arith, append_assoc, chars, IsUtf8, IsCharBoundary, length-append}
use Rattle.std.specs.List.{replace_range, splice}
use Rattle.std.proofs.lemmas.List.{drop-drop, length-drop, length-take-le, take-append-drop, take-append-le}
use Rattle.std.proofs.lemmas.Str.{IsCharBoundary-at_seam, IsUtf8-append, IsUtf8-drop}
use Rattle.std.proofs.Math.Seq.{take-length, drop-append-add}
use Rattle.rustc_lexer.specs.Edit.{edited, kept}
use Rattle.rustc_lexer.specs.Lexing.{tokens_of}
use Rattle.rustc_lexer.specs.Relexing.{IsBegun, IsChanged, IsCheckpoint, IsRelexed, IsSpliced, IsScan, count_to_meeting, lexed_again, total}
use Rattle.rustc_lexer.proofs.FrontLemmas.{IsFront}
use Rattle.rustc_lexer.proofs.RelexedLemmas.{IsFound, edited_behind, edited_size, found, front_found, relexed_counts, relexed_tokens, old_end, to_text_end, total_append, total_split}
use Rattle.rustc_lexer.specs.declared.relex.Kept.{Kept}
use Rattle.rustc_lexer.specs.declared.relex.checkpoints.Checkpoint.{Checkpoint}
use Rattle.rustc_lexer.specs.declared.relex.checkpoints.Relexed.{Relexed}
use Rattle.rustc_lexer.specs.declared.token.Token.{Token}

-- ---- tokens with others in the place of some

take_front : {A : Type 0} (xs ys : List A) (n : ℕ) → length xs ≡ n → take n (xs ++ ys) ≡ xs
take_front xs ys n e = take-append-le n xs ys (omega (arith, e)) ∙ ap (λ k. take k xs) (sym e) ∙ take-length xs

drop_front : {A : Type 0} (xs ys : List A) (n : ℕ) → length xs ≡ n → drop n (xs ++ ys) ≡ ys
drop_front xs ys n e =
    let here : n ≡ length xs + 0 = omega (arith, e) in
    ap (λ k. drop k (xs ++ ys)) here ∙ drop-append-add xs ys 0

pub spliced : (ts new fresh : List Token) (m : Relexed) → new ≡ splice ts m.front.tokens m.old.tokens fresh → IsCheckpoint ts m.front → IsCheckpoint ts m.old →
    m.new.tokens ≡ m.front.tokens + length fresh → m.new.place ≡ m.front.place + total fresh → IsRelexed ts new m
spliced ts new fresh m e f b count place =
    let k : ℕ = m.front.tokens in
    let front : List Token = take k ts in
    let rest : List Token = drop m.old.tokens ts in
    let both : List Token = front ++ fresh in
    let size : length front ≡ k = length-take-le k ts f.0 in
    let sizes : length both ≡ m.new.tokens = length-append front fresh ∙ omega (arith, size, count) in
    let parts : new ≡ both ++ rest = e ∙ sym (append_assoc front fresh rest) in
    let whole = ap length parts ∙ length-append both rest in
    let same_front : take k new ≡ front = ap (take k) e ∙ take_front front (fresh ++ rest) k size in
    let first : take m.new.tokens new ≡ both = ap (take m.new.tokens) parts ∙ take_front both rest m.new.tokens sizes in
    let sum = ap total first ∙ total_append front fresh in
    record {
      front = f;
      front_there = (omega (arith, whole, sizes, count), f.1 ∙ ap total (sym same_front));
      back = b;
      back_there = (omega (arith, whole, sizes), omega (arith, sum, place, f.1));
      order = omega (arith, count);
      same_front = same_front;
      same_back = ap (drop m.new.tokens) parts ∙ drop_front both rest m.new.tokens sizes;
    }

-- ---- what is found before the text is changed

pub begun : (text bytes : List ℕ) (ts items : List Token) (start k at : ℕ) → bytes ≡ text → items ≡ ts → IsBegun bytes items start k at → IsBegun text ts start k at
begun text bytes ts items start k at e f w = subst (λ bs. IsBegun bs ts start k at) e (subst (λ xs. IsBegun bytes xs start k at) f w)

pub scanned : (ts items : List Token) (k at stop passed bound : ℕ) → items ≡ ts → IsScan at stop passed bound (drop k items) →
    IsScan at stop passed bound (drop k ts)
scanned ts items k at stop passed bound f s = subst (λ xs. IsScan at stop passed bound (drop k xs)) f s

-- ---- the text, changed and changed back

pub replaced : (text bytes new : List ℕ) (start stop : ℕ) (replacement : List ℕ) → new ≡ replace_range bytes start stop replacement → bytes ≡ text →
    new ≡ edited text start stop replacement
replaced text bytes new start stop replacement e f =
    e ∙ append_assoc (take start bytes) replacement (drop stop bytes) ∙ ap (λ bs. edited bs start stop replacement) f

pub start_stays : (text new : List ℕ) (start stop : ℕ) (replacement : List ℕ) → IsUtf8 text → IsUtf8 replacement → IsCharBoundary text stop →
    start ≤ length text → new ≡ edited text start stop replacement → IsCharBoundary new start
start_stays text new start stop replacement u r b l e =
    let rest : IsUtf8 (replacement ++ drop stop text) = IsUtf8-append replacement (drop stop text) r (IsUtf8-drop text stop u b) in
    subst (IsCharBoundary new) (length-take-le start text l) (IsCharBoundary-at_seam new (take start text) (replacement ++ drop stop text) e rest)

pub undone : (text new gone : List ℕ) (start stop : ℕ) (replacement : List ℕ) → new ≡ edited text start stop replacement →
    gone ≡ take (stop - start) (drop start text) → start ≤ stop → stop ≤ length text → edited new start (start + length replacement) gone ≡ text
undone text new gone start stop replacement e is_gone o l =
    let size : length (take start text) ≡ start = length-take-le start text (omega arith) in
    let front : take start new ≡ take start text = ap (take start) e ∙ take_front (take start text) (replacement ++ drop stop text) start size in
    let none : stop - stop + (start + length replacement) ≡ start + length replacement = omega arith in
    let behind : drop (start + length replacement) new ≡ drop stop text =
    ap (drop (start + length replacement)) e ∙ ap (λ n. drop n (edited text start stop replacement)) (sym none)
    ∙ edited_behind text start stop replacement stop (omega arith) (omega arith) in
    let there : start + (stop - start) ≡ stop = omega arith in
    let rest : drop stop text ≡ drop (stop - start) (drop start text) = ap (λ n. drop n text) (sym there) ∙ sym (drop-drop (stop - start) start text) in
    ap (λ xs. xs ++ (gone ++ drop (start + length replacement) new)) front
    ∙ ap (λ xs. take start text ++ (gone ++ xs)) (behind ∙ rest)
    ∙ ap (λ xs. take start text ++ (xs ++ drop (stop - start) (drop start text))) is_gone
    ∙ ap (λ xs. take start text ++ xs) (take-append-drop (stop - start) (drop start text))
    ∙ take-append-drop start text

-- ---- what is found behind it, in the changed text

pub relexed : (ts tokens walked fresh : List Token) (text rest : List ℕ) (k at to stop met place size : ℕ) → size ≡ length fresh → tokens ≡ splice ts k (stop + met) fresh →
    fresh ≡ take (count_to_meeting at (tokens_of (chars rest)) to walked) (tokens_of (chars rest)) →
    length fresh ≡ count_to_meeting at (tokens_of (chars rest)) to walked → met ≤ length walked → at + total fresh ≡ place →
    to + total (take met walked) ≡ place → rest ≡ drop at text → walked ≡ drop stop ts → stop ≤ length ts →
    IsSpliced text ts tokens k at stop to (stop + met) (record { tokens = k + size; place = place })
relexed ts tokens walked fresh text rest k at to stop met place size is_size put read count within here there is_rest is_walked l =
    let as_read : List ℕ → List Token → Type 0 = λ bs old. fresh ≡ take (count_to_meeting at (tokens_of (chars bs)) to old) (tokens_of (chars bs)) in
    let counted : List ℕ → List Token → Type 0 = λ bs old. length fresh ≡ count_to_meeting at (tokens_of (chars bs)) to old in
    let again : fresh ≡ lexed_again text at to (drop stop ts) = subst (as_read (drop at text)) is_walked (subst (λ bs. as_read bs walked) is_rest read) in
    let many = subst (counted (drop at text)) is_walked (subst (λ bs. counted bs walked) is_rest count) in
    let left = ap length is_walked in
    let back : stop + met - stop ≡ met = omega arith in
    let met_there = ap (λ xs. total (take met xs)) is_walked in
    let same = ap (λ n. total (take n (drop stop ts))) back in
    record {
      placed = put ∙ ap (splice ts k (stop + met)) again;
      count = ap length (sym again) ∙ many;
      lexed = ap (λ n. k + n) (is_size ∙ ap length again);
      place = (let bytes = ap total again in omega (arith, bytes, here));
      met = omega (arith, same, met_there, there);
      order = omega arith;
      within = omega (arith, left, within, length-drop stop ts, l);
    }

pub relexed_of : (new bytes : List ℕ) (ts tokens : List Token) (k at stop to behind : ℕ) (m : Checkpoint) → bytes ≡ new →
    IsSpliced bytes ts tokens k at stop to behind m → IsSpliced new ts tokens k at stop to behind m
relexed_of new bytes ts tokens k at stop to behind m e r = subst (λ bs. IsSpliced bs ts tokens k at stop to behind m) e r

pub old_fits : (text : List ℕ) (ts : List Token) (place behind at k : ℕ) → IsCheckpoint ts (record { tokens = behind; place = place }) → at ≡ total (take k ts) →
    at + total (drop k ts) ≡ length text → length text < 2 ^ 32 → Fits w64 place
old_fits text ts place behind at k m e whole small = omega (arith, m.1, total_split behind ts, total_split k ts, e, whole, small)

module _ (text new : List ℕ) (start stop : ℕ) (replacement : List ℕ) (ts : List Token) (k at passed bound : ℕ)
    (u : IsUtf8 text) (v : IsUtf8 new) (b : IsCharBoundary text start) (c : IsCharBoundary text stop) (o : start ≤ stop)
    (e : new ≡ edited text start stop replacement) (f : ts ≡ tokens_of (chars text))
    (w : IsBegun text ts start k at) (s : IsScan at stop passed bound (drop k ts)) where
  pub front_is : IsFront text new start k at
  front_is = front_found text new start stop replacement ts k at u v b e f w.is_at w.clear

  behind_front : drop passed (drop k ts) ≡ drop (k + passed) ts
  behind_front = drop-drop passed k ts

  pub to_the_same_end : length new ≡ bound - stop + (start + length replacement) + total (drop (k + passed) ts)
  to_the_same_end =
      let size = ap length e ∙ edited_size text start stop replacement b.0 c.0 in
      let all = to_text_end text ts (drop k ts) k at u f refl w.is_at in
      let rest = ap total behind_front in
      omega (arith, size, all, rest, total_split passed (drop k ts), s.place, s.behind, c.0, o)

  module _ (tokens : List Token) (behind : ℕ) (m : Checkpoint) (r : IsSpliced new ts tokens k at (k + passed) (bound - stop + (start + length replacement)) behind m) where
    abbrev met : ℕ
    met = behind - (k + passed)

    abbrev fresh : List Token
    fresh = lexed_again new at (bound - stop + (start + length replacement)) (drop (k + passed) ts)

    there : k + passed + met ≡ behind
    there = omega (arith, r.order)

    found_here : IsFound text new start stop (start + length replacement) ts k at passed bound met fresh
    found_here = found text new start stop (start + length replacement) ts k at passed bound met fresh (drop at new) (drop k ts) (drop (k + passed) ts)
        refl refl (sym behind_front) front_is w.is_at w.within s
        (record { read = refl; count = r.count; within = within; meets = sym r.place ∙ r.met })
      where
        within : met ≤ length (drop (k + passed) ts)
        within = (let size = length-drop (k + passed) ts in omega (arith, size, r.within))

    pub tokens_relexed : tokens ≡ tokens_of (chars new)
    tokens_relexed =
        r.placed ∙ ap (λ n. splice ts k n fresh) (sym there) ∙ relexed_tokens text new start stop replacement ts k at passed bound met fresh u v b.0 e f found_here

    pub counts_relexed : kept text start stop replacement ≡ record { front = k; lexed = m.tokens - k; back = length ts - behind }
    counts_relexed =
        let lexed : length fresh ≡ m.tokens - k = omega (arith, r.lexed) in
        relexed_counts text new start stop replacement ts k at passed bound met fresh u v o b.0 e f w.count found_here
        ∙ ap (λ n. counts n (k + passed + met)) lexed
        ∙ ap (λ n. counts (m.tokens - k) n) there
      where
        counts : ℕ → ℕ → Kept
        counts n back = record { front = k; lexed = n; back = length ts - back }

    pub checkpoints_relexed : IsRelexed ts tokens (record { front = record { tokens = k; place = at }; old = record { tokens = behind; place = m.place - (start + length replacement) + stop }; new = m })
    checkpoints_relexed =
        let ends = old_end ts k passed met at bound w.is_at s.place in
        let same = ap (λ n. total (take n ts)) there in
        let rest = ap (λ xs. total (take met xs)) behind_front in
        let old_place : m.place - (start + length replacement) + stop ≡ total (take behind ts) = omega (arith, ends, same, rest, r.met, s.behind) in
        spliced ts tokens fresh (record { front = record { tokens = k; place = at }; old = record { tokens = behind; place = m.place - (start + length replacement) + stop }; new = m })
        r.placed (w.within, w.is_at) (r.within, old_place) r.lexed r.place

-- ---- the same of a text that was edited

unfoldable pub changed : (text bytes new edited_bytes : List ℕ) (start stop : ℕ) (replacement : List ℕ) (ts items : List Token) (k at passed bound : ℕ) →
    IsUtf8 bytes → bytes ≡ text → edited_bytes ≡ new → items ≡ ts → IsCharBoundary text start → IsCharBoundary text stop → start ≤ stop →
    length text < 2 ^ 32 → new ≡ edited text start stop replacement → ts ≡ tokens_of (chars text) → IsBegun bytes items start k at →
    IsScan at stop passed bound (drop k items) → IsChanged edited_bytes ts k at passed bound stop (start + length replacement)
changed text bytes new edited_bytes start stop replacement ts items k at passed bound u same_text same_new same_tokens b c o small e f begins scans = record {
  old = text;
  start = start;
  replacement = replacement;
  utf8 = subst IsUtf8 same_text u;
  begins = b;
  ends = c;
  order = o;
  small = small;
  text = same_new ∙ e;
  place = refl;
  tokens = f;
  begun = begun text bytes ts items start k at same_text same_tokens begins;
  scan = scanned ts items k at stop passed bound same_tokens scans;
}

module _ (new : List ℕ) (ts : List Token) (k at passed bound stop moved : ℕ) (v : IsUtf8 new) (w : IsChanged new ts k at passed bound stop moved) where
  pub front_boundary : IsCharBoundary new at
  front_boundary = (front_is w.old new w.start stop w.replacement ts k at passed bound w.utf8 v w.begins w.ends w.order w.text w.tokens w.begun w.scan).boundary

  pub same_length : length new ≡ bound - stop + moved + total (drop (k + passed) ts)
  same_length =
      to_the_same_end w.old new w.start stop w.replacement ts k at passed bound w.utf8 v w.begins w.ends w.order w.text w.tokens w.begun w.scan
      ∙ ap (λ n. bound - stop + n + total (drop (k + passed) ts)) (sym w.place)

  module _ (tokens : List Token) (behind : ℕ) (m : Checkpoint) (r : IsSpliced new ts tokens k at (k + passed) (bound - stop + moved) behind m) where
    again : IsSpliced new ts tokens k at (k + passed) (bound - stop + (w.start + length w.replacement)) behind m
    again = subst (λ n. IsSpliced new ts tokens k at (k + passed) (bound - stop + n) behind m) w.place r

    pub changed_tokens : tokens ≡ tokens_of (chars new)
    changed_tokens =
        tokens_relexed w.old new w.start stop w.replacement ts k at passed bound w.utf8 v w.begins w.ends w.order w.text w.tokens w.begun w.scan tokens behind m again

    pub changed_counts : kept w.old w.start stop w.replacement ≡ record { front = k; lexed = m.tokens - k; back = length ts - behind }
    changed_counts =
        counts_relexed w.old new w.start stop w.replacement ts k at passed bound w.utf8 v w.begins w.ends w.order w.text w.tokens w.begun w.scan tokens behind m again

    pub changed_checkpoints : IsRelexed ts tokens (record { front = record { tokens = k; place = at }; old = record { tokens = behind; place = m.place - moved + stop }; new = m })
    changed_checkpoints =
        let checkpoints = checkpoints_relexed w.old new w.start stop w.replacement ts k at passed bound w.utf8 v w.begins w.ends w.order w.text w.tokens w.begun w.scan tokens behind m again in
        subst (λ n. IsRelexed ts tokens (record { front = record { tokens = k; place = at }; old = record { tokens = behind; place = m.place - n + stop }; new = m })) (sym w.place) checkpoints

    pub changed_fits : Fits w64 (m.place - moved + stop)
    changed_fits =
        let whole = to_text_end w.old ts (drop k ts) k at w.utf8 w.tokens refl w.begun.is_at in
        old_fits w.old ts _ behind at k changed_checkpoints.back w.begun.is_at whole w.small
