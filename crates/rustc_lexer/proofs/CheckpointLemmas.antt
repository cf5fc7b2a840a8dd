-- Checkpoints of an edited text.
use Rattle.std.proofs.Common.{◌≡◌, ℕ, zero, suc, ◌+◌, ◌-◌, ◌≤◌, ◌<◌, ◌^◌, Bool, true, false, nat_le, List, [], ◌∷◌, ◌++◌, length, take, drop, map, get_or, set, refl, sym, ◌∙◌, ap, subst, arith, All, chars, IsUtf8, if◌then◌else◌}
use Rattle.std.proofs.lemmas.Bool.Decides.{nat_tests}
use Rattle.std.proofs.lemmas.List.Edits.{map_over_more}
use Rattle.std.proofs.lemmas.List.{get_or_default, length-drop, take-take}
use Rattle.std.proofs.lemmas.List.Elements.{All-append, All-cons, All-drop, All-get_or, All-map, All-same, All-tail, All-take, All-weaker}
use Rattle.std.specs.List.{insert}
use Rattle.std.proofs.Math.Seq.{take-add}
use Rattle.rustc_lexer.specs.Lexing.{tokens_of}
use Rattle.rustc_lexer.proofs.BoundaryLemmas.{total_cons}
use Rattle.rustc_lexer.proofs.TokensAtLemmas.{lengths_positive, lengths_whole}
use Rattle.rustc_lexer.specs.Relexing.{IsCheckpoint, IsRelexed, IsInRange, moved_checkpoint, total}
use Rattle.rustc_lexer.proofs.RelexedLemmas.{to_the_end, total_append, total_split}
use Rattle.rustc_lexer.specs.declared.relex.checkpoints.Checkpoint.{Checkpoint}
use Rattle.rustc_lexer.specs.declared.relex.checkpoints.Relexed.{Relexed}
use Rattle.rustc_lexer.specs.declared.token.Token.{Token}

-- ---- a loop that moves one checkpoint after the other

-- the checkpoint at the loop's index is as it was
pub unmoved : (f : Checkpoint → Checkpoint) (xs : List Checkpoint) (i : ℕ) (d : Checkpoint) → i < length xs → get_or (map f (take i xs) ++ drop i xs) i d ≡ get_or xs i d
unmoved f [] i d l = absurd (omega arith)
unmoved f (x ∷ xs) zero d l = refl
unmoved f (x ∷ xs) (suc i) d l = unmoved f xs i d (omega arith)

pub next_place : (f : Checkpoint → Checkpoint) (xs ys : List Checkpoint) (i : ℕ) (d : Checkpoint) → All IsInRange xs → i < length xs →
    ys ≡ map f (take i xs) ++ drop i xs → IsInRange (get_or ys i d)
next_place f xs ys i d p l e =
    let same : get_or ys i d ≡ get_or xs i d = ap (λ zs. get_or zs i d) e ∙ unmoved f xs i d l in
    subst IsInRange (sym same) (All-get_or IsInRange xs i d l p)

unmoved_length : (f : Checkpoint → Checkpoint) (xs : List Checkpoint) (i : ℕ) → i < length xs → i < length (map f (take i xs) ++ drop i xs)
unmoved_length f [] i l = absurd (omega arith)
unmoved_length f (x ∷ xs) zero l = l
unmoved_length f (x ∷ xs) (suc i) l = (let rest = unmoved_length f xs i (omega arith) in omega (arith, rest))

pub checkpoint_written : (f : Checkpoint → Checkpoint) (xs ys : List Checkpoint) (i : ℕ) (d x : Checkpoint) → i < length xs → ys ≡ map f (take i xs) ++ drop i xs →
    x ≡ f (get_or ys i d) → set ys i x ≡ map f (take (i + 1) xs) ++ drop (i + 1) xs
checkpoint_written f xs ys i d x l e h =
    let long : i < length ys = subst (λ zs. i < length zs) (sym e) (unmoved_length f xs i l) in
    ap (set ys i) h ∙ map_over_more f xs ys i (get_or ys i d) l e (get_or_default ys i d (get_or ys i d) long)

pub one_more : (P : Checkpoint → Type 0) (xs ys : List Checkpoint) (i : ℕ) (x : Checkpoint) (b : Bool) → ys ≡ (if b then insert xs i x else xs) → All P xs → P x → All P ys
one_more P xs ys i x true e h p =
    All-same P ys (take i xs ++ x ∷ drop i xs) e (All-append P (take i xs) (x ∷ drop i xs) (All-take P i xs h) (All-cons P x (drop i xs) p (All-drop P i xs h)))
one_more P xs ys i x false e h p = All-same P ys xs e h

-- ---- a walk from a checkpoint

-- the tokens behind a checkpoint reach to the end
pub rest_of_checkpoint : (ts : List Token) (m : Checkpoint) → IsCheckpoint ts m → m.place + total (take (length ts - m.tokens) (drop m.tokens ts)) ≡ total ts
rest_of_checkpoint ts m h =
    let rest = ap total (to_the_end m.tokens ts) in
    omega (arith, rest, h.1, total_split m.tokens ts)

pub walked : (ts rest : List Token) (m : Checkpoint) (k place : ℕ) → rest ≡ drop m.tokens ts → IsCheckpoint ts m → k ≤ length rest → place ≡ m.place + total (take k rest) →
    IsCheckpoint ts (record { tokens = m.tokens + k; place = place })
walked ts rest m k place e h l p =
    let size = ap length e in
    let parts = ap total (take-add m.tokens k ts) ∙ total_append (take m.tokens ts) (take k (drop m.tokens ts)) in
    let here = p ∙ ap (λ xs. m.place + total (take k xs)) e in
    (omega (arith, size, length-drop m.tokens ts, l, h.0), omega (arith, parts, here, h.1))

-- ---- the checkpoints of an edited text

pub checkpoint_fits : (ts : List Token) (m : Checkpoint) → length ts < 2 ^ 32 → total ts < 2 ^ 32 → IsCheckpoint ts m → IsInRange m
checkpoint_fits ts m l t h = (omega (arith, h.0), omega (arith, h.1, total_split m.tokens ts))

checkpoint_moves : (old new : List Token) (m : Relexed) (checkpoint : Checkpoint) → IsRelexed old new m → IsCheckpoint old checkpoint → IsCheckpoint new (moved_checkpoint m checkpoint)
checkpoint_moves old new m checkpoint w h = by_front (nat_le checkpoint.tokens m.front.tokens) refl
  where
    goal : Checkpoint → Type 0
    goal x = IsCheckpoint new x

    by_back : (b : Bool) → nat_le checkpoint.tokens m.front.tokens ≡ false → nat_le m.old.tokens checkpoint.tokens ≡ b → goal (moved_checkpoint m checkpoint)
    by_back true e f = rw (e, f) (
        let l : m.old.tokens ≤ checkpoint.tokens = grind (arith, nat_tests) in
        let more : ℕ = checkpoint.tokens - m.old.tokens in
        let there : m.old.tokens + more ≡ checkpoint.tokens = omega arith in
        let old_parts = ap (λ n. total (take n old)) (sym there) ∙ ap total (take-add m.old.tokens more old) ∙ total_append (take m.old.tokens old) (take more (drop m.old.tokens old)) in
        let here : more + m.new.tokens ≡ m.new.tokens + more = omega arith in
        let new_parts = ap (λ n. total (take n new)) here ∙ ap total (take-add m.new.tokens more new) ∙ total_append (take m.new.tokens new) (take more (drop m.new.tokens new)) in
        let rest = ap (λ xs. total (take more xs)) w.same_back in
        let sizes = ap length w.same_back in (
          omega (arith, sizes, length-drop m.new.tokens new, length-drop m.old.tokens old, h.0, w.back.0, w.back_there.0),
          omega (arith, old_parts, new_parts, rest, h.1, w.back.1, w.back_there.1),
        ))
    by_back false e f = rw (e, f) w.front_there

    by_front : (b : Bool) → nat_le checkpoint.tokens m.front.tokens ≡ b → goal (moved_checkpoint m checkpoint)
    by_front true e = rw e (
        let l : checkpoint.tokens ≤ m.front.tokens = grind (arith, nat_tests) in
        let same : take checkpoint.tokens new ≡ take checkpoint.tokens old =
        sym (take-take checkpoint.tokens m.front.tokens new l) ∙ ap (take checkpoint.tokens) w.same_front ∙ take-take checkpoint.tokens m.front.tokens old l in
        (omega (arith, l, w.front_there.0), h.1 ∙ ap total (sym same)))
    by_front false e = by_back (nat_le m.old.tokens checkpoint.tokens) e refl

pub checkpoints_moved : (old new : List Token) (m : Relexed) (checkpoints : List Checkpoint) → IsRelexed old new m → All (IsCheckpoint old) checkpoints →
    All (IsCheckpoint new) (map (moved_checkpoint m) checkpoints)
checkpoints_moved old new m checkpoints w h =
    All-map (IsCheckpoint new) (moved_checkpoint m) checkpoints (All-weaker (IsCheckpoint old) (λ x. IsCheckpoint new (moved_checkpoint m x)) (λ x. checkpoint_moves old new m x w) checkpoints h)

-- ---- checkpoints of a text's tokens

many_bytes : (ts : List Token) → All (λ t. 1 ≤ t.len) ts → length ts ≤ total ts
many_bytes [] h = omega arith
many_bytes (t ∷ ts) h =
    let first : 1 ≤ t.len = h 0 t (omega arith) in
    omega (arith, first, many_bytes ts (All-tail (λ x. 1 ≤ x.len) t ts h), total_cons t ts)

pub tokens_total : (text : List ℕ) (ts : List Token) → IsUtf8 text → ts ≡ tokens_of (chars text) → total ts ≡ length text
tokens_total text ts u f = ap total f ∙ lengths_whole text u

pub text_checkpoint_fits : (text : List ℕ) (ts : List Token) (m : Checkpoint) → IsUtf8 text → length text < 2 ^ 32 → ts ≡ tokens_of (chars text) → IsCheckpoint ts m → IsInRange m
text_checkpoint_fits text ts m u small f h =
    let whole = tokens_total text ts u f in
    let many = many_bytes ts (subst (All (λ t. 1 ≤ t.len)) (sym f) (lengths_positive text u)) in
    checkpoint_fits ts m (omega (arith, whole, many)) (omega (arith, whole)) h

pub text_checkpoints_fit : (text : List ℕ) (ts : List Token) (checkpoints : List Checkpoint) → IsUtf8 text → length text < 2 ^ 32 → ts ≡ tokens_of (chars text) →
    All (IsCheckpoint ts) checkpoints → All IsInRange checkpoints
text_checkpoints_fit text ts checkpoints u small f h = All-weaker (IsCheckpoint ts) IsInRange (λ m. text_checkpoint_fits text ts m u small f) checkpoints h
