-- The boundaries of tokens, and where those of two lists of tokens meet.
use Rattle.std.proofs.Common.{◌≡◌, ℕ, zero, suc, ◌+◌, ◌-◌, ◌≤◌, ◌<◌, ◌==◌, Bool, true, false, not, ◌||◌, ◌&&◌, nat_le, List, [], ◌∷◌, length, take, drop, get_or, refl, sym, subst, ◌∙◌, ap, arith, add-zero, All, if◌then◌else◌}
use Rattle.std.proofs.lemmas.Bool.{ne_eqb}
use Rattle.std.proofs.lemmas.Bool.Decides.{nat_tests}
use Rattle.std.proofs.lemmas.List.{take-append-drop}
use Rattle.std.proofs.lemmas.List.Elements.{All-tail}
use Rattle.std.proofs.lemmas.List.Folds.{list_any-append}
use Rattle.std.proofs.lemmas.List.Sums.{sum_by-cons}
use Rattle.std.specs.List.{position_or_len, list_any}
use Rattle.rustc_lexer.specs.Edit.{ends_from, boundaries_from, moves_to}
use Rattle.rustc_lexer.specs.Relexing.{total, count_to_meeting}
use Rattle.rustc_lexer.specs.declared.token.Token.{Token}

-- ---- the boundaries behind k tokens

pub total_cons : (t : Token) (ts : List Token) → total (t ∷ ts) ≡ t.len + total ts
total_cons t ts = sum_by-cons (λ x. x.len) t ts

pub ends_drop : (k at : ℕ) (ts : List Token) → drop k (ends_from at ts) ≡ ends_from (at + total (take k ts)) (drop k ts)
ends_drop zero at ts = ap (λ n. ends_from n ts) (sym (add-zero at))
ends_drop (suc k) at [] = refl
ends_drop (suc k) at (t ∷ ts) =
    ends_drop k (at + t.len) ts
    ∙ ap (λ n. ends_from n (drop k ts)) (let e = total_cons t (take k ts) in omega (arith, e))

pub boundaries_drop : (k at : ℕ) (ts : List Token) → k ≤ length ts → drop k (boundaries_from at ts) ≡ boundaries_from (at + total (take k ts)) (drop k ts)
boundaries_drop zero at ts l = ap (λ n. boundaries_from n ts) (sym (add-zero at))
boundaries_drop (suc k) at [] l = absurd (omega arith)
boundaries_drop (suc k) at (t ∷ ts) l =
    boundaries_drop k (at + t.len) ts (omega arith)
    ∙ ap (λ n. boundaries_from n (drop k ts)) (let e = total_cons t (take k ts) in omega (arith, e))

pub ends_length : (at : ℕ) (ts : List Token) → length (ends_from at ts) ≡ length ts
ends_length at [] = refl
ends_length at (t ∷ ts) = ap suc (ends_length (at + t.len) ts)

-- ---- where they meet

-- a place in front of all boundaries is none
none_before : (p at : ℕ) (ts : List Token) → p < at → list_any (λ b. b == p) (boundaries_from at ts) ≡ false
none_before p at [] l = grind (arith, nat_tests)
none_before p at (t ∷ ts) l =
    let e : (at == p) ≡ false = grind (arith, nat_tests) in
    rw e (none_before p (at + t.len) ts (omega arith))

pub meet_here : (at to : ℕ) (new old : List Token) → at ≡ to → count_to_meeting at new to old ≡ 0
unfolding count_to_meeting
meet_here at to new old e =
    let h : (to == at) ≡ true = grind (arith, nat_tests) in
    rw h refl

pub meet_new : (at to : ℕ) (t : Token) (new old : List Token) → at < to →
    count_to_meeting at (t ∷ new) to old ≡ 1 + count_to_meeting (at + t.len) new to old
unfolding count_to_meeting
meet_new at to t new old l = rw (none_before at to old l) refl

pub meet_old : (at to : ℕ) (t : Token) (new old : List Token) → to < at →
    count_to_meeting at new to (t ∷ old) ≡ count_to_meeting at new (to + t.len) old
unfolding count_to_meeting
meet_old at to t [] old l =
    let h : (to == at) ≡ false = grind (arith, nat_tests) in
    rw h refl
meet_old at to t (n ∷ new) old l =
    let h : (to == at) ≡ false = grind (arith, nat_tests) in
    rw h (ap (λ k. if not (list_any (λ b. b == at) (boundaries_from (to + t.len) old)) then 1 + k else 0) (meet_old (at + n.len) to t new old (omega arith)))

-- ---- boundaries that an edit moves

-- boundaries in front of `stop` don't move
none_moves : (stop moved place k at : ℕ) (ts : List Token) → All (λ t. 1 ≤ t.len) ts → k ≤ length ts → at + total (take k ts) ≤ stop →
    list_any (moves_to stop moved place) (take k (boundaries_from at ts)) ≡ false
none_moves stop moved place zero at ts p l h = refl
none_moves stop moved place (suc k) at [] p l h = absurd (omega arith)
none_moves stop moved place (suc k) at (t ∷ ts) p l h =
    let long : 1 ≤ t.len = p 0 t (omega arith) in
    let e = total_cons t (take k ts) in
    let off : nat_le stop at ≡ false = grind (arith, nat_tests) in
    rw off (none_moves stop moved place k (at + t.len) ts (All-tail (λ x. 1 ≤ x.len) t ts p) (omega arith) (omega (arith, e)))

-- boundaries at `stop` or behind it do
pub all_move : (stop moved place at : ℕ) (ts : List Token) → stop ≤ at →
    list_any (moves_to stop moved place) (boundaries_from at ts) ≡ list_any (λ b. b == place) (boundaries_from (at - stop + moved) ts)
all_move stop moved place at [] l = (let on : nat_le stop at ≡ true = grind (arith, nat_tests) in rw on refl)
all_move stop moved place at (t ∷ ts) l =
    let on : nat_le stop at ≡ true = grind (arith, nat_tests) in
    let e : at + t.len - stop + moved ≡ at - stop + moved + t.len = omega arith in
    rw on (ap (λ b. (at - stop + moved == place) || b)
    (all_move stop moved place (at + t.len) ts (omega arith) ∙ ap (λ n. list_any (λ b. b == place) (boundaries_from n ts)) e))

-- k tokens end in front of `stop` or at it: the boundaries that move are those behind them
pub moved_boundaries : (stop moved place k at : ℕ) (ts : List Token) → All (λ t. 1 ≤ t.len) ts → k ≤ length ts → at + total (take k ts) ≤ stop →
    list_any (moves_to stop moved place) (boundaries_from at ts) ≡ list_any (moves_to stop moved place) (boundaries_from (at + total (take k ts)) (drop k ts))
moved_boundaries stop moved place k at ts p l h =
    let all : List ℕ = boundaries_from at ts in
    ap (list_any (moves_to stop moved place)) (sym (take-append-drop k all))
    ∙ list_any-append (moves_to stop moved place) (take k all) (drop k all)
    ∙ ap (λ b. b || list_any (moves_to stop moved place) (drop k all)) (none_moves stop moved place k at ts p l h)
    ∙ ap (list_any (moves_to stop moved place)) (boundaries_drop k at ts l)

-- of all boundaries only the one behind k tokens moves to its new place
pub moved_at : (stop moved k at : ℕ) (ts : List Token) → All (λ t. 1 ≤ t.len) ts → k ≤ length ts → stop ≤ at + total (take k ts) →
    position_or_len (moves_to stop moved (at + total (take k ts) - stop + moved)) (boundaries_from at ts) ≡ k
moved_at stop moved zero at ts p l h =
    let on : moves_to stop moved (at + 0 - stop + moved) at ≡ true = grind (arith, nat_tests) in
    rw on refl
moved_at stop moved (suc k) at [] p l h = absurd (omega arith)
moved_at stop moved (suc k) at (t ∷ ts) p l h =
    let long : 1 ≤ t.len = p 0 t (omega arith) in
    let e = total_cons t (take k ts) in
    let place : at + t.len + total (take k ts) ≡ at + total (t ∷ take k ts) = omega (arith, e) in
    let off = not_yet at (at + total (t ∷ take k ts)) (omega (arith, e, long)) h in
    rw off (ap (λ n. 1 + n) (subst (λ n. position_or_len (moves_to stop moved (n - stop + moved)) (boundaries_from (at + t.len) ts) ≡ k) place
    (moved_at stop moved k (at + t.len) ts (All-tail (λ x. 1 ≤ x.len) t ts p) (omega arith) (omega (arith, place, h)))) ∙ omega arith)
  where
    not_yet : (at place : ℕ) → at < place → stop ≤ place → moves_to stop moved (place - stop + moved) at ≡ false
    not_yet at place l h = by_test (nat_le stop at) refl
      where
        by_test : (u : Bool) → nat_le stop at ≡ u → (u && (at - stop + moved == place - stop + moved)) ≡ false
        by_test true e =
            let behind : stop ≤ at = grind (arith, nat_tests) in
            ne_eqb (at - stop + moved) (place - stop + moved) (λ s. omega (arith, s, l, h, behind))
        by_test false e = refl

pub boundary_at : (i at : ℕ) (ts : List Token) → i ≤ length ts → get_or (boundaries_from at ts) i 0 ≡ at + total (take i ts)
boundary_at zero at ts l = omega arith
boundary_at (suc i) at [] l = absurd (omega arith)
boundary_at (suc i) at (t ∷ ts) l =
    let e = total_cons t (take i ts) in
    boundary_at i (at + t.len) ts (omega arith) ∙ omega (arith, e)

-- a first place is the same by tests that are answered alike
pub same_position : (f g : ℕ → Bool) → ((x : ℕ) → f x ≡ g x) → (xs : List ℕ) → position_or_len f xs ≡ position_or_len g xs
same_position f g e [] = refl
same_position f g e (x ∷ xs) = rw (e x) (ap (λ k. if not (g x) then 1 + k else 0) (same_position f g e xs))
