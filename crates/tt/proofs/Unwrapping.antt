-- The token of a group, removed from a builder's tokens.
use Rattle.std.proofs.Common.{◌≡◌, ℕ, ◌+◌, ◌-◌, ◌<◌, ◌≤◌, length, List, [], ◌∷◌, ◌++◌, map, reverse, take, drop, set, ap, subst, sym, refl, ◌∙◌, arith, nat_lt, true, false, length-append, append_assoc, inl, inr, get_or}
use Rattle.std.proofs.lemmas.Bool.{lt-ltb, le-ltb}
use Rattle.std.proofs.lemmas.List.{append_cancel_left, length-drop, length-take, take-append-le, drop-append-le, take-append-drop, reverse-append, map-append, drop_more, get_or_at, set_at, map_more, length-map, length-take-le, take_at, drop_at, drop-drop}
use Rattle.std.proofs.Math.Seq.{take-append_seam}
use Rattle.tt_data.specs.Forest.{Forest, group, joined, size, front, back, preorder, forest_of, IsPreorder}
use Rattle.tt_data.specs.Flat.{Parts, parts, front-joined, back-joined, preorder-joined}
use Rattle.tt_data.proofs.FlatLemmas.{forest_of-append_whole, IsPreorder-append}
use Rattle.tt_data.proofs.ForestLemmas.{joined-front-back}
use Rattle.tt_data.specs.declared.tree.Subtree.{Subtree}
use Rattle.tt_data.specs.declared.tree.TokenTree.{TokenTree}
use Rattle.tt_data.specs.declared.tree.TokenTree.TheVariants as token
use Rattle.tt.specs.declared.top_subtree.builder.Opening.{Opening}
use Rattle.tt.specs.Building.{count_in, is_invisible, unwrapped, unwrapped_after, unwrapped_in}
use Rattle.tt.specs.BuilderTokens.{here_of, groups_of, IsHeld, IsCut, begins_invisible, moved_back}
use Rattle.tt.proofs.Limits.{size-whole}
use Rattle.tt.proofs.Points.{start_counts}

-- whole trees before whole trees
record Seam (a b : List TokenTree) : Type 0 where
  all_is : forest_of (a ++ b) ≡ joined (forest_of a) (forest_of b)
  front_is : front (length a) (forest_of (a ++ b)) ≡ forest_of a
  back_is : back (length a) (forest_of (a ++ b)) ≡ forest_of b
  back_whole : IsPreorder b

seam : (a b : List TokenTree) → IsPreorder a → IsPreorder (a ++ b) → Seam a b
seam a b whole all_whole =
    let f : Forest = forest_of a in
    let g : Forest = forest_of b in
    let all : forest_of (a ++ b) ≡ joined f g = forest_of-append_whole a b whole in
    let counts : size f ≡ length a = size-whole a whole in
    let same : a ++ preorder g ≡ a ++ b = ap (λ t. t ++ preorder g) (sym whole) ∙ sym (preorder-joined f g) ∙ ap preorder (sym all) ∙ all_whole in
    record {
      all_is = all;
      front_is = ap (λ k. front k (forest_of (a ++ b))) (sym counts) ∙ ap (front (size f)) all ∙ front-joined f g;
      back_is = ap (λ k. back k (forest_of (a ++ b))) (sym counts) ∙ ap (back (size f)) all ∙ back-joined f g;
      back_whole = append_cancel_left a (preorder g) b same;
    }

-- a group's contents and what follows it, without its token
contents_whole : (s : Subtree) (q : List TokenTree) → IsPreorder (token.Subtree s ∷ q) → IsPreorder q
contents_whole s q whole =
    let p : Parts s q = parts s q whole in
    let P : List TokenTree → Type 0 = λ t. IsPreorder t in
    subst P (take-append-drop s.len q) (IsPreorder-append (take s.len q) (drop s.len q) p.inner_whole p.rest_whole)

-- the invisible group after some trees gives way to its contents where its token is taken out
list_unwrapped : (a q : List TokenTree) (s : Subtree) → is_invisible s.delimiter.kind ≡ true → IsPreorder a → IsPreorder (a ++ token.Subtree s ∷ q)
    → IsPreorder (a ++ q) × (forest_of (a ++ q) ≡ unwrapped_after (length a) (forest_of (a ++ token.Subtree s ∷ q)))
list_unwrapped a q s invisible whole all_whole =
    let m : Seam a (token.Subtree s ∷ q) = seam a (token.Subtree s ∷ q) whole all_whole in
    let inner : Forest = front s.len (forest_of q) in
    let rest : Forest = back s.len (forest_of q) in
    let opened : unwrapped (group s.delimiter inner rest) ≡ forest_of q = rw invisible (joined-front-back s.len (forest_of q)) in
    let back_is : unwrapped (back (length a) (forest_of (a ++ token.Subtree s ∷ q))) ≡ forest_of q = ap unwrapped m.back_is ∙ opened in
    (IsPreorder-append a q whole (contents_whole s q m.back_whole), forest_of-append_whole a q whole ∙ rw (m.front_is, back_is) refl)

-- any other tree stays
first_stays : (x : TokenTree) (q : List TokenTree) → begins_invisible x ≡ false → unwrapped (forest_of (x ∷ q)) ≡ forest_of (x ∷ q)
first_stays (token.Leaf l) q seen = refl
first_stays (token.Subtree s) q seen = rw seen refl

list_stays : (a q : List TokenTree) (x : TokenTree) → begins_invisible x ≡ false → IsPreorder a → IsPreorder (a ++ x ∷ q)
    → unwrapped_after (length a) (forest_of (a ++ x ∷ q)) ≡ forest_of (a ++ x ∷ q)
list_stays a q x seen whole all_whole =
    let m : Seam a (x ∷ q) = seam a (x ∷ q) whole all_whole in
    rw (m.front_is, m.back_is, first_stays x q seen) (sym m.all_is)

pub map-reversed : {A B : Type 0} (f : A → B) (xs : List A) → reverse (map f xs) ≡ map f (reverse xs)
map-reversed f [] = refl
map-reversed f (x ∷ xs) =
    reverse-append (f x ∷ []) (map f xs) ∙ ap (λ ys. ys ++ f x ∷ []) (map-reversed f xs)
    ∙ sym (map-append f (reverse xs) (x ∷ [])) ∙ ap (map f) (sym (reverse-append (x ∷ []) xs))

-- openings before the place stay
moved_before : (at : ℕ) (o : Opening) → o.at.count ≤ at → moved_back at o ≡ o
moved_before at o le = rw (le-ltb at o.at.count le) refl

all_before : (at : ℕ) (tokens : List TokenTree) (os : List Opening) → length tokens ≤ at + 1 → IsHeld tokens os → map (moved_back at) os ≡ os
all_before at tokens [] short held = refl
all_before at tokens (o ∷ outer) short held =
    rw (
      moved_before at o (omega (arith, held.0, short)),
      all_before at (take o.at.count tokens) outer (omega (arith, held.0, short, length-take o.at.count tokens)) held.2,
    )
    refl

-- tokens and openings with the token at a place taken out
pub record Unwrapped (p q : List TokenTree) (x : TokenTree) (os : List Opening) : Type 0 where
  pub held : IsHeld (p ++ q) (map (moved_back (length p)) os)
  pub groups_are : groups_of (p ++ q) (map (moved_back (length p)) os)
      ≡ (unwrapped_in (length p) (groups_of (p ++ x ∷ q) os) (here_of (p ++ x ∷ q) os)).0
  pub here_is : here_of (p ++ q) (map (moved_back (length p)) os)
      ≡ (unwrapped_in (length p) (groups_of (p ++ x ∷ q) os) (here_of (p ++ x ∷ q) os)).1

unwrapped_here_top : (p q : List TokenTree) (s : Subtree) → is_invisible s.delimiter.kind ≡ true → IsHeld (p ++ token.Subtree s ∷ q) []
    → IsHeld p [] → Unwrapped p q (token.Subtree s) []
unwrapped_here_top p q s invisible held before =
    let first : 1 ≤ length p = omega (arith, before.0) in
    let a : List TokenTree = drop 1 p in
    let rest : drop 1 (p ++ token.Subtree s ∷ q) ≡ a ++ token.Subtree s ∷ q = drop-append-le 1 p (token.Subtree s ∷ q) first in
    let u = list_unwrapped a q s invisible before.1 (rw rest at held.1) in
    let n : length a ≡ length p - 1 = length-drop 1 p in
    record {
      held = (omega (arith, before.0, length-append p q), rw (drop-append-le 1 p q first) u.0);
      groups_are = refl;
      here_is = rw (drop-append-le 1 p q first, rest, ← n) u.1;
    }

unwrapped_here : (p q : List TokenTree) (s : Subtree) (o : Opening) (outer : List Opening) → is_invisible s.delimiter.kind ≡ true
    → IsHeld (p ++ token.Subtree s ∷ q) (o ∷ outer) → o.at.count < length p → IsHeld p (o ∷ outer) → Unwrapped p q (token.Subtree s) (o ∷ outer)
unwrapped_here p q s o outer invisible held within before =
    let x : TokenTree = token.Subtree s in
    let from : o.at.count + 1 ≤ length p = omega (arith, within) in
    let le : o.at.count ≤ length p = omega (arith, within) in
    let a : List TokenTree = drop (o.at.count + 1) p in
    let rest : drop (o.at.count + 1) (p ++ x ∷ q) ≡ a ++ x ∷ q = drop-append-le (o.at.count + 1) p (x ∷ q) from in
    let less : drop (o.at.count + 1) (p ++ q) ≡ a ++ q = drop-append-le (o.at.count + 1) p q from in
    let old_front : take o.at.count (p ++ x ∷ q) ≡ take o.at.count p = take-append-le o.at.count p (x ∷ q) le in
    let new_front : take o.at.count (p ++ q) ≡ take o.at.count p = take-append-le o.at.count p q le in
    let u = list_unwrapped a q s invisible before.1 (rw rest at held.1) in
    let n : length a ≡ length p - 1 - o.at.count = omega (arith, length-drop (o.at.count + 1) p) in
    let place : count_in (groups_of (p ++ x ∷ q) (o ∷ outer)) ≡ o.at.count = omega (arith, start_counts (p ++ x ∷ q) (o ∷ outer) held) in
    let same : nat_lt (length p) o.at.count ≡ false = le-ltb (length p) o.at.count le in
    let outer_same : map (moved_back (length p)) outer ≡ outer =
    all_before (length p) (take o.at.count p) outer (omega (arith, length-take o.at.count p)) before.2 in
    record {
      held =
          rw (same, outer_same)
          (omega (arith, within, length-append p q), rw less u.0, rw new_front before.2);
      groups_are = rw (same, outer_same, place, lt-ltb o.at.count (length p) within, new_front, old_front) refl;
      here_is = rw (same, place, lt-ltb o.at.count (length p) within, less, rest, ← n) u.1;
    }

-- the tokens up to an opening after the place, and those after it
record Around (p q : List TokenTree) (x : TokenTree) (at : ℕ) (between : List TokenTree) : Type 0 where
  before : take at (p ++ x ∷ q) ≡ p ++ x ∷ between
  before_new : take (at - 1) (p ++ q) ≡ p ++ between
  behind : drop (at - 1 + 1) (p ++ q) ≡ drop (at + 1) (p ++ x ∷ q)

around : (p q : List TokenTree) (x : TokenTree) (at : ℕ) → length p < at → at < length (p ++ x ∷ q)
    → Around p q x at (take (at - 1 - length p) q)
around p q x at from to =
    let m : ℕ = at - 1 - length p in
    let between : List TokenTree = take m q in
    let behind : List TokenTree = drop m q in
    let fits : m ≤ length q = omega (arith, from, to, length-append p (x ∷ q)) in
    let split : between ++ behind ≡ q = take-append-drop m q in
    let counts : length between ≡ m = length-take-le m q fits in
    let old : (p ++ x ∷ between) ++ behind ≡ p ++ x ∷ q = append_assoc p (x ∷ between) behind ∙ ap (λ r. p ++ x ∷ r) split in
    let new : (p ++ between) ++ behind ≡ p ++ q = append_assoc p between behind ∙ ap (λ r. p ++ r) split in
    let old_length : length (p ++ x ∷ between) ≡ at = omega (arith, from, counts, length-append p (x ∷ between)) in
    let new_length : length (p ++ between) ≡ at - 1 = omega (arith, from, counts, length-append p between) in
    let old_rest : drop (at + 1) (p ++ x ∷ q) ≡ drop 1 behind =
    sym (drop-drop 1 at (p ++ x ∷ q)) ∙ ap (λ t. drop 1 (drop at t)) (sym old) ∙ ap (drop 1) (drop_at (p ++ x ∷ between) behind at old_length) in
    let new_rest : drop (at - 1 + 1) (p ++ q) ≡ drop 1 behind =
    sym (drop-drop 1 (at - 1) (p ++ q)) ∙ ap (λ t. drop 1 (drop (at - 1) t)) (sym new) ∙ ap (drop 1) (drop_at (p ++ between) behind (at - 1) new_length) in
    record {
      before = ap (take at) (sym old) ∙ take_at (p ++ x ∷ between) behind at old_length;
      before_new = ap (take (at - 1)) (sym new) ∙ take_at (p ++ between) behind (at - 1) new_length;
      behind = new_rest ∙ sym old_rest;
    }

pub unwrapped_token : (p q : List TokenTree) (s : Subtree) (os : List Opening) → is_invisible s.delimiter.kind ≡ true
    → IsHeld (p ++ token.Subtree s ∷ q) os → IsCut (length p) (p ++ token.Subtree s ∷ q) os → Unwrapped p q (token.Subtree s) os
unwrapped_token p q s [] invisible held cut =
    unwrapped_here_top p q s invisible held (rw (take-append_seam p (token.Subtree s ∷ q)) at cut)
unwrapped_token p q s (o ∷ outer) invisible held cut =
    elim cut [
      | inl within ↦ unwrapped_here p q s o outer invisible held within.0 (rw (take-append_seam p (token.Subtree s ∷ q)) at within.1)
      | inr before ↦
          let x : TokenTree = token.Subtree s in
          let between : List TokenTree = take (o.at.count - 1 - length p) q in
          let w : Around p q x o.at.count between = around p q x o.at.count before.0 held.0 in
          let u : Unwrapped p between x outer = unwrapped_token p between s outer invisible (rw w.before at held.2) (rw w.before at before.1) in
          let place : count_in (groups_of (p ++ x ∷ q) (o ∷ outer)) ≡ o.at.count = omega (arith, start_counts (p ++ x ∷ q) (o ∷ outer) held) in
          let past : nat_lt o.at.count (length p) ≡ false = le-ltb o.at.count (length p) (omega (arith, before.0)) in
          let moved : nat_lt (length p) o.at.count ≡ true = lt-ltb (length p) o.at.count before.0 in
          let total : length (p ++ q) + 1 ≡ length (p ++ x ∷ q) = omega (arith, length-append p q, length-append p (x ∷ q)) in
          record {
            held = rw moved (omega (arith, held.0, total, before.0), rw w.behind held.1, rw w.before_new u.held);
            groups_are = rw (moved, place, past, w.before_new, w.before, u.groups_are, u.here_is) refl;
            here_is = rw (moved, place, past, w.behind) refl;
          }
    ]

-- where the place has no invisible group, nothing changes
pub stays : (p q : List TokenTree) (x : TokenTree) (os : List Opening) → begins_invisible x ≡ false
    → IsHeld (p ++ x ∷ q) os → IsCut (length p) (p ++ x ∷ q) os
    → unwrapped_in (length p) (groups_of (p ++ x ∷ q) os) (here_of (p ++ x ∷ q) os) ≡ (groups_of (p ++ x ∷ q) os, here_of (p ++ x ∷ q) os)
stays p q x [] seen held cut =
    let before : IsHeld p [] = rw (take-append_seam p (x ∷ q)) at cut in
    let first : 1 ≤ length p = omega (arith, before.0) in
    let a : List TokenTree = drop 1 p in
    let rest : drop 1 (p ++ x ∷ q) ≡ a ++ x ∷ q = drop-append-le 1 p (x ∷ q) first in
    let n : length a ≡ length p - 1 = length-drop 1 p in
    let same : unwrapped_after (length a) (forest_of (a ++ x ∷ q)) ≡ forest_of (a ++ x ∷ q) = list_stays a q x seen before.1 (rw rest at held.1) in
    rw (rest, ← n, same) refl
stays p q x (o ∷ outer) seen held cut =
    let place : count_in (groups_of (p ++ x ∷ q) (o ∷ outer)) ≡ o.at.count = omega (arith, start_counts (p ++ x ∷ q) (o ∷ outer) held) in
    elim cut [
      | inl within ↦
          let before : IsHeld p (o ∷ outer) = rw (take-append_seam p (x ∷ q)) at within.1 in
          let from : o.at.count + 1 ≤ length p = omega (arith, within.0) in
          let a : List TokenTree = drop (o.at.count + 1) p in
          let rest : drop (o.at.count + 1) (p ++ x ∷ q) ≡ a ++ x ∷ q = drop-append-le (o.at.count + 1) p (x ∷ q) from in
          let n : length a ≡ length p - 1 - o.at.count = omega (arith, length-drop (o.at.count + 1) p) in
          let same : unwrapped_after (length a) (forest_of (a ++ x ∷ q)) ≡ forest_of (a ++ x ∷ q) =
          list_stays a q x seen before.1 (rw rest at held.1) in
          rw (place, lt-ltb o.at.count (length p) within.0, rest, ← n, same) refl
      | inr before ↦
          let w : Around p q x o.at.count (take (o.at.count - 1 - length p) q) = around p q x o.at.count before.0 held.0 in
          let same = stays p (take (o.at.count - 1 - length p) q) x outer seen (rw w.before at held.2) (rw w.before at before.1) in
          let past : nat_lt o.at.count (length p) ≡ false = le-ltb o.at.count (length p) (omega (arith, before.0)) in
          rw (place, past, w.before, same) refl
    ]

-- the same at a place among the tokens, for openings with the innermost last
pub record TakenOut (tokens : List TokenTree) (items : List Opening) (at : ℕ) : Type 0 where
  pub held : IsHeld (take at tokens ++ drop (at + 1) tokens) (reverse (map (moved_back at) items))
  pub groups_are : groups_of (take at tokens ++ drop (at + 1) tokens) (reverse (map (moved_back at) items))
      ≡ (unwrapped_in at (groups_of tokens (reverse items)) (here_of tokens (reverse items))).0
  pub here_is : here_of (take at tokens ++ drop (at + 1) tokens) (reverse (map (moved_back at) items))
      ≡ (unwrapped_in at (groups_of tokens (reverse items)) (here_of tokens (reverse items))).1

pub taken_out : (tokens : List TokenTree) (items : List Opening) (at : ℕ) (x : TokenTree) → at < length tokens → x ≡ get_or tokens at x
    → begins_invisible x ≡ true → IsHeld tokens (reverse items) → IsCut at tokens (reverse items) → TakenOut tokens items at
taken_out tokens items at (token.Leaf l) below read invisible held cut = absurd (grind (arith, invisible))
taken_out tokens items at (token.Subtree s) below read invisible held cut =
    let x : TokenTree = token.Subtree s in
    let p : List TokenTree = take at tokens in
    let q : List TokenTree = drop (at + 1) tokens in
    let os : List Opening = reverse items in
    let n : length p ≡ at = length-take-le at tokens (omega (arith, below)) in
    let e : p ++ x ∷ q ≡ tokens = ap (λ y. p ++ y ∷ q) read ∙ (ap (λ t. p ++ t) (sym (drop_more tokens at x below)) ∙ take-append-drop at tokens) in
    let turned : reverse (map (moved_back at) items) ≡ map (moved_back at) os = map-reversed (moved_back at) items in
    let u : Unwrapped p q x os = unwrapped_token p q s os invisible (rw e held) (rw (e, n) cut) in
    record {
      held = rw turned (rw n at u.held);
      groups_are = rw turned (rw (n, e) at u.groups_are);
      here_is = rw turned (rw (n, e) at u.here_is);
    }

pub left_there : (tokens : List TokenTree) (items : List Opening) (at : ℕ) (x : TokenTree) → at < length tokens → x ≡ get_or tokens at x
    → begins_invisible x ≡ false → IsHeld tokens (reverse items) → IsCut at tokens (reverse items)
    → unwrapped_in at (groups_of tokens (reverse items)) (here_of tokens (reverse items))
    ≡ (groups_of tokens (reverse items), here_of tokens (reverse items))
left_there tokens items at x below read seen held cut =
    let p : List TokenTree = take at tokens in
    let q : List TokenTree = drop (at + 1) tokens in
    let n : length p ≡ at = length-take-le at tokens (omega (arith, below)) in
    let e : p ++ x ∷ q ≡ tokens = ap (λ y. p ++ y ∷ q) read ∙ ap (λ t. p ++ t) (sym (drop_more tokens at x below)) ∙ take-append-drop at tokens in
    rw (n, e) at (stays p q x (reverse items) seen (rw e held) (rw (e, n) cut))

-- a list changed item by item, one more of them
pub one_changed : {A : Type 0} (f : A → A) (xs items : List A) (i : ℕ) (d y : A) → items ≡ map f (take i xs) ++ drop i xs → i < length xs
    → y ≡ f (get_or items i d) → set items i y ≡ map f (take (i + 1) xs) ++ drop (i + 1) xs
one_changed {A} f xs items i d y so_far below changed =
    let z : A = get_or xs i d in
    let done : List A = map f (take i xs) in
    let rest : List A = drop (i + 1) xs in
    let n : length done ≡ i = length-map (take i xs) f ∙ length-take-le i xs (omega (arith, below)) in
    let split : items ≡ done ++ z ∷ rest = so_far ∙ ap (λ t. done ++ t) (drop_more xs i d below) in
    let read : get_or items i d ≡ z = ap (λ t. get_or t i d) split ∙ get_or_at done z rest d i n in
    ap (λ t. set t i y) split ∙ set_at done z rest y i n ∙ ap (λ v. done ++ v ∷ rest) (changed ∙ ap f read)
    ∙ sym (append_assoc done (f z ∷ []) rest) ∙ ap (λ t. t ++ rest) (sym (map_more f xs i d below))
