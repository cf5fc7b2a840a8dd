-- A builder's lists, by how many groups are open in them, and cut back to fewer tokens.
use Rattle.std.proofs.Common.{◌≡◌, ◌↔◌, ℕ, ◌+◌, ◌-◌, ◌<◌, ◌≤◌, ◌^◌, length, List, [], ◌∷◌, ◌++◌, take, drop, ap, subst, sym, refl, ◌∙◌, arith, nat_eq, nat_le, one-add, option_and_then, option_map, slice_index_or, Option, Some, None, IsSome, Bool, true, false, if◌then◌else◌, reverse, length-append, inl, inr}
use Rattle.std.proofs.lemmas.Bool.{eq-eqb, ne_eqb, le-leb, leb-true, eqb-true, cases_lt}
use Rattle.std.proofs.lemmas.List.{append_cancel_left, length-drop, length-take, length-take-le, take-take, take-append-drop, drop-take, reverse-append, length-reverse, drop_at, take_all, take_more}
use Rattle.tt_data.specs.Forest.{Forest, joined, size, front, back, preorder, forest_of, IsPreorder}
use Rattle.tt_data.specs.Flat.{length-preorder, front-joined, back-joined, preorder-joined, take-preorder, IsPreorder-preorder}
use Rattle.tt_data.proofs.FlatLemmas.{forest_of-append_whole}
use Rattle.tt_data.proofs.ForestLemmas.{joined-front-back}
use Rattle.tt_data.specs.declared.delimiter.Delimiter.{Delimiter}
use Rattle.tt_data.specs.declared.tree.TokenTree.{TokenTree}
use Rattle.tt.specs.declared.top_subtree.builder.Opening.{Opening}
use Rattle.tt.specs.Building.{Point, Opened, count_in, list_in, cut_to, cut_in, cut_back}
use Rattle.tt.specs.BuilderTokens.{start_of, here_of, groups_of, IsHeld}
use Rattle.tt.proofs.Limits.{size-whole, counted}

-- whole trees of which the first end after so many tokens
pub record Cut (tokens : List TokenTree) (n : ℕ) : Type 0 where
  pub all_is : forest_of tokens ≡ joined (forest_of (take n tokens)) (forest_of (drop n tokens))
  pub front_is : front n (forest_of tokens) ≡ forest_of (take n tokens)
  pub back_is : back n (forest_of tokens) ≡ forest_of (drop n tokens)
  pub back_whole : IsPreorder (drop n tokens)

pub cut : (tokens : List TokenTree) (n : ℕ) → IsPreorder tokens → n ≤ length tokens → IsPreorder (take n tokens) → Cut tokens n
cut tokens n whole fits front_whole =
    let f : Forest = forest_of (take n tokens) in
    let g : Forest = forest_of (drop n tokens) in
    let all : forest_of tokens ≡ joined f g =
    ap forest_of (sym (take-append-drop n tokens)) ∙ forest_of-append_whole (take n tokens) (drop n tokens) front_whole in
    let counts : size f ≡ n = size-whole (take n tokens) front_whole ∙ length-take-le n tokens fits in
    let same : take n tokens ++ preorder g ≡ take n tokens ++ drop n tokens =
    ap (λ t. t ++ preorder g) (sym front_whole) ∙ sym (preorder-joined f g) ∙ ap preorder (sym all) ∙ whole ∙ sym (take-append-drop n tokens) in
    record {
      all_is = all;
      front_is = ap (λ k. front k (forest_of tokens)) (sym counts) ∙ ap (front (size f)) all ∙ front-joined f g;
      back_is = ap (λ k. back k (forest_of tokens)) (sym counts) ∙ ap (back (size f)) all ∙ back-joined f g;
      back_whole = append_cancel_left (take n tokens) (preorder g) (drop n tokens) same;
    }

-- where the trees taken together have just so many tokens, they are the first of the tokens
pub taken_whole : (tokens : List TokenTree) (n : ℕ) → IsPreorder tokens → size (front n (forest_of tokens)) ≡ n
    → (n ≤ length tokens) × IsPreorder (take n tokens)
taken_whole tokens n whole counts =
    let f : Forest = front n (forest_of tokens) in
    let g : Forest = back n (forest_of tokens) in
    let both : joined f g ≡ forest_of tokens = joined-front-back n (forest_of tokens) in
    let split : preorder f ++ preorder g ≡ tokens = sym (preorder-joined f g) ∙ ap preorder both ∙ whole in
    let taken : take n tokens ≡ preorder f =
    ap (λ k. take k tokens) (sym counts) ∙ ap (take (size f)) (sym split) ∙ take-preorder f (preorder g) in
    (omega (arith, ap length split, length-append (preorder f) (preorder g), length-preorder f, counts), rw taken (IsPreorder-preorder f))

pub here_is : (tokens : List TokenTree) (os : List Opening) → here_of tokens os ≡ forest_of (drop (start_of os) tokens)
here_is tokens [] = refl
here_is tokens (o ∷ outer) = refl

pub here_whole : (tokens : List TokenTree) (os : List Opening) → IsHeld tokens os → IsPreorder (drop (start_of os) tokens)
here_whole tokens [] held = held.1
here_whole tokens (o ∷ outer) held = held.1

pub start_fits : (tokens : List TokenTree) (os : List Opening) → IsHeld tokens os → start_of os ≤ length tokens
start_fits tokens [] held = omega (arith, held.0)
start_fits tokens (o ∷ outer) held = omega (arith, held.0)

-- what comes before the innermost list: the top's token, and those that its open groups count
pub start_counts : (tokens : List TokenTree) (os : List Opening) → IsHeld tokens os → start_of os ≡ 1 + count_in (groups_of tokens os)
start_counts tokens [] held = refl
start_counts tokens (o ∷ outer) held =
    omega (arith, held.0, counted (take o.at.count tokens) outer held.2, length-take o.at.count tokens)

pub length-groups_of : (tokens : List TokenTree) (os : List Opening) → length (groups_of tokens os) ≡ length os
length-groups_of tokens [] = refl
length-groups_of tokens (o ∷ outer) = omega (arith, length-groups_of (take o.at.count tokens) outer)

-- the innermost list is the one with all groups open
pub list_here : (tokens : List TokenTree) (os : List Opening) (depth : ℕ) → depth ≡ length os
    → list_in depth (groups_of tokens os) (here_of tokens os) ≡ Some (groups_of tokens os, here_of tokens os)
list_here tokens [] depth e = rw (eq-eqb depth 0 e) refl
list_here tokens (o ∷ outer) depth e =
    rw (length-groups_of (take o.at.count tokens) outer, eq-eqb depth (1 + length outer) (omega (arith, e))) refl

-- a list with fewer groups open stands among the tokens before the innermost one
pub list_outer : (tokens : List TokenTree) (o : Opening) (outer : List Opening) (depth : ℕ) → depth ≤ length outer
    → list_in depth (groups_of tokens (o ∷ outer)) (here_of tokens (o ∷ outer))
    ≡ list_in depth (groups_of (take o.at.count tokens) outer) (here_of (take o.at.count tokens) outer)
list_outer tokens o outer depth below =
    rw (length-groups_of (take o.at.count tokens) outer, ne_eqb depth (1 + length outer) (λ e. omega (arith, e, below))) refl

-- in no list more groups are open than are open
pub list_none : (tokens : List TokenTree) (os : List Opening) (depth : ℕ) → length os < depth
    → list_in depth (groups_of tokens os) (here_of tokens os) ≡ None
list_none tokens [] depth above = rw (ne_eqb depth 0 (λ e. omega (arith, e, above))) refl
list_none tokens (o ∷ outer) depth above =
    rw (length-groups_of (take o.at.count tokens) outer, ne_eqb depth (1 + length outer) (λ e. omega (arith, e, above)))
    (list_none (take o.at.count tokens) outer depth (omega (arith, above)))

-- tokens cut where a tree of the innermost list ends are held too: no open group changes, and the list has its first trees
pub record HeldCut (tokens : List TokenTree) (os : List Opening) (at : ℕ) : Type 0 where
  pub held : IsHeld (take at tokens) os
  pub groups_are : groups_of (take at tokens) os ≡ groups_of tokens os
  pub here_front : here_of (take at tokens) os ≡ front (at - start_of os) (here_of tokens os)

-- what is cut off the end, seen from a later start
drop-take-from : (start at : ℕ) (tokens : List TokenTree) → start ≤ at → drop start (take at tokens) ≡ take (at - start) (drop start tokens)
drop-take-from start at tokens le =
    let e : at ≡ start + (at - start) = omega (arith, le) in
    ap (λ n. drop start (take n tokens)) e ∙ drop-take start (at - start) tokens

pub held_cut : (tokens : List TokenTree) (os : List Opening) (at : ℕ) → IsHeld tokens os → start_of os ≤ at → at ≤ length tokens
    → IsPreorder (take (at - start_of os) (drop (start_of os) tokens)) → HeldCut tokens os at
held_cut tokens [] at held from to whole =
    let rest : drop 1 (take at tokens) ≡ take (at - 1) (drop 1 tokens) = drop-take-from 1 at tokens from in
    let c : Cut (drop 1 tokens) (at - 1) = cut (drop 1 tokens) (at - 1) held.1 (omega (arith, to, length-drop 1 tokens)) whole in
    record {
      held = (omega (arith, from, length-take-le at tokens to), rw rest whole);
      groups_are = refl;
      here_front = ap forest_of rest ∙ sym c.front_is;
    }
held_cut tokens (o ∷ outer) at held from to whole =
    let rest : drop (o.at.count + 1) (take at tokens) ≡ take (at - (o.at.count + 1)) (drop (o.at.count + 1) tokens) = drop-take-from (o.at.count + 1) at tokens from in
    let before : take o.at.count (take at tokens) ≡ take o.at.count tokens = take-take o.at.count at tokens (omega (arith, from)) in
    let c : Cut (drop (o.at.count + 1) tokens) (at - (o.at.count + 1)) =
    cut (drop (o.at.count + 1) tokens) (at - (o.at.count + 1)) held.1 (omega (arith, to, length-drop (o.at.count + 1) tokens)) whole in
    record {
      held = (omega (arith, from, length-take-le at tokens to), rw rest whole, rw before held.2);
      groups_are = rw before refl;
      here_front = ap forest_of rest ∙ sym c.front_is;
    }

-- a point in the innermost list
pub record Restored (tokens : List TokenTree) (os kept : List Opening) (p : Point) : Type 0 where
  pub fits : p.tokens + 1 ≤ length tokens
  pub held : IsHeld (take (p.tokens + 1) tokens) kept
  pub cut_is : cut_in p (groups_of tokens os) (here_of tokens os)
      ≡ Some (groups_of (take (p.tokens + 1) tokens) kept, here_of (take (p.tokens + 1) tokens) kept)

-- an answer under two tests is there only where both hold
some_if : {X : Type 0} (b c : Bool) (x : X) → IsSome (if b then if c then Some x else None else None) → (b ≡ true) × (c ≡ true)
some_if true true x some = (refl, refl)
some_if true false x some = absurd (grind arith)
some_if false c x some = absurd (grind arith)

-- a list can be cut only where a tree of it ends
pub record Ends (tokens : ℕ) (groups : List Opened) (here : Forest) : Type 0 where
  pub below : count_in groups ≤ tokens
  pub counts : size (front (tokens - count_in groups) here) ≡ tokens - count_in groups
  pub cut_is : cut_to tokens groups here ≡ Some (groups, front (tokens - count_in groups) here)

pub ends : (tokens : ℕ) (groups : List Opened) (here : Forest) → IsSome (cut_to tokens groups here) → Ends tokens groups here
ends tokens groups here some =
    let n : ℕ = tokens - count_in groups in
    let both : (nat_le (count_in groups) tokens ≡ true) × (nat_eq (size (front n here)) n ≡ true) =
    some_if (nat_le (count_in groups) tokens) (nat_eq (size (front n here)) n) (groups, front n here) some in
    record {
      below = leb-true (count_in groups) tokens both.0;
      counts = eqb-true (size (front n here)) n both.1;
      cut_is = rw (both.0, both.1) refl;
    }

-- and wherever one ends
pub ends_there : (tokens : ℕ) (groups : List Opened) (here : Forest) → count_in groups ≤ tokens
    → size (front (tokens - count_in groups) here) ≡ tokens - count_in groups → IsSome (cut_to tokens groups here)
ends_there tokens groups here below counts =
    let n : ℕ = tokens - count_in groups in
    rw (le-leb (count_in groups) tokens below, eq-eqb (size (front n here)) n counts) refl

restored_here : (tokens : List TokenTree) (os : List Opening) (p : Point) → IsHeld tokens os → p.depth ≡ length os
    → IsSome (cut_in p (groups_of tokens os) (here_of tokens os)) → Restored tokens os os p
restored_here tokens os p held e some =
    let groups : List Opened = groups_of tokens os in
    let here : Forest = here_of tokens os in
    let k : ℕ = p.tokens + 1 in
    let list : list_in p.depth groups here ≡ Some (groups, here) = list_here tokens os p.depth e in
    let end : Ends p.tokens groups here = ends p.tokens groups here (rw list at some) in
    let start : start_of os ≡ 1 + count_in groups = start_counts tokens os held in
    let offset : p.tokens - count_in groups ≡ k - start_of os = omega (arith, start) in
    let whole : IsPreorder (drop (start_of os) tokens) = here_whole tokens os held in
    let counts : size (front (k - start_of os) (forest_of (drop (start_of os) tokens))) ≡ k - start_of os =
    rw (← offset, ← here_is tokens os) end.counts in
    let taken : (k - start_of os ≤ length (drop (start_of os) tokens)) × IsPreorder (take (k - start_of os) (drop (start_of os) tokens)) =
    taken_whole (drop (start_of os) tokens) (k - start_of os) whole counts in
    let from : start_of os ≤ k = omega (arith, start, end.below) in
    let fits : k ≤ length tokens = omega (arith, taken.0, from, start_fits tokens os held, length-drop (start_of os) tokens) in
    let c : HeldCut tokens os k = held_cut tokens os k held from fits taken.1 in
    record {
      fits = fits;
      held = c.held;
      cut_is = rw (list, end.cut_is, c.groups_are, c.here_front, offset) refl;
    }

-- in a list with more groups open than are open no point stands
stands_within : (tokens : List TokenTree) (os : List Opening) (p : Point) → IsSome (cut_in p (groups_of tokens os) (here_of tokens os))
    → p.depth ≤ length os
stands_within tokens os p some =
    elim (cases_lt (length os) p.depth) [
      | inl above ↦ let no : IsSome {T = List Opened × Forest} None = none tokens os p above some in absurd (grind arith)
      | inr le ↦ le
    ]
  where
    none : (tokens : List TokenTree) (os : List Opening) (p : Point) → length os < p.depth
        → IsSome (cut_in p (groups_of tokens os) (here_of tokens os)) → IsSome {T = List Opened × Forest} None
    none tokens os p above some = rw (list_none tokens os p.depth above) at some

-- a point that stands, be it in the innermost list or in an outer one
pub restored : (tokens : List TokenTree) (os : List Opening) (p : Point) → IsHeld tokens os
    → IsSome (cut_in p (groups_of tokens os) (here_of tokens os)) → Restored tokens os (drop (length os - p.depth) os) p
restored tokens [] p held some =
    let within : p.depth ≤ 0 = stands_within tokens [] p some in
    let e : p.depth ≡ 0 = omega (arith, within) in
    let none : length {A = Opening} [] - p.depth ≡ 0 = omega arith in
    let P : List Opening → Type 0 = λ kept. Restored tokens [] kept p in
    subst P (sym (ap (λ n. drop n []) none)) (restored_here tokens [] p held e some)
restored tokens (o ∷ outer) p held some =
    let all : List Opening = o ∷ outer in
    let P : List Opening → Type 0 = λ kept. Restored tokens all kept p in
    elim (cases_lt p.depth (length all)) [
      | inl below ↦
          let less : p.depth ≤ length outer = omega (arith, below) in
          let left : length all - p.depth ≡ 1 + (length outer - p.depth) = omega (arith, less) in
          let kept : List Opening = drop (length outer - p.depth) outer in
          let dropped : drop (length all - p.depth) all ≡ kept = ap (λ n. drop n all) left ∙ dropped_first o outer (length outer - p.depth) in
          let same : cut_in p (groups_of tokens all) (here_of tokens all) ≡ cut_in p (groups_of (take o.at.count tokens) outer) (here_of (take o.at.count tokens) outer) =
          ap (option_and_then (λ (l : List Opened × Forest). cut_to p.tokens l.0 l.1)) (list_outer tokens o outer p.depth less) in
          let r : Restored (take o.at.count tokens) outer kept p = restored (take o.at.count tokens) outer p held.2 (rw same at some) in
          let short : p.tokens + 1 ≤ o.at.count = omega (arith, r.fits, length-take o.at.count tokens) in
          let taken : take (p.tokens + 1) (take o.at.count tokens) ≡ take (p.tokens + 1) tokens = take-take (p.tokens + 1) o.at.count tokens short in
          subst P (sym dropped) (record { fits = omega (arith, short, held.0); held = rw taken at r.held; cut_is = same ∙ rw taken at r.cut_is })
      | inr above ↦
          let within : p.depth ≤ length all = stands_within tokens all p some in
          let e : p.depth ≡ length all = omega (arith, within, above) in
          let none : length all - p.depth ≡ 0 = omega (arith, e) in
          subst P (sym (ap (λ n. drop n all) none)) (restored_here tokens all p held e some)
    ]
  where
    dropped_first : (o : Opening) (outer : List Opening) (n : ℕ) → drop (1 + n) (o ∷ outer) ≡ drop n outer
    dropped_first o outer n = rw (one-add n) refl

-- the innermost openings left off, as many as are opened later
pub kept_is : (items : List Opening) (depth : ℕ) → depth ≤ length items
    → drop (length (reverse items) - depth) (reverse items) ≡ reverse (take depth items)
kept_is items depth le =
    let split : reverse items ≡ reverse (drop depth items) ++ reverse (take depth items) =
    ap reverse (sym (take-append-drop depth items)) ∙ reverse-append (take depth items) (drop depth items) in
    let n : length (reverse (drop depth items)) ≡ length (reverse items) - depth =
    omega (arith, length-reverse (drop depth items), length-reverse items, length-drop depth items) in
    ap (drop (length (reverse items) - depth)) split ∙ drop_at (reverse (drop depth items)) (reverse (take depth items)) (length (reverse items) - depth) n

pub some_mapped : {X Y : Type 0} (f : X → Y) (o : Option X) → IsSome (option_map f o) ↔ IsSome o
some_mapped f None = (λ some. some, λ some. some)
some_mapped f (Some x) = (λ some. refl, λ some. refl)

-- the same for openings with the innermost last
pub restored_items : (tokens : List TokenTree) (items : List Opening) (p : Point) (top : Delimiter) → IsHeld tokens (reverse items)
    → IsSome (cut_back p (record { top = top; groups = groups_of tokens (reverse items); here = here_of tokens (reverse items) }))
    → Restored tokens (reverse items) (reverse (take p.depth items)) p
restored_items tokens items p top held some =
    let os : List Opening = reverse items in
    let stands : IsSome (cut_in p (groups_of tokens os) (here_of tokens os)) = (some_mapped _ (cut_in p (groups_of tokens os) (here_of tokens os))).0 some in
    let within : p.depth ≤ length items = omega (arith, stands_within tokens os p stands, length-reverse items) in
    let P : List Opening → Type 0 = λ kept. Restored tokens os kept p in
    subst P (kept_is items p.depth within) (restored tokens os p held stands)

-- each open group has a token of its own
pub fewer_openings : (tokens : List TokenTree) (os : List Opening) → IsHeld tokens os → length os < length tokens
fewer_openings tokens [] held = held.0
fewer_openings tokens (o ∷ outer) held =
    omega (arith, held.0, fewer_openings (take o.at.count tokens) outer held.2, length-take o.at.count tokens)

-- the last of some openings is the innermost
last_first : (xs : List Opening) (d : Opening) → 0 < length xs
    → reverse xs ≡ slice_index_or xs (length xs - 1) d ∷ reverse (take (length xs - 1) xs)
last_first xs d some =
    let n : ℕ = length xs - 1 in
    let all : take (n + 1) xs ≡ xs = take_all (n + 1) xs (omega (arith, some)) in
    ap reverse (sym all ∙ take_more xs n d (omega (arith, some))) ∙ reverse-append (take n xs) (slice_index_or xs n d ∷ [])

-- a step from the innermost list to the one around it, on the way to the one with so many groups open
pub outer_step : (tokens : List TokenTree) (xs : List Opening) (d : Opening) (depth : ℕ) (target : Option (List Opened × Forest))
    → depth < length xs → IsHeld tokens (reverse xs) → length tokens ≤ 2 ^ 32
    → list_in depth (groups_of tokens (reverse xs)) (here_of tokens (reverse xs)) ≡ target
    → let before = take (slice_index_or xs (length xs - 1) d).at.count tokens in
    let outer = reverse (take (length xs - 1) xs) in
    IsHeld before outer × (length before ≤ 2 ^ 32) × (list_in depth (groups_of before outer) (here_of before outer) ≡ target)
outer_step tokens xs d depth target more held room list =
    let o : Opening = slice_index_or xs (length xs - 1) d in
    let outer : List Opening = reverse (take (length xs - 1) xs) in
    let e : reverse xs ≡ o ∷ outer = last_first xs d (omega (arith, more)) in
    let inside : IsHeld tokens (o ∷ outer) = rw e at held in
    let fits : length outer ≡ length xs - 1 =
    length-reverse (take (length xs - 1) xs) ∙ length-take-le (length xs - 1) xs (omega arith) in
    let below : depth ≤ length outer = omega (arith, more, fits) in
    (inside.2, omega (arith, room, length-take o.at.count tokens), sym (list_outer tokens o outer depth below) ∙ rw e at list)

-- the innermost opening is among the tokens
pub last_fits : (tokens : List TokenTree) (xs : List Opening) (d : Opening) → 0 < length xs → IsHeld tokens (reverse xs)
    → (slice_index_or xs (length xs - 1) d).at.count ≤ length tokens
last_fits tokens xs d some held =
    let inside : IsHeld tokens (slice_index_or xs (length xs - 1) d ∷ reverse (take (length xs - 1) xs)) = rw (last_first xs d some) at held in
    omega (arith, inside.0)

-- fewer first tokens of a run are its first tokens
pub fewer_first : (tokens upto : List TokenTree) (k : ℕ) → upto ≡ take (length upto) tokens → k ≤ length upto
    → take k upto ≡ take (length (take k upto)) tokens
fewer_first tokens upto k first le =
    ap (take k) first ∙ take-take k (length upto) tokens le ∙ ap (λ n. take n tokens) (sym (length-take-le k upto le))
