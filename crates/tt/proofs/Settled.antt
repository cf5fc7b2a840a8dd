-- Where trees of a builder's lists are known to end, as it goes on.
use Rattle.std.proofs.Common.{◌≡◌, ◌↔◌, ◌⊎◌, ℕ, ◌+◌, ◌-◌, ◌≤◌, ◌++◌, min, List, [], ◌∷◌, length, take, drop, ap, sym, refl, ◌∙◌, arith, nat_eq, Bool, true, false, if◌then◌else◌, Option, Some, None, inl, inr}
use Rattle.std.proofs.Math.Nat.{min-eq_left, min_comm}
use Rattle.std.proofs.lemmas.Bool.{lt-ltb, le-ltb, cases_lt}
use Rattle.std.proofs.lemmas.List.{take_rest, take_at}
use Rattle.tt_data.specs.Forest.{Forest, empty, leaf, group, joined, size, front, back, preorder, forest_of, IsPreorder}
use Rattle.tt_data.specs.Flat.{front-zero, front-joined, joined-empty}
use Rattle.tt_data.proofs.ForestLemmas.{joined-front-back, joined_assoc, size-joined}
use Rattle.tt_data.specs.declared.delimiter.Delimiter.{Delimiter}
use Rattle.tt_data.specs.declared.tree.TokenTree.{TokenTree}
use Rattle.tt.specs.declared.top_subtree.builder.Opening.{Opening}
use Rattle.tt.specs.Building.{Opened, count_in, list_in, unwrapped, unwrapped_after, unwrapped_in}
use Rattle.tt.specs.BuilderTokens.{here_of, groups_of, IsHeld, IsSettled}
use Rattle.tt.proofs.Held.{here_of-append, groups_of-append, here_of-closed, groups_of-closed, with_head}
use Rattle.tt.proofs.Limits.{size-whole, counted}
use Rattle.tt.proofs.Points.{Cut, cut, taken_whole, start_counts}

-- more tokens than the first trees have go on into the trees after them
front-past : (a b : Forest) (n m : ℕ) → n ≡ size a + m → front n (joined a b) ≡ joined a (front m b)
front-past empty b n m e = ap (λ k. front k b) (omega (arith, e))
front-past (leaf l rest) b n m e =
    let less : n - 1 ≡ size rest + m = omega (arith, e) in
    rw (lt-ltb 0 n (omega (arith, e)), front-past rest b (n - 1) m less) refl
front-past (group d inner rest) b n m e =
    let less : n - 1 - size inner ≡ size rest + m = omega (arith, e) in
    rw (lt-ltb (size inner) n (omega (arith, e)), front-past rest b (n - 1 - size inner) m less) refl

-- after a place where a tree ends, one ends exactly where one of those after the place does
pub end_after : (known more : ℕ) (f : Forest) → size (front known f) ≡ known
    → (size (front more (back known f)) ≡ more) ↔ (size (front (known + more) f) ≡ known + more)
end_after known more f end =
    let a : Forest = front known f in
    let past : front (known + more) f ≡ joined a (front more (back known f)) =
    ap (front (known + more)) (sym (joined-front-back known f)) ∙ front-past a (back known f) (known + more) more (omega (arith, end)) in
    let counts : size (front (known + more) f) ≡ known + size (front more (back known f)) =
    ap size past ∙ size-joined a (front more (back known f)) ∙ ap (λ n. n + size (front more (back known f))) end in
    (λ e. omega (arith, counts, e), λ e. omega (arith, counts, e))

-- the tokens after a place where a tree is known to end, if there are as many
pub record Behind (tokens : List TokenTree) (known : ℕ) : Type 0 where
  pub ends : size (front known (forest_of tokens)) ≡ known
  pub whole : IsPreorder (take (length tokens - known) (drop known tokens))
  pub back_is : forest_of (take (length tokens - known) (drop known tokens)) ≡ back known (forest_of tokens)

pub behind : (tokens : List TokenTree) (f : Forest) (known : ℕ) → IsPreorder tokens → forest_of tokens ≡ f → known ≤ length tokens
    → (known ≤ size f → size (front known f) ≡ known) → Behind tokens known
behind tokens f known whole shown fits settled =
    let counts : known ≤ size f = omega (arith, fits, ap size shown, size-whole tokens whole) in
    let end : size (front known (forest_of tokens)) ≡ known = rw shown (settled counts) in
    let rest : take (length tokens - known) (drop known tokens) ≡ drop known tokens = take_rest tokens known in
    let c : Cut tokens known = cut tokens known whole fits (taken_whole tokens known whole end).1 in
    record {
      ends = end;
      whole = rw rest c.back_whole;
      back_is = rw rest (sym c.back_is);
    }

-- a tree ends there too where more trees come after
end-joined : (n : ℕ) (f g : Forest) → size (front n f) ≡ n → size (front n (joined f g)) ≡ n
end-joined n f g end =
    let a : Forest = front n f in
    let split : joined f g ≡ joined a (joined (back n f) g) =
    ap (λ h. joined h g) (sym (joined-front-back n f)) ∙ joined_assoc a (back n f) g in
    let same : front n (joined f g) ≡ a =
    ap (λ k. front k (joined f g)) (sym end) ∙ ap (front (size a)) split ∙ front-joined a (joined (back n f) g) in
    ap size same ∙ end

-- and where a tree after it gives way
end-unwrapped : (n m : ℕ) (f : Forest) → n ≤ m → size (front n f) ≡ n → size (front n (unwrapped_after m f)) ≡ n
end-unwrapped n m f le end =
    let a : Forest = front n f in
    let past : front m f ≡ joined a (front (m - n) (back n f)) =
    ap (front m) (sym (joined-front-back n f)) ∙ front-past a (back n f) m (m - n) (omega (arith, le, end)) in
    let first : front n (front m f) ≡ a =
    ap (λ k. front k (front m f)) (sym end) ∙ ap (front (size a)) past ∙ front-joined a (front (m - n) (back n f)) in
    end-joined n (front m f) (unwrapped (back m f)) (ap size first ∙ end)

-- the innermost list changed where trees end that ended there before
IsSettled-here : (at : ℕ) (groups : List Opened) (here new : Forest) → ((n : ℕ) → size (front n here) ≡ n → size (front n new) ≡ n)
    → IsSettled at groups here → IsSettled at groups new
IsSettled-here at [] here new kept s = (s.0, kept (at - 1) s.1)
IsSettled-here at (o ∷ outer) here new kept s =
    elim s [
      | inl within ↦ inl (within.0, kept (at - (1 + count_in (o ∷ outer))) within.1)
      | inr before ↦ inr before
    ]

IsSettled-joined : (at : ℕ) (groups : List Opened) (here g : Forest) → IsSettled at groups here → IsSettled at groups (joined here g)
IsSettled-joined at groups here g s = IsSettled-here at groups here (joined here g) (λ n end. end-joined n here g end) s

pub IsSettled-append : (at : ℕ) (tokens : List TokenTree) (os : List Opening) (g : Forest) → IsHeld tokens os
    → IsSettled at (groups_of tokens os) (here_of tokens os) → IsSettled at (groups_of (tokens ++ preorder g) os) (here_of (tokens ++ preorder g) os)
IsSettled-append at tokens os g held s =
    rw (groups_of-append tokens os g held, here_of-append tokens os g held) (IsSettled-joined at (groups_of tokens os) (here_of tokens os) g s)

-- the end of the innermost list's first trees
settled_end : (at : ℕ) (groups : List Opened) (f g : Forest) → at ≡ 1 + size f + count_in groups → IsSettled at groups (joined f g)
settled_end at [] f g e =
    let counts : at - 1 ≡ size f = omega (arith, e) in
    (omega (arith, e), rw (counts, front-joined f g) refl)
settled_end at (o ∷ outer) f g e =
    let counts : at - (1 + count_in (o ∷ outer)) ≡ size f = omega (arith, e) in
    inl (omega (arith, e), rw (counts, front-joined f g) refl)

-- the end of all tokens
pub settled_here : (at : ℕ) (tokens : List TokenTree) (os : List Opening) → IsHeld tokens os → at ≡ length tokens
    → IsSettled at (groups_of tokens os) (here_of tokens os)
settled_here at tokens os held e =
    let counts : at ≡ 1 + size (here_of tokens os) + count_in (groups_of tokens os) = omega (arith, e, counted tokens os held) in
    rw joined-empty at (settled_end at (groups_of tokens os) (here_of tokens os) empty counts)

end_fits : (n : ℕ) (f : Forest) → size (front n f) ≡ n → n ≤ size f
end_fits n f end =
    omega (arith, end, size-joined (front n f) (back n f), ap size (joined-front-back n f))

-- it is among the tokens
settled_fits : (at : ℕ) (groups : List Opened) (here : Forest) → IsSettled at groups here → at ≤ 1 + size here + count_in groups
settled_fits at [] here s = omega (arith, s.0, end_fits (at - 1) here s.1)
settled_fits at (o ∷ outer) here s =
    elim s [
      | inl within ↦ omega (arith, within.0, end_fits (at - (1 + count_in (o ∷ outer))) here within.1)
      | inr before ↦ omega (arith, before.0)
    ]

-- with one more group open
opened_after : (at : ℕ) (o : Opened) (outer : List Opened) (here : Forest) → IsSettled at outer o.before → IsSettled at (o ∷ outer) here
opened_after at o outer here s = inr (omega (arith, settled_fits at outer o.before s), s)

-- the same where its token comes last
pub IsSettled-opened : (at : ℕ) (tokens : List TokenTree) (x : TokenTree) (o : Opening) (os : List Opening) → o.at.count ≡ length tokens
    → IsSettled at (groups_of tokens os) (here_of tokens os)
    → IsSettled at (groups_of (tokens ++ x ∷ []) (o ∷ os)) (here_of (tokens ++ x ∷ []) (o ∷ os))
IsSettled-opened at tokens x o os e s =
    let before : take o.at.count (tokens ++ x ∷ []) ≡ tokens = take_at tokens (x ∷ []) o.at.count (sym e) in
    let opened : Opened = record { kind = o.kind; open_span = o.open_span; before = here_of tokens os } in
    rw before (opened_after at opened (groups_of tokens os) (here_of (tokens ++ x ∷ []) (o ∷ os)) s)

-- with the innermost group closed
closed_after : (at place : ℕ) (o : Opened) (outer : List Opened) (here g : Forest) → place ≡ count_in (o ∷ outer)
    → IsSettled at (o ∷ outer) here → IsSettled (min at place) outer (joined o.before g)
closed_after at place o outer here g e s =
    elim s [
      | inl within ↦
          let same : min at place ≡ place = min_comm at place ∙ min-eq_left (omega (arith, e, within.0)) in
          rw same (settled_end place outer o.before g (omega (arith, e)))
      | inr before ↦
          let same : min at place ≡ at = min-eq_left (omega (arith, e, before.0)) in
          rw same (IsSettled-joined at outer o.before g before.1)
    ]

pub IsSettled-closed : (at : ℕ) (tokens : List TokenTree) (o : Opening) (outer : List Opening) (d : Delimiter) → IsHeld tokens (o ∷ outer)
    → IsSettled at (groups_of tokens (o ∷ outer)) (here_of tokens (o ∷ outer))
    → IsSettled (min at o.at.count) (groups_of (with_head tokens o.at.count d) outer) (here_of (with_head tokens o.at.count d) outer)
IsSettled-closed at tokens o outer d held s =
    let place : o.at.count ≡ count_in (groups_of tokens (o ∷ outer)) = omega (arith, start_counts tokens (o ∷ outer) held) in
    let opened : Opened = record { kind = o.kind; open_span = o.open_span; before = here_of (take o.at.count tokens) outer } in
    let here : Forest = here_of tokens (o ∷ outer) in
    rw (groups_of-closed tokens o outer d held, here_of-closed tokens o outer d held)
    (closed_after at o.at.count opened (groups_of (take o.at.count tokens) outer) here (group d here empty) place s)

-- with the tree at a later place unwrapped
pub IsSettled-unwrapped : (at later : ℕ) (groups : List Opened) (here : Forest) → at ≤ later → IsSettled at groups here
    → IsSettled at (unwrapped_in later groups here).0 (unwrapped_in later groups here).1
IsSettled-unwrapped at later [] here le s = (s.0, end-unwrapped (at - 1) (later - 1) here (omega (arith, le)) s.1)
IsSettled-unwrapped at later (o ∷ outer) here le s =
    let n : ℕ = count_in (o ∷ outer) in
    elim (cases_lt n later) [
      | inl above ↦
          let kept : IsSettled at (o ∷ outer) (unwrapped_after (later - 1 - n) here) =
          elim s [
            | inl within ↦ inl (within.0, end-unwrapped (at - (1 + n)) (later - 1 - n) here (omega (arith, le)) within.1)
            | inr before ↦ inr before
          ] in
          rw (lt-ltb n later above) kept
      | inr below ↦
          elim s [
            | inl within ↦ absurd (omega (arith, le, below, within.0))
            | inr before ↦
                let inner : List Opened × Forest = unwrapped_in later outer o.before in
                let opened : Opened = record { kind = o.kind; open_span = o.open_span; before = inner.1 } in
                rw (le-ltb n later below) (opened_after at opened inner.0 here (IsSettled-unwrapped at later outer o.before le before.1))
          ]
    ]

-- the first of two answers under a test, or the other
either : {X : Type 0} (test : Bool) (x y : X) (other : Option X) → (if test then Some x else other) ≡ Some y → (x ≡ y) ⊎ (other ≡ Some y)
either true x y other e = inl (cc)
either false x y other e = inr e

-- a list that is sought has its tokens among all
list_within : (depth : ℕ) (groups inside : List Opened) (here list : Forest) → list_in depth groups here ≡ Some (inside, list)
    → size list + count_in inside ≤ size here + count_in groups
list_within depth [] inside here list found =
    elim (either (nat_eq depth 0) ([], here) (inside, list) None found) [
      | inl same ↦ rw (← ap (λ p. p.0) same, ← ap (λ p. p.1) same) (omega arith)
      | inr none ↦ absurd (cc)
    ]
list_within depth (o ∷ outer) inside here list found =
    elim (either (nat_eq depth (1 + length outer)) (o ∷ outer, here) (inside, list) (list_in depth outer o.before) found) [
      | inl same ↦ rw (← ap (λ p. p.0) same, ← ap (λ p. p.1) same) (omega arith)
      | inr further ↦ omega (arith, list_within depth outer inside o.before list further)
    ]

-- in whichever list is sought, a tree ends there, if the list has as many tokens
pub settled_in : (at depth : ℕ) (groups inside : List Opened) (here list : Forest) → IsSettled at groups here
    → list_in depth groups here ≡ Some (inside, list) → at - (1 + count_in inside) ≤ size list
    → size (front (at - (1 + count_in inside)) list) ≡ at - (1 + count_in inside)
settled_in at depth [] inside here list s found fits =
    elim (either (nat_eq depth 0) ([], here) (inside, list) None found) [
      | inl same ↦ rw (← ap (λ p. p.0) same, ← ap (λ p. p.1) same) s.1
      | inr none ↦ absurd (cc)
    ]
settled_in at depth (o ∷ outer) inside here list s found fits =
    elim (either (nat_eq depth (1 + length outer)) (o ∷ outer, here) (inside, list) (list_in depth outer o.before) found) [
      | inl same ↦
          let here_ends : size (front (at - (1 + count_in (o ∷ outer))) here) ≡ at - (1 + count_in (o ∷ outer)) =
          elim s [
            | inl within ↦ within.1
            | inr before ↦
                let none : at - (1 + count_in (o ∷ outer)) ≡ 0 = omega (arith, before.0) in
                rw (none, front-zero here) refl
          ] in
          rw (← ap (λ p. p.0) same, ← ap (λ p. p.1) same) here_ends
      | inr further ↦
          elim s [
            | inl within ↦ absurd (omega (arith, within.0, fits, list_within depth outer inside o.before list further))
            | inr before ↦ settled_in at depth outer inside o.before list before.1 further fits
          ]
    ]
