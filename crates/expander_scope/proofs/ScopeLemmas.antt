-- What names resolve to in the table of definitions, and where these start.
use Rattle.std.proofs.Common.{◌≡◌, ℕ, ◌<◌, zero, suc, List, [], ◌∷◌, ◌++◌, length, length-append, refl, sym, ap, ◌∙◌, arith, Bool, true, false, if◌then◌else◌, nat_eq}
use Rattle.std.proofs.Math.Path.{fun_ext}
use Rattle.std.proofs.lemmas.List.Elements.{All-head, All-tail}
use Rattle.std.specs.Prelude.{All, IfSome, OnErr, OnOk, Result, Ok, Err, Option, Some, None, option_map, option_and_then, slice_get}
use Rattle.expander_model.specs.Held.{Met, Numbered, numbered_of, numbered_scope, nearest_met, place_of}
use Rattle.bridge.specs.declared.printing.relative_spans.Place.{Place}
use Rattle.small_grammar.specs.Text.{same_text}
use Rattle.expander_model.specs.Scoping.{is_found, is_out}
use Rattle.expander_model.specs.declared.dialect.Dialect.{Dialect}
use Rattle.expander_model.specs.declared.scope_rules.Standing.TheVariants.{Top}

get_at : {X : Type 0} (xs : List X) (x : X) → slice_get (xs ++ x ∷ []) (length xs) ≡ Some x
get_at [] x = refl
get_at (y ∷ xs) x = get_at xs x

get_before : {X : Type 0} (xs : List X) (x : X) (i : ℕ) → i < length xs → slice_get (xs ++ x ∷ []) i ≡ slice_get xs i
get_before [] x i h = absurd (omega arith)
get_before (y ∷ xs) x zero h = refl
get_before (y ∷ xs) x (suc i) h = get_before xs x i (omega arith)

-- an element of a list of which something is so
pub all_get : {X : Type 0} (P : X → Type 0) (xs : List X) (i : ℕ) → All P xs → IfSome (slice_get xs i) P
all_get P [] i h = tt
all_get P (x ∷ xs) zero h = All-head P x xs h
all_get P (x ∷ xs) (suc i) h = all_get P xs i (All-tail P x xs h)

-- what the index of an element finds
abbrev found_at : {X : Type 0} → (X → Numbered) → List X → Option ℕ → Option Numbered
found_at view items index = option_map view (option_and_then (λ i. slice_get items i) index)

module _ {X : Type 0} (view : X → Numbered) where
  more_at : (xs : List X) (x : X) (o : Option ℕ) (b : Bool) → ((i : ℕ) → o ≡ Some i → i < length xs)
      → found_at view (xs ++ x ∷ []) (if b then Some (length xs) else o) ≡ (if b then Some (view x) else found_at view xs o)
  more_at xs x o true within = ap (option_map view) (get_at xs x)
  more_at xs x None false within = refl
  more_at xs x (Some i) false within = ap (option_map view) (get_before xs x i (within i refl))

  none_at : (xs : List X) (o : Option ℕ) → o ≡ None → found_at view xs o ≡ None
  none_at xs o e = ap (found_at view xs) e

nearest_first : (dialect : Dialect) (m : Met) (before : List Met) (name : List ℕ)
    → numbered_scope dialect (m ∷ before) name ≡ (if is_found dialect m.numbered.definition name then Some m.numbered else numbered_scope dialect before name)
nearest_first dialect m before name = go (is_found dialect m.numbered.definition name)
  where
    go : (b : Bool) → option_map numbered_of (if b then Some m else nearest_met dialect before name) ≡ (if b then Some m.numbered else numbered_scope dialect before name)
    go true = refl
    go false = refl

module _ {X : Type 0} (view : X → Numbered) where
  -- no definition was met
  pub scope_none : (dialect : Dialect) (xs : List X) (names : List ℕ → Option ℕ) → ((name : List ℕ) → names name ≡ None)
      → (λ name. found_at view xs (names name)) ≡ numbered_scope dialect []
  scope_none dialect xs names none = fun_ext (λ name. none_at view xs (names name) (none name))

  -- one more definition: it stands at the end of the table, and its name gets its index
  pub scope_more : (dialect : Dialect) (xs ys : List X) (x : X) (n : ℕ) (place : Place) (name : List ℕ) (names later : List ℕ → Option ℕ) (before : List Met)
      → ((other : List ℕ) (i : ℕ) → names other ≡ Some i → i < length xs) → n ≡ length xs → ys ≡ xs ++ x ∷ []
      → ((other : List ℕ) → later other ≡ (if same_text name other then Some n else names other)) → name ≡ (view x).definition.name.sym
      → is_out dialect.cfg Top (view x).definition.piece ≡ false
      → (λ other. found_at view xs (names other)) ≡ numbered_scope dialect before
      → (λ other. found_at view ys (later other)) ≡ numbered_scope dialect (record { place = place; numbered = view x } ∷ before)
  scope_more dialect xs ys x n place name names later before within counted items named is inside finds =
      fun_ext (λ other.
      rw (named other, items, counted) (more_at view xs x (names other) (same_text name other) (within other))
      ∙ ap (λ (w : List ℕ). if same_text w other then Some (view x) else found_at view xs (names other)) is
      ∙ ap (λ (f : List ℕ → Option Numbered). if same_text (view x).definition.name.sym other then Some (view x) else f other) finds
      ∙ ap (λ b. if (if b then false else same_text (view x).definition.name.sym other) then Some (view x) else numbered_scope dialect before other) (sym inside)
      ∙ sym (nearest_first dialect (record { place = place; numbered = view x }) before other))

  -- one that is left out: its name gets no index
  pub scope_same : (dialect : Dialect) (xs : List X) (m : Met) (names : List ℕ → Option ℕ) (before : List Met)
      → is_out dialect.cfg Top m.numbered.definition.piece ≡ true
      → (λ other. found_at view xs (names other)) ≡ numbered_scope dialect before
      → (λ other. found_at view xs (names other)) ≡ numbered_scope dialect (m ∷ before)
  scope_same dialect xs m names before out finds =
      fun_ext (λ other.
      ap (λ (f : List ℕ → Option Numbered). f other) finds
      ∙ ap (λ b. if (if b then false else same_text m.numbered.definition.name.sym other) then Some m.numbered else numbered_scope dialect before other) (sym out)
      ∙ sym (nearest_first dialect m before other))

-- where definitions start, with one more
pub place_more : (m : Met) (before : List Met) (places later : ℕ → Place)
    → ((n : ℕ) → later n ≡ (if nat_eq m.numbered.number n then m.place else places n))
    → ((n : ℕ) → places n ≡ place_of before n) → (n : ℕ) → later n ≡ place_of (m ∷ before) n
place_more m before places later is h n = is n ∙ ap (λ (p : Place). if nat_eq m.numbered.number n then m.place else p) (h n)

-- one more element of which something is so
pub all_more : {X : Type 0} (P : X → Type 0) (xs ys : List X) (x : X) → ys ≡ xs ++ x ∷ [] → ((i : ℕ) → IfSome (slice_get xs i) P) → P x → (i : ℕ) → IfSome (slice_get ys i) P
all_more P xs ys x added h p i = rw added (go xs h i)
  where
    go : (zs : List _) → ((i : ℕ) → IfSome (slice_get zs i) P) → (i : ℕ) → IfSome (slice_get (zs ++ x ∷ []) i) P
    go [] g zero = p
    go [] g (suc i) = tt
    go (z ∷ zs) g zero = g 0
    go (z ∷ zs) g (suc i) = go zs (λ n. g (suc n)) i

-- each index that a name stands for is one of the table, once one more name was put in, or was refused
pub within_after : {X A E : Type 0} (r : Result A E) (xs ys : List X) (x : X) (n : ℕ) (text : List ℕ) (names later : List ℕ → Option ℕ)
    → ((other : List ℕ) (i : ℕ) → names other ≡ Some i → i < length xs) → n ≡ length xs → ys ≡ xs ++ x ∷ []
    → OnOk r ((other : List ℕ) → later other ≡ (if same_text text other then Some n else names other)) → OnErr r ((other : List ℕ) → later other ≡ names other)
    → (other : List ℕ) (i : ℕ) → later other ≡ Some i → i < length ys
within_after (Ok u) xs ys x n text names later within counted added named kept other i e = go (same_text text other) (sym (named other) ∙ e)
  where
    go : (b : Bool) → (if b then Some n else names other) ≡ Some i → i < length ys
    go true f = let is : n ≡ i = cc in omega (arith, counted, ap length added, length-append xs (x ∷ []))
    go false f = omega (arith, within other i f, ap length added, length-append xs (x ∷ []))
within_after (Err u) xs ys x n text names later within counted added named kept other i e =
    omega (arith, within other i (sym (kept other) ∙ e), ap length added, length-append xs (x ∷ []))
