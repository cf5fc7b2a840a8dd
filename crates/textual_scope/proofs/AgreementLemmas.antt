-- An expansion depends on its look-ups outside of all lists alone.
use Rattle.std.proofs.Common.{◌≡◌, ℕ, zero, suc, Bool, true, false, List, [], ◌∷◌, ◌++◌, Option, Some, None, refl, ap, ◌∙◌, unwrap_or}
use Rattle.std.specs.Prelude.{All, ◌&&◌, not, is_some, option_map}
use Rattle.std.proofs.lemmas.List.Elements.{All-nil, All-cons, All-head, All-tail}
use Rattle.tt_data.specs.Forest.{Forest, size}
use Rattle.tt_data.specs.Walk.{walk}
use Rattle.tt_data.specs.declared.delimiter.Delimiter.{Delimiter}
use Rattle.tt_data.specs.declared.leaf.Ident.{Ident}
use Rattle.tt_data.specs.declared.leaf.Punct.{Punct}
use Rattle.expander_model.specs.Calls.{Path, bare, from_crate, other, Marked, none, token, inside, call, marked, unmarked, key_of}
use Rattle.expander_model.specs.Definitions.{Definition, nearest}
use Rattle.expander_model.specs.cfg_options.Conditions.{or_else}
use Rattle.expander_model.specs.Pieces.{cut}
use Rattle.expander_model.specs.Expansion.{World, CallSite, just, followed_by, grouped, found, bursting, before_group}
use Rattle.expander_model.specs.PieceStates.{after_call, after_group, after_leaf}
use Rattle.expander_model.specs.declared.begun.Begun.{Begun}
use Rattle.expander_model.specs.declared.begun.Begun.TheVariants.{Nothing}
use Rattle.expander_model.specs.declared.dialect.Dialect.{Dialect}
use Rattle.expander_model.specs.declared.scope_rules.Standing.TheVariants.{Argument}
use Rattle.expander_model.specs.Scoping.{call_site, Around, Scoped, Search, Expander, Attempt, attempt, PieceKind, out_piece, definition_piece, plain_piece, kind_in, in_group, behind, only, and_next, in_brackets, fitted, at_level, unbroken, looked_up, at_key, at_call, kept_call, search_leaf, found_at, is_replaced, is_alone_in, takes_end, search_trees, search_piece, search_pieces, search_list, scoped}
use Rattle.textual_scope.proofs.ResultLemmas.{same_next}

module _ {X : Type 0} (P : X → Type 0) where
  pub all_front : (xs ys : List X) → All P (xs ++ ys) → All P xs
  all_front [] ys h = All-nil P
  all_front (x ∷ xs) ys h = All-cons P x xs (All-head P x (xs ++ ys) h) (all_front xs ys (All-tail P x (xs ++ ys) h))

  pub all_back : (xs ys : List X) → All P (xs ++ ys) → All P ys
  all_back [] ys h = h
  all_back (x ∷ xs) ys h = all_back xs ys (All-tail P x (xs ++ ys) h)

module _ {D : Type 0} (dialect : Dialect) (world : World D) (local : Definition → D) (scope others : List ℕ → Option D) where
  abbrev Finds : (List ℕ × Option D) → Type 0
  Finds find = others find.0 ≡ find.1

  -- the second result is the first, if others find what the first looked up
  abbrev Agree : Scoped D → Scoped D → Type 0
  Agree a b = All Finds a.outcome.finds → b ≡ a

  abbrev pub AgreeIn : Search D → Search D → Type 0
  AgreeIn one two = (around : Around) (f : Forest) → Agree (one around f) (two around f)

  -- the same of attempts at calls
  abbrev pub AgreeFrom : Expander D → Expander D → Type 0
  AgreeFrom one two = (d : D) (around : Around) (site : CallSite) → All Finds (one d around site).given.outcome.finds → two d around site ≡ one d around site

  abbrev AgreeDeeper : Option (Expander D) → Option (Expander D) → Type 0
  AgreeDeeper None None = Unit {0}
  AgreeDeeper (Some one) (Some two) = AgreeFrom one two
  AgreeDeeper None (Some two) = ⊥
  AgreeDeeper (Some one) None = ⊥

  agree_next : (a b : Scoped D) (f g : Around → Scoped D) (around : Around) → Agree a b
      → ((here : Around) → Agree (f here) (g here)) → Agree (and_next a f around) (and_next b g around)
  agree_next a b f g around here there h =
      let after : Scoped D = f (behind a.defines around) in
      same_next a b f g around (here (all_front Finds a.outcome.finds after.outcome.finds h))
      (there (behind a.defines around) (all_back Finds a.outcome.finds after.outcome.finds h))

  agree_fitted : (one two : Search D) → AgreeIn one two → (around : Around) (site : CallSite) (r : Option Forest)
      → Agree (fitted dialect world local scope one around site r) (fitted dialect world local others two around site r)
  agree_fitted one two same around site None h = refl
  agree_fitted one two same around site (Some g) h = same (record around { outer = Some (unwrap_or around.outer site.at) }) g h

  pub agree_attempt : (one two : Search D) → AgreeIn one two → AgreeFrom (attempt dialect world local scope one) (attempt dialect world local others two)
  agree_attempt one two same d around site h =
      ap (λ (a : Scoped D). record { replaces = is_some (world.fit d site.argument); given = record a { outcome = bursting (world.bursts d site.argument) a.outcome } })
      (agree_fitted one two same around site (world.fit d site.argument) h)

  agree_level : (d : D) (one two : Option (Expander D)) → AgreeDeeper one two → (around : Around) (site : CallSite)
      → Agree (at_level dialect world local scope d one around site) (at_level dialect world local others d two around site)
  agree_level d None None same around site h = refl
  agree_level d (Some one) (Some two) same around site h = ap (λ (a : Attempt D). a.given) (same d around site h)
  agree_level d None (Some two) same around site h = absurd same
  agree_level d (Some one) None same around site h = absurd same

  agree_unbroken : (d : D) (b : Bool) (one two : Option (Expander D)) → AgreeDeeper one two → (around : Around) (site : CallSite)
      → Agree (unbroken dialect world local scope d b one around site) (unbroken dialect world local others d b two around site)
  agree_unbroken d true one two same around site h = refl
  agree_unbroken d false one two same around site h = agree_level d one two same around site h

  agree_looked_up : (r : Option D) (one two : Option (Expander D)) → AgreeDeeper one two → (around : Around) (site : CallSite) (kept kept' : Scoped D) → Agree kept kept'
      → Agree (looked_up dialect world local scope r one around site kept) (looked_up dialect world local others r two around site kept')
  agree_looked_up None one two same around site kept kept' stays h = stays h
  agree_looked_up (Some d) one two same around site kept kept' stays h = agree_unbroken d (world.broken d) one two same around site h

  agree_key : (r : Option Definition) (key : List ℕ) (one two : Option (Expander D)) → AgreeDeeper one two → (around : Around) (site : CallSite) (kept kept' : Scoped D) → Agree kept kept'
      → Agree (at_key dialect world local scope r key one around site kept) (at_key dialect world local others r key two around site kept')
  agree_key (Some d) key one two same around site kept kept' stays h = agree_looked_up (Some (local d)) one two same around site kept kept' stays h
  agree_key None key one two same around site kept kept' stays h =
      let given : Scoped D = looked_up dialect world local scope (scope key) one around site kept in
      ap (λ (r : Option D). let a : Scoped D = looked_up dialect world local others r two around site kept' in
      record a { outcome = found key r a.outcome }) (All-head Finds (key, scope key) given.outcome.finds h)
      ∙ ap (λ (a : Scoped D). record a { outcome = found key (scope key) a.outcome })
      (agree_looked_up (scope key) one two same around site kept kept' stays (All-tail Finds (key, scope key) given.outcome.finds h))

  agree_call : (path : Path) (name : Ident) (one two : Option (Expander D)) → AgreeDeeper one two → (around : Around) (site : CallSite) (kept kept' : Scoped D) → Agree kept kept'
      → Agree (at_call dialect world local scope one around path name site kept) (at_call dialect world local others two around path name site kept')
  agree_call bare name one two same around site kept kept' stays h = agree_key (nearest around.locals name.sym) name.sym one two same around site kept kept' stays h
  agree_call (from_crate root p q) name one two same around site kept kept' stays h = agree_key None (key_of (from_crate root p q) name) one two same around site kept kept' stays h
  agree_call (other p q) name one two same around site kept kept' stays h = stays h

  -- what a call's name finds, where the look-up of the call agrees
  agree_found : (path : Path) (name : Ident) (deeper : Option (Expander D)) (around : Around) (site : CallSite) (kept : Scoped D)
      → All Finds (at_call dialect world local scope deeper around path name site kept).outcome.finds
      → found_at dialect world local others around path name ≡ found_at dialect world local scope around path name
  agree_found bare name deeper around site kept h = go (nearest around.locals name.sym) h
    where
      go : (r : Option Definition) → All Finds (at_key dialect world local scope r name.sym deeper around site kept).outcome.finds
          → or_else (option_map local r) (others name.sym) ≡ or_else (option_map local r) (scope name.sym)
      go (Some d) h = refl
      go None h = All-head Finds (name.sym, scope name.sym) (looked_up dialect world local scope (scope name.sym) deeper around site kept).outcome.finds h
  agree_found (from_crate root p q) name deeper around site kept h =
      let key : List ℕ = key_of (from_crate root p q) name in
      All-head Finds (key, scope key) (looked_up dialect world local scope (scope key) deeper around site kept).outcome.finds h
  agree_found (other p q) name deeper around site kept h = refl

  -- whether a call is replaced, where what it looks up agrees
  agree_replaced : (one two : Option (Expander D)) → AgreeDeeper one two → (r : Option D) (around : Around) (site : CallSite) (kept : Scoped D)
      → All Finds (looked_up dialect world local scope r one around site kept).outcome.finds
      → is_replaced dialect world local others two r around site ≡ is_replaced dialect world local scope one r around site
  agree_replaced None None same r around site kept h = refl
  agree_replaced (Some one) (Some two) same None around site kept h = refl
  agree_replaced (Some one) (Some two) same (Some d) around site kept h = go (world.broken d) h
    where
      go : (b : Bool) → All Finds (unbroken dialect world local scope d b (Some one) around site).outcome.finds
          → (not b && (two d around site).replaces) ≡ (not b && (one d around site).replaces)
      go true h = refl
      go false h = ap (λ (a : Attempt D). a.replaces) (same d around site h)
  agree_replaced None (Some two) same r around site kept h = absurd same
  agree_replaced (Some one) None same r around site kept h = absurd same

  agree_at : (path : Path) (name : Ident) (one two : Option (Expander D)) → AgreeDeeper one two → (around : Around) (site : CallSite) (kept : Scoped D)
      → All Finds (at_call dialect world local scope one around path name site kept).outcome.finds
      → is_replaced dialect world local others two (found_at dialect world local scope around path name) around site
      ≡ is_replaced dialect world local scope one (found_at dialect world local scope around path name) around site
  agree_at bare name one two same around site kept h = go (nearest around.locals name.sym) h
    where
      go : (r : Option Definition) → All Finds (at_key dialect world local scope r name.sym one around site kept).outcome.finds
          → is_replaced dialect world local others two (or_else (option_map local r) (scope name.sym)) around site
          ≡ is_replaced dialect world local scope one (or_else (option_map local r) (scope name.sym)) around site
      go (Some d) h = agree_replaced one two same (Some (local d)) around site kept h
      go None h =
          agree_replaced one two same (scope name.sym) around site kept
          (All-tail Finds (name.sym, scope name.sym) (looked_up dialect world local scope (scope name.sym) one around site kept).outcome.finds h)
  agree_at (from_crate root p q) name one two same around site kept h =
      let key : List ℕ = key_of (from_crate root p q) name in
      agree_replaced one two same (scope key) around site kept
      (All-tail Finds (key, scope key) (looked_up dialect world local scope (scope key) one around site kept).outcome.finds h)
  agree_at (other p q) name one two same around site kept h = none one two same
    where
      none : (one two : Option (Expander D)) → AgreeDeeper one two → is_replaced dialect world local others two None around site ≡ is_replaced dialect world local scope one None around site
      none None None same = refl
      none (Some one) (Some two) same = refl
      none None (Some two) same = absurd same
      none (Some one) None same = absurd same

  -- whether a `;` goes with the call
  agree_end : (s : Begun) (path : Path) (name : Ident) (d : Delimiter) (one two : Option (Expander D)) → AgreeDeeper one two → (around : Around) (site : CallSite) (kept : Scoped D)
      → All Finds (at_call dialect world local scope one around path name site kept).outcome.finds
      → takes_end dialect world local others two s around path name d site ≡ takes_end dialect world local scope one s around path name d site
  agree_end s path name d one two same around site kept h =
      let alone : Bool = is_alone_in dialect s around.standing d in
      ap (λ (r : Option D). alone && is_replaced dialect world local others two r around site) (agree_found path name one around site kept h)
      ∙ ap (λ (b : Bool). alone && b) (agree_at path name one two same around site kept h)

  module _ (one two : Search D) (same : AgreeIn one two) (deep deep' : Option (Expander D)) (deeper : AgreeDeeper deep deep') where
    agree_kept : (around : Around) (path : Path) (name : Ident) (bang : Punct) (d : Delimiter) (inner : Forest)
        → Agree (kept_call dialect world local scope one around path name bang d inner) (kept_call dialect world local others two around path name bang d inner)
    agree_kept around path name bang d inner h =
        ap (λ (a : Scoped D). only (followed_by (just around.outer (walk (before_group path name bang))) (grouped around.outer d a.outcome)))
        (same (record around { standing = Argument }) inner h)

    agree_trees : (s : Begun) (around : Around) (m : Marked) → Agree (search_trees dialect world local scope one deep s around m) (search_trees dialect world local others two deep' s around m)
    agree_trees s around none h = refl
    agree_trees s around (token l rest) h =
        let a : Scoped D = search_leaf dialect world local scope s around l in
        agree_next a a (λ here. search_trees dialect world local scope one deep (after_leaf s l) here rest) (λ here. search_trees dialect world local others two deep' (after_leaf s l) here rest)
        around (λ k. refl) (λ here k. agree_trees (after_leaf s l) here rest k) h
    agree_trees s around (inside d a rest) h =
        let inner : Around = record around { standing = in_group s d.kind around.standing } in
        agree_next (in_brackets around.outer d (one inner (unmarked a))) (in_brackets around.outer d (two inner (unmarked a)))
        (λ here. search_trees dialect world local scope one deep (after_group s d.kind) here rest) (λ here. search_trees dialect world local others two deep' (after_group s d.kind) here rest)
        around (λ k. ap (in_brackets around.outer d) (same inner (unmarked a) k)) (λ here k. agree_trees (after_group s d.kind) here rest k) h
    agree_trees s around (call path name bang d a rest) h =
        let site : CallSite = call_site path name bang d (unmarked a) in
        let kept : Scoped D = kept_call dialect world local scope one around path name bang d (unmarked a) in
        let kept' : Scoped D = kept_call dialect world local others two around path name bang d (unmarked a) in
        let given : Scoped D = at_call dialect world local scope deep around path name site kept in
        let gone : Bool = takes_end dialect world local scope deep s around path name d site in
        let after : Scoped D = search_trees dialect world local scope one deep (after_call gone s d.kind) (behind given.defines around) rest in
        let next : Bool → Around → Scoped D = λ t here. search_trees dialect world local others two deep' (after_call t s d.kind) here rest in
        ap (λ (t : Bool). and_next (at_call dialect world local others deep' around path name site kept') (next t) around)
        (agree_end s path name d deep deep' deeper around site kept (all_front Finds given.outcome.finds after.outcome.finds h))
        ∙ agree_next given (at_call dialect world local others deep' around path name site kept')
        (λ here. search_trees dialect world local scope one deep (after_call gone s d.kind) here rest) (next gone)
        around (agree_call path name deep deep' deeper around site kept kept' (agree_kept around path name bang d (unmarked a)))
        (λ here k. agree_trees (after_call gone s d.kind) here rest k) h

    agree_part : (around : Around) (p : Forest) (k : PieceKind)
        → Agree (search_piece dialect world local scope one deep around p k) (search_piece dialect world local others two deep' around p k)
    agree_part around p out_piece h = refl
    agree_part around p (definition_piece d) h = refl
    agree_part around p plain_piece h = agree_trees Nothing around (marked p) h

    agree_parts : (around : Around) (ps : List Forest) → Agree (search_pieces dialect world local scope one deep around ps) (search_pieces dialect world local others two deep' around ps)
    agree_parts around [] h = refl
    agree_parts around (p ∷ ps) h =
        agree_next (search_piece dialect world local scope one deep around p (kind_in dialect around.standing p)) (search_piece dialect world local others two deep' around p (kind_in dialect around.standing p))
        (λ here. search_pieces dialect world local scope one deep here ps) (λ here. search_pieces dialect world local others two deep' here ps)
        around (agree_part around p (kind_in dialect around.standing p)) (λ here k. agree_parts here ps k) h

  pub agree_list : (deep deep' : Option (Expander D)) → AgreeDeeper deep deep' → (n : ℕ) → AgreeIn (search_list dialect world local scope deep n) (search_list dialect world local others deep' n)
  agree_list deep deep' deeper zero around f h = refl
  agree_list deep deep' deeper (suc n) around f h =
      agree_parts (search_list dialect world local scope deep n) (search_list dialect world local others deep' n)
      (agree_list deep deep' deeper n) deep deep' deeper around (cut f) h

  pub agree_scoped : (n : ℕ) → AgreeIn (scoped dialect world local scope n) (scoped dialect world local others n)
  agree_scoped zero around f h = agree_list None None tt (suc (size f)) around f h
  agree_scoped (suc n) around f h =
      let one : Search D = scoped dialect world local scope n in
      let two : Search D = scoped dialect world local others n in
      agree_list (Some (attempt dialect world local scope one)) (Some (attempt dialect world local others two)) (agree_attempt one two (agree_scoped n)) (suc (size f)) around f h
