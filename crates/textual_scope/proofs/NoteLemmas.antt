-- An expansion with its notes is the expansion.
use Rattle.std.proofs.Common.{◌≡◌, ℕ, zero, suc, Bool, true, false, List, [], ◌∷◌, ◌++◌, Option, Some, None, refl, ap, ◌∙◌, unwrap_or, option_map, if◌then◌else◌}
use Rattle.std.specs.Prelude.{◌&&◌, not, is_some}
use Rattle.tt_data.specs.Forest.{Forest, size}
use Rattle.tt_data.specs.Walk.{Step, walk}
use Rattle.tt_data.specs.declared.span.Span.{Span}
use Rattle.expander_model.specs.declared.fault.FaultKind.TheVariants.{BrokenDefinition}
use Rattle.tt_data.specs.declared.delimiter.Delimiter.{Delimiter}
use Rattle.tt_data.specs.declared.leaf.Ident.{Ident}
use Rattle.expander_model.specs.Calls.{Path, bare, from_crate, other, Marked, none, token, inside, call, marked, unmarked, key_of}
use Rattle.expander_model.specs.Definitions.{Definition, nearest}
use Rattle.expander_model.specs.cfg_options.Conditions.{or_else}
use Rattle.expander_model.specs.Pieces.{cut}
use Rattle.expander_model.specs.Expansion.{World, CallSite, just, followed_by, grouped, faulted, found, bursting, before_group}
use Rattle.expander_model.specs.PieceStates.{after_call, after_group, after_leaf}
use Rattle.expander_model.specs.declared.begun.Begun.{Begun}
use Rattle.expander_model.specs.declared.begun.Begun.TheVariants.{Nothing}
use Rattle.expander_model.specs.declared.dialect.Dialect.{Dialect}
use Rattle.expander_model.specs.Limits.{Noted, definition, tried, burst, looked_in, unnoted, note_of, noting, noted_world, noted_list, plain_attempt, noted_attempt, noted}
use Rattle.expander_model.specs.declared.scope_rules.Standing.TheVariants.{Argument}
use Rattle.expander_model.specs.Scoping.{call_site, Around, Scoped, Search, Expander, Attempt, attempt, PieceKind, out_piece, definition_piece, plain_piece, kind_in, in_group, behind, only, and_next, in_brackets, is_left_out, defined, fitted, at_level, unbroken, looked_up, at_key, at_call, search_leaf, found_at, is_replaced, is_alone_in, takes_end, search_trees, search_piece, search_pieces, search_list, scoped}
use Rattle.textual_scope.proofs.ResultLemmas.{same_next}

module _ {D : Type 0} where
  pub looked_in-append : (xs ys : List (List ℕ × Option (Noted D))) → looked_in (xs ++ ys) ≡ looked_in xs ++ looked_in ys
  looked_in-append [] ys = refl
  looked_in-append ((key, Some burst) ∷ xs) ys = looked_in-append xs ys
  looked_in-append ((key, Some (tried c n)) ∷ xs) ys = looked_in-append xs ys
  looked_in-append ((key, Some (definition d)) ∷ xs) ys = ap (λ fs. (key, Some d) ∷ fs) (looked_in-append xs ys)
  looked_in-append ((key, None) ∷ xs) ys = ap (λ fs. (key, None) ∷ fs) (looked_in-append xs ys)

  -- one result after another
  unnoted-next : (a : Scoped (Noted D)) (b : Scoped D) (f : Around → Scoped (Noted D)) (g : Around → Scoped D) (around : Around) → unnoted a ≡ b
      → ((here : Around) → unnoted (f here) ≡ g here) → unnoted (and_next a f around) ≡ and_next b g around
  unnoted-next a b f g around e same =
      let after : Scoped (Noted D) = f (behind a.defines around) in
      (λ i. record {
        outcome = record {
          steps = a.outcome.steps ++ after.outcome.steps;
          faults = a.outcome.faults ++ after.outcome.faults;
          finds = looked_in-append a.outcome.finds after.outcome.finds i;
          bursts = (and_next a f around).outcome.bursts;
        };
        defines = after.defines ++ a.defines;
      })
      ∙ same_next b (unnoted a) g (λ here. unnoted (f here)) around e (same (behind b.defines around))

  abbrev pub SameNoted : Search (Noted D) → Search D → Type 0
  SameNoted one two = (around : Around) (f : Forest) → unnoted (one around f) ≡ two around f

  -- an attempt at a call, without its notes
  abbrev pub without_notes : Attempt (Noted D) → Attempt D
  without_notes a = record { replaces = a.replaces; given = unnoted a.given }

  abbrev pub SameFrom : Expander (Noted D) → Expander D → Type 0
  SameFrom one two = (d : D) (around : Around) (site : CallSite) → without_notes (one (definition d) around site) ≡ two d around site

  abbrev pub SameDeeper : Option (Expander (Noted D)) → Option (Expander D) → Type 0
  SameDeeper None None = Unit {0}
  SameDeeper (Some one) (Some two) = SameFrom one two
  SameDeeper None (Some two) = ⊥
  SameDeeper (Some one) None = ⊥

  unnoted-found : (key : List ℕ) (r : Option D) (a : Scoped (Noted D)) (b : Scoped D) → unnoted a ≡ b
      → unnoted (record a { outcome = found key (option_map definition r) a.outcome }) ≡ record b { outcome = found key r b.outcome }
  unnoted-found key None a b e = ap (λ (x : Scoped D). record x { outcome = found key None x.outcome }) e
  unnoted-found key (Some d) a b e = ap (λ (x : Scoped D). record x { outcome = found key (Some d) x.outcome }) e

  -- a note before a result
  unnoted-noting : (b : Bool) (r : Option Forest) (n : ℕ) (a : Scoped (Noted D)) → unnoted (noting (note_of b r n) a) ≡ unnoted a
  unnoted-noting true None n a = refl
  unnoted-noting true (Some f) n a = refl
  unnoted-noting false None n a = refl
  unnoted-noting false (Some f) n a = refl

  told : (b : Bool) (outer : Option Span) (place : Span) (steps : List Step) (ds : List Definition)
      → (let a : Scoped (Noted D) = record { outcome = if b then faulted BrokenDefinition place (just outer steps) else just outer steps; defines = ds } in unnoted a)
      ≡ (let a : Scoped D = record { outcome = if b then faulted BrokenDefinition place (just outer steps) else just outer steps; defines = ds } in a)
  told true outer place steps ds = refl
  told false outer place steps ds = refl

module _ {D : Type 0} (dialect : Dialect) (world : World D) (local : Definition → D) (scope : List ℕ → Option D) where
  abbrev local' : Definition → Noted D
  local' d = definition (local d)

  abbrev scope' : List ℕ → Option (Noted D)
  scope' key = option_map definition (scope key)

  abbrev world' : World (Noted D)
  world' = noted_world world

  unnoted-defined : (around : Around) (d : Definition) → unnoted (defined dialect world' local' scope' around d) ≡ defined dialect world local scope around d
  unnoted-defined around d =
      told (world.broken (local d)) around.outer (unwrap_or around.outer d.name.span) (if is_left_out around.standing then [] else walk d.piece) (d ∷ [])

  unnoted-fitted : (one : Search (Noted D)) (two : Search D) → SameNoted one two → (around : Around) (site : CallSite) (r : Option Forest)
      → unnoted (fitted dialect world' local' scope' one around site r) ≡ fitted dialect world local scope two around site r
  unnoted-fitted one two same around site None = refl
  unnoted-fitted one two same around site (Some g) = same (record around { outer = Some (unwrap_or around.outer site.at) }) g

  unnoted-attempt : (one : Search (Noted D)) (two : Search D) → SameNoted one two → SameFrom (plain_attempt dialect world local scope one) (attempt dialect world local scope two)
  unnoted-attempt one two same d around site =
      ap (λ (a : Scoped D). record { replaces = is_some (world.fit d site.argument); given = record a { outcome = bursting (world.bursts d site.argument) a.outcome } })
      (unnoted-fitted one two same around site (world.fit d site.argument))

  pub unnoted-tried : (one : Search (Noted D)) (two : Search D) → SameNoted one two → SameFrom (noted_attempt dialect world local scope one) (attempt dialect world local scope two)
  unnoted-tried one two same d around site =
      let a : Attempt (Noted D) = plain_attempt dialect world local scope one (definition d) around site in
      ap (λ (x : Scoped D). record { replaces = a.replaces; given = x }) (unnoted-noting (world.bursts d site.argument) (world.fit d site.argument) (world.put_out d site.argument) a.given)
      ∙ unnoted-attempt one two same d around site

  unnoted-level : (d : D) (one : Option (Expander (Noted D))) (two : Option (Expander D)) → SameDeeper one two → (around : Around) (site : CallSite)
      → unnoted (at_level dialect world' local' scope' (definition d) one around site) ≡ at_level dialect world local scope d two around site
  unnoted-level d None None same around site = refl
  unnoted-level d (Some one) (Some two) same around site = ap (λ (a : Attempt D). a.given) (same d around site)
  unnoted-level d None (Some two) same around site = absurd same
  unnoted-level d (Some one) None same around site = absurd same

  unnoted-unbroken : (d : D) (b : Bool) (one : Option (Expander (Noted D))) (two : Option (Expander D)) → SameDeeper one two → (around : Around) (site : CallSite)
      → unnoted (unbroken dialect world' local' scope' (definition d) b one around site) ≡ unbroken dialect world local scope d b two around site
  unnoted-unbroken d true one two same around site = refl
  unnoted-unbroken d false one two same around site = unnoted-level d one two same around site

  unnoted-looked_up : (r : Option D) (one : Option (Expander (Noted D))) (two : Option (Expander D)) → SameDeeper one two → (around : Around) (site : CallSite)
      → (kept : Scoped (Noted D)) (kept' : Scoped D) → unnoted kept ≡ kept'
      → unnoted (looked_up dialect world' local' scope' (option_map definition r) one around site kept) ≡ looked_up dialect world local scope r two around site kept'
  unnoted-looked_up None one two same around site kept kept' e = e
  unnoted-looked_up (Some d) one two same around site kept kept' e = unnoted-unbroken d (world.broken d) one two same around site

  unnoted-key : (r : Option Definition) (key : List ℕ) (one : Option (Expander (Noted D))) (two : Option (Expander D)) → SameDeeper one two → (around : Around) (site : CallSite)
      → (kept : Scoped (Noted D)) (kept' : Scoped D) → unnoted kept ≡ kept'
      → unnoted (at_key dialect world' local' scope' r key one around site kept) ≡ at_key dialect world local scope r key two around site kept'
  unnoted-key (Some d) key one two same around site kept kept' e = unnoted-looked_up (Some (local d)) one two same around site kept kept' e
  unnoted-key None key one two same around site kept kept' e =
      unnoted-found key (scope key) (looked_up dialect world' local' scope' (scope' key) one around site kept) (looked_up dialect world local scope (scope key) two around site kept')
      (unnoted-looked_up (scope key) one two same around site kept kept' e)

  unnoted-call : (path : Path) (name : Ident) (one : Option (Expander (Noted D))) (two : Option (Expander D)) → SameDeeper one two → (around : Around) (site : CallSite)
      → (kept : Scoped (Noted D)) (kept' : Scoped D) → unnoted kept ≡ kept'
      → unnoted (at_call dialect world' local' scope' one around path name site kept) ≡ at_call dialect world local scope two around path name site kept'
  unnoted-call bare name one two same around site kept kept' e = unnoted-key (nearest around.locals name.sym) name.sym one two same around site kept kept' e
  unnoted-call (from_crate root p q) name one two same around site kept kept' e = unnoted-key None (key_of (from_crate root p q) name) one two same around site kept kept' e
  unnoted-call (other p q) name one two same around site kept kept' e = e

  -- what a call's name finds
  unnoted-found_at : (around : Around) (path : Path) (name : Ident)
      → found_at dialect world' local' scope' around path name ≡ option_map definition (found_at dialect world local scope around path name)
  unnoted-found_at around bare name = go (nearest around.locals name.sym)
    where
      go : (r : Option Definition) → or_else (option_map local' r) (scope' name.sym) ≡ option_map definition (or_else (option_map local r) (scope name.sym))
      go None = refl
      go (Some d) = refl
  unnoted-found_at around (from_crate root p q) name = refl
  unnoted-found_at around (other p q) name = refl

  unnoted-replaced : (one : Option (Expander (Noted D))) (two : Option (Expander D)) → SameDeeper one two → (r : Option D) (around : Around) (site : CallSite)
      → is_replaced dialect world' local' scope' one (option_map definition r) around site ≡ is_replaced dialect world local scope two r around site
  unnoted-replaced None None same r around site = refl
  unnoted-replaced (Some one) (Some two) same None around site = refl
  unnoted-replaced (Some one) (Some two) same (Some d) around site = ap (λ (a : Attempt D). not (world.broken d) && a.replaces) (same d around site)
  unnoted-replaced None (Some two) same r around site = absurd same
  unnoted-replaced (Some one) None same r around site = absurd same

  -- whether a `;` goes with the call
  unnoted-end : (s : Begun) (around : Around) (path : Path) (name : Ident) (d : Delimiter) (site : CallSite) (one : Option (Expander (Noted D))) (two : Option (Expander D)) → SameDeeper one two
      → takes_end dialect world' local' scope' one s around path name d site ≡ takes_end dialect world local scope two s around path name d site
  unnoted-end s around path name d site one two same =
      let alone : Bool = is_alone_in dialect s around.standing d in
      ap (λ (r : Option (Noted D)). alone && is_replaced dialect world' local' scope' one r around site) (unnoted-found_at around path name)
      ∙ ap (λ (b : Bool). alone && b) (unnoted-replaced one two same (found_at dialect world local scope around path name) around site)

  module _ (one : Search (Noted D)) (two : Search D) (same : SameNoted one two) (deep : Option (Expander (Noted D))) (deep' : Option (Expander D)) (deeper : SameDeeper deep deep') where
    unnoted-trees : (s : Begun) (around : Around) (m : Marked) → unnoted (search_trees dialect world' local' scope' one deep s around m) ≡ search_trees dialect world local scope two deep' s around m
    unnoted-trees s around none = refl
    unnoted-trees s around (token l rest) =
        unnoted-next (search_leaf dialect world' local' scope' s around l) (search_leaf dialect world local scope s around l)
        (λ here. search_trees dialect world' local' scope' one deep (after_leaf s l) here rest) (λ here. search_trees dialect world local scope two deep' (after_leaf s l) here rest)
        around refl (λ here. unnoted-trees (after_leaf s l) here rest)
    unnoted-trees s around (inside d a rest) =
        let inner : Around = record around { standing = in_group s d.kind around.standing } in
        unnoted-next (in_brackets around.outer d (one inner (unmarked a))) (in_brackets around.outer d (two inner (unmarked a)))
        (λ here. search_trees dialect world' local' scope' one deep (after_group s d.kind) here rest) (λ here. search_trees dialect world local scope two deep' (after_group s d.kind) here rest)
        around (ap (in_brackets around.outer d) (same inner (unmarked a))) (λ here. unnoted-trees (after_group s d.kind) here rest)
    unnoted-trees s around (call path name bang d a rest) =
        let site : CallSite = call_site path name bang d (unmarked a) in
        let inner : Around = record around { standing = Argument } in
        let kept : Scoped (Noted D) = only (followed_by (just around.outer (walk (before_group path name bang))) (grouped around.outer d (one inner (unmarked a)).outcome)) in
        let kept' : Scoped D = only (followed_by (just around.outer (walk (before_group path name bang))) (grouped around.outer d (two inner (unmarked a)).outcome)) in
        let gone : Bool = takes_end dialect world local scope deep' s around path name d site in
        let next : Bool → Around → Scoped (Noted D) = λ t here. search_trees dialect world' local' scope' one deep (after_call t s d.kind) here rest in
        ap (λ (t : Bool). unnoted (and_next (at_call dialect world' local' scope' deep around path name site kept) (next t) around))
        (unnoted-end s around path name d site deep deep' deeper)
        ∙ unnoted-next (at_call dialect world' local' scope' deep around path name site kept) (at_call dialect world local scope deep' around path name site kept')
        (next gone) (λ here. search_trees dialect world local scope two deep' (after_call gone s d.kind) here rest)
        around
        (unnoted-call path name deep deep' deeper around site kept kept'
        (ap (λ (x : Scoped D). only (followed_by (just around.outer (walk (before_group path name bang))) (grouped around.outer d x.outcome))) (same inner (unmarked a))))
        (λ here. unnoted-trees (after_call gone s d.kind) here rest)

    unnoted-part : (around : Around) (p : Forest) (k : PieceKind)
        → unnoted (search_piece dialect world' local' scope' one deep around p k) ≡ search_piece dialect world local scope two deep' around p k
    unnoted-part around p out_piece = refl
    unnoted-part around p (definition_piece d) = unnoted-defined around d
    unnoted-part around p plain_piece = unnoted-trees Nothing around (marked p)

    unnoted-parts : (around : Around) (ps : List Forest) → unnoted (search_pieces dialect world' local' scope' one deep around ps) ≡ search_pieces dialect world local scope two deep' around ps
    unnoted-parts around [] = refl
    unnoted-parts around (p ∷ ps) =
        unnoted-next (search_piece dialect world' local' scope' one deep around p (kind_in dialect around.standing p)) (search_piece dialect world local scope two deep' around p (kind_in dialect around.standing p))
        (λ here. search_pieces dialect world' local' scope' one deep here ps) (λ here. search_pieces dialect world local scope two deep' here ps)
        around (unnoted-part around p (kind_in dialect around.standing p)) (λ here. unnoted-parts here ps)

  pub unnoted-list : (deep : Option (Expander (Noted D))) (deep' : Option (Expander D)) → SameDeeper deep deep' → (n : ℕ)
      → SameNoted (noted_list dialect world local scope deep n) (search_list dialect world local scope deep' n)
  unnoted-list deep deep' deeper zero around f = refl
  unnoted-list deep deep' deeper (suc n) around f =
      unnoted-parts (noted_list dialect world local scope deep n) (search_list dialect world local scope deep' n) (unnoted-list deep deep' deeper n) deep deep' deeper around (cut f)

  pub unnoted-noted : (n : ℕ) → SameNoted (noted dialect world local scope n) (scoped dialect world local scope n)
  unnoted-noted zero around f = unnoted-list None None tt (suc (size f)) around f
  unnoted-noted (suc n) around f =
      let one : Search (Noted D) = noted dialect world local scope n in
      let two : Search D = scoped dialect world local scope n in
      unnoted-list (Some (noted_attempt dialect world local scope one)) (Some (attempt dialect world local scope two))
      (unnoted-tried one two (λ here g. unnoted-noted n here g)) (suc (size f)) around f
