-- Each look-up of an expansion by scope rules is what the scope outside of all lists answers.
use Rattle.std.proofs.Common.{◌≡◌, ℕ, zero, suc, Bool, true, false, List, [], ◌∷◌, Option, Some, None, refl, unwrap_or, if◌then◌else◌}
use Rattle.std.specs.Prelude.{All}
use Rattle.std.proofs.lemmas.List.Elements.{All-append, All-cons, All-nil}
use Rattle.tt_data.specs.Forest.{Forest, size}
use Rattle.tt_data.specs.Walk.{walk}
use Rattle.tt_data.specs.declared.delimiter.Delimiter.{Delimiter}
use Rattle.tt_data.specs.declared.leaf.Ident.{Ident}
use Rattle.tt_data.specs.declared.leaf.Punct.{Punct}
use Rattle.expander_model.specs.declared.fault.FaultKind.TheVariants.{BrokenDefinition}
use Rattle.expander_model.specs.Calls.{Path, bare, from_crate, other, Marked, none, token, inside, call, marked, unmarked, key_of}
use Rattle.expander_model.specs.Definitions.{Definition, nearest}
use Rattle.expander_model.specs.Pieces.{cut}
use Rattle.expander_model.specs.Expansion.{World, Outcome, CallSite, faulted, just}
use Rattle.expander_model.specs.PieceStates.{after_call, after_group, after_leaf}
use Rattle.expander_model.specs.declared.begun.Begun.{Begun}
use Rattle.expander_model.specs.declared.begun.Begun.TheVariants.{Nothing}
use Rattle.expander_model.specs.declared.dialect.Dialect.{Dialect}
use Rattle.expander_model.specs.declared.scope_rules.Standing.TheVariants.{Argument}
use Rattle.expander_model.specs.Scoping.{call_site, Around, Scoped, Search, Expander, attempt, PieceKind, out_piece, definition_piece, plain_piece, kind_in, is_left_out, in_group, behind, and_next, in_brackets, defined, fitted, at_level, unbroken, looked_up, at_key, at_call, kept_call, search_leaf, takes_end, search_trees, search_piece, search_pieces, search_list, scoped}

module _ {D : Type 0} (dialect : Dialect) (world : World D) (local : Definition → D) (scope : List ℕ → Option D) where
  -- a look-up is what the scope finds
  abbrev IsFound : (List ℕ × Option D) → Type 0
  IsFound find = scope find.0 ≡ find.1

  abbrev Found : Scoped D → Type 0
  Found a = All IsFound a.outcome.finds

  abbrev pub FoundBy : Search D → Type 0
  FoundBy search = (around : Around) (f : Forest) → Found (search around f)

  abbrev pub FoundFrom : Expander D → Type 0
  FoundFrom expand = (d : D) (around : Around) (site : CallSite) → Found (expand d around site).given

  abbrev FoundDeeper : Option (Expander D) → Type 0
  FoundDeeper None = Unit {0}
  FoundDeeper (Some expand) = FoundFrom expand

  found_next : (a : Scoped D) (next : Around → Scoped D) (around : Around) → Found a → ((here : Around) → Found (next here)) → Found (and_next a next around)
  found_next a next around h more =
      All-append IsFound a.outcome.finds (next (behind a.defines around)).outcome.finds h (more (behind a.defines around))

  found_defined : (around : Around) (d : Definition) → Found (defined dialect world local scope around d)
  found_defined around d = go (world.broken (local d))
    where
      shown : Outcome D
      shown = just around.outer (if is_left_out around.standing then [] else walk d.piece)

      go : (b : Bool) → All IsFound (if b then faulted BrokenDefinition (unwrap_or around.outer d.name.span) shown else shown).finds
      go true = All-nil IsFound
      go false = All-nil IsFound

  found_fitted : (search : Search D) → FoundBy search → (around : Around) (site : CallSite) (r : Option Forest) → Found (fitted dialect world local scope search around site r)
  found_fitted search all around site None = All-nil IsFound
  found_fitted search all around site (Some g) = all (record around { outer = Some (unwrap_or around.outer site.at) }) g

  pub found_attempt : (search : Search D) → FoundBy search → FoundFrom (attempt dialect world local scope search)
  found_attempt search all d around site = found_fitted search all around site (world.fit d site.argument)

  found_level : (d : D) (deeper : Option (Expander D)) → FoundDeeper deeper → (around : Around) (site : CallSite) → Found (at_level dialect world local scope d deeper around site)
  found_level d None all around site = All-nil IsFound
  found_level d (Some expand) all around site = all d around site

  found_unbroken : (d : D) (b : Bool) (deeper : Option (Expander D)) → FoundDeeper deeper → (around : Around) (site : CallSite) → Found (unbroken dialect world local scope d b deeper around site)
  found_unbroken d true deeper all around site = All-nil IsFound
  found_unbroken d false deeper all around site = found_level d deeper all around site

  found_looked_up : (r : Option D) (deeper : Option (Expander D)) → FoundDeeper deeper → (around : Around) (site : CallSite) (kept : Scoped D) → Found kept
      → Found (looked_up dialect world local scope r deeper around site kept)
  found_looked_up None deeper all around site kept h = h
  found_looked_up (Some d) deeper all around site kept h = found_unbroken d (world.broken d) deeper all around site

  found_key : (r : Option Definition) (key : List ℕ) (deeper : Option (Expander D)) → FoundDeeper deeper → (around : Around) (site : CallSite) (kept : Scoped D) → Found kept
      → Found (at_key dialect world local scope r key deeper around site kept)
  found_key (Some d) key deeper all around site kept h = found_looked_up (Some (local d)) deeper all around site kept h
  found_key None key deeper all around site kept h =
      All-cons IsFound (key, scope key) (looked_up dialect world local scope (scope key) deeper around site kept).outcome.finds refl
      (found_looked_up (scope key) deeper all around site kept h)

  found_call : (path : Path) (name : Ident) (deeper : Option (Expander D)) → FoundDeeper deeper → (around : Around) (site : CallSite) (kept : Scoped D) → Found kept
      → Found (at_call dialect world local scope deeper around path name site kept)
  found_call bare name deeper all around site kept h = found_key (nearest around.locals name.sym) name.sym deeper all around site kept h
  found_call (from_crate root p q) name deeper all around site kept h = found_key None (key_of (from_crate root p q) name) deeper all around site kept h
  found_call (other p q) name deeper all around site kept h = h

  module _ (search : Search D) (all : FoundBy search) (deeper : Option (Expander D)) (below : FoundDeeper deeper) where
    found_kept : (around : Around) (path : Path) (name : Ident) (bang : Punct) (d : Delimiter) (inner : Forest)
        → Found (kept_call dialect world local scope search around path name bang d inner)
    found_kept around path name bang d inner = all (record around { standing = Argument }) inner

    found_trees : (s : Begun) (around : Around) (m : Marked) → Found (search_trees dialect world local scope search deeper s around m)
    found_trees s around none = All-nil IsFound
    found_trees s around (token l rest) =
        found_next (search_leaf dialect world local scope s around l) (λ here. search_trees dialect world local scope search deeper (after_leaf s l) here rest) around (All-nil IsFound) (λ here. found_trees (after_leaf s l) here rest)
    found_trees s around (inside d a rest) =
        let inner : Around = record around { standing = in_group s d.kind around.standing } in
        found_next (in_brackets around.outer d (search inner (unmarked a))) (λ here. search_trees dialect world local scope search deeper (after_group s d.kind) here rest)
        around (all inner (unmarked a)) (λ here. found_trees (after_group s d.kind) here rest)
    found_trees s around (call path name bang d a rest) =
        let site : CallSite = call_site path name bang d (unmarked a) in
        let kept : Scoped D = kept_call dialect world local scope search around path name bang d (unmarked a) in
        let gone : Bool = takes_end dialect world local scope deeper s around path name d site in
        found_next (at_call dialect world local scope deeper around path name site kept) (λ here. search_trees dialect world local scope search deeper (after_call gone s d.kind) here rest)
        around (found_call path name deeper below around site kept (found_kept around path name bang d (unmarked a))) (λ here. found_trees (after_call gone s d.kind) here rest)

    found_part : (around : Around) (p : Forest) (k : PieceKind) → Found (search_piece dialect world local scope search deeper around p k)
    found_part around p out_piece = All-nil IsFound
    found_part around p (definition_piece d) = found_defined around d
    found_part around p plain_piece = found_trees Nothing around (marked p)

    found_parts : (around : Around) (ps : List Forest) → Found (search_pieces dialect world local scope search deeper around ps)
    found_parts around [] = All-nil IsFound
    found_parts around (p ∷ ps) =
        found_next (search_piece dialect world local scope search deeper around p (kind_in dialect around.standing p)) (λ here. search_pieces dialect world local scope search deeper here ps)
        around (found_part around p (kind_in dialect around.standing p)) (λ here. found_parts here ps)

  pub found_list : (deeper : Option (Expander D)) → FoundDeeper deeper → (n : ℕ) → FoundBy (search_list dialect world local scope deeper n)
  found_list deeper below zero around f = All-nil IsFound
  found_list deeper below (suc n) around f =
      found_parts (search_list dialect world local scope deeper n) (found_list deeper below n) deeper below around (cut f)

  pub found_scoped : (n : ℕ) → FoundBy (scoped dialect world local scope n)
  found_scoped zero around f = found_list None tt (suc (size f)) around f
  found_scoped (suc n) around f =
      let search : Search D = scoped dialect world local scope n in
      found_list (Some (attempt dialect world local scope search)) (found_attempt search (found_scoped n)) (suc (size f)) around f
