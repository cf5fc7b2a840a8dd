-- The output of a text is the walk of a forest.
use Rattle.std.proofs.Common.{◌≡◌, ℕ, zero, suc, List, [], ◌∷◌, ◌++◌, refl, ap, ◌∙◌, sym, Bool, true, false}
use Rattle.std.specs.Prelude.{Option, Some, None, flat_map, if◌then◌else◌, unwrap_or}
use Rattle.std.proofs.lemmas.List.{map-append}
use Rattle.tt_data.proofs.ForestLemmas.{walk-joined}
use Rattle.tt_data.specs.Forest.{Forest, empty, leaf, group, joined, size}
use Rattle.tt_data.specs.Walk.{Step, at_leaf, opens, closes, walk}
use Rattle.tt_data.specs.declared.delimiter.Delimiter.{Delimiter}
use Rattle.tt_data.specs.declared.leaf.Ident.{Ident}
use Rattle.tt_data.specs.declared.leaf.Punct.{Punct}
use Rattle.tt_data.specs.declared.span.Span.{Span}
use Rattle.expander_model.specs.Calls.{Path, bare, from_crate, other, Marked, none, token, inside, call, key_of, marked, unmarked}
use Rattle.expander_model.specs.Definitions.{Definition, definition_of, nearest}
use Rattle.expander_model.specs.Expansion.{PlacedStep, World, Outcome, CallSite, placed, just, grouped, faulted, before_group}
use Rattle.expander_model.specs.Meaning.{Layers, member, members_after, output_of, with_definition}
use Rattle.expander_model.specs.PieceStates.{after_call, after_group, after_leaf, is_dropped}
use Rattle.expander_model.specs.Pieces.{cut}
use Rattle.expander_model.specs.Printing.{steps_of}
use Rattle.expander_model.specs.declared.begun.Begun.{Begun}
use Rattle.expander_model.specs.declared.begun.Begun.TheVariants.{Nothing}
use Rattle.tt_data.specs.declared.leaf.Leaf.{Leaf}
use Rattle.expander_model.specs.Limits.{Passed, limited, outermost, too_large, within}
use Rattle.expander_model.specs.declared.limits.Limits.{Limits}
use Rattle.expander_model.specs.Scoping.{call_site, Around, Attempt, Scoped, Search, Expander, attempt, PieceKind, out_piece, definition_piece, plain_piece, found_in, kind_in, is_left_out, in_group, behind, without_locals, and_next, in_brackets, defined, fitted, at_level, unbroken, looked_up, at_key, at_call, kept_call, search_leaf, takes_end, search_trees, search_piece, search_pieces, search_list, scoped}
use Rattle.expander_model.specs.declared.fault.FaultKind.TheVariants.{BrokenDefinition}
use Rattle.expander_model.specs.declared.dialect.Dialect.{Dialect}
use Rattle.expander_model.specs.declared.scope_rules.Standing.TheVariants.{Top, Argument}

-- the steps are the walk of trees, their places aside
pub record AreWalked (steps : List PlacedStep) : Type 0 where
  pub trees : Forest
  pub is : steps_of steps ≡ walk trees

pub steps_of-placed : (outer : Option Span) (steps : List Step) → steps_of (placed outer steps) ≡ steps
steps_of-placed outer [] = refl
steps_of-placed outer (s ∷ more) = ap (λ l. s ∷ l) (steps_of-placed outer more)

steps_of-append : (xs ys : List PlacedStep) → steps_of (xs ++ ys) ≡ steps_of xs ++ steps_of ys
steps_of-append xs ys = map-append (λ (s : PlacedStep). s.step) xs ys

walked_trees : (outer : Option Span) (f : Forest) → AreWalked (placed outer (walk f))
walked_trees outer f = record { trees = f; is = steps_of-placed outer (walk f) }

walked_more : (xs ys : List PlacedStep) → AreWalked xs → AreWalked ys → AreWalked (xs ++ ys)
walked_more xs ys a b = record {
  trees = joined a.trees b.trees;
  is = steps_of-append xs ys ∙ ap (λ l. l ++ steps_of ys) a.is ∙ ap (λ l. walk a.trees ++ l) b.is ∙ sym (walk-joined a.trees b.trees);
}

walked_group : {D : Type 0} → (outer : Option Span) (d : Delimiter) (o : Outcome D) → AreWalked o.steps → AreWalked (grouped outer d o).steps
walked_group outer d o a = record {
  trees = group d a.trees empty;
  is = ap (λ l. opens d.kind d.open_span ∷ l)
      (steps_of-append o.steps (placed outer (closes d.kind d.close_span ∷ [])) ∙ ap (λ l. l ++ closes d.kind d.close_span ∷ []) a.is);
}

module _ {D : Type 0} (dialect : Dialect) (world : World D) (local : Definition → D) (scope : List ℕ → Option D) where
  -- results are walked so
  abbrev IsWalked : Scoped D → Type 0
  IsWalked a = AreWalked a.outcome.steps

  abbrev WalksBy : Search D → Type 0
  WalksBy search = (around : Around) (f : Forest) → IsWalked (search around f)

  abbrev WalksFrom : Expander D → Type 0
  WalksFrom expand = (d : D) (around : Around) (site : CallSite) → IsWalked (expand d around site).given

  abbrev WalksDeeper : Option (Expander D) → Type 0
  WalksDeeper None = Unit {0}
  WalksDeeper (Some expand) = WalksFrom expand

  walked_next : (a : Scoped D) (next : Around → Scoped D) (around : Around) → IsWalked a → ((here : Around) → IsWalked (next here)) → IsWalked (and_next a next around)
  walked_next a next around h more =
      walked_more a.outcome.steps (next (behind a.defines around)).outcome.steps h (more (behind a.defines around))

  -- a definition that is left out puts out the walk of no tree
  walked_unless : (b : Bool) (outer : Option Span) (f : Forest) → AreWalked (placed outer (if b then [] else walk f))
  walked_unless true outer f = walked_trees outer empty
  walked_unless false outer f = walked_trees outer f

  walked_defined : (around : Around) (d : Definition) → IsWalked (defined dialect world local scope around d)
  walked_defined around d = go (world.broken (local d))
    where
      shown : Outcome D
      shown = just around.outer (if is_left_out around.standing then [] else walk d.piece)

      go : (b : Bool) → AreWalked (if b then faulted BrokenDefinition (unwrap_or around.outer d.name.span) shown else shown).steps
      go true = walked_unless (is_left_out around.standing) around.outer d.piece
      go false = walked_unless (is_left_out around.standing) around.outer d.piece

  walked_fitted : (search : Search D) → WalksBy search → (around : Around) (site : CallSite) (r : Option Forest) → IsWalked (fitted dialect world local scope search around site r)
  walked_fitted search all around site None = walked_trees around.outer site.whole
  walked_fitted search all around site (Some g) = all (record around { outer = Some (unwrap_or around.outer site.at) }) g

  walked_attempt : (search : Search D) → WalksBy search → WalksFrom (attempt dialect world local scope search)
  walked_attempt search all d around site =
      let w = walked_fitted search all around site (world.fit d site.argument) in record { trees = w.trees; is = w.is }

  walked_level : (d : D) (deeper : Option (Expander D)) → WalksDeeper deeper → (around : Around) (site : CallSite) → IsWalked (at_level dialect world local scope d deeper around site)
  walked_level d None all around site = walked_trees around.outer site.whole
  walked_level d (Some expand) all around site = all d around site

  walked_unbroken : (d : D) (b : Bool) (deeper : Option (Expander D)) → WalksDeeper deeper → (around : Around) (site : CallSite)
      → IsWalked (unbroken dialect world local scope d b deeper around site)
  walked_unbroken d true deeper all around site = walked_trees around.outer site.whole
  walked_unbroken d false deeper all around site = walked_level d deeper all around site

  walked_looked_up : (r : Option D) (deeper : Option (Expander D)) → WalksDeeper deeper → (around : Around) (site : CallSite) (kept : Scoped D) → IsWalked kept
      → IsWalked (looked_up dialect world local scope r deeper around site kept)
  walked_looked_up None deeper all around site kept h = h
  walked_looked_up (Some d) deeper all around site kept h = walked_unbroken d (world.broken d) deeper all around site

  walked_key : (r : Option Definition) (key : List ℕ) (deeper : Option (Expander D)) → WalksDeeper deeper → (around : Around) (site : CallSite) (kept : Scoped D) → IsWalked kept
      → IsWalked (at_key dialect world local scope r key deeper around site kept)
  walked_key (Some d) key deeper all around site kept h = walked_looked_up (Some (local d)) deeper all around site kept h
  walked_key None key deeper all around site kept h =
      let w = walked_looked_up (scope key) deeper all around site kept h in record { trees = w.trees; is = w.is }

  walked_call : (path : Path) (name : Ident) (deeper : Option (Expander D)) → WalksDeeper deeper → (around : Around) (site : CallSite) (kept : Scoped D) → IsWalked kept
      → IsWalked (at_call dialect world local scope deeper around path name site kept)
  walked_call bare name deeper all around site kept h = walked_key (nearest around.locals name.sym) name.sym deeper all around site kept h
  walked_call (from_crate root p q) name deeper all around site kept h = walked_key None (key_of (from_crate root p q) name) deeper all around site kept h
  walked_call (other p q) name deeper all around site kept h = h

  module _ (search : Search D) (all : WalksBy search) (deeper : Option (Expander D)) (below : WalksDeeper deeper) where
    walked_kept : (around : Around) (path : Path) (name : Ident) (bang : Punct) (d : Delimiter) (inner : Forest)
        → IsWalked (kept_call dialect world local scope search around path name bang d inner)
    walked_kept around path name bang d inner =
        let a : Scoped D = search (record around { standing = Argument }) inner in
        walked_more (placed around.outer (walk (before_group path name bang))) (grouped around.outer d a.outcome).steps
        (walked_trees around.outer (before_group path name bang))
        (walked_group around.outer d a.outcome (all (record around { standing = Argument }) inner))

    walked_leaf : (b : Bool) (outer : Option Span) (l : Leaf) → AreWalked (placed outer (if b then [] else at_leaf l ∷ []))
    walked_leaf true outer l = walked_trees outer empty
    walked_leaf false outer l = walked_trees outer (leaf l empty)

    walked_search : (s : Begun) (around : Around) (m : Marked) → IsWalked (search_trees dialect world local scope search deeper s around m)
    walked_search s around none = walked_trees around.outer empty
    walked_search s around (token l rest) =
        walked_next (search_leaf dialect world local scope s around l) (λ here. search_trees dialect world local scope search deeper (after_leaf s l) here rest)
        around (walked_leaf (is_dropped s l) around.outer l) (λ here. walked_search (after_leaf s l) here rest)
    walked_search s around (inside d a rest) =
        let inner : Around = record around { standing = in_group s d.kind around.standing } in
        walked_next (in_brackets around.outer d (search inner (unmarked a))) (λ here. search_trees dialect world local scope search deeper (after_group s d.kind) here rest)
        around (walked_group around.outer d (search inner (unmarked a)).outcome (all inner (unmarked a))) (λ here. walked_search (after_group s d.kind) here rest)
    walked_search s around (call path name bang d a rest) =
        let site : CallSite = call_site path name bang d (unmarked a) in
        let behind_it : Begun = after_call (takes_end dialect world local scope deeper s around path name d site) s d.kind in
        let kept : Scoped D = kept_call dialect world local scope search around path name bang d (unmarked a) in
        walked_next (at_call dialect world local scope deeper around path name site kept) (λ here. search_trees dialect world local scope search deeper behind_it here rest)
        around (walked_call path name deeper below around site kept (walked_kept around path name bang d (unmarked a))) (λ here. walked_search behind_it here rest)

    walked_part : (around : Around) (p : Forest) (k : PieceKind) → IsWalked (search_piece dialect world local scope search deeper around p k)
    walked_part around p out_piece = walked_trees around.outer empty
    walked_part around p (definition_piece d) = walked_defined around d
    walked_part around p plain_piece = walked_search Nothing around (marked p)

    walked_parts : (around : Around) (ps : List Forest) → IsWalked (search_pieces dialect world local scope search deeper around ps)
    walked_parts around [] = walked_trees around.outer empty
    walked_parts around (p ∷ ps) =
        walked_next (search_piece dialect world local scope search deeper around p (kind_in dialect around.standing p)) (λ here. search_pieces dialect world local scope search deeper here ps)
        around (walked_part around p (kind_in dialect around.standing p)) (λ here. walked_parts here ps)

  walked_list : (deeper : Option (Expander D)) → WalksDeeper deeper → (n : ℕ) → WalksBy (search_list dialect world local scope deeper n)
  walked_list deeper below zero around f = walked_trees around.outer empty
  walked_list deeper below (suc n) around f =
      walked_parts (search_list dialect world local scope deeper n) (walked_list deeper below n) deeper below around (cut f)

  -- an expansion by scope rules puts out the walk of trees
  walked_scoped : (n : ℕ) → WalksBy (scoped dialect world local scope n)
  walked_scoped zero around f = walked_list None tt (suc (size f)) around f
  walked_scoped (suc n) around f =
      let search : Search D = scoped dialect world local scope n in
      walked_list (Some (attempt dialect world local scope search)) (walked_attempt search (walked_scoped n)) (suc (size f)) around f

  -- a call that makes too much is put out as it is
  walked_within : (o : Option (Passed D)) (around : Around) (site : CallSite) (a : Attempt D) → IsWalked a.given → IsWalked (within o around site a).given
  walked_within None around site a h = h
  walked_within (Some p) around site a h = walked_trees around.outer site.whole

  walked_limited : (limits : Limits) (n : ℕ) → WalksFrom (limited dialect world local scope limits n)
  walked_limited limits n d around site =
      let search : Search D = scoped dialect world local scope n in
      walked_within (too_large dialect world local scope limits n d around site) around site (attempt dialect world local scope search d around site)
      (walked_attempt search (walked_scoped n) d around site)

  -- so does one by limits or without
  walked_outermost : (limits : Option Limits) (n : ℕ) → WalksBy (outermost dialect world local scope limits n)
  walked_outermost None n = walked_scoped n
  walked_outermost (Some limits) zero = λ around f. walked_list None tt (suc (size f)) around f
  walked_outermost (Some limits) (suc n) = λ around f. walked_list (Some (limited dialect world local scope limits n)) (walked_limited limits n) (suc (size f)) around f

-- so do the members of a text, one after another
module _ (layers : Layers) (depth : ℕ) where
  walked_member : (before : List Definition) (piece : Forest) (d : Option Definition) → AreWalked (output_of (member layers depth before piece d))
  walked_member before piece None =
      walked_outermost layers.world.dialect layers.world (λ d. d) (found_in layers.world.dialect before) layers.world.dialect.limits depth (without_locals Top None) piece
  walked_member before piece (Some d) = walked_trees None empty

  pub walked_members : (before : List Definition) (ps : List Forest) → AreWalked (flat_map output_of (members_after layers depth before ps))
  walked_members before [] = walked_trees None empty
  walked_members before (p ∷ ps) =
      walked_more (output_of (member layers depth before p (definition_of p)))
      (flat_map output_of (members_after layers depth (with_definition (definition_of p) before) ps))
      (walked_member before p (definition_of p)) (walked_members (with_definition (definition_of p) before) ps)
