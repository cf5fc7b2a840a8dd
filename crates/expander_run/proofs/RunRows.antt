-- Small runs and calls, as worked examples.
use Rattle.std.proofs.Common.{◌≡◌, ℕ, zero, suc, List, [], ◌∷◌, ◌++◌, Option, Some, Bool, true, false, refl, ap, arith, unwrap_or, if◌then◌else◌}
use Rattle.std.specs.Prelude.{Ok, Err, None, ◌||◌, codes, decimal}
use Rattle.std.specs.List.{list_any}
use Rattle.std.proofs.lemmas.Fmt.{decimal_digit}
use Rattle.bridge.specs.declared.reading.outcome.ReadFault.{ReadFault}
use Rattle.expander_run.specs.Watch.{Watch, is_bad_write}
use Rattle.expander_run.specs.Lines.{column_at, fault_words, line, line_at}
use Rattle.expander_run.specs.Runs.{IsFlushed, Refuses, Runs, status, status_by}
use Rattle.expander_run.specs.declared.program.Status.{Status}
use Rattle.expander_run.specs.declared.stop.Stop.{Stop}
use Rattle.expander_run.specs.declared.stop.Stop.TheVariants.{ReadFailed}
use Rattle.expander_model.specs.Calls.{Path, bare, from_crate, other, Marked, none, token, inside, call, key_of, marked, unmarked}
use Rattle.expander_model.specs.Definitions.{Definition, definition_of, nearest}
use Rattle.expander_model.specs.Expansion.{World, Outcome, CallSite, just, faulted}
use Rattle.expander_session.specs.Replies.{NeedsNumbers}
use Rattle.expander_model.specs.Meaning.{Layers, member, members_after, with_definition}
use Rattle.expander_model.specs.Limits.{outermost}
use Rattle.expander_model.specs.declared.limits.Limits.{Limits}
use Rattle.expander_model.specs.Scoping.{call_site, Around, Scoped, Search, PieceKind, out_piece, definition_piece, plain_piece, found_in, kind_in, is_left_out, in_group, behind, without_locals, and_next, in_brackets, defined, unbroken, looked_up, at_key, at_call, kept_call, search_leaf, takes_end, search_trees, search_piece, search_pieces, search_list}
use Rattle.expander_model.specs.PieceStates.{after_call, after_group, after_leaf}
use Rattle.expander_model.specs.Pieces.{cut}
use Rattle.expander_model.specs.declared.begun.Begun.{Begun}
use Rattle.expander_model.specs.declared.begun.Begun.TheVariants.{Nothing}
use Rattle.expander_model.specs.declared.dialect.Dialect.{Dialect}
use Rattle.expander_model.specs.declared.scope_rules.Standing.TheVariants.{Top, Argument}
use Rattle.expander_session.specs.TooMany.{bursts}
use Rattle.expander_session.specs.declared.session.Reply.TheVariants.{Unread}
use Rattle.tt_data.specs.Forest.{Forest, size}
use Rattle.tt_data.specs.Walk.{walk}
use Rattle.tt_data.specs.declared.delimiter.Delimiter.{Delimiter}
use Rattle.tt_data.specs.declared.leaf.Ident.{Ident}
use Rattle.tt_data.specs.declared.leaf.Punct.{Punct}
use Rattle.expander_model.specs.declared.fault.Fault.{Fault}
use Rattle.expander_model.specs.declared.fault.FaultKind.TheVariants.{BrokenDefinition, RecursionLimit}

-- a byte of which nothing was taken is a write that failed
nothing_evaluated : is_bad_write {E = ℕ} (120 ∷ []) (Ok 0) ≡ true
nothing_evaluated = refl

-- one of two bytes is a short write
some_taken : is_bad_write {E = ℕ} (120 ∷ 121 ∷ []) (Ok 1) ≡ false
some_taken = refl

-- there was nothing to take
nothing_to_take : is_bad_write {E = ℕ} [] (Ok 0) ≡ false
nothing_to_take = refl

-- an error is a failure though there was nothing to take
error_of_nothing : (fault : ℕ) → is_bad_write [] (Err fault) ≡ true
error_of_nothing fault = refl

without_faults : status_by [] ≡ status 0
without_faults = refl

with_faults : (fault : Fault) (faults : List Fault) → status_by (fault ∷ faults) ≡ status 1
with_faults fault faults = refl

-- a run that stops never has status 0
never_0 : {R W E : Type 0} (layers : Layers) (prelude : List Forest) (stop : Stop) (input : Option (List ℕ)) (depth : ℕ) (writes tells : List ℕ → Type 0)
    (reader : Watch R) (before writer : Watch W) (faults : Watch E) → Refuses layers prelude stop input depth writes tells reader before writer faults (status 0) → ⊥
never_0 layers prelude stop input depth writes tells reader before writer faults h = omega (arith, ap (λ (s : Status). s.0) h.status)

-- a reader that failed in mid-stream: nothing is written, and that is told
read_failed : (depth : ℕ) → Runs {R = ℕ} {W = ℕ} {E = ℕ} (Some ReadFailed) (Some (120 ∷ 121 ∷ [])) depth (λ bytes. bytes ≡ [])
    (λ bytes. bytes ≡ codes "read failed" ++ (10 ∷ [])) (record { inner = 0; failed = true; flushed = false })
    (record { inner = 0; failed = false; flushed = false }) (record { inner = 0; failed = false; flushed = false })
    (record { inner = 0; failed = false; flushed = true }) (status 1)
read_failed depth = record {
  cause = tt;
  left = refl;
  told = record { taken = 12; written = refl; whole = λ fresh. refl; flushed = λ fresh some. refl };
  status = refl;
  of_reader = refl;
  of_writer = refl;
  unasked = λ other. refl;
}

-- a flush for a reading fault would show: the writer is not as it was
not_flushed : (fault : ReadFault) → IsFlushed {W = ℕ} (Unread fault) (record { inner = 0; failed = false; flushed = false }) (record { inner = 0; failed = false; flushed = true }) → ⊥
not_flushed fault h = let k : true ≡ false = ap (λ (w : Watch ℕ). w.flushed) h in cc

-- ---- places in `a`, a line feed, `bc`

abbrev two_lines : List ℕ
two_lines = 97 ∷ 10 ∷ 98 ∷ 99 ∷ []

first_byte : (line_at two_lines 0 ≡ 1) × (column_at two_lines 0 ≡ 1)
first_byte = (refl, refl)

-- a line feed ends its line
line_feed : (line_at two_lines 1 ≡ 1) × (column_at two_lines 1 ≡ 2)
line_feed = (refl, refl)

behind_line_feed : (line_at two_lines 2 ≡ 2) × (column_at two_lines 2 ≡ 1)
behind_line_feed = (refl, refl)

last_byte : (line_at two_lines 3 ≡ 2) × (column_at two_lines 3 ≡ 2)
last_byte = (refl, refl)

-- the end is behind the last byte
text_end : (line_at two_lines 9 ≡ 2) × (column_at two_lines 9 ≡ 3)
text_end = (refl, refl)

-- a character of two bytes is two columns
by_bytes : column_at (195 ∷ 169 ∷ 120 ∷ []) 2 ≡ 3
by_bytes = refl

-- a carriage return ends no line
carriage_return : line_at (13 ∷ 120 ∷ []) 1 ≡ 1
carriage_return = refl

told_line : line 2 1 (fault_words RecursionLimit) ≡ codes "line 2, byte column 1: recursion limit reached" ++ (10 ∷ [])
told_line =
    let two : decimal 2 ≡ 50 ∷ [] = decimal_digit 2 (omega arith) in
    let one : decimal 1 ≡ 49 ∷ [] = decimal_digit 1 (omega arith) in
    rw (two, one) refl

-- a text that cannot be read needs no numbers
no_numbers : (fault : ReadFault) → NeedsNumbers 0 [] (Err fault) → ⊥
no_numbers fault h = omega (arith, h)

-- ---- without a level no call asks for a result, so none has too many tokens

neither : (a b : Bool) → a ≡ false → b ≡ false → (a || b) ≡ false
neither false b e d = d
neither true b e d = cc

abbrev IsSmall : Scoped Definition → Type 0
IsSmall a = a.outcome.bursts ≡ false

module _ (dialect : Dialect) (world : World Definition) (local : Definition → Definition) (scope : List ℕ → Option Definition) where
  small_next : (a : Scoped Definition) (next : Around → Scoped Definition) (around : Around) → IsSmall a → ((here : Around) → IsSmall (next here)) → IsSmall (and_next a next around)
  small_next a next around h more = neither a.outcome.bursts (next (behind a.defines around)).outcome.bursts h (more (behind a.defines around))

  small_defined : (around : Around) (d : Definition) → IsSmall (defined dialect world local scope around d)
  small_defined around d = go (world.broken (local d))
    where
      shown : Outcome Definition
      shown = just around.outer (if is_left_out around.standing then [] else walk d.piece)

      go : (b : Bool) → (if b then faulted BrokenDefinition (unwrap_or around.outer d.name.span) shown else shown).bursts ≡ false
      go true = refl
      go false = refl

  small_unbroken : (d : Definition) (broken : Bool) (around : Around) (site : CallSite) → IsSmall (unbroken dialect world local scope d broken None around site)
  small_unbroken d true around site = refl
  small_unbroken d false around site = refl

  small_looked_up : (o : Option Definition) (around : Around) (site : CallSite) (kept : Scoped Definition) → IsSmall kept
      → IsSmall (looked_up dialect world local scope o None around site kept)
  small_looked_up None around site kept h = h
  small_looked_up (Some d) around site kept h = small_unbroken d (world.broken d) around site

  small_key : (o : Option Definition) (key : List ℕ) (around : Around) (site : CallSite) (kept : Scoped Definition) → IsSmall kept
      → IsSmall (at_key dialect world local scope o key None around site kept)
  small_key (Some d) key around site kept h = small_looked_up (Some (local d)) around site kept h
  small_key None key around site kept h = small_looked_up (scope key) around site kept h

  small_call : (path : Path) (name : Ident) (around : Around) (site : CallSite) (kept : Scoped Definition) → IsSmall kept
      → IsSmall (at_call dialect world local scope None around path name site kept)
  small_call bare name around site kept h = small_key (nearest around.locals name.sym) name.sym around site kept h
  small_call (from_crate root p q) name around site kept h = small_key None (key_of (from_crate root p q) name) around site kept h
  small_call (other p q) name around site kept h = h

  module _ (search : Search Definition) (all : (around : Around) (f : Forest) → IsSmall (search around f)) where
    small_kept : (around : Around) (path : Path) (name : Ident) (bang : Punct) (d : Delimiter) (inner : Forest)
        → IsSmall (kept_call dialect world local scope search around path name bang d inner)
    small_kept around path name bang d inner = all (record around { standing = Argument }) inner

    small_trees : (s : Begun) (around : Around) (m : Marked) → IsSmall (search_trees dialect world local scope search None s around m)
    small_trees s around none = refl
    small_trees s around (token l rest) =
        small_next (search_leaf dialect world local scope s around l) (λ here. search_trees dialect world local scope search None (after_leaf s l) here rest)
        around refl (λ here. small_trees (after_leaf s l) here rest)
    small_trees s around (inside d a rest) =
        let inner : Around = record around { standing = in_group s d.kind around.standing } in
        small_next (in_brackets around.outer d (search inner (unmarked a))) (λ here. search_trees dialect world local scope search None (after_group s d.kind) here rest)
        around (all inner (unmarked a)) (λ here. small_trees (after_group s d.kind) here rest)
    small_trees s around (call path name bang d a rest) =
        let site : CallSite = call_site path name bang d (unmarked a) in
        let behind_it : Begun = after_call (takes_end dialect world local scope None s around path name d site) s d.kind in
        let kept : Scoped Definition = kept_call dialect world local scope search around path name bang d (unmarked a) in
        small_next (at_call dialect world local scope None around path name site kept) (λ here. search_trees dialect world local scope search None behind_it here rest)
        around (small_call path name around site kept (small_kept around path name bang d (unmarked a))) (λ here. small_trees behind_it here rest)

    small_part : (around : Around) (p : Forest) (k : PieceKind) → IsSmall (search_piece dialect world local scope search None around p k)
    small_part around p out_piece = refl
    small_part around p (definition_piece d) = small_defined around d
    small_part around p plain_piece = small_trees Nothing around (marked p)

    small_parts : (around : Around) (ps : List Forest) → IsSmall (search_pieces dialect world local scope search None around ps)
    small_parts around [] = refl
    small_parts around (p ∷ ps) =
        small_next (search_piece dialect world local scope search None around p (kind_in dialect around.standing p)) (λ here. search_pieces dialect world local scope search None here ps)
        around (small_part around p (kind_in dialect around.standing p)) (λ here. small_parts here ps)

  small_list : (n : ℕ) (around : Around) (f : Forest) → IsSmall (search_list dialect world local scope None n around f)
  small_list zero around f = refl
  small_list (suc n) around f = small_parts (search_list dialect world local scope None n) (small_list n) around (cut f)

  -- by limits or without
  small_outermost : (limits : Option Limits) (around : Around) (f : Forest) → IsSmall (outermost dialect world local scope limits 0 around f)
  small_outermost None around f = small_list (suc (size f)) around f
  small_outermost (Some limits) around f = small_list (suc (size f)) around f

-- by whatever dialect
quiet_member : (layers : Layers) (before : List Definition) (p : Forest) (d : Option Definition) → bursts (member layers 0 before p d) ≡ false
quiet_member layers before p None = small_outermost layers.world.dialect layers.world (λ d. d) (found_in layers.world.dialect before) layers.world.dialect.limits (without_locals Top None) p
quiet_member layers before p (Some d) = refl

never_without_a_level : (layers : Layers) (before : List Definition) (ps : List Forest) → list_any bursts (members_after layers 0 before ps) ≡ false
never_without_a_level layers before [] = refl
never_without_a_level layers before (p ∷ ps) =
    neither _ _ (quiet_member layers before p (definition_of p)) (never_without_a_level layers (with_definition (definition_of p) before) ps)
