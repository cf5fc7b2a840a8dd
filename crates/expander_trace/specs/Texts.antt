-- The traces of a text: the steps of its pieces, each in the scope of the definitions before it.
-- (Of this project.)
use Rattle.std.specs.Prelude.{◌≡◌, ℕ, Bool, true, false, ◌&&◌, ◌||◌, not, List, [], ◌∷◌, map}
use Rattle.std.specs.Prelude.{Option, Some, None, is_some, Result, Ok, Err, if◌then◌else◌}
use Rattle.tt_data.specs.Forest.{Forest}
use Rattle.bridge.specs.declared.reading.outcome.ReadFault.{ReadFault}
use Rattle.expander_model.specs.Definitions.{Definition, definition_of}
use Rattle.expander_model.specs.Meaning.{with_definition}
use Rattle.expander_model.specs.Pieces.{pieces}
use Rattle.expander_model.specs.Scoping.{found_in}
use Rattle.expander_model.specs.declared.dialect.Dialect.{Dialect}
use Rattle.call_expansion.specs.Around.{calls_around}
use Rattle.expander_trace.specs.Given.{part_with, trace_in}
use Rattle.expander_trace.specs.Parts.{Part, cut_off, may_define, part_within}
use Rattle.expander_trace.specs.Steps.{Rewrites, steps_of}
use Rattle.expander_trace.specs.declared.limits.Cut.{Cut}
use Rattle.expander_trace.specs.declared.limits.Cut.TheVariants.{Steps, Tokens, Definitions}
use Rattle.expander_trace.specs.declared.limits.Limits.{Limits}
use Rattle.expander_trace.specs.declared.text_trace.Found.{Found}
use Rattle.expander_trace.specs.declared.text_trace.Found.TheVariants.{Unread, Traces}

abbrev pub is_empty : {X : Type 0} → List X → Bool
is_empty [] = true
is_empty (x ∷ xs) = false

-- a piece has calls that are asked for
abbrev pub is_around : Option ℕ → Forest → Bool
is_around None piece = true
is_around (Some at) piece = not (is_empty (calls_around at piece))

-- nothing is traced
abbrev pub untraced : {D : Type 0} → Limits → Part D
untraced left = record { steps = []; room = record { left = left; cut = None } }

-- a part is listed: it has steps, or is cut
abbrev pub is_listed : {D : Type 0} → Part D → Bool
is_listed p = not (is_empty p.steps) || is_some p.room.cut

abbrev pub listed : {D : Type 0} → Part D → List (Part D) → List (Part D)
listed p more = if is_listed p then p ∷ more else more

-- a limit is passed
abbrev pub is_spent : Option Cut → Bool
is_spent (Some Steps) = true
is_spent (Some Tokens) = true
is_spent _ = false

-- no piece is traced behind this: it tells of the calls at a byte, or a limit is passed
abbrev pub is_last : {D : Type 0} → Option ℕ → Part D → Bool
is_last at p = (is_some at && is_listed p) || is_spent p.room.cut

-- for each definition its trees
abbrev pub by_trees : Part Definition → Part Forest
by_trees p = part_with (λ d. d.piece) p

module _ (by : Rewrites Definition) (dialect : Dialect) (depth : ℕ) (at : Option ℕ) where
  -- the steps of a piece that is no definition, after these definitions: none where it may have
  -- definitions of its own
  abbrev pub plain_part : Limits → List Definition → Forest → Part Definition
  plain_part left before piece =
      if may_define dialect.scope piece
      then if is_around at piece then cut_off left Definitions else untraced left
      else part_within dialect.scope left None
      (steps_of by (found_in dialect before) depth 0 at piece)

  -- those of any piece
  abbrev pub member_part : Limits → List Definition → Forest → Option Definition → Part Definition
  member_part left before piece (Some d) = untraced left
  member_part left before piece None = plain_part left before piece

  -- those of pieces in order, each in the scope of those before it, within one limit for all
  abbrev pub traces_after : Limits → List Definition → List Forest → List (Part Definition)
  traces_after left before [] = []
  traces_after left before (p ∷ ps) =
      let d : Option Definition = definition_of p in
      let part : Part Definition = member_part left before p d in
      listed part (if is_last at part then []
      else traces_after part.room.left (with_definition d before) ps)

  -- this is found in a text that is read so, after these definitions
  abbrev pub IsTracedIn : Limits → List Definition → Result Forest ReadFault → Found → Type 0
  IsTracedIn left initial (Err fault) (Unread other) = fault ≡ other
  IsTracedIn left initial (Ok f) (Traces traces) =
      map trace_in traces.items ≡ map by_trees (traces_after left initial (pieces f))
  IsTracedIn left initial read found = ⊥
