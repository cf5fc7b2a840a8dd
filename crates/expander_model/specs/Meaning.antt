-- The meaning of a text: its reading fault, or its printed text and faults; by itself, or after
-- definitions of other texts. (Of this project.)
use Rattle.std.specs.Prelude.{ℕ, List, [], ◌∷◌, ◌++◌, Option, Some, None, Result, Ok, Err, map, flat_map, if◌then◌else◌}
use Rattle.tt_data.specs.Forest.{Forest}
use Rattle.tt_data.specs.Walk.{Step}
use Rattle.expander_model.specs.declared.fault.Fault.{Fault}
use Rattle.expander_model.specs.declared.fault.FaultKind.TheVariants.{BrokenDefinition}
use Rattle.bridge.specs.declared.reading.outcome.ReadFault.{ReadFault}
use Rattle.expander_model.specs.Pieces.{pieces}
use Rattle.expander_model.specs.Definitions.{Definition, definition_of}
use Rattle.expander_model.specs.Expansion.{World, Outcome, PlacedStep}
use Rattle.expander_model.specs.Scoping.{found_in, is_out}
use Rattle.expander_model.specs.Limits.{expanded}
use Rattle.expander_model.specs.declared.scope_rules.Standing.TheVariants.{Top}
use Rattle.expander_model.specs.Printing.{PrintedToken, visible, printed, left_out, text_of}
use Rattle.expander_model.specs.Faults.{fault_at, nested, unspellable, in_order}

-- what the layers below give: a text's forest or its reading fault, what definitions mean, and
-- the text of a visible token before those that follow, or none
pub record Layers : Type 0 where
  pub read : List ℕ → Result Forest ReadFault
  pub world : World Definition
  pub spelling : Step → List PlacedStep → Option (List ℕ)

-- a piece of a text: plain, with its expansion, or a definition
pub data Member : Type 0 where
  plain : Forest → Outcome Definition → Member
  defining : Definition → Member

-- the meaning of a text that was read
pub record ReadMeaning : Type 0 where
  pub members : List Member
  pub tokens : List PrintedToken
  pub text : List ℕ
  pub faults : List Fault

abbrev pub with_definition : Option Definition → List Definition → List Definition
with_definition None before = before
with_definition (Some d) before = d ∷ before

-- the definitions in scope once these pieces follow those before, the nearest first
abbrev pub definitions_after : List Definition → List Forest → List Definition
definitions_after before [] = before
definitions_after before (p ∷ ps) = definitions_after (with_definition (definition_of p) before) ps

-- a plain piece's output; a definition has none
abbrev pub output_of : Member → List PlacedStep
output_of (plain piece outcome) = outcome.steps
output_of (defining d) = []

-- the visible tokens of all plain pieces, as one list
abbrev pub output : List Member → List PlacedStep
output ms = visible (flat_map output_of ms)

module _ (layers : Layers) where
  -- the faults of a piece's expansion, or that of an invalid definition that is not left out
  abbrev pub member_faults : Member → List Fault
  member_faults (plain piece outcome) = map (λ f. fault_at f.0 f.1) outcome.faults
  member_faults (defining d) =
      if is_out layers.world.dialect.cfg Top d.piece then []
      else if layers.world.broken d then fault_at BrokenDefinition d.name.span ∷ [] else []

  -- the tokens that are printed
  abbrev pub tokens_of : List Member → List PrintedToken
  tokens_of ms = printed layers.spelling (output ms)

  abbrev pub faults_of : List Member → List Fault
  faults_of ms =
      in_order (flat_map member_faults ms
      ++ (nested (tokens_of ms) ++ unspellable (left_out layers.spelling (output ms))))

  abbrev pub meaning_of : List Member → ReadMeaning
  meaning_of ms = record {
    members = ms;
    tokens = tokens_of ms;
    text = text_of (tokens_of ms);
    faults = faults_of ms;
  }

module _ (layers : Layers) (depth : ℕ) where
  -- a piece in the scope of the definitions before it, which are given nearest first
  abbrev pub member : List Definition → Forest → Option Definition → Member
  member before piece (Some d) = defining d
  member before piece None =
      plain piece (expanded layers.world (λ d. d) (found_in layers.world.dialect before) depth piece)

  abbrev pub members_after : List Definition → List Forest → List Member
  members_after before [] = []
  members_after before (p ∷ ps) =
      let d : Option Definition = definition_of p in
      member before p d ∷ members_after (with_definition d before) ps

  -- the pieces of a forest in order, each in the scope of those before it, and of these
  -- definitions, which come before all of them and are given nearest first
  abbrev pub members_in : List Definition → Forest → List Member
  members_in initial f = members_after initial (pieces f)

  abbrev pub members : Forest → List Member
  members f = members_in [] f

  abbrev pub meaning_over : List Definition → Result Forest ReadFault → Result ReadMeaning ReadFault
  meaning_over initial (Err fault) = Err fault
  meaning_over initial (Ok f) = Ok (meaning_of layers (members_in initial f))

  -- the meaning of a text after these definitions of other texts: it depends on no session, no
  -- edit and no earlier text
  abbrev pub meaning_in : List Definition → List ℕ → Result ReadMeaning ReadFault
  meaning_in initial text = meaning_over initial (layers.read text)

  -- the same without any
  abbrev pub meaning_from : Result Forest ReadFault → Result ReadMeaning ReadFault
  meaning_from read = meaning_over [] read

  abbrev pub meaning : List ℕ → Result ReadMeaning ReadFault
  meaning text = meaning_in [] text
