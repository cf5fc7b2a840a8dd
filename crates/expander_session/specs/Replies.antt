-- What a session replies: its text's meaning, and how many pieces the last text did not have.
use Rattle.std.specs.Prelude.{◌≡◌, ℕ, ◌+◌, ◌≤◌, ◌^◌, List, [], ◌++◌, map, Option, Some, Result, Ok}
use Rattle.std.specs.Prelude.{Err, ⊤}
use Rattle.bridge.specs.PrintedRanges.{printed_ranges, read_ranges}
use Rattle.bridge.specs.declared.reading.outcome.ReadFault.{ReadFault}
use Rattle.tt_data.specs.Forest.{Forest}
use Rattle.expander_scope.specs.declared.refusal.Refusal.{Refusal}
use Rattle.expander_scope.specs.declared.refusal.Refusal.TheVariants.{Memory, Tokens, Numbers}
use Rattle.expander_session.specs.declared.session.Reply.{Reply}
use Rattle.expander_session.specs.declared.session.Reply.TheVariants.{Read, Unread}
use Rattle.expander_session.specs.Count.{Looked, expanded_count, looked_of}
use Rattle.expander_session.specs.Expanded.{Expanded, origin_of, origin_text}
use Rattle.expander_model.specs.DefinitionTrees.{definition_trees, trees_in}
use Rattle.expander_model.specs.Definitions.{Definition}
use Rattle.expander_model.specs.Meaning.{Layers, ReadMeaning, meaning_in}
use Rattle.expander_model.specs.Printing.{bare}
use Rattle.expander_scope.specs.NewNumbers.{needed}
use Rattle.expander_session.specs.State.{State, definitions_of}
use Rattle.expander_session.specs.TooMany.{NeedsTooManyIn}

-- an expansion is what the text means: its printed text, its faults in order, the origins of its
-- tokens with their texts, where each token is in the printed text, and how many of its plain
-- pieces have no match among the earlier ones
pub record IsExpansionOf (m : ReadMeaning) (earlier : Option (List Looked))
    (e : Expanded) : Type 0 where
  pub printed : e.printed ≡ m.text
  pub faults : e.faults ≡ m.faults
  pub origins : e.origins ≡ map origin_of m.tokens
  pub texts : e.texts ≡ map origin_text m.tokens
  pub ranges : read_ranges e.printed ≡ printed_ranges (map bare m.tokens)
  pub expanded : e.expanded ≡ expanded_count earlier (looked_of m.members)

-- a reply is what a text means: its expansion, or the fault for which it cannot be read
abbrev pub IsMeant : Result ReadMeaning ReadFault → Option (List Looked) → Reply → Type 0
IsMeant (Ok m) earlier (Read e) = IsExpansionOf m earlier e
IsMeant (Err fault) earlier (Unread f) = f ≡ fault
IsMeant _ earlier _ = ⊥

-- what a session replies whose last text that was read had these pieces: what its text means after
-- these definitions
abbrev pub IsReplyIn : Layers → ℕ → List Definition → List ℕ → Option (List Looked) → Reply → Type 0
IsReplyIn layers depth initial text earlier reply =
    IsMeant (meaning_in layers depth initial text) earlier reply

-- the same of a text by itself
abbrev pub IsReplyTo : Layers → ℕ → List ℕ → Option (List Looked) → Reply → Type 0
IsReplyTo layers depth text earlier reply = IsReplyIn layers depth [] text earlier reply

-- the plain pieces of a text: none where it cannot be read
abbrev pub looked_in : Result ReadMeaning ReadFault → List Looked
looked_in (Ok m) = looked_of m.members
looked_in (Err fault) = []

-- its definitions, with piece-relative spans: none where it cannot be read
abbrev pub definitions_in : Result ReadMeaning ReadFault → List Forest
definitions_in (Ok m) = trees_in m.members
definitions_in (Err fault) = []

-- the definitions of a prelude, and then those of a text after it, with piece-relative spans
abbrev pub all_definitions : List Forest → Result ReadMeaning ReadFault → List Forest
all_definitions prelude m = definition_trees prelude ++ definitions_in m

-- how many ids are given once the definitions of a prelude and of a text after it have theirs,
-- where these trees have theirs already
abbrev pub given_in : ℕ → List Forest → List Forest → Result ReadMeaning ReadFault → ℕ
given_in given trees prelude m = given + needed trees (all_definitions prelude m)

-- the same of a text by itself
abbrev pub given_after : ℕ → List Forest → Result ReadMeaning ReadFault → ℕ
given_after given trees m = given_in given trees [] m

-- a text needs more ids than there are: then it is not read, since a session never gives so many
-- (`numbers` of its `expansion`)
abbrev pub NeedsNumbersIn : ℕ → List Forest → List Forest → Result ReadMeaning ReadFault → Type 0
NeedsNumbersIn given trees prelude m = 2 ^ 32 ≤ given_in given trees prelude m

-- the same of a text by itself
abbrev pub NeedsNumbers : ℕ → List Forest → Result ReadMeaning ReadFault → Type 0
NeedsNumbers given trees m = NeedsNumbersIn given trees [] m

-- what the text of a session means after its prelude
abbrev pub meaning_of_state : {G : Type 0} → Layers → State G → Result ReadMeaning ReadFault
meaning_of_state layers s = meaning_in layers s.depth (definitions_of s.prelude) s.text

module _ (layers : Layers) where
  -- a text was read: its pieces and definitions replace the cached ones, and nothing else changes
  pub record HoldsText {G : Type 0} (old new : State G) : Type 0 where
    pub text : new.text ≡ old.text
    pub grammar : new.grammar ≡ old.grammar
    pub edition : new.edition ≡ old.edition
    pub dialect : new.dialect ≡ old.dialect
    pub depth : new.depth ≡ old.depth
    pub prelude : new.prelude ≡ old.prelude
    pub held : new.held ≡ Some (looked_in (meaning_of_state layers old))
    pub trees : new.trees ≡ all_definitions old.prelude (meaning_of_state layers old)
    pub given : new.given ≡ given_in old.given old.trees old.prelude (meaning_of_state layers old)

  -- the session after a reply: one that cannot be read changes nothing
  abbrev pub StateAfter : {G : Type 0} → State G → State G → Reply → Type 0
  StateAfter old new (Read e) = HoldsText old new
  StateAfter old new (Unread fault) = new ≡ old

  -- a reply, and the session after it
  abbrev pub Replies : {G : Type 0} → State G → State G → Reply → Type 0
  Replies old new reply =
      IsReplyIn layers old.depth (definitions_of old.prelude) old.text old.held reply
      × StateAfter old new reply

-- why a session has no reply: no memory, more tokens than a tree may have, or no ids left
abbrev pub HasCause : {G : Type 0} → Layers → State G → Refusal → Type 0
HasCause layers s Memory = ⊤
HasCause layers s Tokens = NeedsTooManyIn layers s.depth (definitions_of s.prelude) s.text
HasCause layers s Numbers = NeedsNumbersIn s.given s.trees s.prelude (meaning_of_state layers s)
