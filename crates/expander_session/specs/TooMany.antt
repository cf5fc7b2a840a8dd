-- Texts refused for too many tokens: as read, or in a call with so many levels of calls.
use Rattle.std.specs.Prelude.{◌≡◌, ◌⊎◌, ℕ, Bool, true, false, List, [], Result, Ok, Err}
use Rattle.std.specs.List.{list_any}
use Rattle.tt_data.specs.Forest.{Forest}
use Rattle.bridge.specs.ReadText as reading
use Rattle.bridge.specs.TokenSteps.{text_reading, text_steps}
use Rattle.bridge.specs.declared.reading.outcome.ReadFault.{ReadFault}
use Rattle.expander_model.specs.Definitions.{Definition}
use Rattle.expander_model.specs.Meaning.{Layers, Member, plain, defining, members_in}

-- a call in a piece's expansion makes too many tokens
abbrev pub bursts : Member → Bool
bursts (plain piece outcome) = outcome.bursts
bursts (defining d) = false

-- a text that was read has such a call, after these definitions
abbrev pub HasTooManyIn : Layers → ℕ → List Definition → Result Forest ReadFault → Type 0
HasTooManyIn layers depth initial (Ok f) =
    list_any bursts (members_in layers depth initial f) ≡ true
HasTooManyIn layers depth initial (Err fault) = ⊥

-- why a reply is refused for too many tokens: the text is read as too many, which doc comments
-- alone can bring about, or it has such a call
abbrev pub NeedsTooManyIn : Layers → ℕ → List Definition → List ℕ → Type 0
NeedsTooManyIn layers depth initial text =
    reading.HasTooMany (text_steps text) ⊎ HasTooManyIn layers depth initial (text_reading text)

-- the same of a text by itself
abbrev pub NeedsTooMany : Layers → ℕ → List ℕ → Type 0
NeedsTooMany layers depth text = NeedsTooManyIn layers depth [] text
