-- Words of a command line: what `rustc --cfg` takes without an edition.
use Rattle.std.specs.Prelude.{◌≡◌, ◌⊎◌, ℕ, ◌≤◌, ◌^◌, ◌&&◌, ◌||◌, List, length, Option}
use Rattle.std.specs.Prelude.{Some, None, Result, Ok, Err}
use Rattle.tt_data.specs.Forest.{Forest}
use Rattle.bridge.specs.ReadText.{HasTooMany}
use Rattle.bridge.specs.Reading.{reading}
use Rattle.bridge.specs.TokenSteps.{text_steps}
use Rattle.bridge.specs.declared.reading.outcome.ReadFault.{ReadFault}
use Rattle.small_grammar.specs.Text.{same_text}
use Rattle.cfg_options.specs.Conditions.{Options, option_in}
use Rattle.cfg_options.specs.Options.{same_value}
use Rattle.cfg_options.specs.Strings.{string_text}
use Rattle.cfg_options.specs.declared.fault.CfgFault.{CfgFault}
use Rattle.cfg_options.specs.declared.fault.CfgFault.TheVariants.{Memory, TooLong, NoOption}

-- the option that these trees are, if a text is read as trees
abbrev pub option_read : Result Forest ReadFault → Option (List ℕ × Option (List ℕ))
option_read (Ok f) = option_in string_text f
option_read (Err fault) = None

-- the option that a word is, with what its string stands for: it is read as a text is
abbrev pub option_of : List ℕ → Option (List ℕ × Option (List ℕ))
option_of word = option_read (reading (text_steps word))

-- exactly one option is set besides those that were
abbrev pub Sets : Option (List ℕ × Option (List ℕ)) → Options → Options → Type 0
Sets None before after = ⊥
Sets (Some o) before after = (name : List ℕ) (value : Option (List ℕ)) →
    after name value ≡ ((same_text o.0 name && same_value o.1 value) || before name value)

-- why a word sets no option
abbrev pub IsRefusal : List ℕ → CfgFault → Type 0
IsRefusal word Memory = Unit {0}
IsRefusal word TooLong = (2 ^ 32 ≤ length word) ⊎ HasTooMany (text_steps word)
IsRefusal word NoOption = option_of word ≡ None
