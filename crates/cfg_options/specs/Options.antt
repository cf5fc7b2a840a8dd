-- Which options a set of them has.
use Rattle.std.specs.Prelude.{◌≡◌, ℕ, Bool, true, false, ◌&&◌, List, Option, Some, None, option_map}
use Rattle.std.specs.List.{list_any}
use Rattle.small_grammar.specs.Text.{same_text}
use Rattle.cfg_options.specs.Conditions.{Options}
use Rattle.cfg_options.specs.declared.options.CfgOption.{CfgOption}
use Rattle.cfg_options.specs.declared.options.CfgOptions.{CfgOptions}

-- both have no value, or the same
abbrev pub same_value : Option (List ℕ) → Option (List ℕ) → Bool
same_value None None = true
same_value (Some a) (Some b) = same_text a b
same_value _ _ = false

-- an option has this name and value
abbrev pub is_option : List ℕ → Option (List ℕ) → CfgOption → Bool
is_option name value o =
    same_text o.name name && same_value (option_map (λ v. v.items) o.value) value

-- the options that are set
unfoldable pub options_of : CfgOptions → Options
options_of o name value = list_any (is_option name value) o.set.keys

-- the same options are set
abbrev pub SameOptions : CfgOptions → CfgOptions → Type 0
SameOptions old new =
    (name : List ℕ) (value : Option (List ℕ)) →
    options_of new name value ≡ options_of old name value

-- its name and value
abbrev pub written : CfgOption → List ℕ × Option (List ℕ)
written o = (o.name, option_map (λ v. v.items) o.value)
