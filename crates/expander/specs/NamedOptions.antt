-- Which options for conditional compilation a list of words sets. (Of this project.)
use Rattle.std.specs.Prelude.{ℕ, false, ◌&&◌, ◌||◌, List, [], ◌∷◌, Option, Some}
use Rattle.small_grammar.specs.Text.{same_text, ◌>>=◌}
use Rattle.cfg_options.specs.Conditions.{Options}
use Rattle.cfg_options.specs.Options.{same_value}
use Rattle.cfg_options.specs.Words.{option_of}

-- no option is set
abbrev pub no_options : Options
no_options name value = false

-- an option is set too
abbrev pub with_option : List ℕ × Option (List ℕ) → Options → Options
with_option o before name value =
    (same_text o.0 name && same_value o.1 value) || before name value

-- the options that these words name are set too, if each word names one
abbrev pub with_named : Options → List (List ℕ) → Option Options
with_named before [] = Some before
with_named before (word ∷ words) = do
  o ← option_of word
  with_named (with_option o before) words
