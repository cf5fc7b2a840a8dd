-- Which words set no option for conditional compilation. (Of this project.)
use Rattle.std.specs.Prelude.{◌≡◌, ◌⊎◌, ℕ, List, ◌∷◌, ◌++◌, IsSome}
use Rattle.cfg_options.specs.Words.{IsRefusal}
use Rattle.cfg_options.specs.declared.fault.CfgFault.TheVariants.{TooLong, NoOption}
use Rattle.expander.specs.NamedOptions.{no_options, with_named}

-- a word sets no option: it names none, or it is too long
abbrev pub SetsNone : List ℕ → Type 0
SetsNone word = IsRefusal word NoOption ⊎ IsRefusal word TooLong

-- the first of these words that sets no option
pub record IsFirstWrong (words : List (List ℕ)) (word : List ℕ) : Type 0 where
  pub front : List (List ℕ)
  pub behind : List (List ℕ)
  pub words_are : words ≡ front ++ word ∷ behind
  pub before : IsSome (with_named no_options front)
  pub wrong : SetsNone word
