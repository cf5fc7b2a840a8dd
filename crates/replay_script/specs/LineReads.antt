-- What a line of a script is read as.
use Rattle.std.specs.Prelude.{◌≡◌, ◌≢◌, ◌<◌, ◌^◌, ◌++◌, Bool, List, Option, Result, Ok, Err, Some}
use Rattle.std.specs.Prelude.{ℕ, [], codes, length, option_map, string_bytes}
use Rattle.expander_session.specs.declared.commands.Command.TheVariants.{Edit}
use Rattle.replay_script.specs.Scripts.{HasLine, IsPick, IsWrong, IsWrongEdit, IsWrongLine}
use Rattle.replay_script.specs.Scripts.{IsWrongPrelude, IsWrongSource, Says, SaysEdit, SaysSource}
use Rattle.replay_script.specs.Words.{Lists, unescaped, unescaped_behind}
use Rattle.replay_script.specs.declared.line.Line.{Line}
use Rattle.replay_script.specs.declared.line.Line.TheVariants.{Command as Commanding}
use Rattle.replay_script.specs.declared.line.Line.TheVariants.{Source as Reading}
use Rattle.replay_script.specs.declared.line.Line.TheVariants.{Prelude as Picking}
use Rattle.replay_script.specs.declared.line.Wrong.{Wrong}

-- the bytes so far, before what the rest of a replacement means
abbrev pub left_of : Bool → List ℕ → List ℕ → Option (List ℕ)
left_of is_escape bytes rest = option_map (λ m. bytes ++ m) (unescaped_behind is_escape rest)

-- a text that this means, short enough for a source
pub record IsSourceText (last text : List ℕ) : Type 0 where
  pub is : unescaped last ≡ Some text
  pub fits : length text < 2 ^ 32

-- a line, without its first word, is this edit
abbrev pub SaysEditOf : List ℕ → Line → Type 0
SaysEditOf line (Commanding (Edit start stop replacement)) =
    SaysEdit line start stop (string_bytes replacement)
SaysEditOf line _ = ⊥

-- this source
abbrev pub SaysSourceOf : List ℕ → Line → Type 0
SaysSourceOf line (Reading number home text) = SaysSource line number home (string_bytes text)
SaysSourceOf line _ = ⊥

-- this prelude
abbrev pub SaysPreludeOf : List ℕ → Line → Type 0
SaysPreludeOf line (Picking picks) = Lists 32 IsPick line picks.items
SaysPreludeOf line _ = ⊥

-- what is behind the first word is read as: what it asks for, or what is wrong with it
abbrev pub IsReadAsEdit : List ℕ → Result Line Wrong → Type 0
IsReadAsEdit line (Ok asked) = SaysEditOf line asked
IsReadAsEdit line (Err wrong) = IsWrongEdit line wrong

abbrev pub IsReadAsSource : List ℕ → Result Line Wrong → Type 0
IsReadAsSource line (Ok asked) = SaysSourceOf line asked
IsReadAsSource line (Err wrong) = IsWrongSource line wrong

abbrev pub IsReadAsPrelude : List ℕ → Result Line Wrong → Type 0
IsReadAsPrelude line (Ok asked) = SaysPreludeOf line asked
IsReadAsPrelude line (Err wrong) = IsWrongPrelude line wrong

-- it is no word alone that is a line
pub record IsNoWord (line : List ℕ) : Type 0 where
  pub expand : line ≢ codes "expand"
  pub prelude : line ≢ codes "prelude"

-- what a line is read as: what it asks for, or what is wrong with it
abbrev pub IsReadAs : List ℕ → Result Line Wrong → Type 0
IsReadAs line (Ok asked) = Says line asked
IsReadAs line (Err wrong) = IsWrong line wrong

-- what the next bytes of a script are read as
abbrev pub IsLineReadAs : List ℕ → Result Line Wrong → Type 0
IsLineReadAs bytes (Ok asked) = (line : List ℕ) × HasLine bytes line [] × Says line asked
IsLineReadAs bytes (Err wrong) = IsWrongLine bytes wrong
