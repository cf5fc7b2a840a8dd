-- What the lines of a script ask for. (Of this project.)
use Rattle.std.specs.Prelude.{◌≡◌, ◌≢◌, ◌<◌, ◌≤◌, ◌^◌, ◌⊎◌, ℕ, List, [], ◌∷◌, ◌++◌, IsUtf8, Option}
use Rattle.std.specs.Prelude.{Some, None, codes, length, option_map, string_bytes}
use Rattle.expander_session.specs.declared.commands.Command.{Command}
use Rattle.expander_session.specs.declared.commands.Command.TheVariants.{Edit, Expand}
use Rattle.expander_sources.specs.Homes.{Home}
use Rattle.replay_script.specs.Words.{HasHome, HasNumber, IsNumber, Lacks, LacksNumber, Lists}
use Rattle.replay_script.specs.Words.{unescaped}
use Rattle.replay_script.specs.declared.line.Line.{Line}
use Rattle.replay_script.specs.declared.line.Line.TheVariants.{Command as Commanding}
use Rattle.replay_script.specs.declared.line.Line.TheVariants.{Source as Reading}
use Rattle.replay_script.specs.declared.line.Line.TheVariants.{Prelude as Picking}
use Rattle.replay_script.specs.declared.line.Pick.{Pick}
use Rattle.replay_script.specs.declared.line.Wrong.{Wrong}
use Rattle.replay_script.specs.declared.line.Wrong.TheVariants as fault

-- ---- what a line says

-- a line, without its `edit `, has two numbers and then a replacement
pub record SaysEdit (line : List ℕ) (start stop : ℕ) (replacement : List ℕ) : Type 0 where
  pub rest : List ℕ
  pub last : List ℕ
  pub from : HasNumber line start rest
  pub to : HasNumber rest stop last
  pub text : unescaped last ≡ Some replacement

-- a line is this command
abbrev pub SaysCommand : List ℕ → Command → Type 0
SaysCommand line (Edit start stop replacement) =
    (rest : List ℕ) × (line ≡ codes "edit " ++ rest)
    × SaysEdit rest start stop (string_bytes replacement)
SaysCommand line Expand = line ≡ codes "expand"

-- the number of a source: 0 is that of the text that is expanded
pub record IsSourceNumber (n : ℕ) : Type 0 where
  pub other : 1 ≤ n
  pub fits : n < 2 ^ 32

-- a line, without its `source `, has a number, a home and then a text
pub record SaysSource (line : List ℕ) (number : ℕ) (home : Option Home)
    (text : List ℕ) : Type 0 where
  pub rest : List ℕ
  pub last : List ℕ
  pub numbered : HasNumber line number rest
  pub is_number : IsSourceNumber number
  pub at_home : HasHome rest home last
  pub is_text : unescaped last ≡ Some text
  pub fits : length text < 2 ^ 32

-- a word is the number of a source, and for some of its definitions a colon and their indices
abbrev pub IsPickOf : List ℕ → ℕ → Option (List ℕ) → Type 0
IsPickOf word source None = IsNumber word source
IsPickOf word source (Some indices) =
    (front : List ℕ) × (list : List ℕ) × (word ≡ front ++ 58 ∷ list) × IsNumber front source
    × Lists 44 IsNumber list indices

-- the indices of a word
abbrev pub indices_of : Pick → Option (List ℕ)
indices_of pick = option_map (λ is. is.items) pick.indices

abbrev pub IsPick : List ℕ → Pick → Type 0
IsPick word pick = IsPickOf word pick.source (indices_of pick)

-- a line is `prelude` alone, or has these words behind it
abbrev pub SaysPrelude : List ℕ → List Pick → Type 0
SaysPrelude line picks =
    ((line ≡ codes "prelude") × (picks ≡ []))
    ⊎ ((rest : List ℕ) × (line ≡ codes "prelude " ++ rest) × Lists 32 IsPick rest picks)

-- a line is this
abbrev pub Says : List ℕ → Line → Type 0
Says line (Commanding command) = SaysCommand line command
Says line (Reading number home text) =
    (rest : List ℕ) × (line ≡ codes "source " ++ rest)
    × SaysSource rest number home (string_bytes text)
Says line (Picking picks) = SaysPrelude line picks.items

-- ---- what is wrong with a line

-- what is wrong with a line that begins with `edit `, without that
abbrev pub IsWrongEdit : List ℕ → Wrong → Type 0
IsWrongEdit line fault.Start = LacksNumber line
IsWrongEdit line fault.End =
    (start : ℕ) × (rest : List ℕ) × HasNumber line start rest × LacksNumber rest
IsWrongEdit line fault.Replacement =
    (start stop : ℕ) × (rest last : List ℕ) × HasNumber line start rest × HasNumber rest stop last
    × ((text : List ℕ) → IsUtf8 text → unescaped last ≢ Some text)
IsWrongEdit line _ = ⊥

-- a line that begins with `source ` has a number behind it, and this follows
pub record HasSourceNumber (line rest : List ℕ) : Type 0 where
  pub number : ℕ
  pub numbered : HasNumber line number rest
  pub is_number : IsSourceNumber number

-- and then a home, and this is left
pub record HasSourceHome (line last : List ℕ) : Type 0 where
  pub rest : List ℕ
  pub home : Option Home
  pub numbered : HasSourceNumber line rest
  pub at_home : HasHome rest home last

-- what is wrong with the text of a source
abbrev pub IsWrongText : List ℕ → Wrong → Type 0
IsWrongText last fault.Text = (text : List ℕ) → IsUtf8 text → unescaped last ≢ Some text
IsWrongText last fault.TooLong =
    (text : List ℕ) × (unescaped last ≡ Some text) × (2 ^ 32 ≤ length text)
IsWrongText last _ = ⊥

-- what is wrong with a line that begins with `source `, without that
abbrev pub IsWrongSource : List ℕ → Wrong → Type 0
IsWrongSource line fault.Number = (rest : List ℕ) → HasSourceNumber line rest → ⊥
IsWrongSource line fault.Home =
    (rest : List ℕ) × HasSourceNumber line rest
    × ((home : Option Home) (last : List ℕ) → HasHome rest home last → ⊥)
IsWrongSource line wrong = (last : List ℕ) × HasSourceHome line last × IsWrongText last wrong

-- a line has none of the forms of a line
pub record IsOther (line : List ℕ) : Type 0 where
  pub expand : line ≢ codes "expand"
  pub prelude : line ≢ codes "prelude"
  pub edit : (rest : List ℕ) → line ≢ codes "edit " ++ rest
  pub source : (rest : List ℕ) → line ≢ codes "source " ++ rest
  pub picks : (rest : List ℕ) → line ≢ codes "prelude " ++ rest

-- what is wrong with a line that begins with `prelude `, without that
abbrev pub IsWrongPrelude : List ℕ → Wrong → Type 0
IsWrongPrelude line fault.Pick = (picks : List Pick) → Lists 32 IsPick line picks → ⊥
IsWrongPrelude line _ = ⊥

-- what is wrong with what is behind the first word of a line
abbrev pub IsWrongBehind : List ℕ → Wrong → Type 0
IsWrongBehind line wrong =
    ((rest : List ℕ) × (line ≡ codes "edit " ++ rest) × IsWrongEdit rest wrong)
    ⊎ (((rest : List ℕ) × (line ≡ codes "source " ++ rest) × IsWrongSource rest wrong)
    ⊎ ((rest : List ℕ) × (line ≡ codes "prelude " ++ rest) × IsWrongPrelude rest wrong))

-- what is wrong with a line, without its line feed
abbrev pub IsWrong : List ℕ → Wrong → Type 0
IsWrong line fault.LineFeed = ⊥
IsWrong line fault.Utf8 = IsUtf8 line → ⊥
IsWrong line fault.CarriageReturn = Lacks 13 line → ⊥
IsWrong line fault.Command = IsOther line
IsWrong line wrong = IsWrongBehind line wrong

-- what is wrong with the next bytes of a script: they end with no line feed, or their line is wrong
abbrev pub IsWrongLine : List ℕ → Wrong → Type 0
IsWrongLine bytes wrong =
    ((bytes ≢ []) × Lacks 10 bytes × (wrong ≡ fault.LineFeed))
    ⊎ ((line : List ℕ) × (bytes ≡ line ++ 10 ∷ []) × Lacks 10 line × IsWrong line wrong)

-- ---- lines one after another

-- a text's first line, without the line feed that ends it, and what follows: a line is UTF-8 and
-- has no carriage return
pub record HasLine (text line more : List ℕ) : Type 0 where
  pub is : text ≡ line ++ 10 ∷ more
  pub one : Lacks 10 line
  pub utf8 : IsUtf8 line
  pub plain : Lacks 13 line

-- a text's first lines are these, one each, and this is left
abbrev pub AreSaid : List ℕ → List Line → List ℕ → Type 0
AreSaid text [] rest = text ≡ rest
AreSaid text (line ∷ lines) rest =
    (bytes : List ℕ) × (more : List ℕ) × HasLine text bytes more × Says bytes line
    × AreSaid more lines rest
