-- What is found at a byte of a text: by the text's meaning. (Of this project.)
use Rattle.std.specs.Prelude.{◌≡◌, ◌⊎◌, ℕ, Bool, true, false, if◌then◌else◌, leb, List, [], ◌∷◌}
use Rattle.std.specs.Prelude.{Option, Some, None, option_and_then, option_map, Result, Ok, Err}
use Rattle.std.specs.List.{list_any}
use Rattle.tt_data.specs.Forest.{Forest}
use Rattle.tt_data.specs.declared.edition.Edition.{Edition}
use Rattle.bridge.specs.PrintedTrees.{print_in}
use Rattle.bridge.specs.ReadText.{HasTooMany}
use Rattle.bridge.specs.TokenSteps.{text_reading, text_steps}
use Rattle.bridge.specs.declared.reading.outcome.ReadFault.{ReadFault}
use Rattle.cfg_options.specs.Conditions.{or_else}
use Rattle.mbe.specs.Grammar.{Grammar}
use Rattle.expander_model.specs.Definitions.{Definition}
use Rattle.expander_model.specs.Meaning.{Layers, Member, plain, defining, members_in}
use Rattle.expander_model.specs.Pieces.{first_start}
use Rattle.expander_model.specs.Printing.{spelling_before}
use Rattle.expander_model.specs.World.{world}
use Rattle.expander_model.specs.declared.dialect.Dialect.{Dialect}
use Rattle.call_expansion.specs.Answers.{Answer, answer_among}
use Rattle.call_expansion.specs.Around.{calls_around}
use Rattle.call_expansion.specs.declared.answer.Called.{Called}
use Rattle.call_expansion.specs.declared.text_call.Found.{Found}
use Rattle.call_expansion.specs.declared.text_call.Found.TheVariants.{Unread, Nothing, Call}

-- what a text's meaning is built on, for a grammar's answers, an edition and a dialect
abbrev pub text_layers : Grammar → Edition → Dialect → Layers
text_layers grammar edition dialect = record {
  read = text_reading;
  world = world grammar edition dialect;
  spelling = spelling_before;
}

-- what is said of a call around a byte in a piece: nothing in a definition
abbrev pub member_answer : ℕ → Member → Option Answer
member_answer at (plain piece o) = answer_among o.steps o.faults (calls_around at piece)
member_answer at (defining d) = None

-- what is said in the first of these pieces that has a call there
abbrev pub first_answer : ℕ → List Member → Option Answer
first_answer at [] = None
first_answer at (m ∷ ms) = or_else (member_answer at m) (first_answer at ms)

-- where a piece begins
abbrev pub begin_of : Member → ℕ
begin_of (plain piece o) = first_start piece
begin_of (defining d) = first_start d.piece

-- the last of these pieces that begins at or before a byte
abbrev pub last_at : ℕ → List Member → Option Member
last_at at [] = None
last_at at (m ∷ ms) = or_else (last_at at ms) (if leb (begin_of m) at then Some m else None)

-- what is said of a call around a byte in that piece
abbrev pub last_answer : ℕ → List Member → Option Answer
last_answer at ms = option_and_then (member_answer at) (last_at at ms)

-- a value of the code as what is said of a call
abbrev pub answer_in : Called → Answer
answer_in c = record {
  place = c.place;
  gives = option_map print_in c.gives;
  faults = c.faults.items;
}

-- a call in a piece's expansion makes more tokens than a tree may have
abbrev pub bursts : Member → Bool
bursts (plain piece o) = o.bursts
bursts (defining d) = false

module _ (layers : Layers) (depth : ℕ) (initial : List Definition) where
  -- this is found at a byte of a text that is read so, after these definitions
  abbrev pub IsFoundIn : Result Forest ReadFault → ℕ → Found → Type 0
  IsFoundIn (Err fault) at (Unread other) = fault ≡ other
  IsFoundIn (Ok f) at Nothing = first_answer at (members_in layers depth initial f) ≡ None
  IsFoundIn (Ok f) at (Call c) =
      first_answer at (members_in layers depth initial f) ≡ Some (answer_in c)
  IsFoundIn read at found = ⊥

  -- the same of a text
  abbrev pub IsFound : List ℕ → ℕ → Found → Type 0
  IsFound text at found = IsFoundIn (layers.read text) at found

  -- this is said of a call around a byte of a text, in the last piece that begins at or before the
  -- byte; nothing where the text cannot be read
  abbrev pub answer_near_in : Result Forest ReadFault → ℕ → Option Answer
  answer_near_in (Err fault) at = None
  answer_near_in (Ok f) at = last_answer at (members_in layers depth initial f)

  abbrev pub answer_near : List ℕ → ℕ → Option Answer
  answer_near text at = answer_near_in (layers.read text) at

  -- it has such a call, where it is read so
  abbrev pub HasTooManyIn : Result Forest ReadFault → Type 0
  HasTooManyIn (Err fault) = ⊥
  HasTooManyIn (Ok f) = list_any bursts (members_in layers depth initial f) ≡ true

  -- a text is refused for too many tokens: it is read as too many, or has such a call
  abbrev pub NeedsTooMany : List ℕ → Type 0
  NeedsTooMany text = HasTooMany (text_steps text) ⊎ HasTooManyIn (layers.read text)
