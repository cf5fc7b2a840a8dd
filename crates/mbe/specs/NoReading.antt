-- When a matcher has no reading of an argument. (Of this project.)
use Rattle.std.specs.Prelude.{◌≡◌, ◌≢◌, List, [], ◌∷◌, ◌++◌, true}
use Rattle.tt_data.specs.Forest.{Forest}
use Rattle.mbe_rules.specs.Items.{Items}
use Rattle.mbe_transcriber.specs.mbe_matcher.Grammar.{Grammar}
use Rattle.mbe_transcriber.specs.mbe_matcher.Paths.{IsAmong, IsPath}
use Rattle.mbe_transcriber.specs.mbe_matcher.Readings.{Move, State, start, next, has_used_up, place_of, takes, is_fragment}
use Rattle.mbe_transcriber.specs.mbe_matcher.Units.{left}

module _ (grammar : Grammar) (pattern : Items) (argument : Forest) where
  -- these valid moves use up the argument
  abbrev pub UsesUp : List Move → Type 0
  UsesUp moves = (last : State) × IsPath (next grammar) (start pattern argument) moves last × (has_used_up last ≡ true)

  -- two different lists of moves do
  pub record HasTwo : Type 0 where
    pub one : List Move
    pub two : List Move
    pub one_uses_up : UsesUp one
    pub two_uses_up : UsesUp two
    pub differ : one ≢ two

  -- a partial reading: valid moves from the start, of which the last consumes something
  pub record IsPartial (moves : List Move) (last : Move) : Type 0 where
    pub before : State
    pub after : State
    pub path : IsPath (next grammar) (start pattern argument) moves before
    pub valid : IsAmong (last, after) (next grammar before)
    pub consumes : takes last ≡ true

  -- two different partial readings consume something at one position, and one of them a fragment
  pub record HasClashing : Type 0 where
    pub one_moves : List Move
    pub one : Move
    pub two_moves : List Move
    pub two : Move
    pub first : IsPartial one_moves one
    pub second : IsPartial two_moves two
    pub differ : two_moves ++ two ∷ [] ≢ one_moves ++ one ∷ []
    pub position : left (place_of second.before) ≡ left (place_of first.before)
    pub fragment : is_fragment one ≡ true
