-- The printed tokens of a list of events, each with its span, and those that are omitted.
use Rattle.std.specs.Prelude.{ℕ, List, [], ◌∷◌, ◌++◌, Option, Some, None, map, if◌then◌else◌}
use Rattle.tt_data.specs.Walk.{Step}
use Rattle.bridge.specs.Printing as printing
use Rattle.bridge.specs.Printing.{is_visible_step}
use Rattle.bridge.specs.Spelling as spelling
use Rattle.expander_model.specs.Expansion.{PlacedStep}

-- the visible ones of the events
abbrev pub visible : List PlacedStep → List PlacedStep
visible [] = []
visible (s ∷ more) = if is_visible_step s.step then s ∷ visible more else visible more

-- a printed token: what it is, and its text
pub record PrintedToken : Type 0 where
  pub token : PlacedStep
  pub text : List ℕ

-- a printed token without its call
abbrev pub bare : PrintedToken → printing.PrintedToken
bare t = record { step = t.token.step; text = t.text }

-- the text of printed tokens
abbrev pub text_of : List PrintedToken → List ℕ
text_of tokens = printing.text_of (map bare tokens)

-- `spelling` gives the text of a visible token before those that follow, or none if it has none
module _ (spelling : Step → List PlacedStep → Option (List ℕ)) where
  abbrev pub spelled : PlacedStep → Option (List ℕ) → List PrintedToken
  spelled s None = []
  spelled s (Some text) = record { token = s; text = text } ∷ []

  -- the visible tokens that have a spelling
  abbrev pub printed : List PlacedStep → List PrintedToken
  printed [] = []
  printed (s ∷ more) = spelled s (spelling s.step more) ++ printed more

  abbrev pub unspelled : PlacedStep → Option (List ℕ) → List PlacedStep
  unspelled s None = s ∷ []
  unspelled s (Some text) = []

  -- the visible tokens without a spelling, which are omitted
  abbrev pub left_out : List PlacedStep → List PlacedStep
  left_out [] = []
  left_out (s ∷ more) = unspelled s (spelling s.step more) ++ left_out more

-- the events without their calls
abbrev pub steps_of : List PlacedStep → List Step
steps_of steps = map (λ s. s.step) steps

-- the spelling of a token, which depends on no span
abbrev pub spelling_before : Step → List PlacedStep → Option (List ℕ)
spelling_before s more = spelling.spelling s (steps_of more)
