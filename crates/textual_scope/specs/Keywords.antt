-- Texts that have definitions in no list: no keyword of a definition is where a list may have one.
-- (Of this project.)
use Rattle.std.specs.Prelude.{◌≡◌, true, not, Option, Some, None}
use Rattle.std.specs.List.{list_all}
use Rattle.tt_data.specs.Forest.{Forest}
use Rattle.tt_data.specs.Walk.{walk}
use Rattle.expander_model.specs.Definitions.{Definition}
use Rattle.expander_model.specs.Expansion.{World}
use Rattle.expander_model.specs.Faults.{is_definition_word}

-- no definition keyword is anywhere in the trees
abbrev pub HasNoKeyword : Forest → Type 0
HasNoKeyword f = list_all (λ s. not (is_definition_word s)) (walk f) ≡ true

-- calls of a definition give no definition keyword, unless their argument has one
abbrev pub AddsNoKeyword : World Definition → Definition → Type 0
AddsNoKeyword world d =
    (argument result : Forest) → HasNoKeyword argument → world.fit d argument ≡ Some result
    → HasNoKeyword result

-- a piece that is no definition has no definition keyword, and one that is gives none
abbrev pub NestsNone : World Definition → Forest → Option Definition → Type 0
NestsNone world piece None = HasNoKeyword piece
NestsNone world piece (Some d) = AddsNoKeyword world d
