-- Which definitions of sources a text is expanded after. (Of this project.)
use Rattle.std.specs.Prelude.{ℕ, List, [], ◌∷◌, ◌++◌, Option, Some, None, flat_map, length, nat_eq}
use Rattle.std.specs.Prelude.{nat_lt, option_and_then, option_map, if◌then◌else◌}
use Rattle.tt_data.specs.Forest.{Forest}
use Rattle.expander_sources.specs.Picks.{picked}
use Rattle.expander_sources.specs.Sources.{Source, item_at}
use Rattle.crate_picks.specs.SourcePicks.{behind_own, open_picks}
use Rattle.replay_script.specs.Scripts.{indices_of}
use Rattle.replay_script.specs.declared.line.Pick.{Pick}

-- the sources by number
abbrev pub SourceTable : Type 0
SourceTable = ℕ → Option Source

-- a source takes the place of the one with its number
abbrev pub with_source : Source → SourceTable → SourceTable
with_source s sources = λ n. if nat_eq s.number n then Some s else sources n

-- the definitions with these indices, seen by their names: none if there is no such index
abbrev pub picks_at : Source → List ℕ → Option (List Forest)
picks_at s [] = Some []
picks_at s (i ∷ is) =
    if nat_lt i (length s.items)
    then option_map (λ ps. picked s.home (item_at s.items i).piece ∷ ps) (picks_at s is)
    else None

abbrev pub named_by : Source → Option (List ℕ) → Option (List Forest)
named_by s None = Some (open_picks s)
named_by s (Some indices) = picks_at s indices

-- what a word picks: definitions that are seen by their names, and all of their source behind its
-- root
pub record Picked : Type 0 where
  pub named : List Forest
  pub rooted : List Forest

abbrev pub picked_of : Option (List ℕ) → Source → Option Picked
picked_of indices s =
    option_map (λ ps. record { named = ps; rooted = behind_own s }) (named_by s indices)

abbrev pub picked_by : SourceTable → Pick → Option Picked
picked_by sources pick = option_and_then (picked_of (indices_of pick)) (sources pick.source)

-- what all words pick: none if one of them picks nothing
abbrev pub all_picked : SourceTable → List Pick → Option (List Picked)
all_picked sources [] = Some []
all_picked sources (p ∷ ps) =
    option_and_then (λ first. option_map (λ more. first ∷ more) (all_picked sources ps))
    (picked_by sources p)

-- the prelude that they make, the nearest last
abbrev pub prelude_of : List Picked → List Forest
prelude_of picked = flat_map (λ p. p.named ++ p.rooted) picked

-- how many of its definitions are seen by their names
abbrev pub count_of : List Picked → ℕ
count_of picked = length (flat_map (λ p. p.named) picked)
