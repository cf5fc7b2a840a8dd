-- What a text is read as: a source, or its reading fault.
use Rattle.std.specs.Prelude.{◌≡◌, ℕ, List, Option, Ok, Err}
use Rattle.bridge.specs.TokenSteps.{text_reading}
use Rattle.tt_data.specs.Forest.{Forest}
use Rattle.expander_sources.specs.Homes.{Home}
use Rattle.expander_sources.specs.Sources.{source_items}
use Rattle.expander_sources.specs.declared.source.SourceRead.{SourceRead}
use Rattle.expander_sources.specs.declared.source.SourceRead.TheVariants.{Read, Unread}

-- a text of this number and home is read as this source, or has this reading fault
abbrev pub IsSourceOf : ℕ → Option Home → List ℕ → SourceRead → Type 0
IsSourceOf t home text (Read s) =
    (f : Forest) × (text_reading text ≡ Ok f)
    × (s ≡ record { number = t; home = home; items = source_items t f })
IsSourceOf t home text (Unread fault) = text_reading text ≡ Err fault
