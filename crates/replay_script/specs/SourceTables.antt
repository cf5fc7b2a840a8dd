-- The sources of a script, as they are kept.
use Rattle.std.specs.Prelude.{ℕ, Option, nat_eq}
use Rattle.std.specs.HashMap.{get}
use Rattle.expander_sources.specs.Sources.{Source}
use Rattle.replay_script.specs.declared.sources.Sources.{Sources}

-- the source with this number
unfoldable pub source_in : Sources → ℕ → Option Source
source_in sources number = get nat_eq sources.map number
