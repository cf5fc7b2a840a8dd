-- Where the definitions in scope start, in the table by ids.
use Rattle.std.specs.Prelude.{ℕ, nat_eq, unwrap_or}
use Rattle.bridge.specs.RelativeSpans.{own_place}
use Rattle.bridge.specs.declared.printing.relative_spans.Place.{Place}
use Rattle.std.specs.HashMap.{get}
use Rattle.expander_scope.specs.declared.offsets.Offsets.{Offsets}

-- where the nearest definition of an id starts
unfoldable pub place_at : Offsets → ℕ → Place
place_at starts number = unwrap_or (get nat_eq starts.map number) (own_place 0)
