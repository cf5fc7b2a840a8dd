-- Definitions under a span map, and worlds that don't look at spans.
use Rattle.std.specs.Prelude.{◌≡◌, option_map}
use Rattle.tt_data.specs.Forest.{Forest, map_spans}
use Rattle.tt_data.specs.declared.span.Span.{Span}
use Rattle.expander_model.specs.Definitions.{Definition}
use Rattle.expander_model.specs.Expansion.{World}
use Rattle.expander_model.specs.World.{made}

-- a definition with f applied to every span in it
abbrev pub definition_with : (Span → Span) → Definition → Definition
definition_with f d = record {
  name = record d.name { span = f d.name.span };
  arguments = option_map (map_spans f) d.arguments;
  body = map_spans f d.body;
  is_macro = d.is_macro;
  piece = map_spans f d.piece;
}

-- mapping a span by f and then marking it as made equals marking and then mapping it
abbrev pub CommutesWithMarker : (Span → Span) → Type 0
CommutesWithMarker f = (s : Span) → f (made s) ≡ made (f s)

-- under a span map on definition and argument, a world gives the same result under the map
pub record LooksAtNoPlace (world : World Definition) : Type 0 where
  pub broken : (f : Span → Span) (d : Definition)
      → world.broken (definition_with f d) ≡ world.broken d
  pub fit : (f : Span → Span) → CommutesWithMarker f → (d : Definition) (argument : Forest)
      → world.fit (definition_with f d) (map_spans f argument)
      ≡ option_map (map_spans f) (world.fit d argument)
  pub put_out : (f : Span → Span) → CommutesWithMarker f → (d : Definition) (argument : Forest)
      → world.put_out (definition_with f d) (map_spans f argument) ≡ world.put_out d argument
  pub bursts : (f : Span → Span) → CommutesWithMarker f → (d : Definition) (argument : Forest)
      → world.bursts (definition_with f d) (map_spans f argument) ≡ world.bursts d argument
