-- A cached definition: piece-relative spans, and its id.
use Rattle.std.specs.Prelude.{ℕ, false, [], None, unwrap_or}
use Rattle.tt_data.specs.Forest.{Forest, empty}
use Rattle.tt_data.specs.declared.leaf.IdentIsRaw.TheVariants.{No}
use Rattle.tt_data.specs.declared.span.SyntaxContext.TheVariants.{Written}
use Rattle.expander_model.specs.Definitions.{Definition, definition_of}
use Rattle.expander_model.specs.Held.{Numbered}

-- the definition that a tree is, or one without a name and a body if it is none
abbrev pub definition_in : Forest → Definition
definition_in tree =
    unwrap_or (definition_of tree) (record {
      name = record {
        sym = [];
        span = record { range = record { start = 0; «end» = 0 }; anchor = 0; ctx = Written };
        is_raw = No;
      };
      arguments = None;
      body = empty;
      is_macro = false;
      piece = tree;
    })

-- the definition that a tree is, with this id
abbrev pub numbered_in : ℕ → Forest → Numbered
numbered_in number tree = record { number = number; definition = definition_in tree }
