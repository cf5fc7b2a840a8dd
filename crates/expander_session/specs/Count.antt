-- How many plain pieces of a text have no match in an earlier one. (Of this project.)
use Rattle.std.specs.Prelude.{ℕ, Bool, true, false, ◌&&◌, not, List, [], Option, Some, None}
use Rattle.std.specs.Prelude.{option_map, map, filter_map, filter, length}
use Rattle.std.specs.List.{list_any, list_all}
use Rattle.tt_data.specs.Forest.{Forest}
use Rattle.expander_model.specs.Definitions.{Definition}
use Rattle.expander_model.specs.EqualTrees.{same_forest}
use Rattle.expander_model.specs.Meaning.{Member, plain, defining}
use Rattle.expander_model.specs.Pieces.{relative}
use Rattle.small_grammar.specs.Text.{same_text}

-- a plain piece's tree, and each name that was looked up in it with the definition found or none;
-- all spans are piece-relative
pub record Looked : Type 0 where
  pub tree : Forest
  pub finds : List (List ℕ × Option Forest)

abbrev pub found_piece : Option Definition → Option Forest
found_piece d = option_map (λ (d : Definition). relative d.piece) d

abbrev pub looked : Member → Option Looked
looked (plain piece outcome) =
    Some (record { tree = relative piece; finds = map (λ f. (f.0, found_piece f.1)) outcome.finds })
looked (defining d) = None

abbrev pub looked_of : List Member → List Looked
looked_of ms = filter_map looked ms

abbrev pub same_found : Option Forest → Option Forest → Bool
same_found None None = true
same_found (Some f) (Some g) = same_forest f g
same_found _ _ = false

-- each look-up of the first is one of the second
abbrev pub finds_within : List (List ℕ × Option Forest) → List (List ℕ × Option Forest) → Bool
finds_within a b = list_all (λ f. list_any (λ g. same_text f.0 g.0 && same_found f.1 g.1) b) a

-- two pieces with equal trees, in which the same names find equal definitions
abbrev pub is_same : Looked → Looked → Bool
is_same a b = same_forest a.tree b.tree
    && (finds_within a.finds b.finds && finds_within b.finds a.finds)

abbrev pub earlier_pieces : Option (List Looked) → List Looked
earlier_pieces None = []
earlier_pieces (Some ps) = ps

-- the plain pieces that have no match among the earlier ones: all if there is no earlier text
abbrev pub expanded_count : Option (List Looked) → List Looked → ℕ
expanded_count earlier now =
    length (filter (λ p. not (list_any (is_same p) (earlier_pieces earlier))) now)
