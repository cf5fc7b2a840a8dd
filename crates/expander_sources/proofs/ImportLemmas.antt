-- Pieces that are definitions, and definitions of other crates, as imports.
use Rattle.std.proofs.Common.{◌≡◌, ◌≢◌, [], ◌∷◌, if◌then◌else◌, ℕ, ◌+◌, arith, Bool, false, true, Option, Some, None, option_map, refl, ap, sym, subst, ◌∙◌}
use Rattle.std.specs.Prelude.{List, codes, is_some, not, unwrap_or}
use Rattle.small_grammar.specs.Text.{◌>>=◌, ◌>>◌}
use Rattle.std.specs.Rc.{rc_value}
use Rattle.bridge.specs.RelativeSpans.{moved_to}
use Rattle.bridge.specs.declared.printing.relative_spans.Place.{Place}
use Rattle.tt.specs.Tops.{Top}
use Rattle.tt_data.specs.Forest.{Forest, empty, map_spans}
use Rattle.tt_data.specs.declared.span.Span.{Span}
use Rattle.tt_data.specs.declared.span.TextRange.{TextRange}
use Rattle.expander_model.specs.Calls.{key_behind}
use Rattle.expander_model.specs.Definitions.{Definition, definition_of}
use Rattle.expander_model.specs.HashedTrees.{own_top}
use Rattle.expander_model.specs.Held.{Stands, first_place}
use Rattle.expander_model.specs.OtherPlaces.{definition_with}
use Rattle.expander_model.specs.Pieces.{first_start, moved_back, relative}
use Rattle.expander_model.proofs.DefinitionPlaceLemmas.{definition_of-with}
use Rattle.expander_sources.specs.Homes.{Home, root_of}
use Rattle.expander_sources.specs.Imports.{IsImport, import_piece}
use Rattle.expander_sources.specs.Picks.{home_piece, named_piece, picked, rooted_pick}
use Rattle.expander_sources.specs.SourceItems.{AreOrdered, IsSourceItem}
use Rattle.expander_sources.specs.Sources.{end_behind, name_of, own_items}
use Rattle.expander_model.specs.Definitions.{has_attribute}
use Rattle.expander_sources.specs.declared.import.Import.{Import}
use Rattle.expander_sources.proofs.ImportPlaceLemmas.{end_with, home_first, home_is_definition, home_moved, home_stands, home_there, home_tree, inner_first, inner_is, inner_stands, inner_tree, some_same}
use Rattle.expander_sources.proofs.PickLemmas.{definition_trees}

is_some_with : {X Y : Type 0} (m : X → Y) (o : Option X) → is_some (option_map m o) ≡ is_some o
is_some_with m None = refl
is_some_with m (Some x) = refl

-- a piece is a definition wherever it is
pub still_definition : (f : _) (q : Forest) → is_some (definition_of (map_spans f q)) ≡ is_some (definition_of q)
still_definition f q = ap is_some (definition_of-with f q) ∙ is_some_with (definition_with f) (definition_of q)

some_definition : (o : Option Definition) → is_some o ≡ true → (d : Definition) × (o ≡ Some d)
some_definition None e = cc
some_definition (Some d) e = (d, refl)

pub definition_some : (q : Forest) → is_some (definition_of q) ≡ true → q ≢ empty
definition_some q e = let found = some_definition (definition_of q) e in definition_trees q found.0 found.1

-- ---- a definition inside trees whose spans are counted from a place

module _ (t base : ℕ) (q : Forest) (is_one : is_some (definition_of q) ≡ true) (ordered : AreOrdered t q) (i : Import)
    (place : i.place ≡ record { text = t; start = base + first_start q }) (tree : rc_value i.tree ≡ own_top (relative q)) where
  some : q ≢ empty
  some = definition_some q is_one

  abbrev there : Forest
  there = map_spans (moved_to (record { text = t; start = base })) q

  pub inner_import_piece : import_piece i ≡ there
  inner_import_piece =
      ap (λ (p : Place). map_spans (moved_to p) (rc_value i.tree).inner) place
      ∙ ap (λ (x : Top). map_spans (moved_to (record { text = t; start = base + first_start q })) x.inner) tree
      ∙ inner_is t base q some ordered

  pub inner_import : IsImport i
  inner_import =
      let same : there ≡ import_piece i = sym inner_import_piece in
      let as_tree : relative q ≡ relative (import_piece i) = inner_tree t base q some ordered ∙ ap relative same in
      record {
        stands = subst Stands same (inner_stands t base q some ordered);
        place = place ∙ inner_first t base q some ordered ∙ ap first_place same;
        tree = tree ∙ ap own_top as_tree;
        definition = ap (λ (x : Forest). is_some (definition_of x)) (sym as_tree) ∙ still_definition (moved_back (first_start q)) q ∙ is_one;
      }

-- ---- a definition of another crate

module _ (i j : Import) (right : IsImport i) (h : Home) (key : List ℕ) (d : Definition) (is : definition_of (rc_value i.tree).inner ≡ Some d)
    (place : j.place ≡ i.place) (tree : rc_value j.tree ≡ own_top (home_piece h key d)) where
  inner_is_tree : (rc_value i.tree).inner ≡ relative (import_piece i)
  inner_is_tree = ap (λ (x : Top). x.inner) right.tree

  is_there : map_spans (moved_to i.place) (relative (import_piece i)) ≡ import_piece i
  is_there = ap (map_spans (moved_to i.place)) (sym inner_is_tree)

  is_relative : definition_of (relative (import_piece i)) ≡ Some d
  is_relative = ap definition_of (sym inner_is_tree) ∙ is

  abbrev made : Forest
  made = map_spans (moved_to i.place) (home_piece h key d)

  made_is : made ≡ import_piece j
  made_is = sym (
      ap (λ (p : Place). map_spans (moved_to p) (rc_value j.tree).inner) place
      ∙ ap (λ (x : Top). map_spans (moved_to i.place) x.inner) tree)

  pub home_imported : IsImport j
  home_imported = record {
    stands = subst Stands made_is (home_stands i.place (import_piece i) right.stands right.place h key d is_there is_relative);
    place = place ∙ home_first i.place (import_piece i) right.stands right.place h key d is_there is_relative ∙ ap first_place made_is;
    tree = tree ∙ ap own_top (home_tree i.place (import_piece i) right.stands right.place h key d is_there is_relative ∙ ap relative made_is);
    definition = ap (λ (x : Forest). is_some (definition_of (relative x))) (sym made_is)
        ∙ home_is_definition i.place (import_piece i) right.stands right.place h key d is_there is_relative;
  }

  pub home_imported_piece : (e : Definition) → definition_of (import_piece i) ≡ Some e → import_piece j ≡ home_piece h key e
  home_imported_piece e k =
      sym made_is ∙ home_there i.place (import_piece i) right.stands right.place h key d is_there is_relative
      ∙ ap (home_piece h key)
      (some_same _ e (sym (home_moved i.place (import_piece i) right.stands right.place h key d is_there is_relative) ∙ k))

-- ---- what a source stores of a definition

no_more : (n : ℕ) → n ≡ n + 0
no_more n = omega arith

module _ (i : Import) (d : Definition) (right : IsImport i) (is : definition_of (rc_value i.tree).inner ≡ Some d) where
  moved_is : definition_of (import_piece i) ≡ Some (definition_with (moved_to i.place) d)
  moved_is = definition_of-with (moved_to i.place) (rc_value i.tree).inner ∙ ap (option_map (definition_with (moved_to i.place))) is

  pub item_right : (name : List ℕ) (name_range range : TextRange) → name ≡ d.name.sym
      → name_range ≡ record { start = i.place.start + d.name.span.range.start; «end» = i.place.start + d.name.span.range.«end» }
      → range ≡ record { start = i.place.start + 0; «end» = i.place.start + end_behind 0 (rc_value i.tree).inner } → IsSourceItem i name name_range range
  item_right name name_range range named name_placed placed = record {
    right = right;
    named = ap (option_map (λ (x : Definition). x.name.sym)) moved_is ∙ ap Some (sym named);
    name_placed = ap (option_map (λ (x : Definition). x.name.span.range)) moved_is ∙ ap Some (sym name_placed);
    placed = (λ k. record {
      start = (sym (ap (λ (p : Place). p.start) right.place) ∙ no_more i.place.start) k;
      «end» = end_with i.place (rc_value i.tree).inner (definition_trees (rc_value i.tree).inner d is) k;
    }) ∙ sym placed;
  }

-- ---- the same definition

pub same_import : (i j : Import) → IsImport i → j.place ≡ i.place → rc_value j.tree ≡ rc_value i.tree → IsImport j × (import_piece j ≡ import_piece i)
same_import i j right place tree = (
  record {
    stands = subst Stands (sym same) right.stands;
    place = place ∙ right.place ∙ ap first_place (sym same);
    tree = tree ∙ right.tree ∙ ap (λ (p : Forest). own_top (relative p)) (sym same);
    definition = ap (λ (p : Forest). is_some (definition_of (relative p))) same ∙ right.definition;
  },
  same,
)
  where
    same : import_piece j ≡ import_piece i
    same = ap (λ (p : Place). map_spans (moved_to p) (rc_value j.tree).inner) place ∙ ap (λ (x : Top). map_spans (moved_to i.place) x.inner) tree

-- ---- picks

module _ (root : List ℕ) (h : Home) (modules : List (List ℕ)) (piece : Forest) (name : List ℕ) (named : name_of piece ≡ Some name) where
  pub pick_builtin : has_attribute (codes "rustc_builtin_macro") piece ≡ true → None ≡ rooted_pick root h (record { modules = modules; piece = piece })
  pick_builtin has = go (definition_of piece) (has_attribute (codes "rustc_builtin_macro") piece) has
    where
      go : (o : Option Definition) (b : Bool) → b ≡ true → None ≡ (o >>= (λ d. not b >> Some (home_piece h (key_behind (root_of root) d.name.sym) d)))
      go None b e = refl
      go (Some d) true e = refl
      go (Some d) false e = cc

  pub pick_other : has_attribute (codes "rustc_builtin_macro") piece ≡ false → (made : Forest)
      → ((d : Definition) → definition_of piece ≡ Some d → made ≡ home_piece h (key_behind (root_of root) name) d)
      → Some made ≡ rooted_pick root h (record { modules = modules; piece = piece })
  pick_other has made is = go (definition_of piece) refl named (has_attribute (codes "rustc_builtin_macro") piece) has
    where
      go : (o : Option Definition) → definition_of piece ≡ o → option_map (λ d. d.name.sym) o ≡ Some name → (b : Bool) → b ≡ false
          → Some made ≡ (o >>= (λ d. not b >> Some (home_piece h (key_behind (root_of root) d.name.sym) d)))
      go None e n b k = cc
      go (Some d) e n true k = cc
      go (Some d) e n false k =
          let same : d.name.sym ≡ name = ap (λ (o : Option (List ℕ)). unwrap_or o name) n in
          ap Some (is d e ∙ ap (λ (t : List ℕ). home_piece h (key_behind (root_of root) t) d) (sym same))

  pub pick_named : (made : Forest) → ((d : Definition) → definition_of piece ≡ Some d → made ≡ home_piece h name d) → made ≡ picked (Some h) piece
  pick_named made is = go (definition_of piece) refl named
    where
      go : (o : Option Definition) → definition_of piece ≡ o → option_map (λ d. d.name.sym) o ≡ Some name → made ≡ named_piece h piece o
      go None e n = cc
      go (Some d) e n =
          let same : d.name.sym ≡ name = ap (λ (o : Option (List ℕ)). unwrap_or o name) n in
          is d e ∙ ap (λ (t : List ℕ). home_piece h t d) (sym same)

-- ---- the definition that a piece is elsewhere

pub own_there : (f : Span → Span) (modules : List (List ℕ)) (q : Forest) → is_some (definition_of q) ≡ true
    → own_items modules (map_spans f q) ≡ record { modules = modules; piece = map_spans f q } ∷ []
own_there f modules q e = ap (λ (b : Bool). if b then record { modules = modules; piece = map_spans f q } ∷ [] else []) (still_definition f q ∙ e)

pub own_absent : (f : Span → Span) (modules : List (List ℕ)) (q : Forest) → is_some (definition_of q) ≡ false → own_items modules (map_spans f q) ≡ []
own_absent f modules q e = ap (λ (b : Bool). if b then record { modules = modules; piece = map_spans f q } ∷ [] else []) (still_definition f q ∙ e)
