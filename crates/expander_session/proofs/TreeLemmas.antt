-- The definitions of a text's members are those of its pieces.
use Rattle.std.proofs.Common.{◌≡◌, ℕ, List, [], ◌∷◌, Option, Some, None, refl, ap, sym, ◌∙◌, option_map, if◌then◌else◌}
use Rattle.std.specs.Prelude.{is_some}
use Rattle.tt_data.specs.Forest.{Forest}
use Rattle.expander_model.specs.Definitions.{Definition, definition_of}
use Rattle.expander_model.specs.DefinitionTrees.{definition_trees, trees_in}
use Rattle.expander_model.specs.Meaning.{Layers, member, members_after, with_definition}
use Rattle.expander_model.specs.OtherPlaces.{definition_with}
use Rattle.expander_model.specs.Pieces.{first_start, moved_back, relative}
use Rattle.expander_model.proofs.DefinitionPlaceLemmas.{definition_of-with, definition_piece}

some_mapped : {X Y : Type 0} → (f : X → Y) (o : Option X) → is_some (option_map f o) ≡ is_some o
some_mapped f None = refl
some_mapped f (Some x) = refl

-- a piece is a definition where its tree in places of its own is one
defines_there : (p : Forest) → is_some (definition_of (relative p)) ≡ is_some (definition_of p)
defines_there p =
    ap is_some (definition_of-with (moved_back (first_start p)) p) ∙ some_mapped (definition_with (moved_back (first_start p))) (definition_of p)

pub trees_of_members : (layers : Layers) (depth : ℕ) (before : List Definition) (ps : List Forest) → trees_in (members_after layers depth before ps) ≡ definition_trees ps
trees_of_members layers depth before [] = refl
trees_of_members layers depth before (p ∷ ps) =
    go (definition_of p) refl (λ now. trees_of_members layers depth now ps)
    ∙ ap (λ b. if b then relative p ∷ definition_trees ps else definition_trees ps) (sym (defines_there p))
  where
    go : (o : Option Definition) → definition_of p ≡ o
        → ((now : List Definition) → trees_in (members_after layers depth now ps) ≡ definition_trees ps)
        → trees_in (member layers depth before p o ∷ members_after layers depth (with_definition o before) ps)
        ≡ (if is_some o then relative p ∷ definition_trees ps else definition_trees ps)
    go None e later = later before
    go (Some d) e later =
        ap (λ (q : Forest). relative q ∷ trees_in (members_after layers depth (d ∷ before) ps)) (definition_piece p d e)
        ∙ ap (λ ts. relative p ∷ ts) (later (d ∷ before))
