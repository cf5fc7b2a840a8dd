-- Definitions whose spans have their id as anchor.
use Rattle.std.proofs.Common.{◌≡◌, ℕ, ◌∙◌, true}
use Rattle.std.specs.Prelude.{Option, Some, None, is_some, option_map, unwrap_or}
use Rattle.tt_data.specs.Forest.{Forest, map_spans}
use Rattle.expander_model.specs.Definitions.{Definition, definition_of}
use Rattle.expander_model.specs.Held.{anchored, anchored_definition}
use Rattle.expander_scope.specs.MacroDefs.{numbered_in}
use Rattle.expander_model.specs.OtherPlaces.{definition_with}
use Rattle.expander_model.proofs.DefinitionPlaceLemmas.{definition_of-with}
use Rattle.expander_scope.proofs.HeldLemmas.{some_is}

module _ (n : ℕ) (tree : Forest) where
  -- a tree that is a definition is one with its number as anchor
  pub anchored_is : (d : Definition) → is_some (definition_of tree) ≡ true → Some d ≡ definition_of (map_spans (anchored n) tree)
      → d ≡ anchored_definition (numbered_in n tree)
  anchored_is d is_one e = go (definition_of tree) _ is_one (e ∙ definition_of-with (anchored n) tree)
    where
      go : (o : Option Definition) (other : Definition) → is_some o ≡ true → Some d ≡ option_map (definition_with (anchored n)) o → d ≡ definition_with (anchored n) (unwrap_or o other)
      go None other is_one e = cc
      go (Some x) other is_one e = some_is _ _ e

  -- it is never none
  pub anchored_some : is_some (definition_of tree) ≡ true → None ≡ definition_of (map_spans (anchored n) tree) → ⊥
  anchored_some is_one e = go (definition_of tree) is_one (e ∙ definition_of-with (anchored n) tree)
    where
      go : (o : Option Definition) → is_some o ≡ true → None ≡ option_map (definition_with (anchored n)) o → ⊥
      go None is_one e = cc
      go (Some x) is_one e = cc
