-- Pieces that conditions leave alone.
use Rattle.std.proofs.Common.{◌≡◌, ℕ, suc, Bool, true, false, List, Option, Some, None, refl}
use Rattle.std.specs.Prelude.{◌&&◌, ◌||◌, not, is_some}
use Rattle.tt_data.specs.Forest.{Forest, empty, leaf, group, size}
use Rattle.tt_data.specs.Literals.{LiteralParts}
use Rattle.tt_data.specs.declared.delimiter.DelimiterKind.TheVariants.{Bracket}
use Rattle.tt_data.specs.declared.leaf.Leaf.TheVariants as as_leaf
use Rattle.bridge.specs.Text.{is_char, same_kind}
use Rattle.small_grammar.specs.Text.{◌>>◌}
use Rattle.expander_model.specs.Definitions.{Definition, after_attribute, definition_of}
use Rattle.expander_model.specs.cfg_options.Conditions.{Options, attribute_keeps, is_kept}
use Rattle.expander_model.specs.WholeItems.{is_whole_item, definition_under, is_configured_out}

module _ (options : Options) (text : LiteralParts → Option (List ℕ)) where
  no_attribute : (a b c : Bool) (rest : Forest) → (a >> (b >> Some rest)) ≡ None → (not (a && b) || c) ≡ true
  no_attribute true true c rest e = absurd (cc e)
  no_attribute true false c rest e = refl
  no_attribute false b c rest e = refl

  kept : (piece : Forest) → after_attribute piece ≡ None → is_kept options text piece ≡ true
  kept (leaf (as_leaf.Punct p) (group d inner rest)) e =
      no_attribute (is_char "#" p) (same_kind d.kind Bracket) (attribute_keeps options text (suc (size inner)) inner && is_kept options text rest) rest e
  kept (leaf (as_leaf.Punct p) (leaf l rest)) e = refl
  kept (leaf (as_leaf.Punct p) empty) e = refl
  kept (leaf (as_leaf.Ident i) rest) e = refl
  kept (leaf (as_leaf.Literal l) rest) e = refl
  kept (group d inner rest) e = refl
  kept empty e = refl

  pub without_attributes : (items : Bool) (piece : Forest) → after_attribute piece ≡ None → is_configured_out options text items piece ≡ false
  without_attributes items piece e = rw (kept piece e) refl

  still : (k items whole : Bool) (d : Option Definition) → (not k && (is_some d || (items && whole))) ≡ false → (k >> d) ≡ d
  still true items whole d e = refl
  still false items whole None e = refl
  still false items whole (Some d) e = absurd (cc e)

  pub same_definition : (items : Bool) (piece : Forest) → is_configured_out options text items piece ≡ false → definition_under options text piece ≡ definition_of piece
  same_definition items piece e = still (is_kept options text piece) items (is_whole_item piece) (definition_of piece) e
