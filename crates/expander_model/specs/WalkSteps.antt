-- A traversal of trees, event by event.
use Rattle.std.specs.Prelude.{◌≡◌, List, [], ◌∷◌, Option, Some, None, reverse}
use Rattle.tt_data.specs.Forest.{Forest, empty, leaf, group}
use Rattle.tt_data.specs.Lent.{leaf_lent}
use Rattle.tt_data.specs.declared.delimiter.Delimiter.{Delimiter}
use Rattle.tt_data.specs.declared.delimiter.DelimiterKind.{DelimiterKind}
use Rattle.tt_data.specs.declared.span.Span.{Span}
use Rattle.bridge.specs.declared.printing.event.TokenEvent.{TokenEvent}
use Rattle.bridge.specs.declared.printing.event.TokenEvent.TheVariants.{Leaf, Opens, Closes}
use Rattle.expander_model.specs.declared.tree_walk.Around.{Around}
use Rattle.expander_model.specs.declared.tree_walk.TreeWalk.{TreeWalk}

-- the groups around the present position, the innermost first
abbrev pub groups_of : TreeWalk → List Around
groups_of w = reverse w.around.items

-- a group at the beginning was entered: the traversal goes on with its trees
pub record Enters (kind : DelimiterKind) (span : Span) (old new : TreeWalk) : Type 0 where
  pub brackets : Delimiter
  pub behind : Forest
  pub kind_is : brackets.kind ≡ kind
  pub span_is : brackets.open_span ≡ span
  pub first : old.here ≡ group brackets new.here behind
  pub groups : groups_of new
      ≡ record { kind = kind; close_span = brackets.close_span; behind = behind } ∷ groups_of old

-- at the end of a list the innermost group is left, if there is one
abbrev pub GoesOut : TreeWalk → Option TokenEvent → TreeWalk → Type 0
GoesOut old (Some (Closes kind span)) new =
    groups_of old ≡ record { kind = kind; close_span = span; behind = new.here } ∷ groups_of new
GoesOut old None new = groups_of old ≡ []
GoesOut old _ new = ⊥

-- one event of a traversal, or none at its end
abbrev pub GoesOn : TreeWalk → Option TokenEvent → TreeWalk → Type 0
GoesOn old (Some (Leaf l)) new = (old.here ≡ leaf (leaf_lent l) new.here)
    × (groups_of new ≡ groups_of old)
GoesOn old (Some (Opens kind span)) new = Enters kind span old new
GoesOn old out new = (old.here ≡ empty) × GoesOut old out new
