-- What is left to search of a list, and of the lists around it, wherever a search of it stands.
use Rattle.std.specs.Prelude.{◌≡◌, ◌<◌, ◌||◌, ℕ, Bool, true, false, List, [], ◌∷◌, ◌++◌, Option}
use Rattle.std.specs.Prelude.{Some, None, codes, is_some, if◌then◌else◌}
use Rattle.bridge.specs.Text.{is_char, is_visible}
use Rattle.small_grammar.specs.Text.{has_text}
use Rattle.tt_data.specs.Forest.{Forest, leaf, size}
use Rattle.tt_data.specs.Walk.{closes}
use Rattle.tt_data.specs.declared.delimiter.DelimiterKind.{DelimiterKind}
use Rattle.tt_data.specs.declared.leaf.Leaf.TheVariants as as_leaf
use Rattle.tt_data.specs.declared.span.Span.{Span}
use Rattle.expander_model.specs.Definitions.{Definition, definition_of}
use Rattle.expander_model.specs.Expansion.{World, Outcome, just, followed_by}
use Rattle.expander_model.specs.Held.{Numbered}
use Rattle.expander_model.specs.Pieces.{cut}
use Rattle.expander_model.specs.cfg_options.declared.options.CfgOptions.{CfgOptions}
use Rattle.expander_model.specs.Scoping.{Around, Scoped, is_out}
use Rattle.expander_model.specs.declared.begun.Begun.{Begun}
use Rattle.expander_model.specs.declared.dialect.Dialect.{Dialect}
use Rattle.expander_model.specs.declared.scope_rules.Standing.{Standing}
use Rattle.expander_scope.specs.Expanding.{Levels, deeper_at, noted_local, noted_scope, searched}
use Rattle.textual_scope.specs.FromLeft.{left_after}
use Rattle.expander_model.specs.Limits.{Noted, noted_world}

-- ---- definitions ahead

-- a definition can begin with the first of these trees
abbrev pub can_begin : Forest → Bool
can_begin (leaf (as_leaf.Ident i) rest) =
    has_text (codes "macro_rules") i || (has_text (codes "macro") i || has_text (codes "pub") i)
can_begin (leaf (as_leaf.Punct p) rest) = is_char "#" p
can_begin _ = false

-- the first piece is a definition, and what follows it; or it is none
abbrev pub IsAhead : Forest → Option (Forest × Forest) → Type 0
IsAhead f (Some (p, rest)) =
    (cut f ≡ p ∷ cut rest) × ((is_some (definition_of p) ≡ true) × (size rest < size f))
IsAhead f None = (p : Forest) (ps : List Forest) → cut f ≡ p ∷ ps → definition_of p ≡ None

-- the first piece is left out, and what follows it; or it is not
abbrev pub IsOutAhead : Option CfgOptions → Standing → Forest → Option Forest → Type 0
IsOutAhead cfg standing f (Some rest) =
    (p : Forest) × ((cut f ≡ p ∷ cut rest)
    × ((is_out cfg standing p ≡ true) × (size rest < size f)))
IsOutAhead cfg standing f None =
    (p : Forest) (ps : List Forest) → cut f ≡ p ∷ ps → is_out cfg standing p ≡ false

-- ---- where a search stands

-- an open group: what closes it, the trees behind it, and how the list around it goes on
pub record Open : Type 0 where
  pub kind : DelimiterKind
  pub close_span : Span
  pub behind : Forest
  pub begun : Begun
  pub standing : Standing
  pub locals : List Definition

-- the trees left in the innermost list, what came of its present piece, where it is, the
-- definitions around, the open groups, the innermost first, and the definitions around them all
pub record Place : Type 0 where
  pub here : Forest
  pub begun : Begun
  pub standing : Standing
  pub locals : List Definition
  pub groups : List Open
  pub outside : List Definition

-- what a search of lists gives, and the definitions around once it ends
abbrev pub Left : Type 0
Left = Outcome (Noted Numbered) × List Definition

-- after an outcome
abbrev pub then_left : Outcome (Noted Numbered) → Left → Left
then_left o l = (followed_by o l.0, l.1)

-- what goes on behind a group: all, or if it is visible those that were around it
abbrev pub let_out : DelimiterKind → List Definition → List Definition → List Definition
let_out k around inside = if is_visible k then around else inside

module _ (dialect : Dialect) (world : World Numbered) (scope : List ℕ → Option Numbered)
    (levels : Levels) where
  -- the search of the trees left in a list
  abbrev pub list_left : Begun → Around → Forest → Scoped (Noted Numbered)
  list_left s around f =
      left_after dialect (noted_world world) noted_local (noted_scope scope)
      (searched dialect world scope levels)
      (deeper_at dialect world scope levels) s around f

  module _ (outer : Option Span) where
    -- that of a list, and then what is left around it
    abbrev pub in_list : Begun → Standing → List Definition → Forest → (List Definition → Left)
        → Left
    in_list s standing locals f next =
        let a : Scoped (Noted Numbered) =
        list_left s
        (record { standing = standing; outer = outer; locals = locals }) f in
        then_left a.outcome (next (a.defines ++ locals))

    -- what is left behind the innermost list: its group closes, and so on
    abbrev pub groups_left : List Open → List Definition → Left
    groups_left [] locals = (just outer [], locals)
    groups_left (g ∷ gs) locals =
        then_left (just outer (closes g.kind g.close_span ∷ []))
        (in_list g.begun g.standing (let_out g.kind g.locals locals) g.behind (groups_left gs))

    -- all that is left
    abbrev pub all_left : Place → Left
    all_left p = in_list p.begun p.standing p.locals p.here (groups_left p.groups)
