-- What is cached of a text that was read, and what is reused of it.
use Rattle.std.specs.Prelude.{◌≡◌, ℕ, Bool, true, false, ◌&&◌, All, List, Option, Some, None, map}
use Rattle.std.specs.Prelude.{nat_eq, option_map}
use Rattle.std.specs.List.{list_all}
use Rattle.tt_data.specs.Forest.{Forest}
use Rattle.expander_session.specs.Agreement.{scope_of}
use Rattle.expander_session.specs.Count.{Looked}
use Rattle.expander_model.specs.EqualTrees.{same_forest}
use Rattle.expander_model.specs.Definitions.{Definition}
use Rattle.expander_model.specs.Expansion.{Outcome, World}
use Rattle.expander_model.specs.Held.{IsNumbered, Numbered, numbered_world, unnumbered}
use Rattle.expander_model.specs.Limits.{expanded}

-- a plain piece with piece-relative spans, and its expansion result
pub record HeldPiece : Type 0 where
  pub tree : Forest
  pub outcome : Outcome Numbered

-- two look-ups of a name find definitions of one id, or both find none
abbrev pub same_number : Option Numbered → Option Numbered → Bool
same_number None None = true
same_number (Some a) (Some b) = nat_eq a.number b.number
same_number _ _ = false

-- each of these look-ups finds the same id in this scope, or still none
abbrev pub agrees : (List ℕ → Option Numbered) → List (List ℕ × Option Numbered) → Bool
agrees scope finds = list_all (λ f. same_number (scope f.0) f.1) finds

-- a cached piece with this tree, whose look-ups are all as before in this scope
abbrev pub matches : (List ℕ → Option Numbered) → Forest → HeldPiece → Bool
matches scope tree q = same_forest tree q.tree && agrees scope q.outcome.finds

-- the result of a valid cached piece, or else a new one
abbrev pub reused_outcome : Option HeldPiece → Outcome Numbered → Outcome Numbered
reused_outcome (Some q) fresh = q.outcome
reused_outcome None fresh = fresh

-- what a look-up found, if anything, has this property
abbrev pub FoundIs : (Numbered → Type 0) → (List ℕ × Option Numbered) → Type 0
FoundIs P (name, None) = Unit {0}
FoundIs P (name, Some d) = P d

-- what holds of a cached piece: its result is its expansion in the scope of its look-ups
pub record IsHeld (world : World Definition) (depth : ℕ) (table : Forest → ℕ → Type 0)
    (q : HeldPiece) : Type 0 where
  pub is : q.outcome
      ≡ expanded (numbered_world world) unnumbered (scope_of q.outcome.finds) depth q.tree
  pub finds : All (FoundIs (IsNumbered table)) q.outcome.finds

-- the piece as the count sees it
abbrev pub looked_at : Forest → Outcome Numbered → Looked
looked_at tree outcome =
    record {
      tree = tree;
      finds = map (λ f. (f.0, option_map (λ (d : Numbered). d.definition.piece) f.1)) outcome.finds;
    }

-- a cached piece as the count sees it
abbrev pub looked_held : HeldPiece → Looked
looked_held q = looked_at q.tree q.outcome
