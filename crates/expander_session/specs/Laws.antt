-- Definitions that the laws use.
use Rattle.std.specs.Prelude.{◌≡◌, ◌≢◌, ◌⊎◌, ℕ, zero, suc, Bool, true, false, not, All, Option}
use Rattle.std.specs.Prelude.{None, List, is_none}
use Rattle.std.specs.List.{list_all}
use Rattle.bridge.specs.Text.{is_punct}
use Rattle.tt_data.specs.Forest.{Forest, empty, leaf, group, joined}
use Rattle.tt_data.specs.Walk.{walk}
use Rattle.expander_session.specs.Count.{found_piece}
use Rattle.expander_model.specs.CallSteps.{call_at, call_behind_colons}
use Rattle.expander_model.specs.Definitions.{Definition, definition_of}
use Rattle.expander_model.specs.Faults.{is_definition_word}
use Rattle.expander_model.specs.Pieces.{ends_piece}
use Rattle.expander_model.specs.declared.fault.FaultKind.{FaultKind}
use Rattle.expander_model.specs.declared.fault.FaultKind.TheVariants.{CannotExpand}
use Rattle.expander_model.specs.declared.fault.FaultKind.TheVariants.{BrokenDefinition}
use Rattle.expander_model.specs.declared.fault.FaultKind.TheVariants.{RecursionLimit}
use Rattle.expander_session.specs.declared.session.Reply.{Reply}
use Rattle.expander_session.specs.declared.session.Reply.TheVariants.{Read, Unread}

-- a call fails: its definition is invalid, no level is left, or no rule fits
abbrev pub Fails : Bool → ℕ → Option Forest → Type 0
Fails broken depth given = (broken ≡ true) ⊎ (depth ≡ 0) ⊎ (given ≡ None)

-- why it fails
abbrev pub why_failed : Bool → ℕ → FaultKind
why_failed true depth = BrokenDefinition
why_failed false zero = RecursionLimit
why_failed false (suc n) = CannotExpand

-- no call crosses the border of a front and its rest: where no call begins at a tree of the front
-- alone, none begins there with the rest added; the same for what would be a call but for the
-- `::` before it
pub record IsParted (front rest : Forest) : Type 0 where
  pub calls : (a b : Forest) → front ≡ joined a b → b ≢ empty → call_at b ≡ None
      → call_at (joined b rest) ≡ None
  pub colons : (a b : Forest) → front ≡ joined a b → b ≢ empty → call_behind_colons b ≡ None
      → call_behind_colons (joined b rest) ≡ None

-- one tree that ends the piece that `begun` begins
abbrev pub is_ender : Forest → Forest → Bool
is_ender begun (leaf l empty) = is_punct ";" l
is_ender begun (group d inner empty) = ends_piece begun d
is_ender begun _ = false

-- the last tree of a list ends the piece that those before it begin
pub record IsEnded (p : Forest) : Type 0 where
  pub begun : Forest
  pub last : Forest
  pub is : p ≡ joined begun last
  pub ends : is_ender begun last ≡ true

-- none of the pieces is a definition
abbrev pub AreAllPlain : List Forest → Type 0
AreAllPlain ps = list_all (λ p. is_none (definition_of p)) ps ≡ true

-- no definition keyword is anywhere in the trees
abbrev pub HasNoWord : Forest → Type 0
HasNoWord f = list_all (λ s. not (is_definition_word s)) (walk f) ≡ true

-- a reply for which no piece was expanded
abbrev pub ExpandsNothing : Reply → Type 0
ExpandsNothing (Read e) = e.expanded ≡ 0
ExpandsNothing (Unread fault) = ⊥

-- a name that was looked up finds an equal definition in this scope, or still none; equal by
-- piece-relative spans
abbrev pub IsFoundAgain : (List ℕ → Option Definition) → (List ℕ × Option Definition) → Type 0
IsFoundAgain scope find = found_piece (scope find.0) ≡ found_piece find.1

-- each look-up finds an equal definition, or still none
abbrev pub FindsAsBefore : (List ℕ → Option Definition) → List (List ℕ × Option Definition) → Type 0
FindsAsBefore scope finds = All (IsFoundAgain scope) finds
