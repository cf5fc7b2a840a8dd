-- What a text gives over a cache, and what is cached afterwards.
use Rattle.std.specs.Prelude.{◌≡◌, ℕ, Bool, false, not, All, Contains, IsUtf8, List, [], ◌∷◌}
use Rattle.std.specs.Prelude.{Option, Some, None, Ok, filter, find, map}
use Rattle.std.specs.List.{list_any}
use Rattle.bridge.specs.TokenSteps.{text_reading}
use Rattle.tt_data.specs.Forest.{Forest}
use Rattle.expander_model.specs.Definitions.{Definition, definition_of}
use Rattle.expander_model.specs.Expansion.{Outcome, World}
use Rattle.expander_model.specs.Held.{IsMet, Kept, Known, Met, Numbered, StandFrom, StandFromFirst}
use Rattle.expander_model.specs.Held.{TellsApart, kept, met, met_of, numbered_scope}
use Rattle.expander_model.specs.Held.{numbered_world, unnumbered, with_met}
use Rattle.expander_model.specs.DefinitionTrees.{definition_trees}
use Rattle.expander_model.specs.EqualTrees.{same_forest}
use Rattle.expander_scope.specs.Numbers.{AreEntries, Entry, Numbering, number_of, tree_of}
use Rattle.expander_scope.specs.Numbers.{with_trees}
use Rattle.expander_model.specs.Pieces.{first_start, pieces, relative}
use Rattle.expander_model.specs.Limits.{expanded}
use Rattle.expander_model.specs.declared.dialect.Dialect.{Dialect}
use Rattle.expander_session.specs.Reuse.{HeldPiece, IsHeld, matches, reused_outcome}

-- a plain piece for which no cached piece is valid
abbrev pub is_unmatched : Dialect → List HeldPiece → Kept → Bool
is_unmatched dialect held (kept start before tree outcome) =
    not (list_any (matches (numbered_scope dialect before) tree) held)
is_unmatched dialect held (met m) = false

module _ (world : World Definition) (depth : ℕ) (number_of : Forest → ℕ)
    (held : List HeldPiece) where
  -- a piece in the scope before it, with the result of a valid cached piece, or else a new one
  abbrev pub taken_of : List Met → Forest → Option Definition → Kept
  taken_of before piece (Some d) = met (met_of world depth number_of piece d)
  taken_of before piece None =
      let tree : Forest = relative piece in
      kept (first_start piece) before tree
      (reused_outcome (find (matches (numbered_scope world.dialect before) tree) held)
      (expanded (numbered_world world) unnumbered (numbered_scope world.dialect before) depth tree))

  -- the pieces of a text in order: each with the first valid cached result, or else a new one
  abbrev pub taken_after : List Met → List Forest → List Kept
  taken_after before [] = []
  taken_after before (p ∷ ps) =
      let d : Option Definition = definition_of (relative p) in
      taken_of before p d ∷ taken_after (with_met world depth number_of p d before) ps

-- what is cached afterwards: the plain pieces
abbrev pub held_of : Kept → Option HeldPiece
held_of (kept start before tree outcome) = Some (record { tree = tree; outcome = outcome })
held_of (met m) = None

-- a definition that is in scope, with the piece that it is of its text
pub record StandsInText (table : Forest → ℕ → Type 0) (m : Met) : Type 0 where
  pub numbered : IsMet table m
  pub piece : Forest
  pub from : StandFrom m.place.text piece
  pub start : m.place.start ≡ first_start piece
  pub tree : numbered.tree ≡ relative piece

-- a plain piece of a text: where it starts, the definitions before it, and its expansion
pub record IsPlain (world : World Definition) (depth : ℕ) (table : Forest → ℕ → Type 0) (at : ℕ)
    (before : List Met) (t : Forest) (o : Outcome Numbered) : Type 0 where
  pub met : All (StandsInText table) before
  pub piece : Forest
  pub from : StandFromFirst piece
  pub start : at ≡ first_start piece
  pub tree : t ≡ relative piece
  pub outcome : o ≡ expanded (numbered_world world) unnumbered
      (numbered_scope world.dialect before) depth t

-- a piece of a text, plain or a definition
abbrev pub IsKept : World Definition → ℕ → (Forest → ℕ → Type 0) → Kept → Type 0
IsKept world depth table (kept start before tree outcome) =
    IsPlain world depth table start before tree outcome
IsKept world depth table (met m) = StandsInText table m

-- a text that is read as these trees, whose definitions have ids among these, over a right cache
pub record IsTurn (world : World Definition) (depth : ℕ) (text : List ℕ) (f : Forest)
    (number_of : Forest → ℕ) (trees : List Forest) (held : List HeldPiece) : Type 0 where
  pub is_text : IsUtf8 text
  pub read : text_reading text ≡ Ok f
  pub apart : TellsApart number_of trees
  pub known : All (Contains trees) (definition_trees (pieces f))
  pub right : All (IsHeld world depth (Known number_of trees)) held

-- the ids once a text's definitions have theirs
abbrev pub numbering_of : Numbering → Forest → Numbering
numbering_of n f = with_trees n (definition_trees (pieces f))

-- of those, the ids of the text's own definitions, which are cached
abbrev pub kept_entries : Numbering → Forest → List Entry
kept_entries n f = filter
    (λ (e : Entry). list_any (same_forest e.tree) (definition_trees (pieces f)))
    (numbering_of n f).entries

-- a tree of an entry, and its number
abbrev pub InEntries : List Entry → Forest → ℕ → Type 0
InEntries entries = Known (number_of entries) (map tree_of entries)

-- a text that is read as these trees, over ids that were given and a cache that is right by them
pub record IsNext (world : World Definition) (depth : ℕ) (n : Numbering) (held : List HeldPiece)
    (text : List ℕ) (f : Forest) : Type 0 where
  pub entries : AreEntries n.given n.entries
  pub right : All (IsHeld world depth (InEntries n.entries)) held
  pub is_text : IsUtf8 text
  pub read : text_reading text ≡ Ok f
