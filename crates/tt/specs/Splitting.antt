-- The parts of a list of trees, between the trees that a test picks out.
use Rattle.std.specs.Prelude.{◌≡◌, Bool, true, false, List, [], ◌∷◌, Option, Some, None, option_map, MatchOption, ◌+◌, if◌then◌else◌}
use Rattle.std.specs.Fn.{Mut, Called, AlwaysReturns}
use Rattle.std.specs.List.{FoldsTo}
use Rattle.std.specs.Iterator.{Count, at_most}
use Rattle.std.specs.Option.{unwrap_or}
use Rattle.tt_data.specs.Forest.{Forest, empty, leaf, group, joined, size}
use Rattle.tt.specs.declared.iter.TtElement.{TtElement}
use Rattle.tt.specs.declared.iter.TtElement.TheVariants as element
use Rattle.tt.specs.declared.split.Split.{Split}
use Rattle.tt.specs.declared.view.TokenTreesView.{TokenTreesView}
use Rattle.tt.specs.Elements.{IsNext, elements}
use Rattle.tt.specs.Views.{forest}

-- a part that a tree begins, unless the tree is a separator
abbrev pub begun : Bool → (Forest → Forest) → List Forest → List Forest
begun true tree ps = empty ∷ ps
begun false tree [] = []
begun false tree (q ∷ ps) = tree q ∷ ps

module _ (p : TtElement → Bool) where
  -- the trees before the first separator, or all if there is none
  abbrev pub until_separator : Forest → Forest
  until_separator empty = empty
  until_separator (leaf l rest) = if p (element.Leaf l) then empty else leaf l (until_separator rest)
  until_separator (group d inner rest) =
      if p (element.Subtree (record { delimiter = d; len = size inner }) inner) then empty else group d inner (until_separator rest)

  -- the trees after the first separator, if there is one
  abbrev pub behind_separator : Forest → Option Forest
  behind_separator empty = None
  behind_separator (leaf l rest) = if p (element.Leaf l) then Some rest else behind_separator rest
  behind_separator (group d inner rest) =
      if p (element.Subtree (record { delimiter = d; len = size inner }) inner) then Some rest else behind_separator rest

  -- the parts between the separators: without a tree there is one, which is empty
  abbrev pub pieces_between : Forest → List Forest
  pieces_between empty = empty ∷ []
  pieces_between (leaf l rest) = begun (p (element.Leaf l)) (leaf l) (pieces_between rest)
  pieces_between (group d inner rest) =
      begun (p (element.Subtree (record { delimiter = d; len = size inner }) inner)) (group d inner) (pieces_between rest)

-- the trees are the part, and then one tree and those that are left, if any are
abbrev pub IsCut : Forest → Forest → Option Forest → Type 0
IsCut f piece None = f ≡ piece
IsCut f piece (Some more) = (at : Forest) × (t : TtElement) × (f ≡ joined piece at) × IsNext at (Some t) more

module _ {F : Type 0} (g : Mut F (TtElement × Unit {0}) Bool) where
  -- each call from test on, at a tree, answers what p says of it
  abbrev pub Judges : (TtElement → Bool) → F → Type 0
  Judges p = AlwaysReturns g (λ a r. r ≡ p a.0)

  -- a test was asked about each of these trees, in order, and was false of all
  abbrev pub Refuses : F → Forest → F → Type 0
  Refuses test f after = FoldsTo (λ (q : F) (t : TtElement) (q' : F). Called g q (t, tt) false q') test (elements f) after

  -- after these trees it was true of the next one, if any are left
  abbrev pub IsAsked : Forest → F → Forest → Option Forest → F → Type 0
  IsAsked f test piece None after = (f ≡ piece) × Refuses test piece after
  IsAsked f test piece (Some more) after =
      (at : Forest) × (t : TtElement) × (mid : F) × (f ≡ joined piece at) × IsNext at (Some t) more × Refuses test piece mid × Called g mid (t, tt) true after

  -- trees were cut at the first for which a test was true: a separator, if the test judges by p
  abbrev pub Cuts : Forest → F → Forest → Option Forest → F → Type 0
  Cuts f test piece more after =
      IsCut f piece more × IsAsked f test piece more after × ((p : TtElement → Bool) → Judges p test
      → Judges p after × (piece ≡ until_separator p f) × (more ≡ behind_separator p f))

  -- a call of `next` gave the part up to the first separator, or all that was left
  abbrev pub split_steps : Split F → Option TokenTreesView → Split F → Type 0
  split_steps s r t = MatchOption r ((s.rest ≡ None) × (t ≡ s))
      (λ x. (f : Forest) × (s.rest ≡ Some f) × Cuts f s.test (forest x) t.rest t.test)

-- at most so many parts are left: one, and one for each token
abbrev pub pieces_left : {F : Type 0} → Split F → Count
pieces_left s = at_most (unwrap_or (option_map (λ f. size f + 1) s.rest) 0)
