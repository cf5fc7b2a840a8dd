-- Pieces with piece-relative spans, and how these become spans of their texts.
use Rattle.std.specs.Prelude.{◌≡◌, ℕ, ◌≤◌, zero, suc, All, Contains, List, [], ◌∷◌, Option, Some, None, option_map, find, if◌then◌else◌, nat_eq}
use Rattle.bridge.specs.RelativeSpans.{moved_to, own_place}
use Rattle.bridge.specs.declared.printing.relative_spans.Place.{Place}
use Rattle.tt_data.specs.Forest.{Forest, leaf, group, empty, map_spans}
use Rattle.tt_data.specs.Spans.{span_of}
use Rattle.tt_data.specs.declared.span.Span.{Span}
use Rattle.tt_data.specs.declared.span.SyntaxContext.TheVariants.{Written}
use Rattle.expander_model.specs.Changes.{outcome_with}
use Rattle.expander_model.specs.Definitions.{Definition, definition_of}
use Rattle.expander_model.specs.Expansion.{World, Outcome}
use Rattle.expander_model.specs.Meaning.{Member, plain, defining}
use Rattle.expander_model.specs.OtherPlaces.{definition_with}
use Rattle.expander_model.specs.Pieces.{first_start, relative}
use Rattle.expander_model.specs.Scoping.{is_found}
use Rattle.expander_model.specs.Limits.{expanded}
use Rattle.expander_model.specs.declared.dialect.Dialect.{Dialect}

-- every span in a forest has this property
abbrev pub AllSpans : (Span → Type 0) → Forest → Type 0
AllSpans P empty = Unit {0}
AllSpans P (leaf l rest) = P (span_of l) × AllSpans P rest
AllSpans P (group d inner rest) = P d.open_span × P d.close_span × AllSpans P inner
    × AllSpans P rest

-- a span written in the text of this place, no part of which is before it
pub record IsFrom (p : Place) (s : Span) : Type 0 where
  pub starts : p.start ≤ s.range.start
  pub ends : p.start ≤ s.range.«end»
  pub anchor : s.anchor ≡ p.text
  pub ctx : s.ctx ≡ Written

-- trees written in the text of this number, none of whose spans begins before the first token's
abbrev pub StandFrom : ℕ → Forest → Type 0
StandFrom t p = AllSpans (IsFrom (record { text = t; start = first_start p })) p

-- the text that a piece's first token is written in
abbrev pub first_text : Forest → ℕ
first_text empty = 0
first_text (leaf l rest) = (span_of l).anchor
first_text (group d inner rest) = d.open_span.anchor

-- the place of a piece's first token
abbrev pub first_place : Forest → Place
first_place p = record { text = first_text p; start = first_start p }

-- trees written in one text, none of whose spans begins before the first token's
abbrev pub Stands : Forest → Type 0
Stands p = StandFrom (first_text p) p

-- such trees of the text that is expanded
abbrev pub StandFromFirst : Forest → Type 0
StandFromFirst p = StandFrom 0 p

-- the anchor that a definition's id makes of this one: 0 is no id, and leaves it
abbrev pub anchor_by : ℕ → ℕ → ℕ
anchor_by zero anchor = anchor
anchor_by (suc n) anchor = suc n

-- the tokens of a definition with this id have it as anchor
abbrev pub anchored : ℕ → Span → Span
anchored n s = record s { anchor = anchor_by n s.anchor }

-- a span counted from n, as a span of the text that is expanded
abbrev pub moved_on : ℕ → Span → Span
moved_on n = moved_to (own_place n)

-- a definition with piece-relative spans, and the id of its tree: 0 for one in a list
pub record Numbered : Type 0 where
  pub number : ℕ
  pub definition : Definition

-- a definition in a list: it has no id
abbrev pub unnumbered : Definition → Numbered
unnumbered d = record { number = 0; definition = d }

-- a definition in scope: the place where it starts, and what it is
pub record Met : Type 0 where
  pub place : Place
  pub numbered : Numbered

-- a definition whose tokens have its id as anchor
abbrev pub anchored_definition : Numbered → Definition
anchored_definition d = definition_with (anchored d.number) d.definition

-- what definitions with ids mean: their tokens have their ids as anchors
abbrev pub numbered_world : World Definition → World Numbered
numbered_world world = record {
  broken = λ d. world.broken (anchored_definition d);
  fit = λ d argument. world.fit (anchored_definition d) argument;
  put_out = λ d argument. world.put_out (anchored_definition d) argument;
  bursts = λ d argument. world.bursts (anchored_definition d) argument;
  dialect = world.dialect;
}

-- what a name resolves to among the definitions before, which are given nearest first
abbrev pub nearest_met : Dialect → List Met → List ℕ → Option Met
nearest_met dialect before name =
    find (λ (m : Met). is_found dialect m.numbered.definition name) before

-- a definition with its id, without its place
abbrev pub numbered_of : Met → Numbered
numbered_of m = m.numbered

-- the scope of these definitions, with their ids
abbrev pub numbered_scope : Dialect → List Met → List ℕ → Option Numbered
numbered_scope dialect before name = option_map numbered_of (nearest_met dialect before name)

-- where the nearest definition of an id starts
abbrev pub place_of : List Met → ℕ → Place
place_of [] n = own_place 0
place_of (m ∷ before) n = if nat_eq m.numbered.number n then m.place else place_of before n

-- the place that an anchor stands for: 0 is the piece itself, another the nearest definition's
abbrev pub base_of : ℕ → List Met → ℕ → Place
base_of start before zero = own_place start
base_of start before (suc n) = place_of before (suc n)

-- a span of a piece as a span of its text
abbrev pub resolve : ℕ → List Met → Span → Span
resolve start before s = moved_to (base_of start before s.anchor) s

-- a definition in scope, with its spans in its text
abbrev pub present_definition : Met → Definition
present_definition m = definition_with (moved_to m.place) m.numbered.definition

-- a definition with its id, at the spans of the nearest one with that id
abbrev pub resolve_definition : ℕ → List Met → Numbered → Definition
resolve_definition start before d = definition_with (resolve start before) (anchored_definition d)

-- a piece with piece-relative spans: plain, with start, scope, tree and result; or a definition
pub data Kept : Type 0 where
  kept : ℕ → List Met → Forest → Outcome Numbered → Kept
  met : Met → Kept

-- that piece, with its spans in the text
abbrev pub present : Kept → Member
present (kept start before tree outcome) =
    plain (map_spans (resolve start before) tree)
    (outcome_with (resolve start before) (resolve_definition start before) outcome)
present (met m) = defining (present_definition m)

module _ (world : World Definition) (depth : ℕ) (number_of : Forest → ℕ) where
  -- a piece that is this definition, with its place and id
  abbrev pub met_of : Forest → Definition → Met
  met_of piece d = record {
    place = first_place piece;
    numbered = record { number = number_of (relative piece); definition = d };
  }

  -- the definitions so far with that of one more piece, if it is one
  abbrev pub with_met : Forest → Option Definition → List Met → List Met
  with_met piece None before = before
  with_met piece (Some d) before = met_of piece d ∷ before

  -- the definitions once these pieces follow those before
  abbrev pub mets_after : List Met → List Forest → List Met
  mets_after before [] = before
  mets_after before (p ∷ ps) = mets_after (with_met p (definition_of (relative p)) before) ps

  -- a piece in the scope of the definitions before it
  abbrev pub kept_of : List Met → Forest → Option Definition → Kept
  kept_of before piece (Some d) = met (met_of piece d)
  kept_of before piece None =
      kept (first_start piece) before (relative piece)
      (expanded (numbered_world world) unnumbered (numbered_scope world.dialect before) depth (relative piece))

  -- the pieces in order, each in the scope of the definitions before it, given nearest first
  abbrev pub kept_after : List Met → List Forest → List Kept
  kept_after before [] = []
  kept_after before (p ∷ ps) =
      let d : Option Definition = definition_of (relative p) in
      kept_of before p d ∷ kept_after (with_met p d before) ps

-- ids of trees: they begin with 1, different trees have different ones, and a tree has one
pub record Tells (table : Forest → ℕ → Type 0) : Type 0 where
  pub positive : (t : Forest) (n : ℕ) → table t n → (k : ℕ) × (n ≡ suc k)
  pub apart : (t u : Forest) (n : ℕ) → table t n → table u n → t ≡ u
  pub one : (t : Forest) (m n : ℕ) → table t m → table t n → m ≡ n

-- a definition, with the id of its tree
pub record IsNumbered (table : Forest → ℕ → Type 0) (d : Numbered) : Type 0 where
  pub tree : Forest
  pub entry : table tree d.number
  pub definition : definition_of tree ≡ Some d.definition

-- a definition in scope has the id of its tree
abbrev pub IsMet : (Forest → ℕ → Type 0) → Met → Type 0
IsMet table m = IsNumbered table m.numbered

-- the tree of a definition has its id
abbrev pub HasNumber : (Forest → ℕ → Type 0) → (Forest → ℕ) → Forest → Type 0
HasNumber table number_of p = (d : Definition) → definition_of (relative p) ≡ Some d
    → table (relative p) (number_of (relative p))

-- ids of trees, from 1 on: no two different trees have one id
pub record TellsApart (number_of : Forest → ℕ) (trees : List Forest) : Type 0 where
  pub positive : All (λ t. 1 ≤ number_of t) trees
  pub apart : All (λ t. All (λ u. number_of t ≡ number_of u → t ≡ u) trees) trees

-- one of these trees, and its id
abbrev pub Known : (Forest → ℕ) → List Forest → Forest → ℕ → Type 0
Known number_of trees t n = Contains trees t × (n ≡ number_of t)
