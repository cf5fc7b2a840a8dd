-- Pieces whose spans are counted from a place, as pieces of their text.
use Rattle.std.proofs.Common.{◌≡◌, ◌≢◌, ℕ, ◌+◌, ◌-◌, true, List, Option, Some, option_map, unwrap_or, refl, ap, sym, subst, ◌∙◌, arith}
use Rattle.std.specs.Prelude.{is_some}
use Rattle.bridge.specs.Pieces as bare_pieces
use Rattle.bridge.specs.RelativeSpans.{moved_to}
use Rattle.bridge.specs.declared.printing.relative_spans.Place.{Place}
use Rattle.tt_data.proofs.ForestLemmas.{map_spans-map_spans}
use Rattle.tt_data.specs.Forest.{Forest, empty, leaf, group, map_spans}
use Rattle.tt_data.specs.declared.leaf.Leaf.TheVariants as as_leaf
use Rattle.tt_data.specs.declared.span.Span.{Span}
use Rattle.tt_data.specs.declared.span.SyntaxContext.TheVariants.{Written}
use Rattle.expander_model.specs.Definitions.{Definition, definition_of}
use Rattle.expander_model.specs.Held.{AllSpans, IsFrom, Stands, first_place, first_text}
use Rattle.expander_model.specs.OtherPlaces.{definition_with}
use Rattle.expander_model.specs.Pieces.{first_start, moved_back, relative}
use Rattle.expander_model.proofs.DefinitionPlaceLemmas.{definition_of-with, definition_piece}
use Rattle.expander_model.proofs.PlaceLemmas.{spans_stay}
use Rattle.expander_sources.specs.Homes.{Home}
use Rattle.expander_sources.specs.Picks.{first_span, home_piece}
use Rattle.expander_sources.specs.SourceItems.{AreOrdered, IsWrittenIn}
use Rattle.expander_sources.specs.Sources.{end_behind}
use Rattle.expander_sources.proofs.OrderLemmas.{from_first}
use Rattle.expander_sources.proofs.PickLemmas.{definition_trees, home_defines, home_piece-with, home_spans}
use Rattle.expander_sources.proofs.SpanLemmas.{all_spans_mapped, both_spans, same_map}

-- ---- where a piece starts

pub start_with : (p : Place) (q : Forest) → q ≢ empty → first_start (map_spans (moved_to p) q) ≡ p.start + first_start q
start_with p empty some = absurd (some refl)
start_with p (leaf (as_leaf.Ident i) rest) some = refl
start_with p (leaf (as_leaf.Punct i) rest) some = refl
start_with p (leaf (as_leaf.Literal i) rest) some = refl
start_with p (group d a rest) some = refl

pub text_with : (p : Place) (q : Forest) → q ≢ empty → first_text (map_spans (moved_to p) q) ≡ p.text
text_with p empty some = absurd (some refl)
text_with p (leaf (as_leaf.Ident i) rest) some = refl
text_with p (leaf (as_leaf.Punct i) rest) some = refl
text_with p (leaf (as_leaf.Literal i) rest) some = refl
text_with p (group d a rest) some = refl

-- ---- where it ends

end_any : (n m : ℕ) (q : Forest) → q ≢ empty → end_behind n q ≡ end_behind m q
end_any n m empty some = absurd (some refl)
end_any n m (leaf l rest) some = refl
end_any n m (group d a rest) some = refl

end_counted : (p : Place) (n : ℕ) (q : Forest) → end_behind (p.start + n) (map_spans (moved_to p) q) ≡ p.start + end_behind n q
end_counted p n empty = refl
end_counted p n (leaf (as_leaf.Ident i) rest) = end_counted p i.span.range.«end» rest
end_counted p n (leaf (as_leaf.Punct i) rest) = end_counted p i.span.range.«end» rest
end_counted p n (leaf (as_leaf.Literal i) rest) = end_counted p i.span.range.«end» rest
end_counted p n (group d a rest) = end_counted p d.close_span.range.«end» rest

mapped_some : (f : Span → Span) (q : Forest) → q ≢ empty → map_spans f q ≢ empty
mapped_some f empty some e = some refl
mapped_some f (leaf l rest) some e = cc
mapped_some f (group d a rest) some e = cc

pub end_with : (p : Place) (q : Forest) → q ≢ empty → end_behind 0 (map_spans (moved_to p) q) ≡ p.start + end_behind 0 q
end_with p q some = end_any 0 (p.start + 0) (map_spans (moved_to p) q) (mapped_some (moved_to p) q some) ∙ end_counted p 0 q

-- ---- a piece inside trees whose spans are counted from a place

module _ (t base : ℕ) (q : Forest) (some : q ≢ empty) (ordered : AreOrdered t q) where
  abbrev outer : Place
  outer = record { text = t; start = base }

  -- where the piece itself starts
  abbrev pub inner_place : Place
  inner_place = record { text = t; start = base + first_start q }

  abbrev pub inner_piece : Forest
  inner_piece = map_spans (moved_to outer) q

  counted_on : (s : Span) → bare_pieces.IsFrom (first_start q) s → moved_to inner_place (moved_back (first_start q) s) ≡ moved_to outer s
  counted_on s h =
      let start : base + first_start q + (s.range.start - first_start q) ≡ base + s.range.start = omega (arith, h.0) in
      let last : base + first_start q + (s.range.«end» - first_start q) ≡ base + s.range.«end» = omega (arith, h.1) in
      λ i. record { range = record { start = start i; «end» = last i }; anchor = t; ctx = s.ctx }

  pub inner_is : map_spans (moved_to inner_place) (relative q) ≡ inner_piece
  inner_is =
      map_spans-map_spans (moved_to inner_place) (moved_back (first_start q)) q
      ∙ same_map (bare_pieces.IsFrom (first_start q)) (λ s. moved_to inner_place (moved_back (first_start q) s)) (moved_to outer) counted_on q
      (from_first q ordered.order)

  pub inner_first : inner_place ≡ first_place inner_piece
  inner_first = λ i. record { text = sym (text_with outer q some) i; start = sym (start_with outer q some) i }

  from_place : (s : Span) → bare_pieces.IsFrom (first_start q) s × IsWrittenIn t s → IsFrom inner_place (moved_to outer s)
  from_place s h = record { starts = omega (arith, h.0.0); ends = omega (arith, h.0.1); anchor = refl; ctx = h.1.ctx }

  pub inner_stands : Stands inner_piece
  inner_stands =
      subst (λ (p : Place). AllSpans (IsFrom p) inner_piece) inner_first
      (all_spans_mapped (λ s. bare_pieces.IsFrom (first_start q) s × IsWrittenIn t s) (IsFrom inner_place) (moved_to outer) from_place q
      (both_spans (bare_pieces.IsFrom (first_start q)) (IsWrittenIn t) q (from_first q ordered.order) ordered.written))

  counted_back : (s : Span) → IsWrittenIn t s → moved_back (base + first_start q) (moved_to outer s) ≡ moved_back (first_start q) s
  counted_back s h =
      let start : base + s.range.start - (base + first_start q) ≡ s.range.start - first_start q = omega arith in
      let last : base + s.range.«end» - (base + first_start q) ≡ s.range.«end» - first_start q = omega arith in
      λ i. record { range = record { start = start i; «end» = last i }; anchor = sym h.anchor i; ctx = s.ctx }

  pub inner_tree : relative q ≡ relative inner_piece
  inner_tree = sym (
      ap (λ (n : ℕ). map_spans (moved_back n) inner_piece) (start_with outer q some)
      ∙ map_spans-map_spans (moved_back (base + first_start q)) (moved_to outer) q
      ∙ same_map (IsWrittenIn t) (λ s. moved_back (base + first_start q) (moved_to outer s)) (moved_back (first_start q)) counted_back q ordered.written)

-- ---- a definition of another crate in place of its piece

-- the first token's place, by its span
place_of_span : (q : Forest) → q ≢ empty → first_place q ≡ record { text = (first_span q).anchor; start = (first_span q).range.start }
place_of_span empty some = absurd (some refl)
place_of_span (leaf l rest) some = refl
place_of_span (group d a rest) some = refl

pub some_same : (d e : Definition) → Some d ≡ Some e → d ≡ e
some_same d e is = ap (λ (o : Option Definition). unwrap_or o d) is

module _ (place : Place) (piece : Forest) (stands : Stands piece) (is_first : place ≡ first_place piece)
    (h : Home) (key : List ℕ) (d : Definition) (there : map_spans (moved_to place) (relative piece) ≡ piece)
    (is : definition_of (relative piece) ≡ Some d) where
  -- the definition in its text
  abbrev moved : Definition
  moved = definition_with (moved_to place) d

  pub home_moved : definition_of piece ≡ Some moved
  home_moved = ap definition_of (sym there) ∙ definition_of-with (moved_to place) (relative piece) ∙ ap (option_map (definition_with (moved_to place))) is

  is_some_piece : d.piece ≢ empty
  is_some_piece = subst (λ (q : Forest). q ≢ empty) (sym (definition_piece (relative piece) d is)) (definition_trees (relative piece) d is)

  abbrev tree : Forest
  tree = home_piece h key d

  pub home_there : map_spans (moved_to place) tree ≡ home_piece h key moved
  home_there = sym (home_piece-with (moved_to place) h key d is_some_piece)

  -- spans from there on
  made_from : Span → Span
  made_from s = record {
    range = record { start = place.start + (s.range.start - place.start); «end» = place.start + (s.range.«end» - place.start) };
    anchor = place.text;
    ctx = Written;
  }

  from_same : (s : Span) → IsFrom place s → made_from s ≡ s
  unfolding made_from
  from_same s k =
      let start : place.start + (s.range.start - place.start) ≡ s.range.start = omega (arith, k.starts) in
      let last : place.start + (s.range.«end» - place.start) ≡ s.range.«end» = omega (arith, k.ends) in
      λ i. record { range = record { start = start i; «end» = last i }; anchor = sym k.anchor i; ctx = sym k.ctx i }

  from_made : (s : Span) → IsFrom place (made_from s)
  unfolding made_from
  from_made s = record { starts = omega arith; ends = omega arith; anchor = refl; ctx = refl }

  all_from : AllSpans (IsFrom place) (home_piece h key moved)
  all_from =
      home_spans (IsFrom place) made_from from_same from_made piece moved home_moved
      (subst (λ (p : Place). AllSpans (IsFrom p) piece) (sym is_first) stands) h key

  first_is : place ≡ first_place (home_piece h key moved)
  first_is = is_first ∙ ap first_place (sym (definition_piece piece moved home_moved)) ∙ place_of_span moved.piece
      (subst (λ (q : Forest). q ≢ empty) (sym (definition_piece piece moved home_moved)) (definition_trees piece moved home_moved))

  pub home_first : place ≡ first_place (map_spans (moved_to place) tree)
  home_first = first_is ∙ ap first_place (sym home_there)

  pub home_stands : Stands (map_spans (moved_to place) tree)
  home_stands =
      subst (λ (p : Place). AllSpans (IsFrom p) (map_spans (moved_to place) tree)) home_first
      (subst (AllSpans (IsFrom place)) (sym home_there) all_from)

  -- its tree is counted from its first token
  HasAnchor : Span → Type 0
  HasAnchor s = s.anchor ≡ place.text

  tree_anchors : AllSpans HasAnchor tree
  unfolding HasAnchor
  tree_anchors =
      home_spans HasAnchor (λ s. record s { anchor = place.text }) (λ s k. λ i. record s { anchor = sym k i }) (λ s. refl) (relative piece) d is
      (all_spans_mapped (IsFrom (first_place piece)) HasAnchor (moved_back (first_start piece)) (λ s k. k.anchor ∙ ap (λ (p : Place). p.text) (sym is_first)) piece stands)
      h key

  counted_same : (s : Span) → HasAnchor s → moved_back place.start (moved_to place s) ≡ s
  unfolding HasAnchor
  counted_same s k =
      let start : place.start + s.range.start - place.start ≡ s.range.start = omega arith in
      let last : place.start + s.range.«end» - place.start ≡ s.range.«end» = omega arith in
      λ i. record { range = record { start = start i; «end» = last i }; anchor = sym k i; ctx = s.ctx }

  pub home_tree : tree ≡ relative (map_spans (moved_to place) tree)
  home_tree = sym (
      ap (λ (n : ℕ). map_spans (moved_back n) (map_spans (moved_to place) tree)) (ap (λ (p : Place). p.start) (sym home_first))
      ∙ map_spans-map_spans (moved_back place.start) (moved_to place) tree
      ∙ spans_stay HasAnchor (λ s. moved_back place.start (moved_to place s)) counted_same tree tree_anchors)

  pub home_is_definition : is_some (definition_of (relative (map_spans (moved_to place) tree))) ≡ true
  home_is_definition = ap (λ (q : Forest). is_some (definition_of q)) (sym home_tree) ∙ home_defines h key d
