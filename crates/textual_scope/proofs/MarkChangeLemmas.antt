-- Marks, pieces and results with other spans.
use Rattle.std.proofs.Common.{◌≡◌, Bool, true, false, cond, List, [], ◌∷◌, map, Option, Some, None, refl, ap, sym, ◌∙◌, unwrap_or, option_map, if◌then◌else◌}
use Rattle.std.specs.Prelude.{◌&&◌, ◌||◌}
use Rattle.std.proofs.lemmas.List.{map-append}
use Rattle.tt_data.specs.Forest.{Forest, empty, leaf, group, joined, map_spans}
use Rattle.tt_data.specs.Spans.{leaf_with, delimiter_with}
use Rattle.tt_data.specs.Walk.{Step, opens, closes, walk, step_with}
use Rattle.tt_data.proofs.ForestLemmas.{walk-map_spans, map_spans-joined}
use Rattle.tt_data.specs.declared.delimiter.Delimiter.{Delimiter}
use Rattle.tt_data.specs.declared.delimiter.DelimiterKind.TheVariants.{Brace, Bracket}
use Rattle.tt_data.specs.declared.leaf.Ident.{Ident}
use Rattle.tt_data.specs.declared.leaf.Leaf.{Leaf}
use Rattle.tt_data.specs.declared.leaf.Leaf.TheVariants as as_leaf
use Rattle.tt_data.specs.declared.leaf.Punct.{Punct}
use Rattle.tt_data.specs.declared.span.Span.{Span}
use Rattle.bridge.specs.Text.{same_kind, is_punct}
use Rattle.expander_model.specs.declared.fault.FaultKind.{FaultKind}
use Rattle.expander_model.specs.Calls.{Path, bare, from_crate, other, Marked, none, token, inside, call, mark_leaf, marked, unmarked, in_front, is_bang_group, is_colons, is_root}
use Rattle.expander_model.specs.Changes.{placed_with, outcome_with}
use Rattle.expander_model.specs.Expansion.{PlacedStep, Outcome, CallSite, placed, just, followed_by, grouped, stays}
use Rattle.expander_model.specs.Pieces.{is_pound_bang, ends_piece, cut, cut_from}

abbrev pub ident_with : (Span → Span) → Ident → Ident
ident_with f i = record i { span = f i.span }

abbrev pub punct_with : (Span → Span) → Punct → Punct
punct_with f p = record p { span = f p.span }

abbrev pub path_with : (Span → Span) → Path → Path
path_with f bare = bare
path_with f (from_crate root p q) = from_crate (ident_with f root) (punct_with f p) (punct_with f q)
path_with f (other p q) = other (punct_with f p) (punct_with f q)

abbrev pub marked_with : (Span → Span) → Marked → Marked
marked_with f none = none
marked_with f (token l m) = token (leaf_with f l) (marked_with f m)
marked_with f (inside d a m) = inside (delimiter_with f d) (marked_with f a) (marked_with f m)
marked_with f (call path name bang d a m) =
    call (path_with f path) (ident_with f name) (punct_with f bang) (delimiter_with f d) (marked_with f a) (marked_with f m)

cond-map : {X Y : Type 0} → (g : X → Y) (b : Bool) (x y : X) → cond b (g x) (g y) ≡ g (cond b x y)
cond-map g true x y = refl
cond-map g false x y = refl

module _ (f : Span → Span) where
  mark_leaf-with : (l : Leaf) (m : Marked) → mark_leaf (leaf_with f l) (marked_with f m) ≡ marked_with f (mark_leaf l m)
  mark_leaf-with (as_leaf.Ident name) (token (as_leaf.Punct bang) (inside d a rest)) = cond-map (marked_with f) (is_bang_group bang d) _ _
  mark_leaf-with (as_leaf.Punct first) (token (as_leaf.Punct second) (call bare name bang d a rest)) = cond-map (marked_with f) (is_colons first second) _ _
  mark_leaf-with (as_leaf.Ident root) (call (other p q) name bang d a rest) = cond-map (marked_with f) (is_root root) _ _
  mark_leaf-with _ _ = refl

  pub marked-with : (g : Forest) → marked (map_spans f g) ≡ marked_with f (marked g)
  marked-with empty = refl
  marked-with (leaf l rest) = ap (mark_leaf (leaf_with f l)) (marked-with rest) ∙ mark_leaf-with l (marked rest)
  marked-with (group d a rest) =
      ap (λ m. inside (delimiter_with f d) m (marked (map_spans f rest))) (marked-with a)
      ∙ ap (inside (delimiter_with f d) (marked_with f (marked a))) (marked-with rest)

  pub in_front-with : (path : Path) (g : Forest) → in_front (path_with f path) (map_spans f g) ≡ map_spans f (in_front path g)
  in_front-with bare g = refl
  in_front-with (from_crate root p q) g = refl
  in_front-with (other p q) g = refl

  pub unmarked-with : (m : Marked) → unmarked (marked_with f m) ≡ map_spans f (unmarked m)
  unmarked-with none = refl
  unmarked-with (token l m) = ap (leaf (leaf_with f l)) (unmarked-with m)
  unmarked-with (inside d a m) =
      ap (λ g. group (delimiter_with f d) g (unmarked (marked_with f m))) (unmarked-with a)
      ∙ ap (group (delimiter_with f d) (map_spans f (unmarked a))) (unmarked-with m)
  unmarked-with (call path name bang d a m) =
      let tail : Forest → Forest → Forest = λ x y.
      leaf (as_leaf.Ident (ident_with f name)) (leaf (as_leaf.Punct (punct_with f bang)) (group (delimiter_with f d) x y)) in
      ap (λ g. in_front (path_with f path) (tail g (unmarked (marked_with f m)))) (unmarked-with a)
      ∙ ap (λ g. in_front (path_with f path) (tail (map_spans f (unmarked a)) g)) (unmarked-with m)
      ∙ in_front-with path (leaf (as_leaf.Ident name) (leaf (as_leaf.Punct bang) (group d (unmarked a) (unmarked m))))

  -- ---- pieces

  is_punct-with : (c : _) (l : Leaf) → is_punct c (leaf_with f l) ≡ is_punct c l
  is_punct-with c (as_leaf.Ident i) = refl
  is_punct-with c (as_leaf.Punct p) = refl
  is_punct-with c (as_leaf.Literal l) = refl

  is_pound_bang-with : (g : Forest) → is_pound_bang (map_spans f g) ≡ is_pound_bang g
  is_pound_bang-with (leaf l (leaf m empty)) = ap (λ (b : Bool). b && is_punct "!" (leaf_with f m)) (is_punct-with "#" l) ∙ ap (λ (b : Bool). is_punct "#" l && b) (is_punct-with "!" m)
  is_pound_bang-with empty = refl
  is_pound_bang-with (leaf l empty) = refl
  is_pound_bang-with (leaf l (group d inner rest)) = refl
  is_pound_bang-with (leaf l (leaf m (leaf k rest))) = refl
  is_pound_bang-with (leaf l (leaf m (group d inner rest))) = refl
  is_pound_bang-with (group d inner rest) = refl

  ends_piece-with : (begun : Forest) (d : Delimiter) → ends_piece (map_spans f begun) (delimiter_with f d) ≡ ends_piece begun d
  ends_piece-with begun d = ap (λ (b : Bool). same_kind d.kind Brace || (same_kind d.kind Bracket && b)) (is_pound_bang-with begun)

  -- a cut here, or further on
  cut_or : (b c : Bool) (one : Forest) (now more : List Forest) (one' : Forest) (now' more' : List Forest) → b ≡ c → one' ≡ map_spans f one
      → now' ≡ map (map_spans f) now → more' ≡ map (map_spans f) more
      → (if b then one' ∷ now' else more') ≡ map (map_spans f) (if c then one ∷ now else more)
  cut_or b true one now more one' now' more' e p q r =
      ap (λ t. if t then one' ∷ now' else more') e ∙ ap (λ g. g ∷ now') p ∙ ap (λ gs. map_spans f one ∷ gs) q
  cut_or b false one now more one' now' more' e p q r = ap (λ t. if t then one' ∷ now' else more') e ∙ r

  cut_from-with : (g begun : Forest) → cut_from (map_spans f g) (map_spans f begun) ≡ map (map_spans f) (cut_from g begun)
  cut_from-with empty empty = refl
  cut_from-with empty (leaf l begun) = refl
  cut_from-with empty (group d inner begun) = refl
  cut_from-with (leaf l rest) begun =
      let one : Forest = leaf l empty in
      let is : joined (map_spans f begun) (map_spans f one) ≡ map_spans f (joined begun one) = sym (map_spans-joined f begun one) in
      cut_or (is_punct ";" (leaf_with f l)) (is_punct ";" l) (joined begun one) (cut rest) (cut_from rest (joined begun one))
      (joined (map_spans f begun) (map_spans f one)) (cut (map_spans f rest)) (cut_from (map_spans f rest) (joined (map_spans f begun) (map_spans f one)))
      (is_punct-with ";" l) is (cut_from-with rest empty) (ap (cut_from (map_spans f rest)) is ∙ cut_from-with rest (joined begun one))
  cut_from-with (group d inner rest) begun =
      let one : Forest = group d inner empty in
      let is : joined (map_spans f begun) (map_spans f one) ≡ map_spans f (joined begun one) = sym (map_spans-joined f begun one) in
      cut_or (ends_piece (map_spans f begun) (delimiter_with f d)) (ends_piece begun d) (joined begun one) (cut rest) (cut_from rest (joined begun one))
      (joined (map_spans f begun) (map_spans f one)) (cut (map_spans f rest)) (cut_from (map_spans f rest) (joined (map_spans f begun) (map_spans f one)))
      (ends_piece-with begun d) is (cut_from-with rest empty) (ap (cut_from (map_spans f rest)) is ∙ cut_from-with rest (joined begun one))

  pub cut-with : (g : Forest) → cut (map_spans f g) ≡ map (map_spans f) (cut g)
  cut-with g = cut_from-with g empty

  -- ---- results

  placed-with : (outer : Option Span) (steps : List Step) → placed (option_map f outer) (map (step_with f) steps) ≡ map (placed_with f) (placed outer steps)
  placed-with outer [] = refl
  placed-with outer (s ∷ more) = ap (λ (x : List PlacedStep). record { step = step_with f s; outer = option_map f outer } ∷ x) (placed-with outer more)

  pub outer-with : (outer : Option Span) (at : Span) → unwrap_or (option_map f outer) (f at) ≡ f (unwrap_or outer at)
  outer-with None at = refl
  outer-with (Some o) at = refl

  abbrev pub site_with : CallSite → CallSite
  site_with site = record { at = f site.at; whole = map_spans f site.whole; argument = map_spans f site.argument }

outcome_same : {D : Type 0} → (a b : Outcome D) → a.steps ≡ b.steps → a.faults ≡ b.faults → a.finds ≡ b.finds → a.bursts ≡ b.bursts → a ≡ b
outcome_same a b p q r t = λ i. record { steps = p i; faults = q i; finds = r i; bursts = t i }

module _ {D E : Type 0} (f : Span → Span) (h : D → E) where
  pub followed-with : (a b : Outcome D) → outcome_with f h (followed_by a b) ≡ followed_by (outcome_with f h a) (outcome_with f h b)
  followed-with a b = outcome_same _ _ (map-append _ a.steps b.steps) (map-append _ a.faults b.faults) (map-append _ a.finds b.finds) refl

  pub just-with : (outer : Option Span) (steps : List Step) → just {D = E} (option_map f outer) (map (step_with f) steps) ≡ outcome_with f h (just outer steps)
  just-with outer steps = outcome_same {D = E} _ _ (placed-with f outer steps) refl refl refl

  pub walk-with : (outer : Option Span) (g : Forest) → just {D = E} (option_map f outer) (walk (map_spans f g)) ≡ outcome_with f h (just outer (walk g))
  walk-with outer g = ap (just {D = E} (option_map f outer)) (walk-map_spans f g) ∙ just-with outer (walk g)

  pub grouped-with : (outer : Option Span) (d : Delimiter) (a : Outcome D)
      → grouped (option_map f outer) (delimiter_with f d) (outcome_with f h a) ≡ outcome_with f h (grouped outer d a)
  grouped-with outer d a =
      outcome_same {D = E} _ _
      (ap (λ (x : List PlacedStep). record { step = opens d.kind (f d.open_span); outer = option_map f outer } ∷ x)
      (sym (map-append (placed_with f) a.steps (record { step = closes d.kind d.close_span; outer = outer } ∷ []))))
      refl refl refl

  pub stays-with : (kind : FaultKind) (outer : Option Span) (site : CallSite)
      → stays {D = E} kind (option_map f outer) (site_with f site) ≡ outcome_with f h (stays kind outer site)
  stays-with kind outer site =
      outcome_same {D = E} _ _
      (ap (λ (o : Outcome E). o.steps) (walk-with outer site.whole))
      (ap (λ (s : Span). (kind, s) ∷ []) (outer-with f outer site.at)) refl refl
