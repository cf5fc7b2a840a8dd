-- Definitions of other crates as preludes have them.
use Rattle.std.proofs.Common.{◌≡◌, ◌≢◌, ℕ, Bool, true, false, List, Option, Some, None, option_map, unwrap_or, refl, ap, sym, subst, ◌∙◌, if◌then◌else◌}
use Rattle.std.specs.Prelude.{is_some}
use Rattle.tt_data.proofs.ForestLemmas.{map_spans-joined}
use Rattle.tt_data.specs.Forest.{Forest, empty, leaf, group, joined, map_spans}
use Rattle.tt_data.specs.declared.delimiter.DelimiterKind.TheVariants.{Brace, Parenthesis}
use Rattle.tt_data.specs.declared.leaf.Leaf.TheVariants as as_leaf
use Rattle.tt_data.specs.declared.span.Span.{Span}
use Rattle.expander_model.specs.Definitions.{Definition, definition_of}
use Rattle.expander_model.specs.Held.{AllSpans}
use Rattle.expander_model.specs.OtherPlaces.{definition_with}
use Rattle.expander_model.proofs.DefinitionPlaceLemmas.{definition_of-with, definition_piece}
use Rattle.expander_model.proofs.PlaceLemmas.{spans_stay}
use Rattle.expander_sources.specs.Homes.{Home, root_of}
use Rattle.expander_sources.specs.Picks.{arguments_at, body_at, brackets_at, first_span, groups_at, head_at, home_piece, marked_with, own_arguments}
use Rattle.expander_sources.proofs.RootingLemmas.{rooted-with}
use Rattle.expander_sources.proofs.SpanLemmas.{all_spans_made}

-- trees that are something
pub some_trees : {X : Type 0} (m : Forest → Option X) → m empty ≡ None → (p : Forest) (x : X) → m p ≡ Some x → p ≢ empty
some_trees m none p x e is = cc

pub definition_trees : (p : Forest) (d : Definition) → definition_of p ≡ Some d → p ≢ empty
definition_trees p d e = some_trees definition_of refl p d e

module _ (f : Span → Span) where
  -- ---- at other spans

  pub first_span-with : (p : Forest) → p ≢ empty → first_span (map_spans f p) ≡ f (first_span p)
  first_span-with empty some = absurd (some refl)
  first_span-with (leaf (as_leaf.Ident i) rest) some = refl
  first_span-with (leaf (as_leaf.Punct p) rest) some = refl
  first_span-with (leaf (as_leaf.Literal l) rest) some = refl
  first_span-with (group d a rest) some = refl

  body_with : (root : List ℕ) (body : Forest) (at : Span) → body_at root (map_spans f body) (f at) ≡ map_spans f (body_at root body at)
  body_with root body at = ap (λ (x : Forest). group (brackets_at Brace (f at)) x empty) (rooted-with root f body)

  arguments_with : (root : List ℕ) (arguments : Option Forest) (at : Span)
      → arguments_at root (option_map (map_spans f) arguments) (f at) ≡ map_spans f (arguments_at root arguments at)
  arguments_with root None at = refl
  arguments_with root (Some a) at = ap (λ (z : Forest). group (brackets_at Parenthesis (f at)) z empty) (rooted-with root f a)

  own_with : (root : List ℕ) (d : Definition) (at : Span) → own_arguments root (definition_with f d) (f at) ≡ map_spans f (own_arguments root d at)
  own_with root d at = go d.is_macro
    where
      go : (b : Bool) → (if b then arguments_at root (option_map (map_spans f) d.arguments) (f at) else empty) ≡ map_spans f (if b then arguments_at root d.arguments at else empty)
      go true = arguments_with root d.arguments at
      go false = refl

  groups_with : (root : List ℕ) (d : Definition) (at : Span) → groups_at root (definition_with f d) (f at) ≡ map_spans f (groups_at root d at)
  groups_with root d at =
      ap (λ (x : Forest). joined x (body_at root (map_spans f d.body) (f at))) (own_with root d at)
      ∙ ap (joined (map_spans f (own_arguments root d at))) (body_with root d.body at)
      ∙ sym (map_spans-joined f (own_arguments root d at) (body_at root d.body at))

  head_with : (key : List ℕ) (d : Definition) (at : Span) (x y : Forest) → x ≡ map_spans f y → head_at key (definition_with f d) (f at) x ≡ map_spans f (head_at key d at y)
  head_with key d at x y e = ap (head_at key (definition_with f d) (f at)) e ∙ go d.is_macro
    where
      go : (b : Bool) → head_at key (record (definition_with f d) { is_macro = b }) (f at) (map_spans f y) ≡ map_spans f (head_at key (record d { is_macro = b }) at y)
      go true = refl
      go false = refl

  pub home_piece-with : (h : Home) (key : List ℕ) (d : Definition) → d.piece ≢ empty → home_piece h key (definition_with f d) ≡ map_spans f (home_piece h key d)
  home_piece-with h key d some =
      ap (λ (at : Span). marked_with h.edition at (head_at key (definition_with f d) at (groups_at (root_of h.root) (definition_with f d) at))) (first_span-with d.piece some)
      ∙ ap (marked_with h.edition (f (first_span d.piece)))
      (head_with key d (first_span d.piece) _ _ (groups_with (root_of h.root) d (first_span d.piece)))

-- ---- what a definition of another crate is

pub home_defines : (h : Home) (key : List ℕ) (d : Definition) → is_some (definition_of (home_piece h key d)) ≡ true
home_defines h key d = go d.is_macro d.arguments
  where
    go : (b : Bool) (arguments : Option Forest) → is_some (definition_of (home_piece h key (record d { is_macro = b; arguments = arguments }))) ≡ true
    go true None = refl
    go true (Some a) = refl
    go false arguments = refl

-- its spans are among those of the piece that it comes from: what they are mapped to is the same
pub home_spans : (P : Span → Type 0) (k : Span → Span) → ((s : Span) → P s → k s ≡ s) → ((s : Span) → P (k s))
    → (p : Forest) (d : Definition) → definition_of p ≡ Some d → AllSpans P p → (h : Home) (key : List ℕ) → AllSpans P (home_piece h key d)
home_spans P k fixed makes p d e all h key =
    let piece_is : d.piece ≡ p = definition_piece p d e in
    let some : d.piece ≢ empty = subst (λ (q : Forest). q ≢ empty) (sym piece_is) (definition_trees p d e) in
    let mapped : Some (definition_with k d) ≡ Some d = ap (option_map (definition_with k)) (sym e) ∙ sym (definition_of-with k p) ∙ ap definition_of (spans_stay P k fixed p all) ∙ e in
    let same : definition_with k d ≡ d = ap (λ (o : Option Definition). unwrap_or o d) mapped in
    subst (AllSpans P) (sym (home_piece-with k h key d some) ∙ ap (home_piece h key) same) (all_spans_made P k makes (home_piece h key d))
