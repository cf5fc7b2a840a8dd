-- Spans of trees and of their parts, and what maps of spans do to them.
use Rattle.std.proofs.Common.{◌≡◌, refl, ap, sym, subst, ◌∙◌}
use Rattle.tt_data.specs.Forest.{Forest, empty, leaf, group, joined, map_spans}
use Rattle.tt_data.specs.Spans.{leaf_with, span_of}
use Rattle.tt_data.specs.declared.leaf.Leaf.{Leaf}
use Rattle.tt_data.specs.declared.leaf.Leaf.TheVariants as as_leaf
use Rattle.tt_data.specs.declared.span.Span.{Span}
use Rattle.expander_model.specs.Held.{AllSpans}

pub span_of-with : (f : Span → Span) (l : Leaf) → span_of (leaf_with f l) ≡ f (span_of l)
span_of-with f (as_leaf.Ident i) = refl
span_of-with f (as_leaf.Punct p) = refl
span_of-with f (as_leaf.Literal l) = refl

module _ (P Q : Span → Type 0) where
  -- what follows of one span follows of all
  pub all_spans_so : ((s : Span) → P s → Q s) → (g : Forest) → AllSpans P g → AllSpans Q g
  all_spans_so so empty h = tt
  all_spans_so so (leaf l rest) h = (so (span_of l) h.0, all_spans_so so rest h.1)
  all_spans_so so (group d a rest) h = (so d.open_span h.0, so d.close_span h.1, all_spans_so so a h.2, all_spans_so so rest h.3)

  -- and of all that are mapped
  pub all_spans_mapped : (f : Span → Span) → ((s : Span) → P s → Q (f s)) → (g : Forest) → AllSpans P g → AllSpans Q (map_spans f g)
  all_spans_mapped f so empty h = tt
  all_spans_mapped f so (leaf l rest) h =
      (subst Q (sym (span_of-with f l)) (so (span_of l) h.0), all_spans_mapped f so rest h.1)
  all_spans_mapped f so (group d a rest) h =
      (so d.open_span h.0, so d.close_span h.1, all_spans_mapped f so a h.2, all_spans_mapped f so rest h.3)

module _ (P : Span → Type 0) where
  -- of all spans that a map gives
  pub all_spans_made : (f : Span → Span) → ((s : Span) → P (f s)) → (g : Forest) → AllSpans P (map_spans f g)
  all_spans_made f so empty = tt
  all_spans_made f so (leaf l rest) =
      (subst P (sym (span_of-with f l)) (so (span_of l)), all_spans_made f so rest)
  all_spans_made f so (group d a rest) = (so d.open_span, so d.close_span, all_spans_made f so a, all_spans_made f so rest)

  pub front_spans : (f g : Forest) → AllSpans P (joined f g) → AllSpans P f
  front_spans empty g h = tt
  front_spans (leaf l f) g h = (h.0, front_spans f g h.1)
  front_spans (group d a f) g h = (h.0, h.1, h.2, front_spans f g h.3)

  pub back_spans : (f g : Forest) → AllSpans P (joined f g) → AllSpans P g
  back_spans empty g h = h
  back_spans (leaf l f) g h = back_spans f g h.1
  back_spans (group d a f) g h = back_spans f g h.3

  leaf_same : (f g : Span → Span) (l : Leaf) → f (span_of l) ≡ g (span_of l) → leaf_with f l ≡ leaf_with g l
  leaf_same f g (as_leaf.Ident i) e = ap (λ (s : Span). as_leaf.Ident (record i { span = s })) e
  leaf_same f g (as_leaf.Punct p) e = ap (λ (s : Span). as_leaf.Punct (record p { span = s })) e
  leaf_same f g (as_leaf.Literal l) e = ap (λ (s : Span). as_leaf.Literal (record l { span = s })) e

  -- two maps that agree on all spans of trees
  pub same_map : (f g : Span → Span) → ((s : Span) → P s → f s ≡ g s) → (t : Forest) → AllSpans P t → map_spans f t ≡ map_spans g t
  same_map f g same empty h = refl
  same_map f g same (leaf l rest) h =
      ap (λ (k : Leaf). leaf k (map_spans f rest)) (leaf_same f g l (same (span_of l) h.0))
      ∙ ap (leaf (leaf_with g l)) (same_map f g same rest h.1)
  same_map f g same (group d a rest) h =
      ap (λ (s : Span). group (record d { open_span = s; close_span = f d.close_span }) (map_spans f a) (map_spans f rest)) (same d.open_span h.0)
      ∙ ap (λ (s : Span). group (record { open_span = g d.open_span; close_span = s; kind = d.kind }) (map_spans f a) (map_spans f rest)) (same d.close_span h.1)
      ∙ ap (λ (k : Forest). group (record { open_span = g d.open_span; close_span = g d.close_span; kind = d.kind }) k (map_spans f rest)) (same_map f g same a h.2)
      ∙ ap (group (record { open_span = g d.open_span; close_span = g d.close_span; kind = d.kind }) (map_spans g a)) (same_map f g same rest h.3)

pub both_spans : (P Q : Span → Type 0) (f : Forest) → AllSpans P f → AllSpans Q f → AllSpans (λ s. P s × Q s) f
both_spans P Q empty h k = tt
both_spans P Q (leaf l rest) h k = ((h.0, k.0), both_spans P Q rest h.1 k.1)
both_spans P Q (group d a rest) h k = ((h.0, k.0), (h.1, k.1), both_spans P Q a h.2 k.2, both_spans P Q rest h.3 k.3)
