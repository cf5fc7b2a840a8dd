-- Spans that are mapped, and mapped back.
use Rattle.std.proofs.Common.{◌≡◌, ℕ, ◌+◌, ◌-◌, List, refl, ap, sym, subst, ◌∙◌, arith}
use Rattle.std.specs.Prelude.{All, [], ◌∷◌}
use Rattle.std.proofs.lemmas.List.Elements.{All-cons, All-head, All-nil, All-tail}
use Rattle.tt_data.specs.Forest.{Forest, empty, leaf, group, map_spans}
use Rattle.tt_data.specs.Spans.{span_of, leaf_with}
use Rattle.tt_data.proofs.ForestLemmas.{map_spans-map_spans}
use Rattle.tt_data.specs.declared.leaf.Leaf.{Leaf}
use Rattle.tt_data.specs.declared.leaf.Leaf.TheVariants as as_leaf
use Rattle.tt_data.specs.declared.span.Span.{Span}
use Rattle.expander_model.specs.Pieces.{first_start, moved_back}
use Rattle.bridge.specs.RelativeSpans.{moved_to, own_place}
use Rattle.bridge.specs.declared.printing.relative_spans.Place.{Place}
use Rattle.expander_model.specs.Held.{AllSpans, IsFrom, Met, StandFrom, StandFromFirst, Stands, base_of, first_place, first_text, moved_on, resolve}

leaf_stays : (f : Span → Span) (l : Leaf) → f (span_of l) ≡ span_of l → leaf_with f l ≡ l
leaf_stays f (as_leaf.Ident i) e = ap (λ (s : Span). as_leaf.Ident (record i { span = s })) e
leaf_stays f (as_leaf.Punct p) e = ap (λ (s : Span). as_leaf.Punct (record p { span = s })) e
leaf_stays f (as_leaf.Literal l) e = ap (λ (s : Span). as_leaf.Literal (record l { span = s })) e

-- a change that leaves all places of a forest
pub spans_stay : (P : Span → Type 0) (f : Span → Span) → ((s : Span) → P s → f s ≡ s) → (g : Forest) → AllSpans P g → map_spans f g ≡ g
spans_stay P f same empty h = refl
spans_stay P f same (leaf l rest) h =
    ap (λ k. leaf k (map_spans f rest)) (leaf_stays f l (same (span_of l) h.0)) ∙ ap (leaf l) (spans_stay P f same rest h.1)
spans_stay P f same (group d a rest) h =
    ap (λ (s : Span). group (record d { open_span = s; close_span = f d.close_span }) (map_spans f a) (map_spans f rest)) (same d.open_span h.0)
    ∙ ap (λ (s : Span). group (record d { close_span = s }) (map_spans f a) (map_spans f rest)) (same d.close_span h.1)
    ∙ ap (λ k. group d k (map_spans f rest)) (spans_stay P f same a h.2) ∙ ap (group d a) (spans_stay P f same rest h.3)

-- counted from a place, and from it on again
pub moved_and_back : (p : Place) (s : Span) → IsFrom p s → moved_to p (moved_back p.start s) ≡ s
moved_and_back p s h =
    let start : p.start + (s.range.start - p.start) ≡ s.range.start = omega (arith, h.starts) in
    let last : p.start + (s.range.«end» - p.start) ≡ s.range.«end» = omega (arith, h.ends) in
    λ i. record { range = record { start = start i; «end» = last i }; anchor = sym h.anchor i; ctx = s.ctx }

pub piece_and_back : (p : Place) (q : Forest) → AllSpans (IsFrom p) q → map_spans (moved_to p) (map_spans (moved_back p.start) q) ≡ q
piece_and_back p q h =
    map_spans-map_spans (moved_to p) (moved_back p.start) q
    ∙ spans_stay (IsFrom p) (λ s. moved_to p (moved_back p.start s)) (moved_and_back p) q h

resolve_and_back : (n : ℕ) (before : List Met) (s : Span) → IsFrom (own_place n) s → resolve n before (moved_back n s) ≡ s
resolve_and_back n before s h =
    ap (λ (a : ℕ). moved_to (base_of n before a) (moved_back n s)) h.anchor ∙ moved_and_back (own_place n) s h

-- a piece of the text that is expanded is its piece-relative tree, with the spans taken to the text
pub resolved_piece : (n : ℕ) (before : List Met) (p : Forest) → AllSpans (IsFrom (own_place n)) p
    → map_spans (resolve n before) (map_spans (moved_back n) p) ≡ p
resolved_piece n before p h =
    map_spans-map_spans (resolve n before) (moved_back n) p
    ∙ spans_stay (IsFrom (own_place n)) (λ s. resolve n before (moved_back n s)) (resolve_and_back n before) p h

-- a piece of the text that is expanded begins there
pub own_text : (p : Forest) → StandFromFirst p → first_text p ≡ 0
own_text empty h = refl
own_text (leaf l rest) h = h.0.anchor
own_text (group d inner rest) h = h.0.anchor

pub own_stands : (p : Forest) → StandFromFirst p → Stands p
own_stands p h = subst (λ (t : ℕ). StandFrom t p) (sym (own_text p h)) h

pub all_stand : (ps : List Forest) → All StandFromFirst ps → All Stands ps
all_stand [] h = All-nil Stands
all_stand (p ∷ ps) h =
    All-cons Stands p ps (own_stands p (All-head StandFromFirst p ps h)) (all_stand ps (All-tail StandFromFirst p ps h))

-- spans that are moved to that text are in it
pub moved_text : (n : ℕ) (f : Forest) → first_text (map_spans (moved_on n) f) ≡ 0
moved_text n empty = refl
moved_text n (leaf (as_leaf.Ident i) rest) = refl
moved_text n (leaf (as_leaf.Punct p) rest) = refl
moved_text n (leaf (as_leaf.Literal l) rest) = refl
moved_text n (group d inner rest) = refl

-- where a piece of that text starts
pub own_first : (n : ℕ) (f : Forest) → n ≡ first_start (map_spans (moved_on n) f) → own_place n ≡ first_place (map_spans (moved_on n) f)
own_first n f start = λ i. record { text = sym (moved_text n f) i; start = start i }
