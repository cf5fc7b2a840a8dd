-- Tokens in order: those of a text, of parts of it, and of trees whose spans are counted from elsewhere.
use Rattle.std.proofs.Common.{◌≡◌, ℕ, ◌-◌, List, [], ◌∷◌, ◌++◌, refl, sym, subst, arith, Bool, true, false, if◌then◌else◌}
use Rattle.tt.specs.Building.{alone}
use Rattle.tt_data.specs.Forest.{Forest, empty, leaf, group, joined, map_spans}
use Rattle.tt_data.specs.Spans.{span_of}
use Rattle.tt_data.specs.Walk.{Step, closes, walk}
use Rattle.tt_data.specs.declared.leaf.Leaf.{Leaf}
use Rattle.tt_data.specs.declared.leaf.Leaf.TheVariants as as_leaf
use Rattle.tt_data.specs.declared.span.Span.{Span}
use Rattle.bridge.specs.Order.{AreFrom, AreWritten, FollowOneAnother}
use Rattle.bridge.specs.Pieces as bare_pieces
use Rattle.bridge.specs.Pieces.{separated}
use Rattle.bridge.specs.Text.{is_punct}
use Rattle.expander_model.specs.Held.{AllSpans}
use Rattle.expander_model.specs.Pieces.{first_start, moved_back}
use Rattle.expander_sources.specs.SourceItems.{AreInOrder, AreOrdered, IsWrittenIn}
use Rattle.expander_sources.proofs.SpanLemmas.{all_spans_mapped, back_spans, front_spans, span_of-with}

-- ---- parts of trees

pub front_order : (f g : Forest) → AreInOrder (joined f g) → AreInOrder f
front_order empty g h = tt
front_order (leaf l f) g h = (front_spans (bare_pieces.IsFrom (span_of l).range.start) (leaf l f) g h.0, front_order f g h.1)
front_order (group d a f) g h =
    (front_spans (bare_pieces.IsFrom d.open_span.range.start) (group d a f) g h.0, h.1, front_order f g h.2)

pub back_order : (f g : Forest) → AreInOrder (joined f g) → AreInOrder g
back_order empty g h = h
back_order (leaf l f) g h = back_order f g h.1
back_order (group d a f) g h = back_order f g h.2

pub front_ordered : (t : ℕ) (f g : Forest) → AreOrdered t (joined f g) → AreOrdered t f
front_ordered t f g h = record { written = front_spans (IsWrittenIn t) f g h.written; order = front_order f g h.order }

pub back_ordered : (t : ℕ) (f g : Forest) → AreOrdered t (joined f g) → AreOrdered t g
back_ordered t f g h = record { written = back_spans (IsWrittenIn t) f g h.written; order = back_order f g h.order }

-- no span is before the first
pub from_first : (f : Forest) → AreInOrder f → AllSpans (bare_pieces.IsFrom (first_start f)) f
from_first empty h = tt
from_first (leaf l rest) h = h.0
from_first (group d a rest) h = h.0

-- ---- spans counted from elsewhere

from_back : (n m : ℕ) (s : Span) → bare_pieces.IsFrom m s → bare_pieces.IsFrom (m - n) (moved_back n s)
from_back n m s h = (omega (arith, h.0), omega (arith, h.1))

pub order_moved_back : (n : ℕ) (f : Forest) → AreInOrder f → AreInOrder (map_spans (moved_back n) f)
order_moved_back n empty h = tt
order_moved_back n (leaf l rest) h = (
  subst (λ (s : Span). AllSpans (bare_pieces.IsFrom s.range.start) (map_spans (moved_back n) (leaf l rest))) (sym (span_of-with (moved_back n) l))
      (all_spans_mapped (bare_pieces.IsFrom (span_of l).range.start) (bare_pieces.IsFrom ((span_of l).range.start - n)) (moved_back n) (from_back n (span_of l).range.start) (leaf l rest) h.0),
  order_moved_back n rest h.1,
)
order_moved_back n (group d a rest) h = (
  all_spans_mapped (bare_pieces.IsFrom d.open_span.range.start) (bare_pieces.IsFrom (d.open_span.range.start - n)) (moved_back n) (from_back n d.open_span.range.start) (group d a rest) h.0,
  order_moved_back n a h.1,
  order_moved_back n rest h.2,
)

-- a map that changes no range
pub order_same_ranges : (f : Span → Span) → ((s : Span) → (f s).range ≡ s.range) → (g : Forest) → AreInOrder g → AreInOrder (map_spans f g)
order_same_ranges f same empty h = tt
order_same_ranges f same (leaf l rest) h = (
  subst (λ (s : Span). AllSpans (bare_pieces.IsFrom s.range.start) (map_spans f (leaf l rest))) (sym (span_of-with f l))
      (all_spans_mapped (bare_pieces.IsFrom (span_of l).range.start) (bare_pieces.IsFrom (f (span_of l)).range.start) f (kept (span_of l)) (leaf l rest) h.0),
  order_same_ranges f same rest h.1,
)
  where
    kept : (s u : Span) → bare_pieces.IsFrom s.range.start u → bare_pieces.IsFrom (f s).range.start (f u)
    kept s u k = rw (same s, same u) k
order_same_ranges f same (group d a rest) h = (
  all_spans_mapped (bare_pieces.IsFrom d.open_span.range.start) (bare_pieces.IsFrom (f d.open_span).range.start) f (kept d.open_span) (group d a rest) h.0,
  order_same_ranges f same a h.1,
  order_same_ranges f same rest h.2,
)
  where
    kept : (s u : Span) → bare_pieces.IsFrom s.range.start u → bare_pieces.IsFrom (f s).range.start (f u)
    kept s u k = rw (same s, same u) k

-- ---- what is read of a text

front_from : (n : ℕ) (xs ys : List Step) → AreFrom n (xs ++ ys) → AreFrom n xs
front_from n [] ys h = tt
front_from n (x ∷ xs) ys h = (h.0, front_from n xs ys h.1)

back_from : (n : ℕ) (xs ys : List Step) → AreFrom n (xs ++ ys) → AreFrom n ys
back_from n [] ys h = h
back_from n (x ∷ xs) ys h = back_from n xs ys h.1

front_follow : (xs ys : List Step) → FollowOneAnother (xs ++ ys) → FollowOneAnother xs
front_follow [] ys h = tt
front_follow (x ∷ xs) ys h = (h.0, front_from _ xs ys h.1, front_follow xs ys h.2)

back_follow : (xs ys : List Step) → FollowOneAnother (xs ++ ys) → FollowOneAnother ys
back_follow [] ys h = h
back_follow (x ∷ xs) ys h = back_follow xs ys h.2

from_spans : (n : ℕ) (f : Forest) → AreFrom n (walk f) → AllSpans (bare_pieces.IsFrom n) f
from_spans n empty h = tt
from_spans n (leaf l rest) h = (h.0, from_spans n rest h.1)
from_spans n (group d a rest) h =
    let last = back_from n (walk a) (closes d.kind d.close_span ∷ walk rest) h.1 in
    (h.0, last.0, from_spans n a (front_from n (walk a) (closes d.kind d.close_span ∷ walk rest) h.1), from_spans n rest last.1)

pub in_order : (f : Forest) → FollowOneAnother (walk f) → AreInOrder f
in_order empty h = tt
in_order (leaf l rest) h = ((h.0, from_spans (span_of l).range.start rest h.1), in_order rest h.2)
in_order (group d a rest) h =
    let n : ℕ = d.open_span.range.start in
    let tail : List Step = closes d.kind d.close_span ∷ walk rest in
    let last = back_from n (walk a) tail h.1 in
    let behind = back_follow (walk a) tail h.2 in (
      (h.0, last.0, from_spans n a (front_from n (walk a) tail h.1), from_spans n rest last.1),
      in_order a (front_follow (walk a) tail h.2),
      in_order rest behind.2,
    )

front_written : (xs ys : List Step) → AreWritten (xs ++ ys) → AreWritten xs
front_written [] ys h = tt
front_written (x ∷ xs) ys h = (h.0, front_written xs ys h.1)

back_written : (xs ys : List Step) → AreWritten (xs ++ ys) → AreWritten ys
back_written [] ys h = h
back_written (x ∷ xs) ys h = back_written xs ys h.1

pub written_spans : (f : Forest) → AreWritten (walk f) → AllSpans (IsWrittenIn 0) f
written_spans empty h = tt
written_spans (leaf l rest) h = (record { anchor = h.0.0; ctx = h.0.1 }, written_spans rest h.1)
written_spans (group d a rest) h =
    let last = back_written (walk a) (closes d.kind d.close_span ∷ walk rest) h.1 in (
      record { anchor = h.0.0; ctx = h.0.1 },
      record { anchor = last.0.0; ctx = last.0.1 },
      written_spans a (front_written (walk a) (closes d.kind d.close_span ∷ walk rest) h.1),
      written_spans rest last.1,
    )

-- each `;` of a list that stands alone stands where it was
span_alone : (b : Bool) (l : Leaf) → span_of (if b then alone l else l) ≡ span_of l
span_alone true (as_leaf.Ident i) = refl
span_alone true (as_leaf.Punct p) = refl
span_alone true (as_leaf.Literal t) = refl
span_alone false l = refl

pub separated_spans : (P : Span → Type 0) (f : Forest) → AllSpans P f → AllSpans P (separated f)
separated_spans P empty h = tt
separated_spans P (leaf l rest) h = (subst P (sym (span_alone (is_punct ";" l) l)) h.0, separated_spans P rest h.1)
separated_spans P (group d a rest) h = (h.0, h.1, h.2, separated_spans P rest h.3)

pub separated_order : (f : Forest) → AreInOrder f → AreInOrder (separated f)
separated_order empty h = tt
separated_order (leaf l rest) h = (
  subst (λ (s : Span). AllSpans (bare_pieces.IsFrom s.range.start) (separated (leaf l rest))) (sym (span_alone (is_punct ";" l) l))
      (separated_spans (bare_pieces.IsFrom (span_of l).range.start) (leaf l rest) h.0),
  separated_order rest h.1,
)
separated_order (group d a rest) h =
    (separated_spans (bare_pieces.IsFrom d.open_span.range.start) (group d a rest) h.0, h.1, separated_order rest h.2)

pub separated_ordered : (f : Forest) → FollowOneAnother (walk f) → AreWritten (walk f) → AreOrdered 0 (separated f)
separated_ordered f follow written = record {
  written = separated_spans (IsWrittenIn 0) f (written_spans f written);
  order = separated_order f (in_order f follow);
}
