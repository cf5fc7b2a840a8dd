-- The spans of a piece that was read are in the text, none of them before its first token.
use Rattle.std.proofs.Common.{◌≡◌, ℕ, Bool, true, false, List, [], ◌∷◌, ◌++◌, map, refl, ap, sym, subst, ◌∙◌, if◌then◌else◌}
use Rattle.std.specs.Prelude.{All, IsUtf8, Ok}
use Rattle.std.proofs.lemmas.List.Elements.{All-cons, All-head, All-nil, All-tail}
use Rattle.tt_data.proofs.ForestLemmas.{joined_assoc}
use Rattle.tt_data.specs.Forest.{Forest, empty, leaf, group, head_of, joined, preorder, size}
use Rattle.tt_data.specs.Spans.{span_of}
use Rattle.tt_data.specs.Walk.{Step, closes, walk}
use Rattle.tt_data.specs.declared.leaf.Leaf.{Leaf}
use Rattle.tt_data.specs.declared.leaf.Leaf.TheVariants as as_leaf
use Rattle.tt_data.specs.declared.span.Span.{Span}
use Rattle.tt_data.specs.declared.tree.TokenTree.TheVariants as token
use Rattle.bridge.specs.RelativeSpans.{own_place}
use Rattle.bridge.specs.Order.{AreFrom, AreWritten, FollowOneAnother, IsWritten}
use Rattle.bridge.specs.Pieces as bare_pieces
use Rattle.bridge.specs.Pieces.{StandsBehindFirst, StandsFrom}
use Rattle.bridge.specs.Printing.{step_span}
use Rattle.bridge.specs.Reading.{IsReading, TextStep, reading}
use Rattle.bridge.specs.Text.{is_punct}
use Rattle.bridge.specs.TokenSteps.{text_reading, text_steps}
use Rattle.expander_model.specs.Held.{AllSpans, IsFrom, StandFromFirst}
use Rattle.expander_model.specs.Pieces.{cut, first_start, pieces, put_together, separated}
use Rattle.tt.specs.Building.{alone}
use Rattle.expander_model.proofs.SplittingLemmas.{put_together-cut}

-- ---- a `;` that stands alone stands where it was

span_separated : (b : Bool) (l : Leaf) → span_of (if b then alone l else l) ≡ span_of l
span_separated true (as_leaf.Ident i) = refl
span_separated true (as_leaf.Punct p) = refl
span_separated true (as_leaf.Literal t) = refl
span_separated false l = refl

spans_behind : (xs ys zs : List Step) → map step_span ys ≡ map step_span zs → map step_span (xs ++ ys) ≡ map step_span (xs ++ zs)
spans_behind [] ys zs e = e
spans_behind (x ∷ xs) ys zs e = ap (λ l. step_span x ∷ l) (spans_behind xs ys zs e)

spans_separated : (f : Forest) → map step_span (walk f) ≡ map step_span (walk (separated f))
spans_separated empty = refl
spans_separated (leaf l rest) =
    ap (λ s. s ∷ map step_span (walk rest)) (sym (span_separated (is_punct ";" l) l))
    ∙ ap (λ ss. span_of (if is_punct ";" l then alone l else l) ∷ ss) (spans_separated rest)
spans_separated (group d inner rest) =
    ap (λ ss. d.open_span ∷ ss)
    (spans_behind (walk inner) (closes d.kind d.close_span ∷ walk rest) (closes d.kind d.close_span ∷ walk (separated rest))
    (ap (λ ss. d.close_span ∷ ss) (spans_separated rest)))

from_by_spans : (n : ℕ) (xs ys : List Step) → map step_span xs ≡ map step_span ys → AreFrom n xs → AreFrom n ys
from_by_spans n [] [] e h = tt
from_by_spans n [] (y ∷ ys) e h = cc
from_by_spans n (x ∷ xs) [] e h = cc
from_by_spans n (x ∷ xs) (y ∷ ys) e h =
    let first : step_span x ≡ step_span y = cc in
    let others : map step_span xs ≡ map step_span ys = cc in
    (subst (λ (s : Span). bare_pieces.IsFrom n s) first h.0, from_by_spans n xs ys others h.1)

follow_by_spans : (xs ys : List Step) → map step_span xs ≡ map step_span ys → FollowOneAnother xs → FollowOneAnother ys
follow_by_spans [] [] e h = tt
follow_by_spans [] (y ∷ ys) e h = cc
follow_by_spans (x ∷ xs) [] e h = cc
follow_by_spans (x ∷ xs) (y ∷ ys) e h =
    let first : step_span x ≡ step_span y = cc in
    let others : map step_span xs ≡ map step_span ys = cc in (
      subst (λ (s : Span). bare_pieces.IsFrom s.range.start s) first h.0,
      subst (λ (s : Span). AreFrom s.range.start ys) first (from_by_spans (step_span x).range.start xs ys others h.1),
      follow_by_spans xs ys others h.2,
    )

written_by_spans : (xs ys : List Step) → map step_span xs ≡ map step_span ys → AreWritten xs → AreWritten ys
written_by_spans [] [] e h = tt
written_by_spans [] (y ∷ ys) e h = cc
written_by_spans (x ∷ xs) [] e h = cc
written_by_spans (x ∷ xs) (y ∷ ys) e h =
    let first : step_span x ≡ step_span y = cc in
    let others : map step_span xs ≡ map step_span ys = cc in
    (subst (λ (s : Span). IsWritten s) first h.0, written_by_spans xs ys others h.1)

-- ---- places of trees

front_written : (xs ys : List Step) → AreWritten (xs ++ ys) → AreWritten xs
front_written [] ys h = tt
front_written (x ∷ xs) ys h = (h.0, front_written xs ys h.1)

back_written : (xs ys : List Step) → AreWritten (xs ++ ys) → AreWritten ys
back_written [] ys h = h
back_written (x ∷ xs) ys h = back_written xs ys h.1

written_spans : (f : Forest) → AreWritten (walk f) → AllSpans IsWritten f
written_spans empty h = tt
written_spans (leaf l rest) h = (h.0, written_spans rest h.1)
written_spans (group d inner rest) h =
    let last = back_written (walk inner) (closes d.kind d.close_span ∷ walk rest) h.1 in
    (h.0, last.0, written_spans inner (front_written (walk inner) (closes d.kind d.close_span ∷ walk rest) h.1), written_spans rest last.1)

front_all : {X : Type 0} → (P : X → Type 0) (xs ys : List X) → All P (xs ++ ys) → All P xs
front_all P [] ys h = All-nil P
front_all P (x ∷ xs) ys h = All-cons P x xs (All-head P x (xs ++ ys) h) (front_all P xs ys (All-tail P x (xs ++ ys) h))

back_all : {X : Type 0} → (P : X → Type 0) (xs ys : List X) → All P (xs ++ ys) → All P ys
back_all P [] ys h = h
back_all P (x ∷ xs) ys h = back_all P xs ys (All-tail P x (xs ++ ys) h)

token_spans : (n : ℕ) (f : Forest) → All (StandsFrom n) (preorder f) → AllSpans (bare_pieces.IsFrom n) f
token_spans n empty h = tt
token_spans n (leaf l rest) h = (All-head (StandsFrom n) (token.Leaf l) (preorder rest) h, token_spans n rest (All-tail (StandsFrom n) (token.Leaf l) (preorder rest) h))
token_spans n (group d inner rest) h =
    let first = All-head (StandsFrom n) (head_of d (size inner)) (preorder inner ++ preorder rest) h in
    let others = All-tail (StandsFrom n) (head_of d (size inner)) (preorder inner ++ preorder rest) h in (
      first.0,
      first.1,
      token_spans n inner (front_all (StandsFrom n) (preorder inner) (preorder rest) others),
      token_spans n rest (back_all (StandsFrom n) (preorder inner) (preorder rest) others),
    )

both_here : (n : ℕ) (s : Span) → bare_pieces.IsFrom n s → IsWritten s → IsFrom (own_place n) s
both_here n s a b = record { starts = a.0; ends = a.1; anchor = b.0; ctx = b.1 }

both_spans : (n : ℕ) (f : Forest) → AllSpans (bare_pieces.IsFrom n) f → AllSpans IsWritten f → AllSpans (IsFrom (own_place n)) f
both_spans n empty h k = tt
both_spans n (leaf l rest) h k = (both_here n (span_of l) h.0 k.0, both_spans n rest h.1 k.1)
both_spans n (group d inner rest) h k =
    (both_here n d.open_span h.0 k.0, both_here n d.close_span h.1 k.1, both_spans n inner h.2 k.2, both_spans n rest h.3 k.3)

first_same : (p : Forest) → bare_pieces.first_start p ≡ first_start p
first_same empty = refl
first_same (leaf l rest) = refl
first_same (group d inner rest) = refl

-- ---- pieces

-- what the layer below says of the order of tokens
pub record OrderLaws : Type 0 where
  pub walk_read : (steps : List TextStep) (f : Forest) → reading steps ≡ Ok f → IsReading steps f
  pub text : (text : List ℕ) (f : Forest) → IsUtf8 text → IsReading (text_steps text) f → FollowOneAnother (walk f)
  pub part : (before p after : Forest) → FollowOneAnother (walk (joined before (joined p after))) → FollowOneAnother (walk p)
  pub piece : (p : Forest) → FollowOneAnother (walk p) → StandsBehindFirst p
  pub written : (text : List ℕ) (f : Forest) → IsReading (text_steps text) f → AreWritten (walk f)

joined_first : (P : Span → Type 0) (f g : Forest) → AllSpans P (joined f g) → AllSpans P f
joined_first P empty g h = tt
joined_first P (leaf l f) g h = (h.0, joined_first P f g h.1)
joined_first P (group d a f) g h = (h.0, h.1, h.2, joined_first P f g h.3)

joined_last : (P : Span → Type 0) (f g : Forest) → AllSpans P (joined f g) → AllSpans P g
joined_last P empty g h = h
joined_last P (leaf l f) g h = joined_last P f g h.1
joined_last P (group d a f) g h = joined_last P f g h.3

module _ (laws : OrderLaws) where
  stands : (p : Forest) → FollowOneAnother (walk p) → AllSpans IsWritten p → StandFromFirst p
  stands p follows are_written =
      both_spans (first_start p) p (subst (λ (n : ℕ). AllSpans (bare_pieces.IsFrom n) p) (first_same p) (token_spans (bare_pieces.first_start p) p (laws.piece p follows)))
      are_written

  all_stand : (before : Forest) (ps : List Forest) → FollowOneAnother (walk (joined before (put_together ps))) → AllSpans IsWritten (put_together ps) → All StandFromFirst ps
  all_stand before [] follows are_written = All-nil StandFromFirst
  all_stand before (p ∷ ps) follows are_written =
      All-cons StandFromFirst p ps
      (stands p (laws.part before p (put_together ps) follows) (joined_first IsWritten p (put_together ps) are_written))
      (all_stand (joined before p) ps
      (subst (λ (f : Forest). FollowOneAnother (walk f)) (sym (joined_assoc before p (put_together ps))) follows)
      (joined_last IsWritten p (put_together ps) are_written))

  -- the pieces of a text that was read
  pub pieces_stand : (text : List ℕ) (f : Forest) → IsUtf8 text → text_reading text ≡ Ok f → All StandFromFirst (pieces f)
  pieces_stand text f is_text is_read =
      let walks : IsReading (text_steps text) f = laws.walk_read (text_steps text) f is_read in
      let same : put_together (cut (separated f)) ≡ separated f = put_together-cut (separated f) in
      all_stand empty (cut (separated f))
      (subst (λ (g : Forest). FollowOneAnother (walk g)) (sym same)
      (follow_by_spans (walk f) (walk (separated f)) (spans_separated f) (laws.text text f is_text walks)))
      (subst (λ (g : Forest). AllSpans IsWritten g) (sym same)
      (written_spans (separated f) (written_by_spans (walk f) (walk (separated f)) (spans_separated f) (laws.written text f walks))))
