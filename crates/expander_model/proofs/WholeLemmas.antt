-- One whole piece, wherever it is and whatever follows.
use Rattle.std.proofs.Common.{◌≡◌, ◌≢◌, [], ◌<◌, Bool, true, false, ◌∷◌, refl, ap, sym, subst, ◌∙◌, arith, if◌then◌else◌}
use Rattle.std.specs.Prelude.{◌&&◌, ◌||◌, Some}
use Rattle.tt.proofs.Steps.{joined-left}
use Prim.Native.String.{String}
use Rattle.tt_data.specs.Flat.{joined-empty}
use Rattle.tt_data.specs.Forest.{Forest, empty, leaf, group, joined, map_spans, size}
use Rattle.tt_data.specs.Spans.{delimiter_with, leaf_with}
use Rattle.tt_data.specs.declared.delimiter.Delimiter.{Delimiter}
use Rattle.tt_data.specs.declared.delimiter.DelimiterKind.TheVariants.{Brace, Bracket}
use Rattle.tt_data.specs.declared.leaf.Leaf.{Leaf}
use Rattle.tt_data.specs.declared.leaf.Leaf.TheVariants as as_leaf
use Rattle.tt_data.specs.declared.span.Span.{Span}
use Rattle.tt_data.proofs.ForestLemmas.{map_spans-joined, joined_assoc}
use Rattle.bridge.specs.Text.{is_punct, same_kind}
use Rattle.expander_model.specs.Splitting.{EndsAlways, IsOpen, IsWhole, PassesAlways}
use Rattle.expander_model.specs.Pieces.{cut, cut_from, ends_piece, is_pound_bang}

-- ---- whether a tree ends a piece does not hang on places

is_punct_with : (c : String) (f : Span → Span) (l : Leaf) → is_punct c (leaf_with f l) ≡ is_punct c l
is_punct_with c f (as_leaf.Literal l) = refl
is_punct_with c f (as_leaf.Punct p) = refl
is_punct_with c f (as_leaf.Ident i) = refl

is_pound_bang_with : (f : Span → Span) (g : Forest) → is_pound_bang (map_spans f g) ≡ is_pound_bang g
is_pound_bang_with f empty = refl
is_pound_bang_with f (leaf l empty) = refl
is_pound_bang_with f (leaf l (leaf m empty)) = rw (is_punct_with "#" f l, is_punct_with "!" f m) refl
is_pound_bang_with f (leaf l (leaf m (leaf n rest))) = refl
is_pound_bang_with f (leaf l (leaf m (group d inner rest))) = refl
is_pound_bang_with f (leaf l (group d inner rest)) = refl
is_pound_bang_with f (group d inner rest) = refl

ends_piece_with : (f : Span → Span) (begun : Forest) (d : Delimiter) → ends_piece (map_spans f begun) (delimiter_with f d) ≡ ends_piece begun d
ends_piece_with f begun d = ap (λ (b : Bool). same_kind d.kind Brace || (same_kind d.kind Bracket && b)) (is_pound_bang_with f begun)

-- ---- tree by tree

pub leaf_always : (l : Leaf) (begun : Forest) (b : Bool) → b ≡ is_punct ";" l → EndsAlways b begun (leaf l empty)
leaf_always l begun b e f after =
    ap (λ (t : Bool). if t then joined (map_spans f begun) (leaf (leaf_with f l) empty) ∷ cut after else cut_from after (joined (map_spans f begun) (leaf (leaf_with f l) empty)))
    (is_punct_with ";" f l ∙ sym e)

pub group_always : (d : Delimiter) (inner begun : Forest) (b : Bool) → b ≡ ends_piece begun d → EndsAlways b begun (group d inner empty)
group_always d inner begun b e f after =
    let tree : Forest = group (delimiter_with f d) (map_spans f inner) empty in
    ap (λ (t : Bool). if t then joined (map_spans f begun) tree ∷ cut after else cut_from after (joined (map_spans f begun) tree))
    (ends_piece_with f begun d ∙ sym e)

-- one tree passed
pub passes_leaf_always : (begun old new : Forest) (l : Leaf) (b : Bool) → old ≡ leaf l new → b ≡ is_punct ";" l → PassesAlways begun old new (Some b)
passes_leaf_always begun old new l b e test = (leaf l empty, (e, leaf_always l begun b test, omega (arith, ap size e)))

pub passes_group_always : (begun old new inner : Forest) (d : Delimiter) (b : Bool) → old ≡ group d inner new → b ≡ ends_piece begun d → PassesAlways begun old new (Some b)
passes_group_always begun old new inner d b e test = (group d inner empty, (e, group_always d inner begun b test, omega (arith, ap size e)))

-- a piece that is begun, at any places and whatever follows
pub record IsBegunAlways (old rest begun : Forest) : Type 0 where
  pub split : old ≡ joined begun rest
  pub same : (f : Span → Span) (after : Forest) → cut_from (joined (map_spans f rest) after) (map_spans f begun) ≡ cut (joined (map_spans f old) after)

pub none_begun : (old : Forest) → IsBegunAlways old old empty
none_begun old = record { split = refl; same = λ f after. refl }

-- the trees that the code passed are those of the piece begun
pub passed_always : (start old rest begun passed : Forest) → start ≡ old → IsBegunAlways old rest begun → start ≡ joined passed rest → IsBegunAlways old rest passed
passed_always start old rest begun passed same b e =
    let is : passed ≡ begun = joined-left passed begun rest (sym e ∙ same ∙ b.split) in
    subst (IsBegunAlways old rest) (sym is) b

split_always : (f : Span → Span) (rest new tree after : Forest) → rest ≡ joined tree new
    → joined (map_spans f rest) after ≡ joined (map_spans f tree) (joined (map_spans f new) after)
split_always f rest new tree after e =
    ap (λ (g : Forest). joined (map_spans f g) after) e ∙ ap (λ (g : Forest). joined g after) (map_spans-joined f tree new)
    ∙ joined_assoc (map_spans f tree) (map_spans f new) after

pub more_always : (old rest new begun tree : Forest) → IsBegunAlways old rest begun → rest ≡ joined tree new → EndsAlways false begun tree
    → IsBegunAlways old new (joined begun tree)
more_always old rest new begun tree b e goes = record {
  split = b.split ∙ ap (joined begun) e ∙ sym (joined_assoc begun tree new);
  same = λ f after.
      ap (cut_from (joined (map_spans f new) after)) (map_spans-joined f begun tree)
      ∙ sym (goes f (joined (map_spans f new) after))
      ∙ ap (λ (g : Forest). cut_from g (map_spans f begun)) (sym (split_always f rest new tree after e))
      ∙ b.same f after;
}

pub ends_always : (old rest new begun tree : Forest) → IsBegunAlways old rest begun → rest ≡ joined tree new → new ≡ empty → EndsAlways true begun tree → IsWhole old
ends_always old rest new begun tree b e none ends f after =
    let nothing : rest ≡ tree = e ∙ ap (joined tree) none ∙ joined-empty tree in
    let all : joined (map_spans f begun) (map_spans f tree) ≡ map_spans f old =
    sym (map_spans-joined f begun tree) ∙ ap (map_spans f) (ap (joined begun) (sym nothing) ∙ sym b.split) in
    sym (b.same f after)
    ∙ ap (λ (g : Forest). cut_from g (map_spans f begun)) (split_always f rest new tree after e)
    ∙ ends f (joined (map_spans f new) after)
    ∙ ap (λ (g : Forest). joined (map_spans f begun) (map_spans f tree) ∷ cut (joined (map_spans f g) after)) none
    ∙ ap (λ (g : Forest). g ∷ cut after) all

pub goes_always : (old rest new begun : Forest) → IsBegunAlways old rest begun → PassesAlways begun rest new (Some false)
    → ((f : Forest) × IsBegunAlways old new f) × (size new < size rest)
goes_always old rest new begun b (tree, p) = ((joined begun tree, more_always old rest new begun tree b p.0 p.1), p.2)

pub whole_always : (old rest new begun : Forest) → IsBegunAlways old rest begun → PassesAlways begun rest new (Some true) → new ≡ empty → IsWhole old
whole_always old rest new begun b (tree, p) none = ends_always old rest new begun tree b p.0 none p.1

-- ---- trees that nothing ends

one_begun : (g : Forest) → g ≢ empty → cut_from empty g ≡ g ∷ []
one_begun empty some = absurd (some refl)
one_begun (leaf l rest) some = refl
one_begun (group d inner rest) some = refl

some_with : (f : Span → Span) (g : Forest) → g ≢ empty → map_spans f g ≢ empty
some_with f empty some = some
some_with f (leaf l rest) some = λ e. cc
some_with f (group d inner rest) some = λ e. cc

pub open_always : (old rest begun : Forest) → IsBegunAlways old rest begun → rest ≡ empty → old ≢ empty → IsOpen old
open_always old rest begun b none some f =
    let all : begun ≡ old = sym (joined-empty begun) ∙ ap (joined begun) (sym none) ∙ sym b.split in
    ap cut (sym (joined-empty (map_spans f old))) ∙ sym (b.same f empty)
    ∙ ap (λ (g : Forest). cut_from (joined (map_spans f g) empty) (map_spans f begun)) none
    ∙ ap (λ (g : Forest). cut_from empty (map_spans f g)) all
    ∙ one_begun (map_spans f old) (some_with f old some)
