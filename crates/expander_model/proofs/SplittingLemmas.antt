-- A piece is cut off, tree by tree.
use Rattle.std.proofs.Common.{◌≡◌, ◌≢◌, ◌<◌, ◌≤◌, List, [], ◌∷◌, refl, sym, ap, ◌∙◌, arith, Bool, true, false, if◌then◌else◌}
use Rattle.tt_data.specs.Forest.{Forest, empty, leaf, group, joined, size}
use Rattle.tt_data.specs.Flat.{joined-empty}
use Rattle.tt.specs.FirstTrees.{first_group, first_leaf}
use Rattle.tt_data.specs.declared.delimiter.Delimiter.{Delimiter}
use Rattle.tt_data.specs.declared.leaf.Leaf.{Leaf}
use Rattle.expander_model.specs.Pieces.{cut, cut_from, ends_piece, put_together}
use Rattle.expander_model.specs.Splitting.{PassesTree}
use Rattle.bridge.specs.Text.{is_punct}
use Rattle.std.specs.Prelude.{All, Some, None}
use Rattle.std.proofs.lemmas.List.Elements.{All-nil, All-cons}
use Rattle.tt.proofs.Steps.{joined-left}
use Rattle.tt_data.proofs.ForestLemmas.{joined_assoc, size-joined}

-- a piece that is begun: its trees so far and those to come are all that was left, and the pieces are the same
pub record IsBegun (old rest begun : Forest) : Type 0 where
  pub split : old ≡ joined begun rest
  pub same : cut_from rest begun ≡ cut old

pub nothing_begun : (old : Forest) → IsBegun old old empty
nothing_begun old = record { split = refl; same = refl }

cut_leaf : (b : Bool) (x : Forest) (xs ys : List Forest) → b ≡ true → (if b then x ∷ xs else ys) ≡ x ∷ xs
cut_leaf true x xs ys e = refl
cut_leaf false x xs ys e = cc

not_cut : (b : Bool) (xs ys : List Forest) → b ≡ false → (if b then xs else ys) ≡ ys
not_cut true xs ys e = cc
not_cut false xs ys e = refl

pub leaf_more : (old rest begun : Forest) (l : Leaf) → IsBegun old (leaf l rest) begun → is_punct ";" l ≡ false
    → IsBegun old rest (joined begun (leaf l empty))
leaf_more old rest begun l b test = record {
  split = b.split ∙ sym (joined_assoc begun (leaf l empty) rest);
  same = sym (not_cut (is_punct ";" l) _ _ test) ∙ b.same;
}

pub leaf_ends : (old rest begun : Forest) (l : Leaf) → IsBegun old (leaf l rest) begun → is_punct ";" l ≡ true
    → cut old ≡ joined begun (leaf l empty) ∷ cut rest
leaf_ends old rest begun l b test = sym b.same ∙ cut_leaf (is_punct ";" l) _ _ _ test

pub group_more : (old inner rest begun : Forest) (d : Delimiter) → IsBegun old (group d inner rest) begun → ends_piece begun d ≡ false
    → IsBegun old rest (joined begun (group d inner empty))
group_more old inner rest begun d b test = record {
  split = b.split ∙ sym (joined_assoc begun (group d inner empty) rest);
  same = sym (not_cut (ends_piece begun d) _ _ test) ∙ b.same;
}

pub group_ends : (old inner rest begun : Forest) (d : Delimiter) → IsBegun old (group d inner rest) begun → ends_piece begun d ≡ true
    → cut old ≡ joined begun (group d inner empty) ∷ cut rest
group_ends old inner rest begun d b test = sym b.same ∙ cut_leaf (ends_piece begun d) _ _ _ test

pub last_piece : (old begun : Forest) → old ≢ empty → IsBegun old empty begun → cut old ≡ begun ∷ []
last_piece old empty some b = absurd (some b.split)
last_piece old (leaf l begun) some b = sym b.same
last_piece old (group d inner begun) some b = sym b.same

-- what is left is less, once a tree was passed
pub left_size : (old rest begun : Forest) → old ≡ joined begun rest → size rest ≤ size old
left_size old rest begun e = omega (arith, ap size e, size-joined begun rest)

passes_by : (begun old new tree : Forest) (b : Bool) → old ≡ joined tree new → size new < size old
    → cut_from old begun ≡ (if b then joined begun tree ∷ cut new else cut_from new (joined begun tree)) → PassesTree begun old new (Some b)
passes_by begun old new tree true split less e = (tree, (split, e, less))
passes_by begun old new tree false split less e = (tree, (split, e, less))

-- one tree passed
pub passes_leaf : (begun old new : Forest) (l : Leaf) (b : Bool) → old ≡ leaf l new → b ≡ is_punct ";" l → PassesTree begun old new (Some b)
passes_leaf begun old new l b e test =
    passes_by begun old new (leaf l empty) b e (omega (arith, ap size e)) (rw (e, test) refl)

pub passes_group : (begun old new inner : Forest) (d : Delimiter) (b : Bool) → old ≡ group d inner new → b ≡ ends_piece begun d → PassesTree begun old new (Some b)
passes_group begun old new inner d b e test =
    passes_by begun old new (group d inner empty) b e (omega (arith, ap size e)) (rw (e, test) refl)

-- the trees that the code passed are those of the piece begun
pub is_passed : (start old rest begun passed : Forest) → start ≡ old → IsBegun old rest begun → start ≡ joined passed rest → IsBegun old rest passed
is_passed start old rest begun passed same b e =
    let is : passed ≡ begun = joined-left passed begun rest (sym e ∙ same ∙ b.split) in
    rw is b

pub ends_text : (old rest new begun : Forest) → old ≢ empty → IsBegun old rest begun → PassesTree begun rest new None
    → (cut old ≡ begun ∷ cut new) × (size new < size old)
ends_text old rest new begun some b e =
    let at_end : IsBegun old empty begun = rw e.0 at b in
    let none : new ≡ empty = e.1 ∙ e.0 in
    (rw none (last_piece old begun some at_end), rw none (grown old some))
  where
    grown : (f : Forest) → f ≢ empty → 0 < size f
    grown empty h = absurd (h refl)
    grown (leaf l f) h = omega arith
    grown (group d f g) h = omega arith

split_more : (old rest new begun tree : Forest) → old ≡ joined begun rest → rest ≡ joined tree new → old ≡ joined (joined begun tree) new
split_more old rest new begun tree e h = e ∙ ap (joined begun) h ∙ sym (joined_assoc begun tree new)

pub ends_here : (old rest new begun piece : Forest) → IsBegun old rest begun → PassesTree begun rest new (Some true) → old ≡ joined piece new
    → (cut old ≡ piece ∷ cut new) × (size new < size old)
ends_here old rest new begun piece b (tree, p) e =
    let is : piece ≡ joined begun tree = joined-left piece (joined begun tree) new (sym e ∙ split_more old rest new begun tree b.split p.0) in
    (sym b.same ∙ p.1 ∙ ap (λ f. f ∷ cut new) (sym is), omega (arith, p.2, left_size old rest begun b.split))

pub passed_whole : (old rest new begun : Forest) → IsBegun old rest begun → PassesTree begun rest new (Some true) → (f : Forest) × (old ≡ joined f new)
passed_whole old rest new begun b (tree, p) = (joined begun tree, split_more old rest new begun tree b.split p.0)

pub goes_on : (old rest new begun : Forest) → IsBegun old rest begun → PassesTree begun rest new (Some false) → (f : Forest) × IsBegun old new f
goes_on old rest new begun b (tree, p) =
    (joined begun tree, record { split = split_more old rest new begun tree b.split p.0; same = sym p.1 ∙ b.same })

-- ---- all pieces together

put_or : (b : Bool) (xs ys : List Forest) (f : Forest) → put_together xs ≡ f → put_together ys ≡ f → put_together (if b then xs else ys) ≡ f
put_or true xs ys f e h = e
put_or false xs ys f e h = h

put_together-cut_from : (f begun : Forest) → put_together (cut_from f begun) ≡ joined begun f
put_together-cut_from empty empty = refl
put_together-cut_from empty (leaf l begun) = refl
put_together-cut_from empty (group d inner begun) = refl
put_together-cut_from (leaf l rest) begun =
    put_or (is_punct ";" l) _ _ (joined begun (leaf l rest))
    (ap (joined (joined begun (leaf l empty))) (put_together-cut_from rest empty) ∙ joined_assoc begun (leaf l empty) rest)
    (put_together-cut_from rest (joined begun (leaf l empty)) ∙ joined_assoc begun (leaf l empty) rest)
put_together-cut_from (group d inner rest) begun =
    put_or (ends_piece begun d) _ _ (joined begun (group d inner rest))
    (ap (joined (joined begun (group d inner empty))) (put_together-cut_from rest empty) ∙ joined_assoc begun (group d inner empty) rest)
    (put_together-cut_from rest (joined begun (group d inner empty)) ∙ joined_assoc begun (group d inner empty) rest)

-- the pieces one after another are the list
pub put_together-cut : (f : Forest) → put_together (cut f) ≡ f
put_together-cut f = put_together-cut_from f empty

-- ---- each piece by itself

-- trees met since the last cut: with more behind them they are cut in the same way
abbrev IsOpen : Forest → Type 0
IsOpen begun = (more : Forest) → cut (joined begun more) ≡ cut_from more begun

abbrev pub IsCutAlone : Forest → Type 0
IsCutAlone p = cut p ≡ p ∷ []

-- the tree at which a list goes on ends no piece
open_more : (begun one : Forest) (before : Forest → Forest) → IsOpen begun → ((more : Forest) → joined one more ≡ before more)
    → ((more : Forest) → cut_from (before more) begun ≡ cut_from more (joined begun one)) → IsOpen (joined begun one)
open_more begun one before is_open first goes_on =
    λ more. ap cut (joined_assoc begun one more ∙ ap (joined begun) (first more)) ∙ is_open (before more) ∙ goes_on more

-- or ends one
ended_alone : (begun one : Forest) → IsOpen begun → cut_from one begun ≡ joined begun one ∷ [] → IsCutAlone (joined begun one)
ended_alone begun one is_open ends = is_open one ∙ ends

left_alone : (begun : Forest) → IsOpen begun → cut_from empty begun ≡ begun ∷ [] → IsCutAlone begun
left_alone begun is_open ends = ap cut (sym (joined-empty begun)) ∙ is_open empty ∙ ends

all_or : (b : Bool) (x : Forest) (xs ys : List Forest) → (b ≡ true → IsCutAlone x) → All IsCutAlone xs → (b ≡ false → All IsCutAlone ys)
    → All IsCutAlone (if b then x ∷ xs else ys)
all_or true x xs ys first more other = All-cons IsCutAlone x xs (first refl) more
all_or false x xs ys first more other = other refl

all_alone : (f begun : Forest) → IsOpen begun → All IsCutAlone (cut_from f begun)
all_alone empty empty is_open = All-nil IsCutAlone
all_alone empty (leaf l begun) is_open = All-cons IsCutAlone (leaf l begun) [] (left_alone (leaf l begun) is_open refl) (All-nil IsCutAlone)
all_alone empty (group d inner begun) is_open = All-cons IsCutAlone (group d inner begun) [] (left_alone (group d inner begun) is_open refl) (All-nil IsCutAlone)
all_alone (leaf l rest) begun is_open =
    all_or (is_punct ";" l) _ _ _
    (λ e. ended_alone begun (leaf l empty) is_open (cut_leaf (is_punct ";" l) _ _ _ e))
    (all_alone rest empty (λ more. refl))
    (λ e. all_alone rest (joined begun (leaf l empty)) (open_more begun (leaf l empty) (leaf l) is_open (λ more. refl) (λ more. not_cut (is_punct ";" l) _ _ e)))
all_alone (group d inner rest) begun is_open =
    all_or (ends_piece begun d) _ _ _
    (λ e. ended_alone begun (group d inner empty) is_open (cut_leaf (ends_piece begun d) _ _ _ e))
    (all_alone rest empty (λ more. refl))
    (λ e. all_alone rest (joined begun (group d inner empty)) (open_more begun (group d inner empty) (group d inner) is_open (λ more. refl) (λ more. not_cut (ends_piece begun d) _ _ e)))

-- each piece is one piece: no tree of it but the last ends one
pub cut_alone : (f : Forest) → All IsCutAlone (cut f)
cut_alone f = all_alone f empty (λ more. refl)

-- ---- the tree that comes next

pub a_leaf : (f : Forest) (x : Leaf × Forest) → first_leaf f ≡ Some x → f ≡ leaf x.0 x.1
a_leaf empty x e = absurd (cc e)
a_leaf (group d inner rest) x e = absurd (cc e)
a_leaf (leaf l rest) x e = let i : (let y : Leaf × Forest = (l, rest) in y) ≡ x = cc in ap (λ (y : Leaf × Forest). leaf y.0 y.1) i

pub a_group : (f : Forest) (x : Delimiter × Forest × Forest) → first_group f ≡ Some x → f ≡ group x.0 x.1 x.2
a_group empty x e = absurd (cc e)
a_group (leaf l rest) x e = absurd (cc e)
a_group (group d inner rest) x e =
    let i : (let y : Delimiter × Forest × Forest = (d, inner, rest) in y) ≡ x = cc in ap (λ (y : Delimiter × Forest × Forest). group y.0 y.1 y.2) i

pub no_tree : (begun f : Forest) → first_leaf f ≡ None → first_group f ≡ None → PassesTree begun f f None
no_tree begun empty e g = (refl, refl)
no_tree begun (leaf l rest) e g = absurd (cc e)
no_tree begun (group d inner rest) e g = absurd (cc g)
