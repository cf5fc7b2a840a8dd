-- Flat lists that hold one group, and the last token of a flat list.
use Rattle.std.proofs.Common.{◌≡◌, ◌≢◌, ◌-◌, ◌<◌, length, List, ◌∷◌, take, drop, ap, refl, sym, ◌∙◌, arith, true, Some, None, option_map, slice_get}
use Rattle.std.proofs.lemmas.Bool.{false≢true}
use Rattle.std.proofs.lemmas.List.{take_rest, drop_all, length-drop, append-nil}
use Rattle.tt_data.specs.declared.delimiter.Delimiter.{Delimiter}
use Rattle.tt_data.specs.declared.tree.Subtree.{Subtree}
use Rattle.tt_data.specs.declared.tree.TokenTree.{TokenTree}
use Rattle.tt_data.specs.declared.tree.TokenTree.TheVariants as token
use Rattle.tt_data.specs.Forest.{Forest, empty, leaf, group, preorder, head_of, front, back, IsPreorder, forest_of, size}
use Rattle.tt_data.specs.Flat.{Parts, parts, IsPreorder-preorder, forest_of-preorder}
use Rattle.tt.specs.Elements.{last_span_of, last_place}
use Rattle.tt.specs.Groups.{group_in, is_one_group}
use Rattle.tt.specs.Tops.{only_group}
use Rattle.tt.specs.Tops.{Top}
use Rattle.tt.proofs.Limits.{size-whole}

-- the token at the end of a flat list is the last of its forest
pub last_of : (tokens : List TokenTree) (t : TokenTree) → IsPreorder tokens → Some t ≡ slice_get tokens (length tokens - 1)
    → Some (last_span_of t) ≡ last_place (forest_of tokens)
last_of tokens t whole last = rw (whole, size-whole tokens whole) (ap (option_map last_span_of) last)

-- one group is that group with nothing after it
pub one_is : (f : Forest) → is_one_group f ≡ true → f ≡ group (group_in f).delimiter (group_in f).inner empty
one_is empty one = absurd (false≢true one)
one_is (leaf l rest) one = absurd (false≢true one)
one_is (group d inner empty) one = refl
one_is (group d inner (leaf l rest)) one = absurd (false≢true one)
one_is (group d inner (group e more rest)) one = absurd (false≢true one)

-- and the one that it is
pub only_is : (f : Forest) → is_one_group f ≡ true → Some (group_in f) ≡ only_group f
only_is f one = rw (one_is f one) refl

-- a head that counts all tokens after it begins one group
pub counts_all : (tokens more : List TokenTree) (s : Subtree) → IsPreorder tokens → tokens ≡ token.Subtree s ∷ more → s.len ≡ length more
    → is_one_group (forest_of tokens) ≡ true
counts_all tokens more s whole all counted =
    let p : Parts s more = parts s more (rw all at whole) in
    let none : back s.len (forest_of more) ≡ empty =
    sym p.rest_is ∙ ap forest_of (drop_all s.len more (omega (arith, counted))) in
    rw (all, none) refl

-- a group with trees after it is not one group
only_more : (d : Delimiter) (inner rest : Forest) → 0 < size rest → None ≡ only_group (group d inner rest)
only_more d inner empty more = absurd (omega arith)
only_more d inner (leaf l rest) more = refl
only_more d inner (group e f rest) more = refl

-- one that counts fewer does not
pub counts_fewer : (tokens more : List TokenTree) (s : Subtree) → IsPreorder tokens → tokens ≡ token.Subtree s ∷ more → s.len ≢ length more
    → None ≡ only_group (forest_of tokens)
counts_fewer tokens more s whole all fewer =
    let p : Parts s more = parts s more (rw all at whole) in
    let left : size (back s.len (forest_of more)) ≡ length more - s.len =
    ap size (sym p.rest_is) ∙ (size-whole (drop s.len more) p.rest_whole ∙ length-drop s.len more) in
    rw all (only_more s.delimiter (front s.len (forest_of more)) (back s.len (forest_of more)) (omega (arith, left, p.fits, fewer)))

-- what comes after the head of one group
pub record Inside (tokens : List TokenTree) : Type 0 where
  pub whole : IsPreorder (take (length tokens - 1) (drop 1 tokens))
  pub trees : forest_of (take (length tokens - 1) (drop 1 tokens)) ≡ (group_in (forest_of tokens)).inner
  pub some : 0 < length tokens

pub inside_of : (tokens : List TokenTree) → IsPreorder tokens → is_one_group (forest_of tokens) ≡ true → Inside tokens
inside_of tokens whole one =
    let t : Top = group_in (forest_of tokens) in
    let all : tokens ≡ preorder (group t.delimiter t.inner empty) = sym whole ∙ ap preorder (one_is (forest_of tokens) one) in
    let below : take (length tokens - 1) (drop 1 tokens) ≡ preorder t.inner =
    take_rest tokens 1 ∙ (ap (drop 1) all ∙ append-nil (preorder t.inner)) in
    record {
      whole = rw below (IsPreorder-preorder t.inner);
      trees = rw below (forest_of-preorder t.inner);
      some = omega (arith, ap length all);
    }

-- and the head itself
pub head_is : (tokens : List TokenTree) (t : TokenTree) → IsPreorder tokens → is_one_group (forest_of tokens) ≡ true → Some t ≡ slice_get tokens 0
    → t ≡ head_of (group_in (forest_of tokens)).delimiter (size (group_in (forest_of tokens)).inner)
head_is tokens t whole one first =
    let o : Top = group_in (forest_of tokens) in
    let all : tokens ≡ preorder (group o.delimiter o.inner empty) = sym whole ∙ ap preorder (one_is (forest_of tokens) one) in
    let found : Some t ≡ Some (head_of o.delimiter (size o.inner)) = first ∙ ap (λ ts. slice_get ts 0) all in
    cc
