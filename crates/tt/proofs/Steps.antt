-- Steps over a flat list: over a group at its front, and over all up to a later rest.
use Rattle.std.proofs.Common.{◌≡◌, ◌≤◌, ◌+◌, ◌-◌, ◌++◌, length, List, ◌∷◌, take, drop, ap, refl, ◌∙◌, sym, arith, length-append, Some}
use Rattle.tt_data.specs.Forest.{Forest, empty, leaf, group, joined, preorder, front, IsPreorder, forest_of, size}
use Rattle.tt_data.proofs.ForestLemmas.{size-joined}
use Rattle.tt_data.specs.Flat.{Parts, parts, front-joined, preorder-joined, length-preorder, take-preorder, IsPreorder-preorder, forest_of-preorder}
use Rattle.tt.specs.Elements.{elements, IsNext, first_alone}
use Rattle.tt.specs.declared.iter.TtElement.{TtElement}
use Rattle.tt_data.specs.declared.tree.Subtree.{Subtree}
use Rattle.tt_data.specs.declared.tree.TokenTree.{TokenTree}
use Rattle.tt_data.specs.declared.tree.TokenTree.TheVariants as token
use Rattle.tt.specs.declared.iter.TtElement.TheVariants as element

-- what the step passes, what is left, and what a walk gives for it
pub record Step (s : Subtree) (tokens inner rest : List TokenTree) : Type 0 where
  pub inner_whole : IsPreorder inner
  pub rest_whole : IsPreorder rest
  pub next : (forest_of tokens ≡ group s.delimiter (forest_of inner) (forest_of rest)) × (s.len ≡ size (forest_of inner))
  pub gives : elements (forest_of tokens) ≡ element.Subtree s (forest_of inner) ∷ elements (forest_of rest)

-- a group has no more tokens than follow it
pub fits : (s : Subtree) (tokens more : List TokenTree) → IsPreorder tokens → tokens ≡ token.Subtree s ∷ more → s.len ≤ length more
fits s tokens more whole all = (parts s more (rw all at whole)).fits

-- the step over a group splits what follows it where the group ends
pub step : (s : Subtree) (tokens more inner rest : List TokenTree) → IsPreorder tokens → tokens ≡ token.Subtree s ∷ more
    → inner ≡ take s.len more → rest ≡ drop s.len more → Step s tokens inner rest
step s tokens more inner rest whole all front_is back_is =
    let p : Parts s more = parts s more (rw all at whole) in
    record {
      inner_whole = rw front_is p.inner_whole;
      rest_whole = rw back_is p.rest_whole;
      next = (rw (all, front_is, back_is, p.inner_is, p.rest_is) refl, rw (front_is, p.inner_is, p.counted) refl);
      gives = rw (all, front_is, back_is, p.inner_is, p.rest_is, p.counted) refl;
    }

-- a list of trees that ends in another: what comes before that other is whole trees
pub record Passed (all rest : List TokenTree) (now : Forest) : Type 0 where
  pub fits : length rest ≤ length all
  pub whole : IsPreorder (take (length all - length rest) all)
  pub all_is : forest_of all ≡ joined (forest_of (take (length all - length rest) all)) now

-- where the trees of a list are some trees and then those that another has now, it ends in that other
pub passed_of : (all rest : List TokenTree) (now : Forest) → IsPreorder all → IsPreorder rest → forest_of rest ≡ now
    → (passed : Forest) × (forest_of all ≡ joined passed now) → Passed all rest now
passed_of all rest now all_whole rest_whole left some =
    let passed : Forest = some.0 in
    let trees : forest_of all ≡ joined passed (forest_of rest) = some.1 ∙ ap (joined passed) (sym left) in
    let split : preorder passed ++ rest ≡ all =
    ap (λ t. preorder passed ++ t) (sym rest_whole) ∙ sym (preorder-joined passed (forest_of rest)) ∙ ap preorder (sym trees) ∙ all_whole in
    let sum : length (preorder passed) + length rest ≡ length all = sym (length-append (preorder passed) rest) ∙ ap length split in
    let counted : length all - length rest ≡ size passed = omega (arith, sum, length-preorder passed) in
    let front_is : take (length all - length rest) all ≡ preorder passed = rw (counted, ← split) (take-preorder passed rest) in
    record {
      fits = omega (arith, sum);
      whole = rw front_is (IsPreorder-preorder passed);
      all_is = rw (front_is, forest_of-preorder passed) some.1;
    }

-- a step passes one tree
pub passed_one : (then old new : Forest) (t : TtElement) → then ≡ old → IsNext old (Some t) new → (passed : Forest) × (then ≡ joined passed new)
passed_one then old new (element.Leaf l) same next = (leaf l empty, same ∙ next)
passed_one then old new (element.Subtree s inner) same next = (group s.delimiter inner empty, same ∙ next.0)

-- two forests that make one with the same trees after them are the same
pub joined-left : (a b f : Forest) → joined a f ≡ joined b f → a ≡ b
joined-left a b f e =
    let counted : size a ≡ size b = omega (arith, ap size e, size-joined a f, size-joined b f) in
    sym (front-joined a f) ∙ (ap (λ n. front n (joined a f)) counted ∙ (ap (front (size b)) e ∙ front-joined b f))

-- the trees that a step passed are the first alone
pub alone_of : (then passed old new : Forest) (t : TtElement) → then ≡ old → IsNext old (Some t) new → then ≡ joined passed new
    → Some passed ≡ first_alone old
alone_of then passed old new (element.Leaf l) same next all =
    rw next (ap Some (joined-left passed (leaf l empty) new (sym all ∙ (same ∙ next))))
alone_of then passed old new (element.Subtree s inner) same next all =
    rw next.0 (ap Some (joined-left passed (group s.delimiter inner empty) new (sym all ∙ (same ∙ next.0))))
