-- A forest and its flat list give each other back.
use Rattle.std.proofs.Common.{◌≡◌, ◌+◌, ◌-◌, ◌≤◌, List, [], ◌∷◌, ◌++◌, length, take, drop, refl, sym, ap, ◌∙◌, arith, length-append, append_assoc}
use Rattle.std.proofs.lemmas.Bool.{lt-ltb, le-ltb}
use Rattle.std.proofs.lemmas.List.{append-nil}
use Rattle.std.proofs.Math.Seq.{take-append_seam, drop-append_seam}
use Rattle.tt_data.specs.Forest.{Forest, empty, leaf, group, joined, size, preorder, front, back, forest_of, IsPreorder}
use Rattle.tt_data.specs.declared.leaf.Leaf.{Leaf}
use Rattle.tt_data.specs.declared.tree.Subtree.{Subtree}
use Rattle.tt_data.specs.declared.tree.TokenTree.{TokenTree}
use Rattle.tt_data.specs.declared.tree.TokenTree.TheVariants as token

pub front-zero : (g : Forest) → front 0 g ≡ empty
front-zero empty = refl
front-zero (leaf l rest) = refl
front-zero (group d inner rest) = rw (le-ltb (size inner) 0 (omega arith)) refl

pub back-zero : (g : Forest) → back 0 g ≡ g
back-zero empty = refl
back-zero (leaf l rest) = refl
back-zero (group d inner rest) = rw (le-ltb (size inner) 0 (omega arith)) refl

pub front-joined : (f g : Forest) → front (size f) (joined f g) ≡ f
front-joined empty g = front-zero g
front-joined (leaf l rest) g =
    let e : 1 + size rest - 1 ≡ size rest = omega arith in
    rw (lt-ltb 0 (1 + size rest) (omega arith), e, front-joined rest g) refl
front-joined (group d inner rest) g =
    let e : 1 + (size inner + size rest) - 1 - size inner ≡ size rest = omega arith in
    rw (lt-ltb (size inner) (1 + (size inner + size rest)) (omega arith), e, front-joined rest g) refl

pub back-joined : (f g : Forest) → back (size f) (joined f g) ≡ g
back-joined empty g = back-zero g
back-joined (leaf l rest) g =
    let e : 1 + size rest - 1 ≡ size rest = omega arith in
    rw (lt-ltb 0 (1 + size rest) (omega arith), e, back-joined rest g) refl
back-joined (group d inner rest) g =
    let e : 1 + (size inner + size rest) - 1 - size inner ≡ size rest = omega arith in
    rw (lt-ltb (size inner) (1 + (size inner + size rest)) (omega arith), e, back-joined rest g) refl

-- the tokens of two forests, one after the other
pub forest_of-append : (f : Forest) (tokens : List TokenTree) → forest_of (preorder f ++ tokens) ≡ joined f (forest_of tokens)
forest_of-append empty tokens = refl
forest_of-append (leaf l rest) tokens = ap (leaf l) (forest_of-append rest tokens)
forest_of-append (group d inner rest) tokens =
    let e : forest_of ((preorder inner ++ preorder rest) ++ tokens) ≡ joined inner (joined rest (forest_of tokens)) =
    rw (append_assoc, forest_of-append inner (preorder rest ++ tokens), forest_of-append rest tokens) refl in
    rw (e, front-joined inner (joined rest (forest_of tokens)), back-joined inner (joined rest (forest_of tokens))) refl

pub joined-empty : (f : Forest) → joined f empty ≡ f
joined-empty empty = refl
joined-empty (leaf l rest) = ap (leaf l) (joined-empty rest)
joined-empty (group d inner rest) = ap (group d inner) (joined-empty rest)

-- a forest is that of its tokens
pub forest_of-preorder : (f : Forest) → forest_of (preorder f) ≡ f
forest_of-preorder f =
    ap forest_of (sym (append-nil (preorder f))) ∙ forest_of-append f [] ∙ joined-empty f

pub length-preorder : (f : Forest) → length (preorder f) ≡ size f
length-preorder empty = refl
length-preorder (leaf l rest) = omega (arith, length-preorder rest)
length-preorder (group d inner rest) =
    omega (arith, length-append (preorder inner) (preorder rest), length-preorder inner, length-preorder rest)

-- so the tokens of any forest are a preorder list
pub IsPreorder-preorder : (f : Forest) → IsPreorder (preorder f)
IsPreorder-preorder f = ap preorder (forest_of-preorder f)

pub take-preorder : (f : Forest) (tokens : List TokenTree) → take (size f) (preorder f ++ tokens) ≡ preorder f
take-preorder f tokens = rw (← length-preorder f) (take-append_seam (preorder f) tokens)

pub drop-preorder : (f : Forest) (tokens : List TokenTree) → drop (size f) (preorder f ++ tokens) ≡ tokens
drop-preorder f tokens = rw (← length-preorder f) (drop-append_seam (preorder f) tokens)

-- what follows a leaf is a list of trees
pub IsPreorder-leaf : (l : Leaf) (more : List TokenTree) → IsPreorder (token.Leaf l ∷ more) → IsPreorder more
IsPreorder-leaf l more whole = cc

-- what follows a group's head: its own trees, and those after it
pub record Parts (s : Subtree) (more : List TokenTree) : Type 0 where
  pub fits : s.len ≤ length more
  pub inner_whole : IsPreorder (take s.len more)
  pub rest_whole : IsPreorder (drop s.len more)
  pub inner_is : forest_of (take s.len more) ≡ front s.len (forest_of more)
  pub rest_is : forest_of (drop s.len more) ≡ back s.len (forest_of more)
  pub counted : size (front s.len (forest_of more)) ≡ s.len

-- those parts, of the tokens of two forests
parts_of-append : (s : Subtree) (f g : Forest) (more : List TokenTree) → size f ≡ s.len → preorder f ++ preorder g ≡ more → Parts s more
parts_of-append s f g more counted e =
    let front_is : take s.len more ≡ preorder f = rw (← e, ← counted) (take-preorder f (preorder g)) in
    let back_is : drop s.len more ≡ preorder g = rw (← e, ← counted) (drop-preorder f (preorder g)) in
    let all : forest_of more ≡ joined f g =
    rw (← e) (forest_of-append f (preorder g) ∙ ap (joined f) (forest_of-preorder g)) in
    record {
      fits = omega (arith, counted, ap length e, length-append (preorder f) (preorder g), length-preorder f);
      inner_whole = rw front_is (IsPreorder-preorder f);
      rest_whole = rw back_is (IsPreorder-preorder g);
      inner_is = rw (front_is, forest_of-preorder f, all, ← counted) (sym (front-joined f g));
      rest_is = rw (back_is, forest_of-preorder g, all, ← counted) (sym (back-joined f g));
      counted = rw (all, ← counted, front-joined f g) refl;
    }

pub parts : (s : Subtree) (more : List TokenTree) → IsPreorder (token.Subtree s ∷ more) → Parts s more
parts s more whole =
    let f : Forest = front s.len (forest_of more) in
    let g : Forest = back s.len (forest_of more) in
    let same : record { delimiter = s.delimiter; len = size f } ≡ s = cc in
    parts_of-append s f g more (ap (λ (t : Subtree). t.len) same) cc

-- the tokens of two forests in one
pub preorder-joined : (f g : Forest) → preorder (joined f g) ≡ preorder f ++ preorder g
preorder-joined empty g = refl
preorder-joined (leaf l rest) g = ap (λ more. token.Leaf l ∷ more) (preorder-joined rest g)
preorder-joined (group d inner rest) g =
    ap (λ more. token.Subtree (record { delimiter = d; len = size inner }) ∷ more)
    (ap (λ more. preorder inner ++ more) (preorder-joined rest g) ∙ sym (append_assoc (preorder inner) (preorder rest) (preorder g)))
