-- What a cursor reads of its tokens.
use Rattle.std.proofs.Common.{◌≡◌, ℕ, ◌-◌, ◌<◌, List, [], ◌∷◌, ap, refl, sym, ◌∙◌, arith, Option, Some, None, IsSome, option_map, ◌≢◌, inl, inr}
use Rattle.std.proofs.lemmas.Bool.{cases_lt}
use Rattle.tt_data.specs.Forest.{Forest, empty, leaf, IsPreorder, forest_of}
use Rattle.tt_data.specs.declared.leaf.Leaf.{Leaf}
use Rattle.tt_data.specs.declared.tree.Subtree.{Subtree}
use Rattle.tt_data.specs.declared.tree.TokenTree.{TokenTree}
use Rattle.tt_data.specs.declared.tree.TokenTree.TheVariants as token
use Rattle.tt.specs.CursorTokens.{Stands, start_in}
use Rattle.tt.specs.Places.{Around, Place, first_token, innermost_head, two_leaves}
use Rattle.token_bytes.specs.TokenLists.{as_head, head_at, leaf_in}
use Rattle.token_bytes.proofs.ReadLemmas.{ReadAt, read_at}
use Rattle.tt.proofs.CursorLemmas.{head_read, first_is, root_of}
use Rattle.tt.proofs.FrameLemmas.{fits}

as_head-is : (t : TokenTree) (o : Option Subtree) → Some t ≡ option_map token.Subtree o → as_head t ≡ o
as_head-is t None e = absurd cc
as_head-is (token.Leaf l) (Some r) e = cc
as_head-is (token.Subtree s) (Some r) e = cc

-- the head just before the innermost list
pub head_found : (tokens : List TokenTree) (start at i : ℕ) (p : Place) → Stands tokens start at p → i ≡ start - 1 → 0 < start
    → head_at tokens i ≡ innermost_head p
head_found tokens start at i p stands n some =
    let r : (t : TokenTree) × ReadAt tokens i t = read_at tokens i (omega (arith, fits tokens start at p stands, stands.at_is, n, some)) in
    r.1.head ∙ as_head-is r.0 (innermost_head p) (head_read tokens start at i p r.0 stands n some r.1.read)

-- trees that begin with no group begin with a leaf
pub leaf_first : (tokens : List TokenTree) (f : Forest) → forest_of tokens ≡ f → None ≡ head_at tokens 0 → (f ≡ empty → ⊥)
    → (l : Leaf) × (Some (token.Leaf l) ≡ first_token f)
leaf_first [] f shown none some = absurd (some (sym shown))
leaf_first (token.Leaf l ∷ more) f shown none some = (l, ap first_token shown)
leaf_first (token.Subtree s ∷ more) f shown none some = absurd cc

pub group_first : (tokens : List TokenTree) (s : Subtree) (f : Forest) → IsPreorder tokens → forest_of tokens ≡ f → Some s ≡ head_at tokens 0
    → Some (token.Subtree s) ≡ first_token f
group_first [] s f whole shown found = cc
group_first (token.Leaf l ∷ more) s f whole shown found = cc
group_first (token.Subtree t ∷ more) s f whole shown found =
    let same : s ≡ t = cc in
    ap (λ u. Some (token.Subtree u)) same ∙ (first_is (token.Subtree t ∷ more) whole ∙ ap first_token shown)

-- the first two trees, by the tokens
pub no_leaf : (tokens : List TokenTree) (f : Forest) → None ≡ leaf_in tokens → forest_of tokens ≡ f → None ≡ two_leaves f
no_leaf [] f e shown = ap two_leaves shown
no_leaf (token.Leaf l ∷ more) f e shown = cc
no_leaf (token.Subtree s ∷ more) f e shown = ap two_leaves shown

leaf_in-is : (tokens : List TokenTree) (a : Leaf) (more : List TokenTree) → Some (a, more) ≡ leaf_in tokens → tokens ≡ token.Leaf a ∷ more
leaf_in-is [] a more e = cc
leaf_in-is (token.Leaf l ∷ rest) a more e =
    let pair : ◌≡◌ {A = Leaf × List TokenTree} (l, rest) (a, more) = cc in
    ap (λ (p : Leaf × List TokenTree). token.Leaf p.0 ∷ p.1) pair
leaf_in-is (token.Subtree s ∷ rest) a more e = cc

leaf_alone : (a : Leaf) (more : List TokenTree) → None ≡ leaf_in more → None ≡ two_leaves (leaf a (forest_of more))
leaf_alone a [] e = refl
leaf_alone a (token.Leaf l ∷ rest) e = cc
leaf_alone a (token.Subtree s ∷ rest) e = refl

pub one_leaf : (tokens : List TokenTree) (f : Forest) (a : Leaf) (more : List TokenTree) → Some (a, more) ≡ leaf_in tokens → None ≡ leaf_in more
    → forest_of tokens ≡ f → None ≡ two_leaves f
one_leaf tokens f a more e none shown =
    leaf_alone a more none ∙ ap (λ ts. two_leaves (forest_of ts)) (sym (leaf_in-is tokens a more e)) ∙ ap two_leaves shown

pair_of : (a b : Leaf) (more rest : List TokenTree) → Some (b, rest) ≡ leaf_in more → Some (a ∷ b ∷ []) ≡ two_leaves (leaf a (forest_of more))
pair_of a b more rest e = ap (λ ts. two_leaves (leaf a (forest_of ts))) (sym (leaf_in-is more b rest e))

pub both_leaves : (tokens : List TokenTree) (f : Forest) (a b : Leaf) (more rest : List TokenTree) → Some (a, more) ≡ leaf_in tokens → Some (b, rest) ≡ leaf_in more
    → forest_of tokens ≡ f → Some (a ∷ b ∷ []) ≡ two_leaves f
both_leaves tokens f a b more rest e d shown =
    pair_of a b more rest d ∙ ap (λ ts. two_leaves (forest_of ts)) (sym (leaf_in-is tokens a more e)) ∙ ap two_leaves shown

-- a list in a group has the group's head before it
pub some_around : (tokens : List TokenTree) (start at : ℕ) (p : Place) → Stands tokens start at p → p.around ≢ [] → 0 < start
some_around tokens start at p stands some =
    elim (cases_lt 0 start) [
      | inl lt ↦ lt
      | inr le ↦ absurd (some (root_of p.around (sym stands.start_is ∙ (let none : start ≡ 0 = omega (arith, le) in none))))
    ]

-- in no group no head is before it
pub none_around : (tokens : List TokenTree) (start at : ℕ) (p : Place) → Stands tokens start at p → start ≡ 0 → innermost_head p ≡ None
none_around tokens start at p stands none = rw (root_of p.around (sym stands.start_is ∙ none)) refl

pub head_some : (tokens : List TokenTree) (start at : ℕ) (p : Place) → Stands tokens start at p → 0 < start → IsSome (head_at tokens (start - 1))
head_some tokens start at p stands some =
    rw (head_found tokens start at (start - 1) p stands refl some) (there p.around p (λ e. absurd (omega (arith, some, stands.start_is, ap start_in e))) refl)
  where
    there : (around : List Around) (p : Place) → (around ≡ [] → ⊥) → p.around ≡ around → IsSome (innermost_head p)
    there [] p some e = absurd (some refl)
    there (a ∷ outer) p some e = rw e refl
