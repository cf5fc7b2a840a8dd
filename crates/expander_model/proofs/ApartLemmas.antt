-- Each `;` of a tree's top list is made `Alone`.
use Rattle.std.proofs.Common.{◌≡◌, ◌+◌, ◌≤◌, suc, List, [], ◌∷◌, ◌++◌, length, refl, sym, ap, ◌∙◌, append_assoc, arith, true, false, Bool}
use Rattle.std.specs.Prelude.{set, if◌then◌else◌, Some, None}
use Rattle.std.proofs.Math.Seq.{set-append_seam}
use Rattle.tt_data.proofs.ForestLemmas.{joined_assoc, size-joined}
use Rattle.tt.specs.Tops.{Top, tokens_of}
use Rattle.tt_data.specs.Flat.{forest_of-preorder, joined-empty, length-preorder, preorder-joined}
use Rattle.tt_data.specs.Forest.{Forest, empty, leaf, group, joined, size, preorder, forest_of, head_of}
use Rattle.tt_data.specs.declared.leaf.Leaf.{Leaf}
use Rattle.tt_data.specs.declared.tree.TokenTree.{TokenTree}
use Rattle.tt_data.specs.declared.tree.TokenTree.TheVariants as token
use Rattle.expander_model.specs.Splitting.{end_alone, put_all}
use Rattle.expander_model.specs.Pieces.{separated}
use Rattle.bridge.specs.Text.{is_punct}
use Rattle.tt.specs.Building.{alone}
use Rattle.expander_model.specs.declared.split.Put.{Put}

pub put_all-snoc : (ps : List Put) (p : Put) (tokens : List TokenTree)
    → put_all (ps ++ p ∷ []) tokens ≡ put_all ps (set tokens p.at (token.Leaf p.leaf))
put_all-snoc [] p tokens = refl
put_all-snoc (q ∷ ps) p tokens = ap (λ ts. set ts q.at (token.Leaf q.leaf)) (put_all-snoc ps p tokens)

pub separated-joined : (f g : Forest) → separated (joined f g) ≡ joined (separated f) (separated g)
separated-joined empty g = refl
separated-joined (leaf l rest) g = ap (leaf (if is_punct ";" l then alone l else l)) (separated-joined rest g)
separated-joined (group d inner rest) g = ap (group d inner) (separated-joined rest g)

size-separated : (f : Forest) → size (separated f) ≡ size f
size-separated empty = refl
size-separated (leaf l rest) = omega (arith, size-separated rest)
size-separated (group d inner rest) = omega (arith, size-separated rest)

walked : (f g : Forest) (more : List TokenTree) → preorder (joined f g) ++ more ≡ preorder f ++ (preorder g ++ more)
walked f g more = ap (λ ts. ts ++ more) (preorder-joined f g) ∙ append_assoc (preorder f) (preorder g) more

-- the leaves that were found set the trees apart that were passed, whatever stands before and behind them
pub record IsApart (whole rest : Forest) (puts : List Put) : Type 0 where
  pub passed : Forest
  pub splits : whole ≡ joined passed rest
  pub sets : (head : TokenTree) (more : List TokenTree)
      → put_all puts (head ∷ (preorder passed ++ more)) ≡ head ∷ (preorder (separated passed) ++ more)

pub apart_at_first : (whole : Forest) → IsApart whole whole []
apart_at_first whole = record { passed = empty; splits = refl; sets = λ head more. refl }

-- one tree more, with what stands in its place
apart_more : (whole rest tree told : Forest) (puts now : List Put) → separated tree ≡ told → (a : IsApart whole (joined tree rest) puts)
    → ((head : TokenTree) (more : List TokenTree)
    → put_all now (head ∷ (preorder a.passed ++ (preorder tree ++ more))) ≡ put_all puts (head ∷ (preorder a.passed ++ (preorder told ++ more))))
    → IsApart whole rest now
apart_more whole rest tree told puts now same a sets = record {
  passed = joined a.passed tree;
  splits = a.splits ∙ sym (joined_assoc a.passed tree rest);
  sets = λ head more.
      ap (λ ts. put_all now (head ∷ ts)) (walked a.passed tree more)
      ∙ sets head more
      ∙ a.sets head (preorder told ++ more)
      ∙ ap (λ ts. head ∷ ts) (sym (
      ap (λ f. preorder f ++ more) (separated-joined a.passed tree ∙ ap (joined (separated a.passed)) same)
      ∙ walked (separated a.passed) told more
      ));
}

-- a tree that stays as it is
apart_kept : (whole rest tree : Forest) (puts : List Put) → separated tree ≡ tree → IsApart whole (joined tree rest) puts → IsApart whole rest puts
apart_kept whole rest tree puts same a = apart_more whole rest tree tree puts puts same a (λ head more. refl)

kept_leaf : (b : Bool) (l : Leaf) → (if b then Some (alone l) else None) ≡ None → leaf (if b then alone l else l) empty ≡ leaf l empty
kept_leaf false l e = refl
kept_leaf true l e = cc

ended_leaf : (b : Bool) (l x : Leaf) → (if b then Some (alone l) else None) ≡ Some x → leaf (if b then alone l else l) empty ≡ leaf x empty
ended_leaf true l x e = cc
ended_leaf false l x e = cc

pub apart_leaf : (whole rest tail : Forest) (l : Leaf) (puts : List Put) → rest ≡ leaf l tail → end_alone l ≡ None
    → IsApart whole rest puts → IsApart whole tail puts
apart_leaf whole rest tail l puts is no_end a = apart_kept whole tail (leaf l empty) puts (kept_leaf (is_punct ";" l) l no_end) (rw (← is) a)

pub apart_group : (whole rest tail inner : Forest) {d : _} (puts : List Put) → rest ≡ group d inner tail
    → IsApart whole rest puts → IsApart whole tail puts
apart_group whole rest tail inner {d} puts is a = apart_kept whole tail (group d inner empty) puts refl (rw (← is) a)

-- a `;`, with where it is put
pub apart_end : (whole rest tail : Forest) (l : Leaf) (puts now : List Put) (p : Put) → rest ≡ leaf l tail → end_alone l ≡ Some p.leaf
    → now ≡ puts ++ p ∷ [] → p.at + size tail ≡ size whole → IsApart whole rest puts → IsApart whole tail now
apart_end whole rest tail l puts now p is end now_is at_is a =
    let here : IsApart whole (leaf l tail) puts = rw (← is) a in
    apart_more whole tail (leaf l empty) (leaf p.leaf empty) puts now (ended_leaf (is_punct ";" l) l p.leaf end) here (λ head more.
    let at : p.at ≡ suc (length (preorder here.passed)) =
    omega (arith, at_is, ap size here.splits, size-joined here.passed (leaf l tail), length-preorder here.passed) in
    ap (λ ps. put_all ps (head ∷ (preorder here.passed ++ (token.Leaf l ∷ more)))) now_is
    ∙ put_all-snoc puts p (head ∷ (preorder here.passed ++ (token.Leaf l ∷ more)))
    ∙ ap (λ n. put_all puts (set (head ∷ (preorder here.passed ++ (token.Leaf l ∷ more))) n (token.Leaf p.leaf))) at
    ∙ ap (λ ts. put_all puts (head ∷ ts)) (set-append_seam (preorder here.passed) (token.Leaf l) more (token.Leaf p.leaf)))

-- what is left has no more tokens than all
pub fits_tail : (whole rest tail : Forest) (l : Leaf) (puts : List Put) → rest ≡ leaf l tail → IsApart whole rest puts → size tail ≤ size whole
fits_tail whole rest tail l puts is a = omega (arith, ap size is, ap size a.splits, size-joined a.passed rest)

-- all trees were passed
pub apart_done : (t : Top) (puts : List Put) (rest : Forest) → rest ≡ empty → IsApart t.inner rest puts
    → put_all puts (tokens_of t) ≡ tokens_of (record t { inner = separated t.inner })
apart_done t puts rest none apart =
    let a : IsApart t.inner empty puts = rw (← none) apart in
    let all : a.passed ≡ t.inner = sym (joined-empty a.passed) ∙ sym a.splits in
    ap (λ f. put_all puts (head_of t.delimiter (size t.inner) ∷ (preorder f ++ []))) (sym all)
    ∙ a.sets (head_of t.delimiter (size t.inner)) []
    ∙ ap (λ f. head_of t.delimiter (size t.inner) ∷ (preorder (separated f) ++ [])) all
    ∙ ap (λ n. head_of t.delimiter n ∷ (preorder (separated t.inner) ++ [])) (sym (size-separated t.inner))

-- a tree has the trees that its tokens say
pub inner_of_tokens : (t u : Top) → tokens_of t ≡ tokens_of u → t.inner ≡ u.inner
inner_of_tokens t u e =
    let same : group t.delimiter t.inner empty ≡ group u.delimiter u.inner empty =
    sym (forest_of-preorder (group t.delimiter t.inner empty)) ∙ ap forest_of e ∙ forest_of-preorder (group u.delimiter u.inner empty) in
    cc

-- the last of the leaves is put in its place
pub put_last : (before after : List Put) (p : Put) (old new start : List TokenTree) (all : List Put) → before ≡ after ++ p ∷ []
    → new ≡ set old p.at (token.Leaf p.leaf) → put_all before old ≡ put_all all start → put_all after new ≡ put_all all start
put_last before after p old new start all split is so_far =
    ap (put_all after) is ∙ sym (put_all-snoc after p old) ∙ ap (λ ps. put_all ps old) (sym split) ∙ so_far

none_left : (ps : List Put) → length ps ≡ 0 → ps ≡ []
none_left [] e = refl
none_left (p ∷ ps) e = absurd (omega (arith, e))

-- all leaves are in their places
pub put_done : (old new : Top) (all left : List Put) → length left ≡ 0
    → put_all all (tokens_of old) ≡ tokens_of (record old { inner = separated old.inner }) → put_all left (tokens_of new) ≡ put_all all (tokens_of old)
    → new.inner ≡ separated old.inner
put_done old new all left none is so_far =
    inner_of_tokens new (record old { inner = separated old.inner })
    (ap (λ ps. put_all ps (tokens_of new)) (sym (none_left left none)) ∙ so_far ∙ is)

-- and its brackets
pub top_done : (old new : Top) (all left : List Put) → length left ≡ 0
    → put_all all (tokens_of old) ≡ tokens_of (record old { inner = separated old.inner }) → put_all left (tokens_of new) ≡ put_all all (tokens_of old)
    → new.delimiter ≡ old.delimiter
top_done old new all left none is so_far =
    let tokens : tokens_of new ≡ tokens_of (record old { inner = separated old.inner }) =
    ap (λ ps. put_all ps (tokens_of new)) (sym (none_left left none)) ∙ so_far ∙ is in
    let same : group new.delimiter new.inner empty ≡ group old.delimiter (separated old.inner) empty =
    sym (forest_of-preorder (group new.delimiter new.inner empty)) ∙ ap forest_of tokens ∙ forest_of-preorder (group old.delimiter (separated old.inner) empty) in
    cc
