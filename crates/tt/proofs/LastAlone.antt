-- The very last token, once its spacing is `Alone`.
use Rattle.std.proofs.Common.{◌≡◌, ℕ, zero, suc, ◌+◌, ◌<◌, ◌≤◌, length, List, [], ◌∷◌, ◌++◌, set, ap, sym, refl, ◌∙◌, arith, Bool, true, false, length-append, append-nil, slice_index_or}
use Rattle.tt_data.specs.Forest.{Forest, empty, leaf, group, size, preorder, head_of}
use Rattle.tt_data.specs.declared.delimiter.Delimiter.{Delimiter}
use Rattle.tt_data.specs.declared.tree.TokenTree.{TokenTree}
use Rattle.tt_data.specs.declared.tree.TokenTree.TheVariants as token
use Rattle.tt.specs.Building.{last_alone}
use Rattle.tt.specs.BuilderTokens.{alone_where, with_last_alone}
use Rattle.token_bytes.specs.TokenLists.{alone_token}

-- the last token of all is that of the tokens that come last
append_alone : (a b : List TokenTree) (y : TokenTree) → with_last_alone (a ++ y ∷ b) ≡ a ++ with_last_alone (y ∷ b)
append_alone [] b y = refl
append_alone (x ∷ []) b y = refl
append_alone (x ∷ (z ∷ a)) b y = ap (λ t. x ∷ t) (append_alone (z ∷ a) b y)

pub size-last_alone : (f : Forest) → size (last_alone f) ≡ size f
size-last_alone empty = refl
size-last_alone (leaf l empty) = refl
size-last_alone (leaf l (leaf m rest)) = ap (λ n. 1 + n) (size-last_alone (leaf m rest))
size-last_alone (leaf l (group d inner rest)) = ap (λ n. 1 + n) (size-last_alone (group d inner rest))
size-last_alone (group d inner empty) = ap (λ n. 1 + (n + 0)) (size-last_alone inner)
size-last_alone (group d inner (leaf m rest)) = ap (λ n. 1 + (size inner + n)) (size-last_alone (leaf m rest))
size-last_alone (group d inner (group e more rest)) = ap (λ n. 1 + (size inner + n)) (size-last_alone (group e more rest))

within_alone : (d : Delimiter) (inner : Forest) → preorder (last_alone inner) ≡ with_last_alone (preorder inner)
    → preorder (group d (last_alone inner) empty) ≡ head_of d (size inner) ∷ with_last_alone (preorder inner ++ [])
within_alone d inner same =
    ap (λ n. head_of d n ∷ (preorder (last_alone inner) ++ [])) (size-last_alone inner)
    ∙ ap (λ t. head_of d (size inner) ∷ t) (append-nil (preorder (last_alone inner)) ∙ same ∙ ap with_last_alone (sym (append-nil (preorder inner))))

preorder-last_alone : (f : Forest) → preorder (last_alone f) ≡ with_last_alone (preorder f)
preorder-last_alone empty = refl
preorder-last_alone (leaf l empty) = refl
preorder-last_alone (leaf l (leaf m rest)) = ap (λ t. token.Leaf l ∷ t) (preorder-last_alone (leaf m rest))
preorder-last_alone (leaf l (group d inner rest)) = ap (λ t. token.Leaf l ∷ t) (preorder-last_alone (group d inner rest))
preorder-last_alone (group d empty empty) = refl
preorder-last_alone (group d (leaf m rest) empty) = within_alone d (leaf m rest) (preorder-last_alone (leaf m rest))
preorder-last_alone (group d (group e inner rest) empty) = within_alone d (group e inner rest) (preorder-last_alone (group e inner rest))
preorder-last_alone (group d inner (leaf m rest)) =
    ap (λ t. head_of d (size inner) ∷ (preorder inner ++ t)) (preorder-last_alone (leaf m rest))
    ∙ sym (append_alone (head_of d (size inner) ∷ preorder inner) (preorder rest) (token.Leaf m))
preorder-last_alone (group d inner (group e more rest)) =
    ap (λ t. head_of d (size inner) ∷ (preorder inner ++ t)) (preorder-last_alone (group e more rest))
    ∙ sym (append_alone (head_of d (size inner) ∷ preorder inner) (preorder more ++ preorder rest) (head_of e (size more)))

pub size-alone_where : (is_alone : Bool) (f : Forest) → size (alone_where is_alone f) ≡ size f
size-alone_where true f = size-last_alone f
size-alone_where false f = refl

-- the last token of a list, once it is replaced
pub set_last : (tokens : List TokenTree) (n : ℕ) (t : TokenTree) → n + 1 ≡ length tokens → t ≡ slice_index_or tokens n t
    → set tokens n (alone_token t) ≡ with_last_alone tokens
set_last [] n t e read = absurd (omega (arith, e))
set_last (x ∷ []) zero t e read = ap (λ y. alone_token y ∷ []) read
set_last (x ∷ []) (suc n) t e read = absurd (omega (arith, e))
set_last (x ∷ (y ∷ more)) zero t e read = absurd (omega (arith, e))
set_last (x ∷ (y ∷ more)) (suc n) t e read = ap (λ r. x ∷ r) (set_last (y ∷ more) n t (omega (arith, e)) read)

-- trees that are put after a list, with the last token of all made `Alone` if any came
pub put_alone : (old new : List TokenTree) (f : Forest) (n : ℕ) → n ≡ length old
    → (n < length (old ++ preorder f) → new ≡ with_last_alone (old ++ preorder f))
    → (length (old ++ preorder f) ≤ n → new ≡ old ++ preorder f)
    → new ≡ old ++ preorder (last_alone f)
put_alone old new f n counts some none = by (preorder f) refl ∙ ap (λ ts. old ++ ts) (sym (preorder-last_alone f))
  where
    by : (ts : List TokenTree) → preorder f ≡ ts → new ≡ old ++ with_last_alone (preorder f)
    by [] e =
        let short : length (old ++ preorder f) ≤ n = omega (arith, counts, length-append old (preorder f), ap length e) in
        none short ∙ ap (λ ts. old ++ ts) (e ∙ ap with_last_alone (sym e))
    by (y ∷ more) e =
        let long : n < length (old ++ preorder f) = omega (arith, counts, length-append old (preorder f), ap length e) in
        some long ∙ ap (λ ts. with_last_alone (old ++ ts)) e ∙ append_alone old more y ∙ ap (λ ts. old ++ with_last_alone ts) (sym e)
