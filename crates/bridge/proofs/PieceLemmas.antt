-- The flat list of a piece.
use Rattle.std.proofs.Common.{◌≡◌, ◌≢◌, ℕ, ◌-◌, ◌+◌, Bool, true, false, List, [], ◌∷◌, ◌++◌, length, get_or, set, map, refl, sym, ap, ◌∙◌, subst, arith, append_assoc, append-nil}
use Rattle.std.specs.Prelude.{◌↔◌, IsOkUnless, Result, Ok, Err}
use Rattle.tt.specs.Groups.{group_in}
use Rattle.tt.specs.Tops.{Top, forest_of_top, tokens_of}
use Rattle.tt_data.specs.Flat.{forest_of-preorder}
use Rattle.tt_data.specs.Forest.{Forest, empty, leaf, group, forest_of, head_of, map_spans, preorder, size}
use Rattle.tt_data.specs.Spans.{delimiter_with, leaf_with, token_with}
use Rattle.tt_data.specs.declared.leaf.Leaf.TheVariants as as_leaf
use Rattle.tt_data.specs.declared.span.Span.{Span}
use Rattle.tt_data.specs.declared.tree.TokenTree.{TokenTree}
use Rattle.tt_data.specs.declared.tree.TokenTree.TheVariants as token
use Rattle.tt_data.specs.fault.TtFault.{TtFault}
use Rattle.tt_data.specs.fault.TtFault.TheVariants.{Memory, Tokens}
use Rattle.bridge.specs.PieceTokens.{alone_token, ends_in_leaf, last_token_alone}
use Rattle.bridge.specs.Pieces.{first_start, moved_back, piece_of, relative, with_last_alone}
use Rattle.bridge.specs.ReadText.{text_top}
use Rattle.rustc_lexer.proofs.TestLemmas.{no}

-- a tree is that of its tokens
pub same_tree : (t u : Top) (ts : List TokenTree) → tokens_of t ≡ ts → tokens_of u ≡ ts → t ≡ u
same_tree t u ts a b =
    ap group_in (sym (forest_of-preorder (forest_of_top t)) ∙ ap forest_of (a ∙ sym b) ∙ forest_of-preorder (forest_of_top u))

-- the tree with the trees' places counted from the first token
abbrev pub moved_tree : Forest → Top
moved_tree f = record { delimiter = text_top; inner = relative f }

pub moved_begin : (f : Forest) (n len : ℕ) (items iter : List TokenTree) → iter ≡ preorder f → n ≡ first_start f → len ≡ size f
    → items ≡ head_of text_top len ∷ [] → size (relative f) ≡ size f → preorder (relative f) ≡ map (token_with (moved_back (first_start f))) (preorder f)
    → items ++ map (token_with (moved_back n)) iter ≡ tokens_of (moved_tree f)
moved_begin f n len items iter all start counts begun size_is tokens_are =
    ap (λ xs. items ++ map (token_with (moved_back n)) xs) all
    ∙ ap (λ k. items ++ map (token_with (moved_back k)) (preorder f)) start
    ∙ ap (λ xs. items ++ xs) (sym tokens_are ∙ sym (append-nil (preorder (relative f))))
    ∙ ap (λ xs. xs ++ (preorder (relative f) ++ [])) (begun ∙ ap (λ k. head_of text_top k ∷ []) (counts ∙ sym size_is))

pub moved_on : (m : TokenTree → TokenTree) (items new iter rest : List TokenTree) (x : TokenTree) (all : List TokenTree)
    → iter ≡ x ∷ rest → new ≡ items ++ m x ∷ [] → items ++ map m iter ≡ all → new ++ map m rest ≡ all
moved_on m items new iter rest x all next grown before =
    ap (λ xs. xs ++ map m rest) grown ∙ append_assoc items (m x ∷ []) (map m rest) ∙ ap (λ xs. items ++ map m xs) (sym next) ∙ before

-- ---- the last token

changed_append : (a b : List TokenTree) (y : TokenTree) → last_token_alone (a ++ y ∷ b) ≡ a ++ last_token_alone (y ∷ b)
changed_append [] b y = refl
changed_append (x ∷ []) b y = refl
changed_append (x ∷ (z ∷ a)) b y = ap (λ t. x ∷ t) (changed_append (z ∷ a) b y)

size-alone : (f : Forest) → size (with_last_alone f) ≡ size f
size-alone empty = refl
size-alone (leaf l empty) = refl
size-alone (leaf l (leaf m rest)) = ap (λ n. 1 + n) (size-alone (leaf m rest))
size-alone (leaf l (group d inner rest)) = ap (λ n. 1 + n) (size-alone (group d inner rest))
size-alone (group d inner rest) = ap (λ n. 1 + (size inner + n)) (size-alone rest)

preorder-alone : (f : Forest) → ends_in_leaf false f ≡ true → preorder (with_last_alone f) ≡ last_token_alone (preorder f)
preorder-alone empty e = no e
preorder-alone (leaf l empty) e = refl
preorder-alone (leaf l (leaf m rest)) e = ap (λ t. token.Leaf l ∷ t) (preorder-alone (leaf m rest) e)
preorder-alone (leaf l (group d inner rest)) e = ap (λ t. token.Leaf l ∷ t) (preorder-alone (group d inner rest) e)
preorder-alone (group d inner empty) e = no e
preorder-alone (group d inner (leaf m rest)) e =
    ap (λ t. head_of d (size inner) ∷ (preorder inner ++ t)) (preorder-alone (leaf m rest) e)
    ∙ sym (changed_append (head_of d (size inner) ∷ preorder inner) (preorder rest) (token.Leaf m))
preorder-alone (group d inner (group e more rest)) h =
    ap (λ t. head_of d (size inner) ∷ (preorder inner ++ t)) (preorder-alone (group e more rest) h)
    ∙ sym (changed_append (head_of d (size inner) ∷ preorder inner) (preorder more ++ preorder rest) (head_of e (size more)))

behind_head : (x : TokenTree) (f : Forest) → ends_in_leaf false f ≡ true → last_token_alone (x ∷ preorder f) ≡ x ∷ last_token_alone (preorder f)
behind_head x empty e = no e
behind_head x (leaf l rest) e = refl
behind_head x (group d inner rest) e = refl

alone_as_is : (f : Forest) → ends_in_leaf false f ≡ false → with_last_alone f ≡ f
alone_as_is empty e = refl
alone_as_is (leaf l empty) e = no (sym e)
alone_as_is (leaf l (leaf m rest)) e = ap (leaf l) (alone_as_is (leaf m rest) e)
alone_as_is (leaf l (group d inner rest)) e = ap (leaf l) (alone_as_is (group d inner rest) e)
alone_as_is (group d inner rest) e = ap (group d inner) (alone_as_is rest e)

-- ---- other places

ends-moved : (m : Span → Span) (b : Bool) (f : Forest) → ends_in_leaf b (map_spans m f) ≡ ends_in_leaf b f
ends-moved m b empty = refl
ends-moved m b (leaf l rest) = ends-moved m true rest
ends-moved m b (group d inner rest) = ends-moved m false rest

alone-moved : (m : Span → Span) (f : Forest) → with_last_alone (map_spans m f) ≡ map_spans m (with_last_alone f)
alone-moved m empty = refl
alone-moved m (leaf (as_leaf.Punct p) empty) = refl
alone-moved m (leaf (as_leaf.Literal p) empty) = refl
alone-moved m (leaf (as_leaf.Ident p) empty) = refl
alone-moved m (leaf l (leaf k rest)) = ap (leaf (leaf_with m l)) (alone-moved m (leaf k rest))
alone-moved m (leaf l (group d inner rest)) = ap (leaf (leaf_with m l)) (alone-moved m (group d inner rest))
alone-moved m (group d inner rest) = ap (group (delimiter_with m d) (map_spans m inner)) (alone-moved m rest)

start-alone : (f : Forest) → first_start (with_last_alone f) ≡ first_start f
start-alone empty = refl
start-alone (leaf (as_leaf.Punct p) empty) = refl
start-alone (leaf (as_leaf.Literal p) empty) = refl
start-alone (leaf (as_leaf.Ident p) empty) = refl
start-alone (leaf l (leaf k rest)) = refl
start-alone (leaf l (group d inner rest)) = refl
start-alone (group d inner rest) = refl

alone-relative : (f : Forest) → with_last_alone (relative f) ≡ relative (with_last_alone f)
alone-relative f = alone-moved (moved_back (first_start f)) f ∙ ap (λ n. map_spans (moved_back n) (with_last_alone f)) (sym (start-alone f))

-- ---- the piece's tokens

pub ends_as_is : (f : Forest) (ts : List TokenTree) → ends_in_leaf false f ≡ false → ts ≡ tokens_of (moved_tree f) → tokens_of (piece_of f) ≡ ts
ends_as_is f ts e is =
    ap (λ g. tokens_of (record { delimiter = text_top; inner = g })) (sym (alone-relative f) ∙ alone_as_is (relative f) (ends-moved (moved_back (first_start f)) false f ∙ e))
    ∙ sym is

pub ends_alone : (f : Forest) (ts new : List TokenTree) → ends_in_leaf false f ≡ true → ts ≡ tokens_of (moved_tree f) → new ≡ last_token_alone ts
    → tokens_of (piece_of f) ≡ new
ends_alone f ts new e is changed =
    let g : Forest = relative f in
    let h : ends_in_leaf false g ≡ true = ends-moved (moved_back (first_start f)) false f ∙ e in
    let x : TokenTree = head_of text_top (size g) in
    let now : new ≡ x ∷ preorder (with_last_alone g) =
    changed ∙ ap last_token_alone is ∙ ap (λ t. last_token_alone (x ∷ t)) (append-nil (preorder g)) ∙ behind_head x g h
    ∙ ap (λ t. x ∷ t) (sym (preorder-alone g h)) in
    ap (λ k. tokens_of (record { delimiter = text_top; inner = k })) (sym (alone-relative f))
    ∙ ap (λ n. head_of text_top n ∷ (preorder (with_last_alone g) ++ [])) (size-alone g)
    ∙ ap (λ t. x ∷ t) (append-nil (preorder (with_last_alone g)))
    ∙ sym now

set_last : (t : TokenTree) (ts : List TokenTree) (x y : TokenTree) → x ≡ get_or (t ∷ ts) (length ts) x → y ≡ alone_token x
    → set (t ∷ ts) (length ts) y ≡ last_token_alone (t ∷ ts)
set_last t [] x y at is = ap (λ z. z ∷ []) (is ∙ ap alone_token at)
set_last t (u ∷ ts) x y at is = ap (λ z. t ∷ z) (set_last u ts x y at is)

pub last_set : (ts : List TokenTree) (n : ℕ) (x y : TokenTree) → ts ≢ [] → n ≡ length ts - 1 → x ≡ get_or ts n x → y ≡ alone_token x
    → set ts n y ≡ last_token_alone ts
last_set [] n x y some end at is = absurd (some refl)
last_set (t ∷ ts) n x y _ end at is =
    let k : length ts ≡ n = omega (arith, end) in
    subst (λ i. x ≡ get_or (t ∷ ts) i x → set (t ∷ ts) i y ≡ last_token_alone (t ∷ ts)) k (λ p. set_last t ts x y p is) at

-- where there is room, no more is refused than memory
pub room_for_all : {V : Type 0} → (before : Result V TtFault) (v : V) (r : Result Top TtFault) (X : Type 0)
    → (before ≡ Err Tokens) ↔ X → before ≡ Ok v → IsOkUnless r Memory → (r ≡ Err Tokens) ↔ X
room_for_all {V} before v (Ok t) X tokens was only = (λ e. absurd (cc), λ many. let e : before ≡ Err Tokens = tokens.1 many in absurd (cc))
room_for_all {V} before v (Err fault) X tokens was only = (λ e. absurd (cc), λ many. let e : before ≡ Err Tokens = tokens.1 many in absurd (cc))
