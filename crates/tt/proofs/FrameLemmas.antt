-- The tokens of a cursor's flat list before and after its position.
use Rattle.std.proofs.Common.{◌≡◌, ℕ, ◌+◌, ◌-◌, ◌≤◌, List, [], ◌∷◌, ◌++◌, length, take, drop, refl, sym, ap, ◌∙◌, arith, append_assoc, length-append, append-nil, slice_index_or}
use Rattle.std.proofs.Math.Seq.{take-append_seam, drop-append_seam, get_or-append_seam}
use Rattle.tt_data.specs.declared.tree.TokenTree.{TokenTree}
use Rattle.tt_data.specs.Forest.{Forest, group, joined, size, preorder, head_of}
use Rattle.tt_data.specs.Flat.{preorder-joined, length-preorder}
use Rattle.tt.specs.Places.{Around, Place}
use Rattle.tt.specs.CursorTokens.{whole_in, start_in, Stands}

-- the list that these groups are around, as a tree of the next
abbrev pub list_in : Around → Forest → Forest
list_in a f = joined a.before (group a.delimiter f a.after)

-- the tokens before the innermost list, and those after it
abbrev pub pre_in : List Around → Forest → List TokenTree
pre_in [] f = []
pre_in (a ∷ outer) f = pre_in outer (list_in a f) ++ (preorder a.before ++ (head_of a.delimiter (size f) ∷ []))

abbrev pub post_in : List Around → List TokenTree
post_in [] = []
post_in (a ∷ outer) = preorder a.after ++ post_in outer

pub framed : (outer : List Around) (f : Forest) → preorder (whole_in outer f) ≡ pre_in outer f ++ (preorder f ++ post_in outer)
framed [] f = sym (append-nil (preorder f))
framed (a ∷ outer) f =
    framed outer (list_in a f)
    ∙ (ap (λ ts. pre_in outer (list_in a f) ++ (ts ++ post_in outer)) (preorder-joined a.before (group a.delimiter f a.after)) ∙ simp append_assoc)

pub length-pre_in : (outer : List Around) (f : Forest) → length (pre_in outer f) ≡ start_in outer
length-pre_in [] f = refl
length-pre_in (a ∷ outer) f =
    omega (
      arith,
      length-pre_in outer (list_in a f),
      length-preorder a.before,
      length-append (pre_in outer (list_in a f)) (preorder a.before ++ (head_of a.delimiter (size f) ∷ [])),
      length-append (preorder a.before) (head_of a.delimiter (size f) ∷ []),
    )

-- the innermost list among the tokens, cut at the place
cut : (tokens : List TokenTree) (start at : ℕ) (p : Place) → Stands tokens start at p
    → tokens ≡ (pre_in p.around (joined p.before p.after) ++ preorder p.before) ++ (preorder p.after ++ post_in p.around)
cut tokens start at p stands =
    let all : Forest = joined p.before p.after in
    stands.whole
    ∙ (framed p.around all ∙ (ap (λ ts. pre_in p.around all ++ (ts ++ post_in p.around)) (preorder-joined p.before p.after) ∙ simp append_assoc))

-- and so many come before the place
counted : (tokens : List TokenTree) (start at : ℕ) (p : Place) → Stands tokens start at p
    → length (pre_in p.around (joined p.before p.after) ++ preorder p.before) ≡ at
counted tokens start at p stands =
    omega (
      arith,
      stands.start_is,
      stands.at_is,
      length-pre_in p.around (joined p.before p.after),
      length-preorder p.before,
      length-append (pre_in p.around (joined p.before p.after)) (preorder p.before),
    )

pub ahead : (tokens : List TokenTree) (start at : ℕ) (p : Place) → Stands tokens start at p
    → drop at tokens ≡ preorder p.after ++ post_in p.around
ahead tokens start at p stands =
    let pre : List TokenTree = pre_in p.around (joined p.before p.after) ++ preorder p.before in
    let post : List TokenTree = preorder p.after ++ post_in p.around in
    ap (drop at) (cut tokens start at p stands)
    ∙ (ap (λ n. drop n (pre ++ post)) (sym (counted tokens start at p stands)) ∙ drop-append_seam pre post)

pub behind : (tokens : List TokenTree) (start at : ℕ) (p : Place) → Stands tokens start at p
    → take at tokens ≡ pre_in p.around (joined p.before p.after) ++ preorder p.before
behind tokens start at p stands =
    let pre : List TokenTree = pre_in p.around (joined p.before p.after) ++ preorder p.before in
    let post : List TokenTree = preorder p.after ++ post_in p.around in
    ap (take at) (cut tokens start at p stands)
    ∙ (ap (λ n. take n (pre ++ post)) (sym (counted tokens start at p stands)) ∙ take-append_seam pre post)

pub fits : (tokens : List TokenTree) (start at : ℕ) (p : Place) → Stands tokens start at p → at + size p.after ≤ length tokens
fits tokens start at p stands =
    let pre : List TokenTree = pre_in p.around (joined p.before p.after) ++ preorder p.before in
    omega (
      arith,
      ap length (cut tokens start at p stands),
      counted tokens start at p stands,
      length-append pre (preorder p.after ++ post_in p.around),
      length-append (preorder p.after) (post_in p.around),
      length-preorder p.after,
    )

-- the token before a list that is in a group is the group's head
pub head_in : (a : Around) (outer : List Around) (f : Forest) (d : TokenTree)
    → slice_index_or (preorder (whole_in (a ∷ outer) f)) (start_in (a ∷ outer) - 1) d ≡ head_of a.delimiter (size f)
head_in a outer f d =
    let pre : List TokenTree = pre_in outer (list_in a f) ++ preorder a.before in
    let post : List TokenTree = preorder f ++ (preorder a.after ++ post_in outer) in
    let all : preorder (whole_in (a ∷ outer) f) ≡ pre ++ (head_of a.delimiter (size f) ∷ post) =
    framed (a ∷ outer) f ∙ simp append_assoc in
    let n : start_in (a ∷ outer) - 1 ≡ length pre =
    omega (arith, length-pre_in outer (list_in a f), length-preorder a.before, length-append (pre_in outer (list_in a f)) (preorder a.before)) in
    rw (all, n) (get_or-append_seam pre (head_of a.delimiter (size f)) post d)
