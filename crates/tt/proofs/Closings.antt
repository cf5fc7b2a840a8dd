-- Where the group that was closed last is, as a builder goes on.
use Rattle.std.proofs.Common.{◌≡◌, ℕ, ◌≤◌, sym, length, List, [], ◌∷◌, ◌++◌, take, set, arith, Option, Some, None, inl, inr, length-append}
use Rattle.std.proofs.lemmas.List.{take-append-le, take-set, length-set, length-take, take_at}
use Rattle.tt_data.specs.declared.tree.TokenTree.{TokenTree}
use Rattle.tt.specs.declared.top_subtree.builder.Opening.{Opening}
use Rattle.tt.specs.BuilderTokens.{start_of, IsHeld, IsCut, IsTreeAt}
use Rattle.tt.proofs.Points.{start_fits}

IsCut-append : (at : ℕ) (tokens more : List TokenTree) (os : List Opening) → at ≤ length tokens → IsHeld tokens os
    → IsCut at tokens os → IsCut at (tokens ++ more) os
IsCut-append at tokens more [] fits held cut = rw (take-append-le at tokens more fits) cut
IsCut-append at tokens more (o ∷ outer) fits held cut =
    let below : o.at.count ≤ length tokens = omega (arith, held.0) in
    elim cut [
      | inl within ↦ inl (within.0, rw (take-append-le at tokens more fits) within.1)
      | inr before ↦ inr (before.0, rw (take-append-le o.at.count tokens more below) before.1)
    ]

-- tokens that come after change nothing before
pub IsTreeAt-append : (last : Option ℕ) (tokens more : List TokenTree) (os : List Opening) → IsHeld tokens os
    → IsTreeAt last tokens os → IsTreeAt last (tokens ++ more) os
IsTreeAt-append None tokens more os held tree = tt
IsTreeAt-append (Some at) tokens more os held tree =
    let fits : at ≤ length tokens = omega (arith, tree.0) in
    (omega (arith, tree.0, length-append tokens more), IsCut-append at tokens more os fits held tree.1)

-- with one more group open, whose token comes last
pub IsTreeAt-opened : (last : Option ℕ) (tokens : List TokenTree) (x : TokenTree) (o : Opening) (os : List Opening) → o.at.count ≡ length tokens
    → IsTreeAt last tokens os → IsTreeAt last (tokens ++ x ∷ []) (o ∷ os)
IsTreeAt-opened None tokens x o os e tree = tt
IsTreeAt-opened (Some at) tokens x o os e tree =
    let before : take o.at.count (tokens ++ x ∷ []) ≡ tokens = take_at tokens (x ∷ []) o.at.count (sym e) in
    (omega (arith, tree.0, length-append tokens (x ∷ [])), inr (omega (arith, tree.0, e), rw before tree.1))

IsCut-last : (at : ℕ) (tokens : List TokenTree) (os : List Opening) → start_of os ≤ at → IsHeld (take at tokens) os → IsCut at tokens os
IsCut-last at tokens [] from held = held
IsCut-last at tokens (o ∷ outer) from held = inl (omega (arith, from), held)

-- the innermost group, once it is closed
pub IsTreeAt-closed : (tokens : List TokenTree) (o : Opening) (outer : List Opening) (t : TokenTree) → IsHeld tokens (o ∷ outer)
    → IsTreeAt (Some o.at.count) (set tokens o.at.count t) outer
IsTreeAt-closed tokens o outer t held =
    let from : start_of outer ≤ o.at.count = omega (arith, start_fits (take o.at.count tokens) outer held.2, length-take o.at.count tokens) in
    (rw length-set held.0, IsCut-last o.at.count (set tokens o.at.count t) outer from (rw (take-set tokens o.at.count t) held.2))
