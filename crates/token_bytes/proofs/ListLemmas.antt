-- A search back for the beginning of a list.
use Rattle.std.proofs.Common.{◌≡◌, ◌↔◌, ℕ, ◌+◌, ◌-◌, ◌<◌, ◌≤◌, Bool, IsTrue, false, List, arith, Some, None, inl, inr, slice_index_or}
use Rattle.std.proofs.lemmas.Bool.{cases_lt, false≢true}
use Rattle.tt_data.specs.declared.tree.Subtree.{Subtree}
use Rattle.tt_data.specs.declared.tree.TokenTree.{TokenTree}
use Rattle.tt_data.specs.declared.tree.TokenTree.TheVariants as token
use Rattle.token_bytes.specs.Lists.{Reaches, IsTreeOf}
use Rattle.token_bytes.specs.TokenLists.{as_head}

-- a token that is no head has nothing inside
pub reach_none : (t : TokenTree) (start n : ℕ) → as_head t ≡ None → IsTrue false ↔ Reaches t start n
reach_none (token.Leaf l) start n e = (λ no. absurd (false≢true no), λ r. absurd r)
reach_none (token.Subtree s) start n e = cc

-- a head has what it counts
pub reach_some : (t : TokenTree) (s : Subtree) (start n : ℕ) (b : Bool) → as_head t ≡ Some s → IsTrue b ↔ (n < start + s.len) → IsTrue b ↔ Reaches t start n
reach_some (token.Leaf l) s start n b e test = cc
reach_some (token.Subtree r) s start n b e test = let same : r ≡ s = cc in rw same test

-- a search back that finds a group with the token inside is where the list begins
pub stops : (tokens : List TokenTree) (head at start : ℕ) (t : TokenTree) → IsTreeOf tokens head start → 0 < at → at ≤ head → start ≤ at
    → t ≡ slice_index_or tokens (at - 1) t → Reaches t at head → at ≡ start
stops tokens head at start t tree some below near read r =
    elim (cases_lt start at) [
      | inl lt ↦ let n : at - 1 + 1 ≡ at = omega (arith, some) in
          absurd (tree.passed (at - 1) t (omega (arith, lt)) (omega (arith, some, below)) (rw (← read, n) r))
      | inr ge ↦ omega (arith, ge, near)
    ]

-- and one that finds none is still in the list
pub goes_on : (tokens : List TokenTree) (head at start : ℕ) (t : TokenTree) → IsTreeOf tokens head start → 0 < at → start ≤ at
    → t ≡ slice_index_or tokens (at - 1) t → (Reaches t at head → ⊥) → start ≤ at - 1
goes_on tokens head at start t tree some near read short =
    elim (cases_lt start at) [
      | inl lt ↦ omega (arith, lt)
      | inr ge ↦ let same : start ≡ at = omega (arith, ge, near) in
          absurd (short (rw (read, ← same) (tree.inside t (omega (arith, same, some)))))
    ]
