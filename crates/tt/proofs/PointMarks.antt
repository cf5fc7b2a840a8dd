-- Where a restore point is among a builder's tokens.
use Rattle.std.proofs.Common.{◌≡◌, ◌↔◌, ◌⊎◌, ℕ, ◌+◌, ◌-◌, ◌<◌, ◌≤◌, List, length, take, drop, ap, sym, ◌∙◌, arith, None, IsSome, inl, inr}
use Rattle.std.proofs.lemmas.List.{length-drop, drop-drop, take_rest}
use Rattle.tt_data.specs.Forest.{Forest, IsPreorder, forest_of, size, front, back}
use Rattle.tt_data.specs.declared.tree.TokenTree.{TokenTree}
use Rattle.token_bytes.specs.declared.mark.Mark.{Mark}
use Rattle.tt.specs.declared.top_subtree.builder.Opening.{Opening}
use Rattle.tt.specs.Building.{Point, Opened, count_in, cut_in}
use Rattle.tt.specs.BuilderTokens.{start_of, here_of, groups_of, IsHeld, IsSettled, IsListAt, IsNoListAt}
use Rattle.token_bytes.specs.Marks.{IsMarkIn}
use Rattle.tt.proofs.Points.{Ends, ends, ends_there, here_is, here_whole, start_counts, start_fits, restored}
use Rattle.tt.proofs.Settled.{Behind, behind, end_after, settled_in}

-- where trees of a list end, seen from a place in it
pub record SeenFrom (upto : List TokenTree) (inside : List Opening) (from n : ℕ) : Type 0 where
  pub whole : IsPreorder (drop from upto)
  pub ends : (size (front (n - from) (forest_of (drop from upto))) ≡ n - from)
      ↔ (size (front (n - start_of inside) (here_of upto inside)) ≡ n - start_of inside)

from_start : (upto : List TokenTree) (inside : List Opening) (from n : ℕ) → IsHeld upto inside → from ≡ start_of inside → SeenFrom upto inside from n
from_start upto inside from n held e = record {
  whole = rw e (here_whole upto inside held);
  ends = rw (e, here_is upto inside) (λ x. x, λ x. x);
}

from_settled : (upto : List TokenTree) (inside : List Opening) (settled n : ℕ) → IsHeld upto inside → start_of inside ≤ settled
    → settled ≤ length upto → settled ≤ n
    → (settled - (1 + count_in (groups_of upto inside)) ≤ size (here_of upto inside)
    → size (front (settled - (1 + count_in (groups_of upto inside))) (here_of upto inside)) ≡ settled - (1 + count_in (groups_of upto inside)))
    → SeenFrom upto inside settled n
from_settled upto inside settled n held from fits le known =
    let start : ℕ = start_of inside in
    let list : List TokenTree = drop start upto in
    let k : ℕ = settled - start in
    let counts : start ≡ 1 + count_in (groups_of upto inside) = start_counts upto inside held in
    let within : k ≤ length list = omega (arith, fits, from, length-drop start upto) in
    let shown : forest_of list ≡ here_of upto inside = sym (here_is upto inside) in
    let b : Behind list k = behind list (here_of upto inside) k (here_whole upto inside held) shown within (rw counts known) in
    let all : start + k ≡ settled = omega (arith, from) in
    let rest : take (length list - k) (drop k list) ≡ drop settled upto =
    take_rest list k ∙ drop-drop k start upto ∙ ap (λ m. drop m upto) all in
    let back_is : forest_of (drop settled upto) ≡ back k (here_of upto inside) = ap forest_of (sym rest) ∙ b.back_is ∙ ap (back k) shown in
    let more : k + (n - settled) ≡ n - start = omega (arith, from, le) in
    let end : size (front k (here_of upto inside)) ≡ k = rw (← shown) b.ends in
    record { whole = rw rest at b.whole; ends = rw (back_is, ← more) (end_after k (n - settled) (here_of upto inside) end) }

-- a place from which a list is seen: the settled mark, if that is in the list and not past the point, or else the list's beginning
module _ (tokens upto : List TokenTree) (os : List Opening) (p : Point) (most : ℕ) (start settled from : Mark)
    (l : IsListAt tokens os p.depth start upto) (known : IsSettled settled.count (groups_of tokens os) (here_of tokens os))
    (le : most ≤ p.tokens + 1) (fits : most ≤ length upto)
    (one : (from ≡ start) ⊎ ((from ≡ settled) × (start.count ≤ settled.count) × (settled.count ≤ most))) where
  pub seen : SeenFrom upto l.inside from.count (p.tokens + 1)
  seen =
      elim one [
        | inl same ↦ from_start upto l.inside from.count (p.tokens + 1) l.held (ap (λ (m : Mark). m.count) same ∙ l.start_is)
        | inr same ↦
            let here =
            settled_in settled.count p.depth (groups_of tokens os) (groups_of upto l.inside) (here_of tokens os) (here_of upto l.inside) known l.list in
            rw (same.0)
            (from_settled upto l.inside settled.count (p.tokens + 1) l.held (omega (arith, same.1, l.start_is)) (omega (arith, same.2, fits)) (omega (arith, same.2, le)) here)
      ]

  -- it is a mark among the tokens, and not past the list's end
  pub from_marked : IsMarkIn settled tokens → IsMarkIn from tokens × (from.count ≤ length upto)
  from_marked marked =
      elim one [
        | inl same ↦ (rw same l.marked, omega (arith, ap (λ (m : Mark). m.count) same, l.start_is, start_fits upto l.inside l.held))
        | inr same ↦ (rw same.0 marked, omega (arith, ap (λ (m : Mark). m.count) same.0, same.2, fits))
      ]

  -- where it is past the point, the list begins past it
  pub too_early : p.tokens + 1 < from.count → IsSome (cut_in p (groups_of tokens os) (here_of tokens os)) → ⊥
  too_early past some =
      let first : p.tokens + 1 < start_of l.inside =
      elim one [
        | inl same ↦ omega (arith, past, ap (λ (m : Mark). m.count) same, l.start_is)
        | inr same ↦ absurd (omega (arith, past, ap (λ (m : Mark). m.count) same.0, same.2, le))
      ] in
      let end : Ends p.tokens (groups_of upto l.inside) (here_of upto l.inside) = ends p.tokens (groups_of upto l.inside) (here_of upto l.inside) (rw l.list at some) in
      omega (arith, end.below, start_counts upto l.inside l.held, first)

  -- the point is valid exactly where a tree ends there
  pub valid_where : from.count ≤ p.tokens + 1
      → (size (front (p.tokens + 1 - from.count) (forest_of (drop from.count upto))) ≡ p.tokens + 1 - from.count)
      ↔ IsSome (cut_in p (groups_of tokens os) (here_of tokens os))
  valid_where before =
      let counts : start_of l.inside ≡ 1 + count_in (groups_of upto l.inside) = start_counts upto l.inside l.held in
      let first : start.count ≤ p.tokens + 1 =
      elim one [
        | inl same ↦ omega (arith, before, ap (λ (m : Mark). m.count) same)
        | inr same ↦ omega (arith, same.1, same.2, le)
      ] in
      let below : count_in (groups_of upto l.inside) ≤ p.tokens = omega (arith, counts, first, l.start_is) in
      let n : p.tokens + 1 - start_of l.inside ≡ p.tokens - count_in (groups_of upto l.inside) = omega (arith, counts) in
      rw l.list (
        λ e. ends_there p.tokens (groups_of upto l.inside) (here_of upto l.inside) below (rw n at (seen.ends.0 e)),
        λ some. seen.ends.1 (rw n (ends p.tokens (groups_of upto l.inside) (here_of upto l.inside) some).counts),
      )

-- without a list no point is valid
pub none_valid : (tokens : List TokenTree) (os : List Opening) (p : Point) → IsNoListAt tokens os p.depth
    → IsSome (cut_in p (groups_of tokens os) (here_of tokens os)) → ⊥
none_valid tokens os p none some =
    let no : IsSome {T = List Opened × Forest} None = rw none at some in
    absurd (grind (arith, no))

-- a valid point is among the tokens
pub valid_fits : (tokens : List TokenTree) (os : List Opening) (p : Point) → IsHeld tokens os
    → IsSome (cut_in p (groups_of tokens os) (here_of tokens os)) → p.tokens + 1 ≤ length tokens
valid_fits tokens os p held some = (restored tokens os p held some).fits
