-- The lists that a cursor keeps of those around its own.
use Rattle.std.proofs.Common.{◌≡◌, ℕ, ◌+◌, ◌-◌, ◌<◌, List, [], ◌∷◌, ◌++◌, All, remove, take, drop, suc, slice_get, arith, subst, sym, ◌∙◌, Some, inl, inr}
use Rattle.std.proofs.lemmas.Bool.{cases_lt}
use Rattle.std.proofs.lemmas.Option.{slice_get_cases}
use Rattle.std.proofs.lemmas.List.Elements.{All-append, All-cons, All-drop, All-nil, All-take}
use Rattle.tt_data.specs.declared.tree.Subtree.{Subtree}
use Rattle.tt_data.specs.declared.tree.TokenTree.{TokenTree}
use Rattle.tt_data.specs.declared.tree.TokenTree.TheVariants as token
use Rattle.tt_data.specs.Forest.{Forest, empty, leaf, group}
use Rattle.tt.specs.declared.buffer.ListAround.{ListAround}
use Rattle.token_bytes.specs.Marks.{IsPlaceIn}
use Rattle.tt.specs.Places.{Around, Place, first_token}
use Rattle.tt.specs.CursorTokens.{start_in, Stands, IsKept}
use Rattle.token_bytes.specs.Lists.{IsTreeOf, BeginsListOf}
use Rattle.tt.proofs.CursorLemmas.{is_tree}

-- a group is in one list
apart : (tokens : List TokenTree) (head a b : ℕ) (t : TokenTree) → IsTreeOf tokens head a → IsTreeOf tokens head b → a < b → ⊥
apart tokens head a b t one other less =
    let n : b - 1 + 1 ≡ b = omega (arith, less) in
    one.passed (b - 1) t (omega (arith, less)) (omega (arith, less, other.after)) (rw n (other.inside t (omega (arith, less))))

same : (tokens : List TokenTree) (head a b : ℕ) (t : TokenTree) → IsTreeOf tokens head a → IsTreeOf tokens head b → a ≡ b
same tokens head a b t one other =
    elim (cases_lt a b) [
      | inl less ↦ absurd (apart tokens head a b t one other less)
      | inr more ↦ elim (cases_lt b a) [
        | inl less ↦ absurd (apart tokens head b a t other one less)
        | inr equal ↦ omega (arith, more, equal)
      ]
    ]

-- the innermost list is that of the group that comes next
next_in : (tokens : List TokenTree) (start at : ℕ) (around : List Around) (before after : Forest) (s : Subtree)
    → Stands tokens start at (record { around = around; before = before; after = after }) → Some (token.Subtree s) ≡ first_token after
    → IsTreeOf tokens at start
next_in tokens start at around before empty s stands e = absurd cc
next_in tokens start at around before (leaf l rest) s stands e = absurd cc
next_in tokens start at around before (group d inner rest) s stands e =
    let a : Around = record { delimiter = d; before = before; after = rest } in
    let head : at ≡ start_in (a ∷ around) - 1 = omega (arith, stands.at_is, stands.start_is) in
    rw (head, stands.start_is) (is_tree tokens a around inner stands.whole)

begins : (tokens : List TokenTree) (start at : ℕ) (p : Place) (s : Subtree) → Stands tokens start at p → Some (token.Subtree s) ≡ first_token p.after
    → BeginsListOf tokens at start
begins tokens start at p s stands e =
    λ other tree. same tokens at start other (token.Subtree s) (next_in tokens start at p.around p.before p.after s stands e) tree

pub kept : (tokens : List TokenTree) (list : ListAround) (at : ℕ) (p : Place) (s : Subtree) → Stands tokens list.start.count at p
    → Some (token.Subtree s) ≡ first_token p.after → list.inside.count ≡ at + 1 → IsPlaceIn list.start tokens → IsKept tokens list
kept tokens list at p s stands e past marked =
    let n : list.inside.count - 1 ≡ at = omega (arith, past) in
    record { begins = rw n (begins tokens list.start.count at p s stands e); marked = marked }

-- one more of which this holds, in place of another
module _ {X : Type 0} (P : X → Type 0) where
  pub one_more : (old new : List X) (x : X) → new ≡ old ++ x ∷ [] → All P old → P x → All P new
  one_more old new x last all one = rw last (All-append P old (x ∷ []) all (All-cons P x [] one (All-nil P)))

  pub one_for_another : (old rest new : List X) (i : ℕ) (x : X) → new ≡ rest ++ x ∷ [] → rest ≡ remove old i → All P old → P x → All P new
  one_for_another old rest new i x last less all one =
      one_more rest new x last (rw less (All-append P (take i old) (drop (suc i) old) (All-take P i old all) (All-drop P (suc i) old all))) one

  -- what holds of each holds of the one at a place
  pub holds_at : (xs : List X) (i : ℕ) (x : X) → Some x ≡ slice_get xs i → All P xs → P x
  holds_at xs i x found all =
      elim (slice_get_cases xs i).1 [
        | inl (y, lt, got, here) ↦ let one : Some y ≡ Some x = sym got ∙ sym found in
            let equal : y ≡ x = cc in
            subst P (here ∙ equal) (all i y lt)
        | inr (past, none) ↦ absurd cc
      ]
