-- An index of memos by their trees and by what their look-ups found.
use Rattle.std.specs.Prelude.{◌≡◌, ℕ, suc, ◌+◌, ◌<◌, true, IfSome, List, [], ◌∷◌, Option, Some}
use Rattle.std.specs.Prelude.{None, if◌then◌else◌, length, nat_eq, slice_get, ◌&&◌}
use Rattle.std.specs.HashMap.{get, get_by}
use Rattle.std.specs.Global.{Global}
use Rattle.std.specs.Rc.{rc_value}
use Rattle.std.specs.declared.rc.Rc.{Rc}
use Rattle.tt.specs.Tops.{Top}
use Rattle.expander_model.specs.EqualTrees.{same_top}
use Rattle.expander_model.specs.Held.{Numbered}
use Rattle.expander_session.specs.Memos.{finds_of, tree_of}
use Rattle.expander_session.specs.declared.lookup_tree.LookupTree as code
use Rattle.expander_session.specs.declared.memo.Memo.{Memo}
use Rattle.expander_session.specs.declared.memo_index.MemoIndex.{MemoIndex}

-- a look-up: a name, and the definition that it found, if any
abbrev pub Look : Type 0
Look = List ℕ × Option Numbered

-- what a look-up found, as a number: one more than the id of a definition, and 0 for none
abbrev pub id_of : Option Numbered → ℕ
id_of None = 0
id_of (Some d) = suc d.number

-- the look-ups of a memo, if there is one
abbrev pub lookups_of : Option (Rc Memo Global) → List Look
lookups_of None = []
lookups_of (Some q) = finds_of (rc_value q)

-- the look-ups of the memo at an index, and none past the end
abbrev pub lookups_at : List (Rc Memo Global) → ℕ → List Look
lookups_at memos at = lookups_of (slice_get memos at)

-- the first memo of a tree, by the index
unfoldable pub first_of : code.LookupTree → Top → Option ℕ
first_of c tree = get_by (λ k. same_top tree k.value) c.first

-- where a branch leads, by the index
unfoldable pub branch_of : code.LookupTree → ℕ → ℕ → ℕ → Option ℕ
branch_of c at place id =
    get (λ x y. (nat_eq x.0 y.0 && nat_eq x.1 y.1) && nat_eq x.2 y.2) c.branches (at, place, id)

-- the memo at which a search goes on behind a look-up that found `own`, and finds `known` now
abbrev pub turn : (ℕ → ℕ → ℕ → Option ℕ) → ℕ → ℕ → ℕ → ℕ → Option ℕ
turn branch at place own known = if nat_eq own known then Some at else branch at place known

-- each branch leads where it led before
abbrev pub Extends : (ℕ → ℕ → ℕ → Option ℕ) → (ℕ → ℕ → ℕ → Option ℕ) → Type 0
Extends old new = (at place id next : ℕ) → old at place id ≡ Some next → new at place id ≡ Some next

module _ (branch : ℕ → ℕ → ℕ → Option ℕ) (lookups : ℕ → List Look) where
  -- a search from here on that finds what these look-ups found ends at a memo without further ones
  abbrev pub Leads : List Look → ℕ → ℕ → Type 0
  Leads [] at place = slice_get (lookups at) place ≡ None
  Leads (f ∷ fs) at place = (own : Look) → slice_get (lookups at) place ≡ Some own →
      (own.0 ≡ f.0) × ((next : ℕ)
      × ((turn branch at place (id_of own.1) (id_of f.1) ≡ Some next) × Leads fs next (suc place)))

-- a memo's own look-ups lead from the first memo of its tree to a memo
pub record IsReached (c : code.LookupTree) (memos : List (Rc Memo Global)) (q : Memo) : Type 0 where
  pub start : ℕ
  pub first : first_of c (tree_of q) ≡ Some start
  pub leads : Leads (branch_of c) (lookups_at memos) (finds_of q) start 0

-- the index is of the memos before this one
abbrev pub IsIndexOf : code.LookupTree → List (Rc Memo Global) → ℕ → Type 0
IsIndexOf c memos n = c.is_whole ≡ true → (k : ℕ) (q : Rc Memo Global) → k < n
    → slice_get memos k ≡ Some q → IsReached c memos (rc_value q)

-- the first memo of each tree stays
abbrev pub KeepsFirsts : code.LookupTree → code.LookupTree → Type 0
KeepsFirsts old new = (t : Top) (i : ℕ) → first_of old t ≡ Some i → first_of new t ≡ Some i

-- an index of the memos before this one becomes one of this memo, too
abbrev pub AddsMemo : code.LookupTree → code.LookupTree → List (Rc Memo Global) → ℕ → Type 0
AddsMemo old new memos index = IsIndexOf old memos index → IsIndexOf new memos (index + 1)

-- the index, where it was made, is of these memos
abbrev pub IndexesMemos : MemoIndex → List (Rc Memo Global) → Type 0
IndexesMemos lookup held = IfSome lookup.index (λ c. IsIndexOf c held (length held))
