-- Memos: plain pieces as the cache has them.
use Rattle.std.specs.Prelude.{◌≡◌, ℕ, ◌<◌, Bool, true, false, ◌&&◌, IfSome, List, Option, is_some}
use Rattle.std.specs.Prelude.{length, map, slice_get}
use Rattle.std.specs.List.{list_any}
use Rattle.std.specs.Global.{Global}
use Rattle.std.specs.Rc.{rc_value}
use Rattle.std.specs.declared.rc.Rc.{Rc}
use Rattle.tt.specs.Tops.{Top}
use Rattle.expander_model.specs.Definitions.{definition_of}
use Rattle.expander_model.specs.Held.{Numbered}
use Rattle.expander_scope.specs.Outcomes.{find_of}
use Rattle.expander_model.specs.HashedTrees.{tree_hash}
use Rattle.expander_session.specs.Reuse.{agrees}
use Rattle.expander_model.specs.EqualTrees.{same_top}
use Rattle.expander_session.specs.declared.memo.Memo.{Memo}

-- the tree of a piece
abbrev pub tree_of : Memo → Top
tree_of q = q.tree.value

-- it is no definition
abbrev pub IsPlain : Memo → Type 0
IsPlain q = is_some (definition_of (tree_of q).inner) ≡ false

-- its look-ups
abbrev pub finds_of : Memo → List (List ℕ × Option Numbered)
finds_of q = map find_of q.finds.items

-- a memo with this tree whose look-ups all find the same ids, or still none
abbrev pub is_match : (List ℕ → Option Numbered) → Top → Memo → Bool
is_match scope tree q = same_top tree (tree_of q) && agrees scope (finds_of q)

-- some memo of these is valid for this tree
abbrev pub has_match : (List ℕ → Option Numbered) → Top → List (Rc Memo Global) → Bool
has_match scope tree held = list_any (λ q. is_match scope tree (rc_value q)) held

-- the memo at this index is valid for this tree
abbrev pub IsValidAt : (List ℕ → Option Numbered) → Top → List (Rc Memo Global) → ℕ → Type 0
IsValidAt scope tree held i = IfSome (slice_get held i)
    (λ q. is_match scope tree (rc_value q) ≡ true)

-- these are the hashes of the trees of these memos, in order
abbrev pub AreHashes : List ℕ → List (Rc Memo Global) → Type 0
AreHashes hashes held = hashes ≡ map (λ (q : Rc Memo Global). tree_hash (tree_of (rc_value q))) held

-- the memo at this index is valid for this tree in this scope, so there is one
pub record IsMatchAt (scope : List ℕ → Option Numbered) (tree : Top) (held : List (Rc Memo Global))
    (i : ℕ) : Type 0 where
  pub within : i < length held
  pub any : true ≡ list_any (λ q. is_match scope tree (rc_value q)) held
  pub found : IfSome (slice_get held i) (λ q. is_match scope tree (rc_value q) ≡ true)
