-- In which list a group is.
use Rattle.std.specs.Prelude.{◌≡◌, ℕ, ◌+◌, ◌-◌, ◌<◌, ◌≤◌, List, slice_index_or}
use Rattle.tt_data.specs.declared.tree.TokenTree.{TokenTree}
use Rattle.tt_data.specs.declared.tree.TokenTree.TheVariants as token

-- a token is the head of a group that begins after so many tokens and ends past so many
abbrev pub Reaches : TokenTree → ℕ → ℕ → Type 0
Reaches (token.Leaf l) start n = ⊥
Reaches (token.Subtree s) start n = n < start + s.len

-- the group with its head at `head` is in the list that begins at `start`: no group that begins
-- between the two reaches past the head, and the group that the list is in, if any, does
pub record IsTreeOf (tokens : List TokenTree) (head start : ℕ) : Type 0 where
  pub after : start ≤ head
  pub passed : (k : ℕ) (d : TokenTree) → start ≤ k → k < head → Reaches (slice_index_or tokens k d) (k + 1) head → ⊥
  pub inside : (d : TokenTree) → 0 < start → Reaches (slice_index_or tokens (start - 1) d) start head

-- the list with the group at this index begins there
abbrev pub BeginsListOf : List TokenTree → ℕ → ℕ → Type 0
BeginsListOf tokens head result = (start : ℕ) → IsTreeOf tokens head start → result ≡ start
