-- Where a traversal that rewrites trees is, and what one step of it does.
use Rattle.std.specs.Prelude.{◌≡◌, ℕ, ◌+◌, ◌-◌, ◌*◌, ◌≤◌, List, [], ◌∷◌, length, take, drop, reverse, is_none, if◌then◌else◌}
use Rattle.tt_data.specs.declared.span.Span.{Span}
use Rattle.tt_data.specs.declared.tree.Subtree.{Subtree}
use Rattle.tt_data.specs.declared.tree.TokenTree.{TokenTree}
use Rattle.tt_data.specs.Forest.{Forest, IsPreorder, forest_of}
use Rattle.tt.specs.declared.top_subtree.transform.Kept.{Kept}
use Rattle.tt.specs.declared.top_subtree.transform.Walk.{Walk}
use Rattle.tt.specs.Building.{Building, closed}
use Rattle.token_bytes.specs.Items.{items}
use Rattle.tt.specs.Rewriting.{Call, with_answer}

-- a group around: the span of its closing, and the trees after it in its list
pub record Around : Type 0 where
  pub close_span : Span
  pub rest : Forest

-- how many tokens come after the innermost list; groups come innermost first
abbrev pub after_in : List Kept → ℕ
after_in [] = 0
after_in (k ∷ outer) = k.after

-- the trees left in the innermost list
abbrev pub left_in : List TokenTree → List Kept → Forest
left_in tokens outer = forest_of (take (length tokens - after_in outer) tokens)

-- the groups around that list
abbrev pub around_in : List TokenTree → List Kept → List Around
around_in tokens [] = []
around_in tokens (k ∷ outer) =
    record { close_span = k.close_span; rest = left_in (drop (length tokens - k.after) tokens) outer } ∷ around_in (drop (length tokens - k.after) tokens) outer

-- what is left of each list is whole trees
abbrev pub IsNested : List TokenTree → List Kept → Type 0
IsNested tokens [] = IsPreorder tokens
IsNested tokens (k ∷ outer) =
    (k.after ≤ length tokens) × IsPreorder (take (length tokens - k.after) tokens) × IsNested (drop (length tokens - k.after) tokens) outer

-- the tree so far, the trees left in the innermost group, and those around it, innermost first
pub record Standing : Type 0 where
  pub tree : Building
  pub left : Forest
  pub around : List Around

-- where the code's traversal is
abbrev pub standing : Walk → Standing
standing w = record {
  tree = w.tree.tree;
  left = left_in (items w.left) (reverse w.outer.items);
  around = around_in (items w.left) (reverse w.outer.items);
}

-- the same, past so many of these tokens
abbrev pub behind : ℕ → List TokenTree → Walk → Standing
behind count more w = record {
  tree = w.tree.tree;
  left = left_in (drop count more) (reverse w.outer.items);
  around = around_in (drop count more) (reverse w.outer.items);
}

-- what is left of the traversal: each step makes it less
abbrev pub work_of : Walk → ℕ
work_of w = 2 * length (items w.left) + length w.outer.items

-- the callback was asked about a group: the traversal enters it if it stays, else goes on after it
abbrev pub entered : Call → Subtree → Forest → Standing → Standing
entered c head inside s =
    if is_none c.put
    then record { tree = with_answer c s.tree; left = inside; around = record { close_span = head.delimiter.close_span; rest = s.left } ∷ s.around }
    else record { tree = with_answer c s.tree; left = s.left; around = s.around }

-- the innermost group is closed, and the traversal goes on after it
abbrev pub LeavesGroup : Standing → Standing → Type 0
LeavesGroup s t = (a : Around) × (s.around ≡ a ∷ t.around) × (t.left ≡ a.rest) × (t.tree ≡ closed s.tree a.close_span)
