use Rattle.std.proofs.Common.{◌≤◌, ◌++◌, refl, arith, length, take, drop, sym, ◌+◌, reverse, length-append}
use Rattle.std.proofs.lemmas.List.{length-take, length-drop}
use Rattle.tt_data.specs.declared.tree.TokenTree.{TokenTree}
use Rattle.tt.specs.BuilderTokens.{moved_back}
use Rattle.tt.proofs.HeldMarks.{invisible_head, marks_removed}
use Rattle.token_bytes.proofs.ReadLemmas.{ReadAt, read_at}
use Rattle.tt.proofs.Settled.{IsSettled-unwrapped}
use Rattle.tt.proofs.Unwrapping.{TakenOut, taken_out, left_there, map-reversed}
use Rattle.tt.proofs.top_subtree.builder.TopSubtreeBuilder.remove_last_subtree_if_invisible.Goals as goal

-- what is left once the group's token is taken out
out : (c : goal.After-move_back) → TakenOut c.self.inside.tokens c.self.inside.openings.items c.in-Some.at.count
out c =
    let tree = rw (sym c.in-Some.ensures.value) at c.self.invariant.2 in
    let r : (t : TokenTree) × ReadAt c.self.inside.tokens c.in-Some.at.count t = read_at c.self.inside.tokens c.in-Some.at.count tree.0 in
    let head = rw c.head_at.ensures at c.if-is_invisible_head.ensures r.0 in
    taken_out _ _ _ r.0 tree.0 r.1.read (sym (head (sym r.1.head))) c.self.invariant.0 tree.1

pub head_at-requires : goal.head_at-requires
head_at-requires c = (rw (sym c.in-Some.ensures.value) at c.self.invariant.5).closed

pub remove_head-requires : goal.remove_head-requires
remove_head-requires c =
    let tree = rw (sym c.in-Some.ensures.value) at c.self.invariant.2 in
    let r : (t : TokenTree) × ReadAt c.self.inside.tokens c.in-Some.at.count t = read_at c.self.inside.tokens c.in-Some.at.count tree.0 in
    let head = rw c.head_at.ensures at c.if-is_invisible_head.ensures r.0 in
    invisible_head c.in-Some.at c.self.inside.tokens r.0 (rw (sym c.in-Some.ensures.value) at c.self.invariant.5).closed r.1 (sym (head (sym r.1.head)))

pub invariant_of-self-then-is_invisible_head : goal.invariant_of-self-then-is_invisible_head
invariant_of-self-then-is_invisible_head c =
    let at = c.in-Some.at.count in
    let tokens = c.self.inside.tokens in
    let fits : length (take at tokens ++ drop (at + 1) tokens) ≤ length tokens =
    omega (arith, length-append (take at tokens) (drop (at + 1) tokens), length-take at tokens, length-drop (at + 1) tokens) in
    let before = rw (sym c.in-Some.ensures.value) at c.self.invariant.4 in
    let settled = IsSettled-unwrapped c.self.inside.settled.count at _ _ before c.self.invariant.3 in
    let tree = rw (sym c.in-Some.ensures.value) at c.self.invariant.2 in
    let r : (t : TokenTree) × ReadAt tokens at t = read_at tokens at tree.0 in
    let head = rw c.head_at.ensures at c.if-is_invisible_head.ensures r.0 in
    let there = invisible_head c.in-Some.at tokens r.0 (rw (sym c.in-Some.ensures.value) at c.self.invariant.5).closed r.1 (sym (head (sym r.1.head))) in
    let marks = marks_removed c.in-Some.at tokens (reverse c.self.inside.openings.items) _ c.self.inside.settled there c.self.invariant.0 tree.1 before c.self.invariant.5 in
    rw (c.remove_head.ensures, c.move_back.ensures, c.in-Some.ensures.after)
    ((out c).held, omega (arith, fits, c.self.invariant.1), tt, rw ((out c).groups_are, (out c).here_is) settled, tt, rw (map-reversed (moved_back at) c.self.inside.openings.items) marks)

pub returns-then-is_invisible_head-clause-tree : goal.returns-then-is_invisible_head-clause-tree
returns-then-is_invisible_head-clause-tree c =
    rw (
      ← c.self.view_is,
      ← c.in-Some.ensures.value,
      c.remove_head.ensures,
      c.move_back.ensures,
      (out c).groups_are,
      (out c).here_is,
    )
    refl

pub returns-else-is_invisible_head-clause-tree : goal.returns-else-is_invisible_head-clause-tree
returns-else-is_invisible_head-clause-tree c =
    let tree = rw (sym c.in-Some.ensures.value) at c.self.invariant.2 in
    let r : (t : TokenTree) × ReadAt c.self.inside.tokens c.in-Some.at.count t = read_at c.self.inside.tokens c.in-Some.at.count tree.0 in
    let head = rw c.head_at.ensures at c.if-is_invisible_head.ensures r.0 in
    let same =
    left_there c.self.inside.tokens c.self.inside.openings.items c.in-Some.at.count r.0 tree.0 r.1.read (sym (head (sym r.1.head))) c.self.invariant.0 tree.1 in
    rw (← c.self.view_is, ← c.in-Some.ensures.value, same) refl
