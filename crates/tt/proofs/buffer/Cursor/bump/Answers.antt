use Rattle.std.proofs.Common.{◌≡◌, ◌+◌, arith, Some}
use Rattle.tt_data.specs.declared.leaf.Leaf.{Leaf}
use Rattle.tt_data.specs.declared.tree.TokenTree.TheVariants as token
use Rattle.token_bytes.specs.Items.{items}
use Rattle.tt.specs.Views.{forest}
use Rattle.tt.specs.Places.{first_token, bumped}
use Rattle.tt.specs.CursorTokens.{Stands}
use Rattle.tt.proofs.CursorLemmas.{stood, past_leaf, into_group}
use Rattle.tt.proofs.CursorReads.{leaf_first, group_first}
use Rattle.tt.proofs.KeptLemmas.{kept}
use Rattle.tt.proofs.PlaceLemmas.{found, placed}
use Rattle.tt.proofs.FrameLemmas.{fits}
use Rattle.tt.proofs.buffer.Cursor.bump.Goals as goal

-- the leaf that comes first
first : (c : goal.After-self-1) → (l : Leaf) × (Some (token.Leaf l) ≡ first_token c.args.self.now.after)
unfolding forest
first c = leaf_first (items c.after.result.tokens) c.args.self.now.after c.after.ensures c.in-None.ensures c.requires

-- past the leaf
past : (c : goal.After-self-1) → Stands (items c.self.inside.tokens) c.self.inside.start.count (c.self.inside.at.count + 1) (bumped c.args.self.now)
past c = past_leaf _ _ _ _ (first c).0 (stood _ _ _ _ c.self.view_is c.self.invariant.0) (first c).1

pub invariant_of-self : goal.invariant_of-self
invariant_of-self c =
    let next = c.past_token-self-inside.ensures in
    (rw next.count (placed _ _ _ _ (past c)), c.self.invariant.1, record { begins = c.self.invariant.2.begins; stands = next.marked })

pub past_token-self-inside-requires-clause-some : goal.past_token-self-inside-requires-clause-some
unfolding forest
past_token-self-inside-requires-clause-some c =
    let l = leaf_first (items c.after.result.tokens) c.args.self.now.after c.after.ensures c.in-None.ensures c.requires in
    omega (arith, fits _ _ _ _ (past_leaf _ _ _ _ l.0 (stood _ _ _ _ c.self.view_is c.self.invariant.0) l.1))

pub returns-in-None : goal.returns-in-None
returns-in-None c = rw c.past_token-self-inside.ensures.count (found _ _ _ _ (past c))

pub past_token-self-inside-requires-in-Some-clause-some : goal.past_token-self-inside-requires-in-Some-clause-some
unfolding forest
past_token-self-inside-requires-in-Some-clause-some c =
    let head = group_first (items c.after.result.tokens) c.in-Some._head c.args.self.now.after c.after.result.whole c.after.ensures c.in-Some.ensures in
    omega (arith, fits _ _ _ _ (into_group _ c.self.inside.start.count _ _ c.in-Some._head (stood _ _ _ _ c.self.view_is c.self.invariant.0) head))

-- the group comes first
group : (c : goal.After-self-in-Some-2-1) → Some (token.Subtree c.in-Some._head) ≡ first_token c.args.self.now.after
unfolding forest
group c = group_first (items c.after.result.tokens) c.in-Some._head c.args.self.now.after c.after.result.whole c.after.ensures c.in-Some.ensures

-- into the group
into : (c : goal.After-self-in-Some-2-1)
    → Stands (items c.self.inside.tokens) (c.self.inside.at.count + 1) (c.self.inside.at.count + 1) (bumped c.args.self.now)
into c = into_group _ c.self.inside.start.count _ _ c.in-Some._head (stood _ _ _ _ c.self.view_is c.self.invariant.0) (group c)

pub invariant_of-self-in-Some : goal.invariant_of-self-in-Some
invariant_of-self-in-Some c =
    let next = c.past_token-self-inside-in-Some.ensures in
    let stands = stood _ _ _ _ c.self.view_is c.self.invariant.0 in
    let one = kept _ _ _ _ c.in-Some._head stands (group c) next.count c.self.invariant.2.begins in
    (rw next.count (placed _ _ _ _ (into c)), c.keep.ensures _ c.self.invariant.1 one, record { begins = next.marked; stands = next.marked })

pub returns-in-Some : goal.returns-in-Some
returns-in-Some c = rw c.past_token-self-inside-in-Some.ensures.count (found _ _ _ _ (into c))
