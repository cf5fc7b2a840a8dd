use Rattle.std.proofs.Common.{◌≡◌, ◌∙◌, arith}
use Rattle.tt_data.specs.Forest.{preorder}
use Rattle.token_bytes.specs.Items.{items}
use Rattle.tt.specs.Views.{forest}
use Rattle.tt.proofs.CursorLemmas.{stood, crossed_at_root, shows}
use Rattle.tt.proofs.FrameLemmas.{fits}
use Rattle.tt.proofs.buffer.Cursor.crossed.Goals as goal
use Rattle.tt.proofs.buffer.Cursor.crossed.Goals.{After-front-before}

pub front-before-requires : goal.front-before-requires
front-before-requires c = rw c.count.ensures (omega (arith, fits _ _ _ _ (stood _ _ _ _ c.self.view_is c.self.invariant.0)))

-- the tokens before the place
before : (c : After-front-before) → items c.front-before.result ≡ preorder c.args.self.now.before
before c = rw c.count.ensures at c.front-before.ensures ∙ crossed_at_root _ _ _ _ (stood _ _ _ _ c.self.view_is c.self.invariant.0) c.requires

pub invariant_of-result : goal.invariant_of-result
invariant_of-result c = record { whole = (shows _ _ (before c)).0 }

pub returns : goal.returns
unfolding forest
returns c = (shows _ _ (rw c.count.ensures at c.front-before.ensures ∙ crossed_at_root _ _ _ _ (stood _ _ _ _ c.self.view_is c.self.invariant.0) c.requires)).1
