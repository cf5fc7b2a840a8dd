use Rattle.std.proofs.Common.{◌≡◌, ◌∙◌, sym, ap, arith, length}
use Rattle.tt_data.specs.Forest.{preorder}
use Rattle.token_bytes.specs.Items.{items}
use Rattle.tt.specs.Views.{forest}
use Rattle.tt.proofs.CursorLemmas.{stood, rest_at_root, rest_in_group, shows}
use Rattle.tt.proofs.buffer.Cursor.after.Goals as goal

pub after-ahead-requires : goal.after-ahead-requires
after-ahead-requires c = c.self.invariant.2.stands

-- in no group: all tokens that are left
rest : (c : goal.In_default) → items c.after-ahead.result ≡ preorder c.args.self.now.after
rest c =
    c.after-ahead.ensures ∙ rest_at_root _ _ _ _ (stood _ _ _ _ c.self.view_is c.self.invariant.0) (sym c.in_default.is ∙ c.head.ensures)

pub invariant_of-result : goal.invariant_of-result
invariant_of-result c = record { whole = (shows _ _ (rest c)).0 }

pub returns-in_default : goal.returns-in_default
unfolding forest
returns-in_default c =
    let all = c.after-ahead.ensures ∙ rest_at_root _ _ _ _ (stood _ _ _ _ c.self.view_is c.self.invariant.0) (sym c.in_default.is ∙ c.head.ensures) in
    (shows _ _ all).1

-- in a group: those that it still counts
pub overflow_sub-count-2 : goal.overflow_sub-count-2
overflow_sub-count-2 c =
    let part = rest_in_group _ _ _ _ _ (stood _ _ _ _ c.self.view_is c.self.invariant.0) (sym c.in-Some.is ∙ c.head.ensures) in
    omega (arith, part.begun, c.count.ensures, c.count-2.ensures, c.usize_len.ensures)

pub front-list-requires : goal.front-list-requires
front-list-requires c =
    let part = rest_in_group _ _ _ _ _ (stood _ _ _ _ c.self.view_is c.self.invariant.0) (sym c.in-Some.is ∙ c.head.ensures) in
    omega (arith, part.fits, ap length c.after-ahead.ensures, c.count.ensures, c.count-2.ensures, c.usize_len.ensures)

pub invariant_of-result-2 : goal.invariant_of-result-2
invariant_of-result-2 c =
    let part = rest_in_group _ _ _ _ _ (stood _ _ _ _ c.self.view_is c.self.invariant.0) (sym c.in-Some.is ∙ c.head.ensures) in
    let is = rw (c.usize_len.ensures, c.count.ensures, c.count-2.ensures, c.after-ahead.ensures) at c.front-list.ensures in
    record { whole = (shows _ c.args.self.now.after (is ∙ part.is)).0 }

pub returns : goal.returns
unfolding forest
returns c =
    let part = rest_in_group _ _ _ _ _ (stood _ _ _ _ c.self.view_is c.self.invariant.0) (sym c.in-Some.is ∙ c.head.ensures) in
    let is = rw (c.usize_len.ensures, c.count.ensures, c.count-2.ensures, c.after-ahead.ensures) at c.front-list.ensures in
    (shows _ c.args.self.now.after (is ∙ part.is)).1
