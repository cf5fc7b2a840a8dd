use Rattle.std.proofs.Common.{◌-◌, refl, arith, length, reverse}
use Rattle.token_bytes.specs.Items.{items}
use Rattle.tt.specs.declared.top_subtree.transform.Kept.{Kept}
use Rattle.tt.proofs.NestingLemmas.{group_first, inside, stacked}
use Rattle.tt.proofs.top_subtree.transform.enter.Goals as goal

pub go_inside-requires : goal.go_inside-requires
go_inside-requires g c =
    let f = group_first c.args.head (items c.args.more) _ (rw c.requires.first at c.requires.nested) c.requires.within in
    omega (arith, f.fits)

pub split_at-requires : goal.split_at-requires
split_at-requires g c =
    let f = group_first c.args.head (items c.args.more) _ (rw c.requires.first at c.requires.nested) c.requires.within in
    omega (arith, f.fits, c.usize_len.ensures)

pub returns-in_ok-go_inside-clause-nested : goal.returns-in_ok-go_inside-clause-nested
returns-in_ok-go_inside-clause-nested g c =
    let head = c.args.head in
    let more = items c.args.more in
    let f = group_first head more _ (rw c.requires.first at c.requires.nested) c.requires.within in
    let kept : Kept = record { close_span = head.delimiter.close_span; after = length more - head.len } in
    let turned = stacked c.args.walk.now.outer.items c.go_inside.new.walk.outer.items kept c.in_ok-go_inside.ensures.outer in
    rw (c.in_ok-go_inside.ensures.left, turned) (inside kept head more (reverse c.args.walk.now.outer.items) refl f).nested

pub returns-else-branch-clause-nested : goal.returns-else-branch-clause-nested
returns-else-branch-clause-nested g c =
    let f = group_first c.args.head (items c.args.more) _ (rw c.requires.first at c.requires.nested) c.requires.within in
    rw (c.split_at.ensures.back, c.usize_len.ensures) f.nested
