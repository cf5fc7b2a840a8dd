use Rattle.std.proofs.Common.{◌≡◌, ◌∙◌, List, Some, ap, rules, sym}
use Rattle.std.specs.Prelude.{slice_get}
use Rattle.std.specs.Rc.{rc_value}
use Rattle.expander_reparse.specs.declared.segment.SegmentPart.{SegmentPart}
use Rattle.expander_reparse.specs.declared.segment.CachedPiece.{CachedPiece}
use Rattle.expander_reparse.proofs.SegmentBuilderLemmas.{part_tree_is}
use Rattle.expander_reparse.proofs.ListLemmas.{stands_at}
use Rattle.expander_reparse.proofs.segment_piece.SegmentPiece.tree.Goals as goal

pub returns : goal.returns
returns c =
    let parts : List SegmentPart = (rc_value c.args.self.now.segment).parts.items in
    let stands : slice_get parts c.args.self.now.at ≡ Some c.index.result.now = stands_at parts c.args.self.now.at c.index.result.now (search rules) (search rules) in
    ap (λ (q : CachedPiece). rc_value q.tree) c.as_ref-2.ensures ∙ sym (part_tree_is parts c.args.self.now.at c.index.result.now stands)
