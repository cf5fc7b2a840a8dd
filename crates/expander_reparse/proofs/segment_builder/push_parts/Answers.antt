use Rattle.std.proofs.Common.{◌≡◌, ℕ, ◌+◌, ◌≤◌, ◌∙◌, ◌∷◌, [], ◌++◌, List, Some, append-nil, ap, length, map, refl, rules, subst, sym, take}
use Rattle.std.specs.Prelude.{IfSome, slice_get}
use Rattle.tt.specs.Tops.{Top}
use Rattle.expander_reparse.specs.RelativePieces.{own_shown, tree_at}
use Rattle.expander_reparse.specs.Reparsing.{AddsPieces}
use Rattle.expander_reparse.specs.Segments.{part_shown}
use Rattle.expander_reparse.specs.declared.piece.Piece.{Piece}
use Rattle.expander_reparse.specs.declared.piece.PieceTree.TheVariants as as_tree
use Rattle.expander_reparse.specs.declared.segment.SegmentPart.{SegmentPart}
use Rattle.expander_reparse.proofs.SegmentBuilderLemmas.{adds_met, adds_part, part_met, part_placed, parts_in, shown_top, taken_more}
use Rattle.expander_reparse.proofs.ListLemmas.{all_mapped, stands_at}
use Rattle.expander_reparse.proofs.segment_builder.push_parts.Goals as goal

pub loop-i-init : goal.loop-i-init
loop-i-init c = (record { more = []; items = sym (append-nil c.args.own.now.items); are = refl }, λ sources is all. all)

pub loop-i-preserved : goal.loop-i-preserved
loop-i-preserved c =
    let o : Piece = record { start = c.args.at + c.index-parts-i.result.before; tree = as_tree.Part c.new.result; met = c.checked_add.result } in
    let stands : slice_get (parts_in c.args.held.now) c.loop-i.i ≡ Some c.index-parts-i.result =
    stands_at (parts_in c.args.held.now) c.loop-i.i c.index-parts-i.result (search rules) (search rules) in
    let shown : own_shown o ≡ part_shown c.args.at c.index-parts-i.result =
    part_placed c.args.at c.args.held.now c.loop-i.i c.index-parts-i.result o c.new.result stands refl refl (search rules) (search rules) in
    let parts : c.as_slice-parts.result.now ≡ parts_in c.args.held.now = search rules in
    let more : take (c.loop-i.i + 1) c.as_slice-parts.result.now ≡ take c.loop-i.i c.as_slice-parts.result.now ++ c.index-parts-i.result ∷ [] =
    taken_more c.as_slice-parts.result.now c.loop-i.i c.index-parts-i.result (ap (λ (ps : List SegmentPart). slice_get ps c.loop-i.i) parts ∙ stands) in
    let grown : c.push.new.self.items ≡ c.loop-i.own.items ++ o ∷ [] = search rules in
    let number : IfSome o.met (λ k. k ≡ c.args.held.now.first + c.loop-i.i) = search rules in (
      adds_part c.args.at (take c.loop-i.i c.as_slice-parts.result.now) (take (c.loop-i.i + 1) c.as_slice-parts.result.now) c.index-parts-i.result c.args.own.now.items c.loop-i.own.items _ o
          c.loop-i.invariant.0 grown shown more,
      λ sources is all. adds_met sources c.loop-i.own.items _ o grown (part_met sources c.args.held.now c.loop-i.i c.index-parts-i.result o.met (tree_at o) is stands number (ap shown_top shown)) (c.loop-i.invariant.1 sources is all),
    )

pub returns-clause-own : goal.returns-clause-own
returns-clause-own c =
    let parts : c.as_slice-parts.result.now ≡ parts_in c.args.held.now = search rules in
    let past : length c.as_slice-parts.result.now ≤ c.loop-i.i = search rules in
    subst (λ (shown : List (ℕ × Top)). AddsPieces shown c.args.own.now.items c.loop-i.own.items)
    (all_mapped (part_shown c.args.at) c.as_slice-parts.result.now c.loop-i.i past ∙ ap (map (part_shown c.args.at)) parts) c.loop-i.invariant.0

pub returns-clause-met : goal.returns-clause-met
returns-clause-met c = c.loop-i.invariant.1
