use Rattle.std.proofs.Common.{◌≡◌, [], ◌∷◌, ap, rules, refl, subst}
use Rattle.std.proofs.Output.{has_written_append, writes_in_calls_nil}
use Rattle.std.specs.Fmt.{HasWritten}
use Rattle.tt_data.specs.Walk.{at_leaf, opens, closes}
use Rattle.tt.specs.Places.{steps_after}
use Rattle.tt.specs.Styles.{touches_in}
use Rattle.tt.specs.Texts.{text_after}
use Rattle.tt.proofs.TextLemmas.{leaf_printed, opening_printed, closing_printed, all_printed}
use Rattle.tt.proofs.WalkLemmas.{next_leaf, next_opening, next_closing, fewer, done as at_end}
use Rattle.tt.proofs.display.write_all.Given.{Over}
use Rattle.tt.proofs.display.write_all.Goals as goal

pub loop-cursor-init : goal.loop-cursor-init
loop-cursor-init g c =
    λ plain. (
      [],
      record { wrote = writes_in_calls_nil g.W.Write.write_str_gives c.args.f.now.writer; plain = plain },
      ap (λ p. text_after (touches_in c.args.style) [] (steps_after p)) c.cursor-cursor.ensures,
    )

-- the event that each branch passes
leaf : (g : Over) (c : goal.After-bump g) → steps_after c.loop-cursor.cursor ≡ at_leaf c.in-Some-Leaf.leaf ∷ steps_after c.bump.new.self
leaf g c = next_leaf _ _ _ (rw c.in-Some-Leaf.field-0-is at c.in-Some-Leaf.ensures.token) c.bump.ensures

pub loop-cursor-smaller-in-Some-Leaf : goal.loop-cursor-smaller-in-Some-Leaf
loop-cursor-smaller-in-Some-Leaf g c = fewer _ _ _ (leaf g c)

pub loop-cursor-preserved-in-Some-Leaf : goal.loop-cursor-preserved-in-Some-Leaf
loop-cursor-preserved-in-Some-Leaf g c =
    λ plain.
    let (done, wrote, so_far) = c.loop-cursor.invariant plain in
    let one = c.write_leaf.ensures.text wrote.plain (search rules) in
    (_, has_written_append _ _ _ _ _ _ wrote one, leaf_printed _ _ _ _ _ _ so_far _ _ (leaf g c) c.in_ok-write_leaf-in-Some-Leaf.ensures.behind)

opening : (g : Over) (c : goal.After-bump-in-Some-Subtree g) → steps_after c.loop-cursor.cursor
    ≡ opens c.in-Some-Subtree.head.delimiter.kind c.in-Some-Subtree.head.delimiter.open_span ∷ steps_after c.bump-in-Some-Subtree.new.self
opening g c = next_opening _ _ _ (rw c.in-Some-Subtree.field-0-is at c.in-Some-Subtree.ensures.token) c.bump-in-Some-Subtree.ensures

pub loop-cursor-smaller-in-Some-Subtree : goal.loop-cursor-smaller-in-Some-Subtree
loop-cursor-smaller-in-Some-Subtree g c = fewer _ _ _ (opening g c)

pub loop-cursor-preserved-in-Some-Subtree : goal.loop-cursor-preserved-in-Some-Subtree
loop-cursor-preserved-in-Some-Subtree g c =
    λ plain.
    let (done, wrote, so_far) = c.loop-cursor.invariant plain in
    let one = c.write_opening.ensures.text wrote.plain (search rules) in (
      _,
      has_written_append _ _ _ _ _ _ wrote one,
      opening_printed _ _ _ _ _ _ so_far _ _ _ (opening g c) c.in_ok-write_opening-in-Some-Subtree.ensures.behind,
    )

closing : (g : Over) (c : goal.In_ok-write_closing-in-None g) → steps_after c.loop-cursor.cursor
    ≡ closes c.end-group.result.delimiter.kind c.end-group.result.delimiter.close_span ∷ steps_after c.end-group.new.self
closing g c = next_closing _ _ _ (c.in-None.ensures.at_end.0 refl) c.end-group.ensures.group c.end-group.ensures.left

pub loop-cursor-smaller : goal.loop-cursor-smaller
loop-cursor-smaller g c = fewer _ _ _ (closing g c)

pub loop-cursor-preserved : goal.loop-cursor-preserved
loop-cursor-preserved g c =
    λ plain.
    let (done, wrote, so_far) = c.loop-cursor.invariant plain in
    let one = c.write_closing.ensures.text wrote.plain (search rules) in (
      _,
      has_written_append _ _ _ _ _ _ wrote one,
      closing_printed _ _ _ _ _ _ so_far _ _ _ (closing g c) c.in_ok-write_closing-in-None.ensures.behind,
    )

pub returns : goal.returns
returns g c =
    λ plain ok.
    let (done, wrote, so_far) = c.loop-cursor.invariant plain in
    let all = all_printed (touches_in c.args.style) _ _ _ _ so_far (at_end c.loop-cursor.cursor (c.eof.ensures.0 c.loop-cursor-test.false)) in
    subst (λ text. HasWritten g.W.Write.write_str_gives c.args.f.now text c.loop-cursor.f) all wrote
