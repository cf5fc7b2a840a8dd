use Rattle.std.proofs.Common.{◌∙◌, arith, length, sym}
use Rattle.line_index.specs.LineEnds.{NoneEnds}
use Rattle.line_index.proofs.EndLemmas.{behind_end, in_line, none_nearer}
use Rattle.line_index.proofs.StepLemmas.{column_of-few, line_of-few}
use Rattle.line_index.proofs.positions.position_behind.Goals as goal
use Rattle.line_index.proofs.positions.position_behind.Goals.{in-Some+then-at-end, in_default}

pub overflow_add-line : goal.overflow_add-line
overflow_add-line c =
    omega (
      arith,
      c.loop-end.invariant.line,
      c.loop-end.invariant.order,
      line_of-few c.args.text.now c.loop-end.start,
      c.requires.within,
      c.requires.short,
    )

pub loop-end-preserved : goal.loop-end-preserved
loop-end-preserved c =
    let found = rw (c.in-Some.is, c.as_bytes-bytes.ensures.value) at c.line_end.ensures in
    let behind = behind_end c.args.text.now c.loop-end.start c.in-Some.end found in
    record {
      order = omega (arith, c.if-at-end.false);
      line = omega (arith, c.loop-end.invariant.line, behind.0);
      column = sym behind.1;
    }

-- no line ends from the last begin up to the byte
none_left : (c : goal.After-units_between-column) → NoneEnds c.args.text.now c.loop-end.start c.args.at
none_left c = elim c.match-line_end.branch [
  | in-Some+then-at-end w ↦
      let found = rw (w.in-Some.is, c.as_bytes-bytes.ensures.value) at c.line_end.ensures in
      none_nearer c.args.text.now c.loop-end.start c.args.at w.in-Some.end (omega (arith, w.if-at-end.true)) found.none
  | in_default w ↦
      let found = rw (w.in_default.is, c.as_bytes-bytes.ensures.value) at c.line_end.ensures in
      none_nearer c.args.text.now c.loop-end.start c.args.at (length c.args.text.now) c.requires.within found
]

pub overflow_add-column : goal.overflow_add-column
overflow_add-column c =
    let here = in_line c.args.text.now c.loop-end.start c.args.at c.loop-end.invariant.order c.requires.within (none_left c) in
    let count = rw c.as_bytes-bytes.ensures.value at c.units_between-column.ensures in
    omega (arith, c.loop-end.invariant.column, here.1, count, column_of-few c.args.text.now c.args.at c.requires.within, c.requires.within, c.requires.short)

pub returns : goal.returns
returns c =
    let here = in_line c.args.text.now c.loop-end.start c.args.at c.loop-end.invariant.order c.requires.within (none_left c) in
    let count = rw c.as_bytes-bytes.ensures.value at c.units_between-column.ensures in (
      c.loop-end.invariant.line ∙ sym here.0,
      omega (arith, c.loop-end.invariant.column, here.1, count),
    )
