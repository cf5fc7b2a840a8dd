use Rattle.std.proofs.Common.{◌≡◌, take}
use Rattle.bridge.specs.SpanLists.{spans_in}
use Rattle.bridge.proofs.printing.span_list.copied.Given as goal

abbrev pub invariant-loop-i : goal.invariant-loop-i
invariant-loop-i l = l.spans.items ≡ take l.i (spans_in l.inner)
