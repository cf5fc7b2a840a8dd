use Rattle.std.proofs.Common.{◌≡◌, drop, true}
use Rattle.std.specs.List.{list_all}
use Rattle.bridge.specs.RelativeSpans.{is_within}
use Rattle.bridge.proofs.printing.relative_spans.are_within.Given as goal

-- where the spans that are left are within, all are
abbrev pub invariant-loop-span : goal.invariant-loop-span
invariant-loop-span l = record {
  all : list_all (is_within l.fn.bounds.reach l.fn.bounds.anchor) (drop l.span-index l.fn.spans) ≡ true
      → list_all (is_within l.fn.bounds.reach l.fn.bounds.anchor) l.fn.spans ≡ true;
}
