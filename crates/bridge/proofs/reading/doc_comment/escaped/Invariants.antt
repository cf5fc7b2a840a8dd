use Rattle.std.proofs.Common.{◌≡◌, ◌++◌, IsUtf8, length, string_bytes}
use Rattle.bridge.specs.TokenSteps.{escaped}
use Rattle.bridge.proofs.reading.doc_comment.escaped.Given as goal

abbrev pub invariant-loop-at : goal.invariant-loop-at
invariant-loop-at l = record {
  utf8 : IsUtf8 l.rest;
  so_far : string_bytes l.out ++ escaped l.rest ≡ escaped l.fn.text;
}

abbrev pub decreases-loop-at : goal.decreases-loop-at
decreases-loop-at l = length l.rest
