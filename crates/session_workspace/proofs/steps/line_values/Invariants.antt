use denote.Shadow.{shadow}
use denote.Text.{Utf8}
use Rattle.std.proofs.Common.{length, map}
use Rattle.serde_json.specs.View.{view}
use Rattle.session_workspace.proofs.LineLemmas.{GoesOn}
use Rattle.session_workspace.proofs.steps.line_values.Given as given

-- the lines so far, and those of the rest, are those of the text
abbrev pub invariant-loop-line : given.invariant-loop-line
invariant-loop-line l = record {
  text : shadow (Utf8 l.rest);
  so_far : GoesOn l.text l.rest (map view l.all.items);
}

abbrev pub decreases-loop-line : given.decreases-loop-line
decreases-loop-line l = length l.rest
