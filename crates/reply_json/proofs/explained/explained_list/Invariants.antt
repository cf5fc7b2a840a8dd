use Rattle.std.proofs.Common.{map, take}
use Rattle.std.specs.List.{AllZip}
use Rattle.serde_json.specs.View.{view}
use Rattle.line_index.specs.Lines.{IsSpot}
use Rattle.reply_json.specs.Explanations.{Explains}
use Rattle.reply_json.proofs.explained.explained_list.Given as given

-- each of the faults so far has its value
abbrev pub invariant-loop-fault : given.invariant-loop-fault
invariant-loop-fault g l = record {
  spot : IsSpot l.text l.spot;
  all : AllZip (Explains (g.G.FragmentGrammar.answer l.question.grammar.now) l.text)
      (take l.fault-index l.faults) (map view l.list.items);
}
