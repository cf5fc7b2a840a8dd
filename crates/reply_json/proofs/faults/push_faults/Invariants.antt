use Rattle.std.proofs.Common.{◌≡◌, ◌++◌, drop, map}
use Rattle.serde_json.specs.View.{view}
use Rattle.reply_json.specs.Lines.{fault}
use Rattle.line_index.specs.Lines.{IsSpot}
use Rattle.reply_json.proofs.faults.push_faults.Given as given

-- the faults so far and those that are left are all
abbrev pub invariant-loop-fault : given.invariant-loop-fault
invariant-loop-fault l = record {
  spot : IsSpot l.text l.spot;
  all : map view l.list.items ++ map (fault l.text) (drop l.fault-index l.all)
      ≡ map view l.fn.list.items ++ map (fault l.text) l.all;
}
