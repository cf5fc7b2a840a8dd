-- How far a text and an expansion are, as their printing keeps it.
use Rattle.html_code.specs.ExpansionParts.{Place}
use Rattle.html_code.specs.SourceParts.{Point}
use Rattle.html_code.specs.declared.expansion.Progress.{Progress}
use Rattle.html_code.specs.declared.source.Walk.{Walk}

abbrev pub place_of : Progress → Place
place_of p = record {
  in_summary = p.in_summary;
  last = p.last;
  numbers = p.numbers.now;
  origins = p.origins.now;
  behind = p.behind;
}

abbrev pub point_of : Walk → Point
point_of w = record { faults = w.faults.now; behind = w.behind }
