use Rattle.std.proofs.Common.{◌≡◌, ◌++◌, drop, string_bytes}
use Rattle.std.specs.Prelude.{option_map}
use Rattle.cfg_options.specs.Options.{options_of}
use Rattle.expander_run.specs.Spots.{IsSpot}
use Rattle.filgordd.specs.Warnings.{warning_lines}
use Rattle.filgordd.proofs.warnings.warned.Given as goal

abbrev pub invariant-loop-span : goal.invariant-loop-span
invariant-loop-span l = record {
  lines :
      string_bytes l.lines
      ++ warning_lines (option_map options_of l.cfg) l.name l.text (drop l.span-index l.spans)
      ≡ warning_lines (option_map options_of l.cfg) l.name l.text l.spans;
  spot : IsSpot l.text l.spot;
}
