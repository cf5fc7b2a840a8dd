use Rattle.std.proofs.Common.{ℕ, List, subst}
use Rattle.std.specs.Prelude.{option_map}
use Rattle.cfg_options.specs.Options.{options_of}
use Rattle.expander_run.specs.Spots.{IsSpot}
use Rattle.filgordd.proofs.WarningLemmas.{one_more_line}
use Rattle.filgordd.proofs.warnings.warned.Goals as goal

pub loop-span-preserved : goal.loop-span-preserved
loop-span-preserved c = record {
  lines =
      one_more_line (option_map options_of c.args.cfg.now) c.args.name.now c.args.text.now
      c.as_bytes.result.now _ _ _ c.args.spans.now
      c.loop-span.span-index _ _ _ c.loop-span-test.true c.as_bytes.ensures.value
      c.warning_words-words.ensures c.loop-span.invariant.lines c.spot_of-spot.ensures.line c.spot_of-spot.ensures.column
      c.in_ok-push_warning.ensures;
  spot = subst (λ (t : List ℕ). IsSpot t c.spot_of-spot.result) c.as_bytes.ensures.value c.spot_of-spot.ensures.spot;
}
