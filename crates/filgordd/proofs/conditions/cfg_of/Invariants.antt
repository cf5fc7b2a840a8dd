use Rattle.std.proofs.Common.{◌≡◌, Some, map, take}
use Rattle.cfg_options.specs.Options.{options_of}
use Rattle.expander.specs.NamedOptions.{no_options, with_named}
use Rattle.filgordd.proofs.conditions.cfg_of.Given as goal

abbrev pub invariant-loop-word : goal.invariant-loop-word
invariant-loop-word l =
    with_named no_options (map (λ w. w.now) (take l.word-index l.words)) ≡ Some (options_of l.options)
