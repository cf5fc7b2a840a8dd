use Rattle.std.proofs.Common.{◌≡◌, drop}
use Rattle.cfg_options.specs.Options.{options_of}
use Rattle.expander.specs.NamedOptions.{no_options, with_named}
use Rattle.filgordd_c.specs.Conditions.{texts}
use Rattle.filgordd_c.proofs.conditions.set_of.Given as goal

abbrev pub invariant-loop-word : goal.invariant-loop-word
invariant-loop-word l =
    with_named (options_of l.set) (texts (drop l.word-index l.words))
    ≡ with_named no_options (texts l.words)
