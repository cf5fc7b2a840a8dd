use Rattle.small_grammar.specs.SmallGrammar.{single}
use Rattle.small_grammar.proofs.TakingLemmas.{maybe_shorter}
use Rattle.small_grammar.proofs.types.behind_colons.Goals as goal

pub returns-clause-further : goal.returns-clause-further
returns-clause-further c =
    maybe_shorter (single "::") c.args.trees.now c.copied.result c.unwrap_or.result c.two_puncts.result c.two_puncts.ensures c.copied.ensures c.unwrap_or.ensures
