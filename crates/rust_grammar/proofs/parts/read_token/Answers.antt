use Rattle.std.proofs.Common.{◌∙◌}
use Rattle.rust_grammar.proofs.StepLemmas.{token_comes}
use Rattle.rust_grammar.proofs.TurnLemmas.{came}
use Rattle.rust_grammar.proofs.parts.read_token.Goals as goal

pub returns : goal.returns
returns c = λ frs. came c.args.edition c.args.at c.requires.within frs c.args.trees c.of_token.result (c.of_token.ensures ∙ token_comes c.args.edition c.args.at.levels c.args.at.place c.requires.within c.args.wanted c.args.trees c.requires.node)
