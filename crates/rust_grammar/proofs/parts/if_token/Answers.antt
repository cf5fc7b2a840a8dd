use Rattle.std.proofs.Common.{ap, ◌∙◌}
use Rattle.rust_grammar.specs.Table.{comes_at}
use Rattle.rust_grammar.proofs.StepLemmas.{token_comes}
use Rattle.rust_grammar.proofs.parts.if_token.Goals as goal

pub returns : goal.returns
returns c =
    c.of_token.ensures ∙ token_comes c.args.edition c.args.at.levels c.args.at.place c.requires.within c.args.wanted _ c.requires.node ∙ ap (comes_at c.args.edition c.args.at.levels c.args.at.place) c.copied.ensures
