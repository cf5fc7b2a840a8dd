use Rattle.std.proofs.Common.{ap, ◌∙◌}
use Rattle.rust_grammar.specs.Table.{comes_at}
use Rattle.rust_grammar.proofs.StepLemmas.{since_comes}
use Rattle.rust_grammar.proofs.parts.if_plain.Goals as goal

pub returns-in-Since : goal.returns-in-Since
returns-in-Since c =
    c.since.ensures ∙ since_comes c.args.edition c.args.at.levels c.args.at.place c.requires c.in-Since.first _ c.in-Since.ensures.same ∙ ap (comes_at c.args.edition c.args.at.levels c.args.at.place) c.copied.ensures

pub returns-in-Many : goal.returns-in-Many
returns-in-Many c = c.if_left_out.ensures c.args.edition

pub returns-in-Maybe : goal.returns-in-Maybe
returns-in-Maybe c = c.if_left_out-in-Maybe.ensures c.args.edition
