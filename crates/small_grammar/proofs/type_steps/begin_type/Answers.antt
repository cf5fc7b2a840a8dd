use Rattle.std.proofs.Common.{sym, ◌∙◌}
use Rattle.small_grammar.proofs.TypeLemmas.{type_without_sign}
use Rattle.small_grammar.proofs.type_steps.begin_type.Goals as goal

pub returns-clause-what : goal.returns-clause-what
returns-clause-what c =
    c.begin_bare_type.ensures.what ∙ sym (type_without_sign c.behind_signs.result c.behind_signs.ensures.no_more) ∙ c.behind_signs.ensures.same
