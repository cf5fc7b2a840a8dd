use Rattle.std.proofs.Common.{sym, ap, ◌∙◌}
use Rattle.small_grammar.specs.Text.{◌>>=◌}
use Rattle.cfg_options.specs.Conditions.{cut_at_commas}
use Rattle.tt_data.specs.Forest.{empty}
use Rattle.cfg_options.specs.OpenLists.{value_around, whole_value}
use Rattle.cfg_options.specs.Parts.{value_of_rest}
use Rattle.cfg_options.proofs.OpenListLemmas.{no_value}
use Rattle.cfg_options.proofs.predicate.given.Goals as goal

pub returns-in_default-clause-value : goal.returns-in_default-clause-value
returns-in_default-clause-value c =
    λ f. sym (ap (λ o. whole_value f c.args.lists.around.items (value_around f c.args.lists.list o)) c.in_default.is ∙ no_value f c.args.lists.around.items)

pub returns-in_default-with_value-clause-value : goal.returns-in_default-with_value-clause-value
returns-in_default-with_value-clause-value c =
    λ f.
    sym (ap (λ o. whole_value f c.args.lists.around.items (value_around f c.args.lists.list o)) c.in-Some.is
    ∙ ap (λ o. whole_value f c.args.lists.around.items (o >>= λ next. value_of_rest f next (cut_at_commas c.args.lists.list.rest empty))) (sym c.in_default-with_value.ensures)
    ∙ no_value f c.args.lists.around.items)
