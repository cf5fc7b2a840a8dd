use Rattle.std.proofs.Common.{ap, ◌∙◌, sym}
use Rattle.std.proofs.lemmas.Result.{IfOk-weaker}
use Rattle.tt_data.specs.Forest.{group}
use Rattle.mbe_rules.specs.Patterns.{dollar_head}
use Rattle.mbe_rules.specs.Reading.{mode_of, head_read}
use Rattle.mbe_rules.proofs.DollarLemmas.{braces-head}
use Rattle.mbe_rules.proofs.parse.dollar.dollar_group.Goals as goal

pub returns-in-Template : goal.returns-in-Template
returns-in-Template c =
    IfOk-weaker c.braces.result _ _
    (λ r known edition.
    let whole = group c.args.delimiter c.args.inner c.args.rest in
    known
    ∙ braces-head edition c.args.sign c.args.delimiter c.args.inner c.args.rest c.in-Brace.is
    ∙ ap (λ m. head_read c.args.sign whole (dollar_head edition (mode_of m) whole)) (sym c.in-Template.is))
    c.braces.ensures
