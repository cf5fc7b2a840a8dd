use Rattle.std.proofs.Common.{◌≡◌, sym, ◌∙◌}
use Rattle.std.proofs.lemmas.Result.{IfOk-weaker}
use Rattle.cfg_options.specs.Conditions.{option_value}
use Rattle.cfg_options.specs.OpenLists.{value_under}
use Rattle.cfg_options.specs.Options.{options_of}
use Rattle.cfg_options.specs.Parts.{open_value}
use Rattle.cfg_options.specs.Strings.{string_text}
use Rattle.cfg_options.proofs.PredicateLemmas.{value_of_list, value_of_other}
use Rattle.cfg_options.proofs.options.CfgOptions.predicate_value.Goals as goal

pub returns-in-Some : goal.returns-in-Some
returns-in-Some c =
    IfOk-weaker c.list_value.result (λ v. v ≡ open_value (value_under c.args.self.now) c.in-Some.list) _
    (λ v h. h ∙ sym (value_of_list (options_of c.args.self.now) string_text c.args.predicate.now c.in-Some.list (sym c.in-Some.ensures)))
    c.list_value.ensures

pub returns-in-None : goal.returns-in-None
returns-in-None c =
    IfOk-weaker c.option_value.result (λ v. v ≡ option_value (options_of c.args.self.now) string_text c.args.predicate.now) _
    (λ v h. h ∙ sym (value_of_other (options_of c.args.self.now) string_text c.args.predicate.now (sym c.in-None.ensures)))
    c.option_value.ensures
