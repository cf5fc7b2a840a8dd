use Rattle.std.proofs.Common.{arith, sym, ◌∙◌, rules}
use Rattle.cfg_options.specs.Options.{options_of}
use Rattle.cfg_options.proofs.OptionLemmas.{any_other, had_it, one_more, turned}
use Rattle.cfg_options.proofs.options.CfgOptions.add.Goals as goal

pub returns-clause-ok : goal.returns-clause-ok
unfolding options_of
returns-clause-ok c =
    λ name value.
    one_more c.in_ok-insert.field-0 name value c.args.option c.args.self.now.set.keys c.insert.new.self.keys c.in_ok-insert.ensures.keys
    (λ e.
    let h = had_it _ (sym c.in_ok-insert.ensures.added ∙ e) in
    first_of (search (rules, h), search (rules, any_other, turned, h), grind (arith, h)))
