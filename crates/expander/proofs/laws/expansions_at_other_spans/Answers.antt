use Rattle.expander_model.proofs.DefinitionPlaceLemmas.{definition_of-with}
use Rattle.expander_session.proofs.WorldLemmas.{RuleLaws, expansion_there}
use Rattle.expander.proofs.laws.expansions_at_other_spans.Goals as goal

pub returns-clause-definitions : goal.returns-clause-definitions
returns-clause-definitions c = definition_of-with

pub returns-clause-expansions : goal.returns-clause-expansions
returns-clause-expansions c =
    let laws : RuleLaws = record {
      rules = c.rules_at_other_places.ensures.macro_rules;
      macros = c.rules_at_other_places.ensures.macros;
      fits = c.fit_at_other_places.ensures.rules;
      bursts = c.bursts_at_other_places.ensures.rules;
      put_out = c.bursts_at_other_places.ensures.put_out;
    } in
    expansion_there laws
