use Rattle.expander_session.proofs.KeptLemmas.{next_entries, next_held, next_turn}
use Rattle.expander_session.proofs.ReadPlaceLemmas.{OrderLaws}
use Rattle.expander_session.proofs.WholeTurnLemmas.{TurnLaws}
use Rattle.expander_session.proofs.WorldLemmas.{RuleLaws}
use Rattle.expander.proofs.laws.caches_stay_valid.Goals as goal

pub returns-clause-turn : goal.returns-clause-turn
returns-clause-turn c =
    let rules : RuleLaws = record {
      rules = c.rules_at_other_places.ensures.macro_rules;
      macros = c.rules_at_other_places.ensures.macros;
      fits = c.fit_at_other_places.ensures.rules;
      bursts = c.bursts_at_other_places.ensures.rules;
      put_out = c.bursts_at_other_places.ensures.put_out;
    } in
    let order : OrderLaws = record {
      walk_read = c.reading_is_a_relation.ensures.walk;
      text = c.tokens_follow_one_another.ensures.text;
      part = c.tokens_follow_one_another.ensures.part;
      piece = c.tokens_follow_one_another.ensures.piece;
      written = c.tokens_are_written.ensures;
    } in
    let laws : TurnLaws = record { rules = rules; order = order; equal = c.equal_pieces.ensures } in
    next_turn laws

pub returns-clause-held : goal.returns-clause-held
returns-clause-held c =
    let rules : RuleLaws = record {
      rules = c.rules_at_other_places.ensures.macro_rules;
      macros = c.rules_at_other_places.ensures.macros;
      fits = c.fit_at_other_places.ensures.rules;
      bursts = c.bursts_at_other_places.ensures.rules;
      put_out = c.bursts_at_other_places.ensures.put_out;
    } in
    let order : OrderLaws = record {
      walk_read = c.reading_is_a_relation.ensures.walk;
      text = c.tokens_follow_one_another.ensures.text;
      part = c.tokens_follow_one_another.ensures.part;
      piece = c.tokens_follow_one_another.ensures.piece;
      written = c.tokens_are_written.ensures;
    } in
    let laws : TurnLaws = record { rules = rules; order = order; equal = c.equal_pieces.ensures } in
    next_held laws

pub returns-clause-entries : goal.returns-clause-entries
returns-clause-entries c =
    let rules : RuleLaws = record {
      rules = c.rules_at_other_places.ensures.macro_rules;
      macros = c.rules_at_other_places.ensures.macros;
      fits = c.fit_at_other_places.ensures.rules;
      bursts = c.bursts_at_other_places.ensures.rules;
      put_out = c.bursts_at_other_places.ensures.put_out;
    } in
    let order : OrderLaws = record {
      walk_read = c.reading_is_a_relation.ensures.walk;
      text = c.tokens_follow_one_another.ensures.text;
      part = c.tokens_follow_one_another.ensures.part;
      piece = c.tokens_follow_one_another.ensures.piece;
      written = c.tokens_are_written.ensures;
    } in
    let laws : TurnLaws = record { rules = rules; order = order; equal = c.equal_pieces.ensures } in
    next_entries laws
