use Rattle.expander_session.proofs.ReadPlaceLemmas.{OrderLaws}
use Rattle.expander_session.proofs.WholeTurnLemmas.{TurnLaws, counted, held_rightly, looked_is, taken}
use Rattle.expander_session.proofs.WorldLemmas.{RuleLaws}
use Rattle.expander.proofs.laws.a_text_over_its_cache.Goals as goal

pub returns-clause-taken : goal.returns-clause-taken
returns-clause-taken c =
    let rules : RuleLaws = record {
      rules = c.rules_at_other_places.ensures.macro_rules;
      macros = c.rules_at_other_places.ensures.macros;
      fits = c.fit_at_other_places.ensures.rules;
      bursts = c.bursts_at_other_places.ensures.rules;
      put_out = c.bursts_at_other_places.ensures.put_out;
    } in
    let order : OrderLaws = record {
      walk_read = c.reading_is_a_relation.ensures.walk;
      text = c.tokens_follow_one_another.ensures.text;
      part = c.tokens_follow_one_another.ensures.part;
      piece = c.tokens_follow_one_another.ensures.piece;
      written = c.tokens_are_written.ensures;
    } in
    let laws : TurnLaws = record { rules = rules; order = order; equal = c.equal_pieces.ensures } in
    taken laws

pub returns-clause-counted : goal.returns-clause-counted
returns-clause-counted c =
    let rules : RuleLaws = record {
      rules = c.rules_at_other_places.ensures.macro_rules;
      macros = c.rules_at_other_places.ensures.macros;
      fits = c.fit_at_other_places.ensures.rules;
      bursts = c.bursts_at_other_places.ensures.rules;
      put_out = c.bursts_at_other_places.ensures.put_out;
    } in
    let order : OrderLaws = record {
      walk_read = c.reading_is_a_relation.ensures.walk;
      text = c.tokens_follow_one_another.ensures.text;
      part = c.tokens_follow_one_another.ensures.part;
      piece = c.tokens_follow_one_another.ensures.piece;
      written = c.tokens_are_written.ensures;
    } in
    let laws : TurnLaws = record { rules = rules; order = order; equal = c.equal_pieces.ensures } in
    counted laws

pub returns-clause-held : goal.returns-clause-held
returns-clause-held c =
    let rules : RuleLaws = record {
      rules = c.rules_at_other_places.ensures.macro_rules;
      macros = c.rules_at_other_places.ensures.macros;
      fits = c.fit_at_other_places.ensures.rules;
      bursts = c.bursts_at_other_places.ensures.rules;
      put_out = c.bursts_at_other_places.ensures.put_out;
    } in
    let order : OrderLaws = record {
      walk_read = c.reading_is_a_relation.ensures.walk;
      text = c.tokens_follow_one_another.ensures.text;
      part = c.tokens_follow_one_another.ensures.part;
      piece = c.tokens_follow_one_another.ensures.piece;
      written = c.tokens_are_written.ensures;
    } in
    let laws : TurnLaws = record { rules = rules; order = order; equal = c.equal_pieces.ensures } in
    held_rightly laws

pub returns-clause-looked : goal.returns-clause-looked
returns-clause-looked c =
    let rules : RuleLaws = record {
      rules = c.rules_at_other_places.ensures.macro_rules;
      macros = c.rules_at_other_places.ensures.macros;
      fits = c.fit_at_other_places.ensures.rules;
      bursts = c.bursts_at_other_places.ensures.rules;
      put_out = c.bursts_at_other_places.ensures.put_out;
    } in
    let order : OrderLaws = record {
      walk_read = c.reading_is_a_relation.ensures.walk;
      text = c.tokens_follow_one_another.ensures.text;
      part = c.tokens_follow_one_another.ensures.part;
      piece = c.tokens_follow_one_another.ensures.piece;
      written = c.tokens_are_written.ensures;
    } in
    let laws : TurnLaws = record { rules = rules; order = order; equal = c.equal_pieces.ensures } in
    looked_is laws
