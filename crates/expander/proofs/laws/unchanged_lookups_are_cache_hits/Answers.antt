use Rattle.expander.proofs.FoundAgainLemmas.{others_count, others_replied, piece_does_not_count}
use Rattle.expander_session.proofs.ReadPlaceLemmas.{OrderLaws}
use Rattle.expander_session.proofs.WholeTurnLemmas.{TurnLaws}
use Rattle.expander_session.proofs.WorldLemmas.{RuleLaws}
use Rattle.expander.proofs.laws.unchanged_lookups_are_cache_hits.Goals as goal

pub returns-clause-piece : goal.returns-clause-piece
returns-clause-piece c =
    let rules : RuleLaws = record {
      rules = c.rules_at_other_places.ensures.macro_rules;
      macros = c.rules_at_other_places.ensures.macros;
      fits = c.fit_at_other_places.ensures.rules;
      bursts = c.bursts_at_other_places.ensures.rules;
      put_out = c.bursts_at_other_places.ensures.put_out;
    } in
    let order : OrderLaws = record {
      walk_read = c.reading_is_a_relation.ensures.walk;
      text = c.tokens_follow_one_another.ensures.text;
      part = c.tokens_follow_one_another.ensures.part;
      piece = c.tokens_follow_one_another.ensures.piece;
      written = c.tokens_are_written.ensures;
    } in
    let laws : TurnLaws = record { rules = rules; order = order; equal = c.equal_pieces.ensures } in
    λ grammar edition dialect depth text other f g p q ones twos more_ones more_twos one two read read_too first second same finds.
    piece_does_not_count laws grammar edition dialect depth text other f g p q ones twos more_ones more_twos one two read read_too first second same finds

pub returns-clause-others : goal.returns-clause-others
returns-clause-others c =
    let rules : RuleLaws = record {
      rules = c.rules_at_other_places.ensures.macro_rules;
      macros = c.rules_at_other_places.ensures.macros;
      fits = c.fit_at_other_places.ensures.rules;
      bursts = c.bursts_at_other_places.ensures.rules;
      put_out = c.bursts_at_other_places.ensures.put_out;
    } in
    let order : OrderLaws = record {
      walk_read = c.reading_is_a_relation.ensures.walk;
      text = c.tokens_follow_one_another.ensures.text;
      part = c.tokens_follow_one_another.ensures.part;
      piece = c.tokens_follow_one_another.ensures.piece;
      written = c.tokens_are_written.ensures;
    } in
    let laws : TurnLaws = record { rules = rules; order = order; equal = c.equal_pieces.ensures } in
    λ grammar edition dialect depth text other f g p q ones twos more_ones more_twos one two read read_too first second same finds.
    others_count laws grammar edition dialect depth text other f g p q ones twos more_ones more_twos one two read read_too first second same finds

pub returns-clause-replied : goal.returns-clause-replied
returns-clause-replied c =
    let rules : RuleLaws = record {
      rules = c.rules_at_other_places.ensures.macro_rules;
      macros = c.rules_at_other_places.ensures.macros;
      fits = c.fit_at_other_places.ensures.rules;
      bursts = c.bursts_at_other_places.ensures.rules;
      put_out = c.bursts_at_other_places.ensures.put_out;
    } in
    let order : OrderLaws = record {
      walk_read = c.reading_is_a_relation.ensures.walk;
      text = c.tokens_follow_one_another.ensures.text;
      part = c.tokens_follow_one_another.ensures.part;
      piece = c.tokens_follow_one_another.ensures.piece;
      written = c.tokens_are_written.ensures;
    } in
    let laws : TurnLaws = record { rules = rules; order = order; equal = c.equal_pieces.ensures } in
    λ grammar edition dialect depth text other f g p q ones twos more_ones more_twos e one two read read_too first second same finds h.
    others_replied laws grammar edition dialect depth text other f g p q ones twos more_ones more_twos one two read read_too first second same finds e h
