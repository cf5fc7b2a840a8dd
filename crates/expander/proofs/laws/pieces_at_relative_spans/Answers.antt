use Rattle.expander_session.proofs.ReadPlaceLemmas.{OrderLaws}
use Rattle.expander_session.proofs.TextPlaceLemmas.{text_members}
use Rattle.expander_session.proofs.WorldLemmas.{RuleLaws}
use Rattle.expander.proofs.laws.pieces_at_relative_spans.Goals as goal

pub returns : goal.returns
returns c =
    let rules : RuleLaws = record {
      rules = c.rules_at_other_places.ensures.macro_rules;
      macros = c.rules_at_other_places.ensures.macros;
      fits = c.fit_at_other_places.ensures.rules;
      bursts = c.bursts_at_other_places.ensures.rules;
      put_out = c.bursts_at_other_places.ensures.put_out;
    } in
    let order : OrderLaws = record {
      walk_read = c.reading_is_a_relation.ensures.walk;
      text = c.tokens_follow_one_another.ensures.text;
      part = c.tokens_follow_one_another.ensures.part;
      piece = c.tokens_follow_one_another.ensures.piece;
      written = c.tokens_are_written.ensures;
    } in
    text_members rules order
