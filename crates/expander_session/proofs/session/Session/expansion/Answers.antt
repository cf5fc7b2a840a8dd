use Rattle.std.proofs.Common.{Err, ap, subst, sym}
use Rattle.expander_reparse.specs.Reparsing.{AreMet, AreTheirs}
use Rattle.expander_session.specs.Replies.{HasCause}
use Rattle.expander_session.specs.State.{layers_of}
use Rattle.expander_scope.proofs.HandedLemmas.{if_handed}
use Rattle.expander_session.proofs.ReadPlaceLemmas.{OrderLaws}
use Rattle.expander_session.proofs.SessionLemmas.{cause_in_pieces, list_are, replies_in_pieces}
use Rattle.expander_session.proofs.WholeTurnLemmas.{TurnLaws}
use Rattle.expander_session.proofs.WorldLemmas.{RuleLaws}
use Rattle.expander_session.proofs.session.Session.expansion.Goals as goal

pub expand_pieces-requires-clause-own : goal.expand_pieces-requires-clause-own
expand_pieces-requires-clause-own g c =
    let order : OrderLaws = record {
      walk_read = c.reading_is_a_relation.ensures.walk;
      text = c.tokens_follow_one_another.ensures.text;
      part = c.tokens_follow_one_another.ensures.part;
      piece = c.tokens_follow_one_another.ensures.piece;
      written = c.tokens_are_written.ensures;
    } in
    list_are c.text-text.result.now c.in-Pieces.pieces c.in-Pieces.sources (rw c.in-Pieces.is at c.in_ok-fault.ensures.read) order c.text-text.utf8 c.as_slice-pieces.result.now c.as_slice-pieces.ensures.value

pub expand_pieces-requires-clause-sources : goal.expand_pieces-requires-clause-sources
expand_pieces-requires-clause-sources g c =
    (rw c.in-Pieces.is at c.in_ok-fault.ensures.read).3

pub expand_pieces-requires-clause-theirs : goal.expand_pieces-requires-clause-theirs
expand_pieces-requires-clause-theirs g c =
    subst (AreTheirs c.in-Pieces.sources) (sym c.as_slice-pieces.ensures.value) (rw c.in-Pieces.is at c.in_ok-fault.ensures.theirs)

pub expand_pieces-requires-clause-met : goal.expand_pieces-requires-clause-met
expand_pieces-requires-clause-met g c =
    subst (AreMet c.self.inside.memory.sources) (sym c.as_slice-pieces.ensures.value) (rw c.in-Pieces.is at c.in_ok-fault.ensures.met)

pub returns-in_err-expansion-clause-cause : goal.returns-in_err-expansion-clause-cause
returns-in_err-expansion-clause-cause g c =
    let order : OrderLaws = record {
      walk_read = c.reading_is_a_relation.ensures.walk;
      text = c.tokens_follow_one_another.ensures.text;
      part = c.tokens_follow_one_another.ensures.part;
      piece = c.tokens_follow_one_another.ensures.piece;
      written = c.tokens_are_written.ensures;
    } in
    if_handed (HasCause (layers_of g.G.FragmentGrammar.answer c.args.self.now) c.args.self.now) c.from_residual-in_err-expansion.result c.in_err-expansion.field-0.0
    c.from_residual-in_err-expansion.ensures.1
    (cause_in_pieces c.text-text.result.now c.in-Pieces.pieces c.in-Pieces.sources (rw c.in-Pieces.is at c.in_ok-fault.ensures.read) order c.text-text.utf8 c.as_slice-pieces.result.now c.as_slice-pieces.ensures.value
    c.equal_pieces.ensures g.G.FragmentGrammar.answer c.args.self.now c.self.inside.text c.self.inside.grammar c.self.inside.edition c.self.inside.dialect c.self.inside.depth c.self.inside.prelude c.self.inside.memory
    c.self.view_is c.text-text.ensures c.in_err-expansion.field-0.0 (λ e. c.in_err-expansion.ensures.tokens (ap Err e)) (λ e. c.in_err-expansion.ensures.numbers (ap Err e)))

pub returns-clause-reply : goal.returns-clause-reply
returns-clause-reply g c =
    let rules : RuleLaws = record {
      rules = c.rules_at_other_places.ensures.macro_rules;
      macros = c.rules_at_other_places.ensures.macros;
      fits = c.fit_at_other_places.ensures.rules;
      bursts = c.bursts_at_other_places.ensures.rules;
      put_out = c.bursts_at_other_places.ensures.put_out;
    } in
    let order : OrderLaws = record {
      walk_read = c.reading_is_a_relation.ensures.walk;
      text = c.tokens_follow_one_another.ensures.text;
      part = c.tokens_follow_one_another.ensures.part;
      piece = c.tokens_follow_one_another.ensures.piece;
      written = c.tokens_are_written.ensures;
    } in
    let laws : TurnLaws = record { rules = rules; order = order; equal = c.equal_pieces.ensures } in
    replies_in_pieces c.text-text.result.now c.in-Pieces.pieces c.in-Pieces.sources (rw c.in-Pieces.is at c.in_ok-fault.ensures.read) order c.text-text.utf8 c.as_slice-pieces.result.now c.as_slice-pieces.ensures.value
    laws g.G.FragmentGrammar.answer c.args.self.now c.self.inside.text c.self.inside.grammar c.self.inside.edition c.self.inside.dialect c.self.inside.depth c.self.inside.prelude c.in_ok-expansion.ensures.stands
    c.self.inside.memory c.self.view_is c.text-text.ensures c.self.invariant.1 c.in_ok-expansion.expansion c.in_ok-expansion.memory c.in_ok-expansion.ensures.taken
