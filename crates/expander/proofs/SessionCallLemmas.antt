-- Sessions with one text reply alike.
use Rattle.std.proofs.Common.{◌≡◌, List, [], ◌∷◌, ap, sym, subst, ◌∙◌}
use Rattle.mbe.specs.Grammar.{Grammar}
use Rattle.expander.specs.SessionCalls.{IsAfter, SessionCall, edits, replies}
use Rattle.expander.proofs.SameTextLemmas.{same_meant}
use Rattle.expander_model.specs.Meaning.{Layers}
use Rattle.expander_session.specs.Answers.{ShowTheSame}
use Rattle.expander_session.specs.Layered.{layers}
use Rattle.expander_session.specs.Replies.{IsReplyIn, Replies, StateAfter, meaning_of_state}
use Rattle.expander_session.specs.State.{State, definitions_of, layers_of}
use Rattle.expander_session.specs.declared.session.Reply.{Reply}
use Rattle.expander_session.specs.declared.session.Reply.TheVariants.{Read, Unread}

module _ {G : Type 0} (answer : G → Grammar) where
  -- what decides beside the text: the layers, the number of levels and the prelude
  abbrev Stays : State G → State G → Type 0
  Stays old new = (layers_of answer new ≡ layers_of answer old) × (new.depth ≡ old.depth) × (new.prelude ≡ old.prelude)

  reply_stays : (L : Layers) (old new : State G) (reply : Reply) → StateAfter L old new reply → Stays old new
  reply_stays L old new (Read e) h = ((λ i. layers (answer (h.grammar i)) (h.edition i) (h.dialect i)), h.depth, h.prelude)
  reply_stays L old new (Unread fault) h = (ap (layers_of answer) h, ap (λ (s : State G). s.depth) h, ap (λ (s : State G). s.prelude) h)

  calls_stay : (old new : State G) (calls : List SessionCall) → IsAfter answer old calls new → Stays old new
  calls_stay old new [] h = (ap (layers_of answer) h, ap (λ (s : State G). s.depth) h, ap (λ (s : State G). s.prelude) h)
  calls_stay old new (edits start stop replacement ∷ calls) h = calls_stay _ new calls h
  calls_stay old new (replies reply ∷ calls) h =
      let here = reply_stays (layers_of answer old) old h.0 reply h.1.1 in
      let later = calls_stay h.0 new calls h.2 in
      (later.0 ∙ here.0, later.1 ∙ here.1, later.2 ∙ here.2)

  pub one_text_shows : (one two first second after behind : State G) (calls others : List SessionCall) (reply other : Reply)
      → layers_of answer one ≡ layers_of answer two → one.depth ≡ two.depth → one.prelude ≡ two.prelude
      → IsAfter answer one calls first → IsAfter answer two others second → first.text ≡ second.text
      → Replies (layers_of answer first) first after reply → Replies (layers_of answer second) second behind other → ShowTheSame reply other
  one_text_shows one two first second after behind calls others reply other same levels preludes h k texts r q =
      let a = calls_stay one first calls h in
      let b = calls_stay two second others k in
      let all : layers_of answer first ≡ layers_of answer second = a.0 ∙ same ∙ sym b.0 in
      let deep : first.depth ≡ second.depth = a.1 ∙ levels ∙ sym b.1 in
      let ahead : first.prelude ≡ second.prelude = a.2 ∙ preludes ∙ sym b.2 in
      same_meant (meaning_of_state (layers_of answer second) second) first.held second.held reply other
      (subst (λ t. IsReplyIn (layers_of answer second) second.depth (definitions_of second.prelude) t first.held reply) texts
      (subst (λ ps. IsReplyIn (layers_of answer second) second.depth (definitions_of ps) first.text first.held reply) ahead
      (subst (λ d. IsReplyIn (layers_of answer second) d (definitions_of first.prelude) first.text first.held reply) deep
      (subst (λ L. IsReplyIn L first.depth (definitions_of first.prelude) first.text first.held reply) all r.0)))) q.0
