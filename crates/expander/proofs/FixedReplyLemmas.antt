-- Replies to texts that expand to themselves.
use Rattle.std.proofs.Common.{◌≡◌, ℕ, List, [], refl, subst, ◌∙◌, sym}
use Rattle.std.specs.Prelude.{None, Option, Result, Ok, Err}
use Rattle.bridge.specs.declared.reading.outcome.ReadFault.{ReadFault}
use Rattle.expander_session.specs.declared.session.Reply.{Reply}
use Rattle.expander_session.specs.declared.session.Reply.TheVariants.{Read, Unread}
use Rattle.expander_session.specs.Count.{Looked}
use Rattle.expander_session.specs.Expanded.{Expanded}
use Rattle.expander.specs.FixedPoint.{IsFixedPoint, PrintsItself, RepliesWith}
use Rattle.expander_session.specs.Layered.{layers}
use Rattle.expander_model.specs.declared.dialect.Dialect.{Dialect}
use Rattle.expander_model.specs.Definitions.{Definition}
use Rattle.expander_model.specs.Meaning.{ReadMeaning, meaning, meaning_in}
use Rattle.expander_session.specs.Replies.{IsMeant, IsReplyIn, IsReplyTo}
use Rattle.mbe.specs.Grammar.{Grammar}
use Rattle.tt_data.specs.declared.edition.Edition.{Edition}

-- what is replied to a text that prints itself
replied : (text : List ℕ) (r : Result ReadMeaning ReadFault) (reply : Reply) (earlier : Option (List Looked)) → PrintsItself text r → IsMeant r earlier reply → RepliesWith text reply
replied text (Ok m) (Read e) earlier p h = (h.printed ∙ p.0, h.faults ∙ p.1)
replied text (Ok m) (Unread fault) earlier p h = absurd h
replied text (Err fault) reply earlier p h = absurd p

-- a reply's text is that of the meaning
printed_fixed : (r : Result ReadMeaning ReadFault) (e : Expanded) (earlier : Option (List Looked)) → ((m : ReadMeaning) → r ≡ Ok m → m.faults ≡ [] → IsFixedPoint m.text)
    → IsMeant r earlier (Read e) → e.faults ≡ [] → (text : List ℕ) → e.printed ≡ text → IsFixedPoint text
printed_fixed (Err fault) e earlier fixed h none text is = absurd h
printed_fixed (Ok m) e earlier fixed h none text is =
    subst IsFixedPoint (sym h.printed ∙ is) (fixed m refl (sym h.faults ∙ none))

pub fixed_reply : ((grammar : Grammar) (edition : Edition) (dialect : Dialect) (depth : ℕ) (initial : List Definition) (text : List ℕ) (m : ReadMeaning) →
    meaning_in (layers grammar edition dialect) depth initial text ≡ Ok m → m.faults ≡ [] → IsFixedPoint m.text)
    → (grammar : Grammar) (edition : Edition) (dialect : Dialect) (depth : ℕ) (initial : List Definition) (text : List ℕ) (earlier : Option (List Looked)) (e : Expanded)
    → IsReplyIn (layers grammar edition dialect) depth initial text earlier (Read e) → e.faults ≡ []
    → (others : Grammar) (later : Edition) (rules : Dialect) → rules.cfg ≡ None → (levels : ℕ) (held : Option (List Looked)) (reply : Reply)
    → IsReplyTo (layers others later rules) levels e.printed held reply → RepliesWith e.printed reply
fixed_reply fixed grammar edition dialect depth initial text earlier e h none others later rules keeps levels held reply answers =
    let point : IsFixedPoint e.printed =
    printed_fixed (meaning_in (layers grammar edition dialect) depth initial text) e earlier (fixed grammar edition dialect depth initial text) h none e.printed refl in
    replied e.printed (meaning (layers others later rules) levels e.printed) reply held (point.again others later rules keeps levels) answers
