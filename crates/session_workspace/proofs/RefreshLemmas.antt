-- What comes of open texts, one after the other. (For `push_refreshed`, `refresh` and `tell`.)
use Rattle.std.proofs.Common.{◌≡◌, ◌∙◌, ℕ, List, [], ◌∷◌, ◌++◌, refl, sym, ap, inl, inr, subst, Bool, true, false, Option, Some, None, string_bytes, append_assoc, append-nil}
use Rattle.std.specs.Prelude.{◌⊎◌, All, IfOk, Result, Ok, Err}
use Rattle.std.proofs.lemmas.List.Elements.{All-nil, All-cons, All-head, All-tail}
use Rattle.client_texts.specs.Texts.{Document}
use Rattle.lsp_server.specs.Workspaces.{IsPublishedIf, IsShown, Remain, listed}
use Rattle.serde_json.specs.Data.{Data}
use Rattle.tt_data.specs.Forest.{Forest}
use Rattle.session_workspace.specs.OpenTexts.{Comes, Each, Gives, IsOver, IsRefreshed, IsSettled, IsToldBy, IsToldNow, document_of, documents_of, is_named}
use Rattle.session_workspace.specs.Refreshing.{AreRefreshed}
use Rattle.session_workspace.specs.declared.open_text.OpenText.{OpenText}
use Rattle.session_workspace.specs.declared.workspace.Shown.{Shown}
use Rattle.session_workspace.specs.declared.workspace.Shown.TheVariants as which

-- ---- one text

-- a text that nothing comes of
abbrev pub Stays : (is_own changed : Bool) → (old new : OpenText) → Option Data → Type 0
Stays is_own changed old new message =
    (new ≡ old) × (message ≡ None) × (is_own ≡ false) × (changed ≡ false)

-- a text whose diagnostics are told
abbrev pub IsToldOver : Gives → Shown → (is_own changed : Bool) → (old new : OpenText)
    → Option Data → Type 0
IsToldOver gives shown is_own changed old new message =
    (over : OpenText) × IsOver gives changed old over × IsToldBy shown is_own over new message

-- a text is one of these
parts : (gives : Gives) (shown : Shown) (is_own changed : Bool) (old new : OpenText)
    (message : Option Data) → IsRefreshed gives shown is_own changed old new message
    → Stays is_own changed old new message ⊎ IsToldOver gives shown is_own changed old new message
parts gives shown false false old new message is = inl (is.0, is.1, refl, refl)
parts gives shown false true old new message is = inr is
parts gives shown true false old new message is = inr is
parts gives shown true true old new message is = inr is

-- and is refreshed so
pub refreshed_over : (gives : Gives) (shown : Shown) (is_own changed : Bool) (old new : OpenText)
    (message : Option Data) → (is_own ≡ false → changed ≡ false → ⊥)
    → IsToldOver gives shown is_own changed old new message
    → IsRefreshed gives shown is_own changed old new message
refreshed_over gives shown false false old new message not_both told = absurd (not_both refl refl)
refreshed_over gives shown false true old new message not_both told = told
refreshed_over gives shown true false old new message not_both told = told
refreshed_over gives shown true true old new message not_both told = told

pub refreshed_not : (gives : Gives) (shown : Shown) (is_own changed : Bool) (t : OpenText)
    → is_own ≡ false → changed ≡ false → IsRefreshed gives shown is_own changed t t None
refreshed_not gives shown is_own changed t own change = rw (own, change) (refl, refl)

-- what holds of a result holds of it in other words
pub if_ok_more : {A E : Type 0} (r : Result A E) (P Q : A → Type 0) → ((a : A) → P a → Q a)
    → IfOk r P → IfOk r Q
if_ok_more (Ok a) P Q more holds = more a holds
if_ok_more (Err e) P Q more holds = tt

over_same : (gives : Gives) (changed : Bool) (old new : OpenText) → IsOver gives changed old new
    → document_of new ≡ document_of old
over_same gives true old new over = ap document_of over.2
over_same gives false old new over = ap document_of over

told_same : (shown : Shown) (is_own : Bool) (old new : OpenText) (message : Option Data)
    → IsToldBy shown is_own old new message → document_of new ≡ document_of old
told_same which.All is_own old new message told = told.same
told_same which.Nothing is_own old new message told = ap document_of told.0

told_published : (shown : Shown) (is_own : Bool) (old new : OpenText) (message : Option Data)
    → IsToldBy shown is_own old new message → IsPublishedIf message
told_published which.All is_own old new None told = tt
told_published which.All is_own old new (Some message) told = (_, told.sends.1)
told_published which.Nothing is_own old new message told = rw told.1 tt

-- a text stays the same for the client
comes_same : (gives : Gives) (shown : Shown) (uri : List ℕ) (changed : Bool) (old new : OpenText)
    (message : Option Data) → Comes gives shown uri changed old new message
    → document_of new ≡ document_of old
comes_same gives shown uri changed old new message comes =
    elim (parts gives shown (is_named uri old) changed old new message comes) [
      | inl stays ↦ ap document_of stays.0
      | inr told ↦ told_same shown (is_named uri old) told.0 new message told.2
          ∙ over_same gives changed old told.0 told.1
    ]

-- and it is told its diagnostics, or nothing
comes_published : (gives : Gives) (shown : Shown) (uri : List ℕ) (changed : Bool)
    (old new : OpenText) (message : Option Data) → Comes gives shown uri changed old new message
    → IsPublishedIf message
comes_published gives shown uri changed old new message comes =
    elim (parts gives shown (is_named uri old) changed old new message comes) [
      | inl stays ↦ rw stays.1 tt
      | inr told ↦ told_published shown (is_named uri old) told.0 new message told.2
    ]

-- ---- all texts

-- texts remain for the client, where this comes of each
pub remain : (gives : Gives) (shown : Shown) (uri : List ℕ) (changed : Bool)
    (old new : List OpenText) (messages : List Data)
    → Each (Comes gives shown uri changed) old new messages
    → Remain (documents_of old) (documents_of new) messages
remain gives shown uri changed [] new messages each = (ap documents_of each.0, each.1)
remain gives shown uri changed (t ∷ ts) new messages (inl e) = inl (
  documents_of e.1,
  e.2,
  e.3,
  ap documents_of e.4
      ∙ ap (λ (d : Document). d ∷ documents_of e.1)
      (comes_same gives shown uri changed t e.0 e.2 e.6),
  e.5,
  comes_published gives shown uri changed t e.0 e.2 e.6,
  remain gives shown uri changed ts e.1 e.3 e.7,
)
remain gives shown uri changed (t ∷ ts) new messages (inr e) =
    inr (e.0, e.1, e.2, e.3, remain gives shown uri changed ts new e.1 e.4)

each-append : (P : OpenText → OpenText → Option Data → Type 0) (xs ys new more : List OpenText)
    (messages others : List Data) → Each P xs new messages → Each P ys more others
    → Each P (xs ++ ys) (new ++ more) (messages ++ others)
each-append P [] ys new more messages others a b = rw (a.0, a.1) b
each-append P (x ∷ xs) ys new more messages others (inl e) b = inl (
  e.0,
  e.1 ++ more,
  e.2,
  e.3 ++ others,
  ap (λ (ts : List OpenText). ts ++ more) e.4,
  ap (λ (ms : List Data). ms ++ others) e.5 ∙ append_assoc (listed e.2) e.3 others,
  e.6,
  each-append P xs ys e.1 more e.3 others e.7 b,
)
each-append P (x ∷ xs) ys new more messages others (inr e) b = inr (
  e.0,
  e.1 ++ others,
  ap (λ (ms : List Data). ms ++ others) e.2,
  e.3,
  each-append P xs ys new more e.1 others e.4 b,
)

-- nothing comes of no texts
pub refreshed_none : (gives : Gives) (shown : Shown) (uri : List ℕ) (changed : Bool)
    (others : List OpenText) (before : List Data)
    → AreRefreshed gives shown uri changed [] others others before before
refreshed_none gives shown uri changed others before =
    ([], [], sym (append-nil others), sym (append-nil before), (refl, refl))

-- some texts, and more
pub refreshed_more : (gives : Gives) (shown : Shown) (uri : List ℕ) (changed : Bool)
    (xs ys first second third : List OpenText) (a b c : List Data)
    → AreRefreshed gives shown uri changed xs first second a b
    → AreRefreshed gives shown uri changed ys second third b c
    → AreRefreshed gives shown uri changed (xs ++ ys) first third a c
refreshed_more gives shown uri changed xs ys first second third a b c p q = (
  p.0 ++ q.0,
  p.1 ++ q.1,
  q.2 ∙ ap (λ (ts : List OpenText). ts ++ q.0) p.2 ∙ append_assoc first p.0 q.0,
  q.3 ∙ ap (λ (ms : List Data). ms ++ q.1) p.3 ∙ append_assoc a p.1 q.1,
  each-append (Comes gives shown uri changed) xs ys p.0 q.0 p.1 q.1 p.4 q.4,
)

-- a text of which this comes
pub refreshed_one : (gives : Gives) (shown : Shown) (uri : List ℕ) (changed : Bool)
    (t u : OpenText) (message : Option Data) (others all : List OpenText)
    (before after : List Data) → all ≡ others ++ u ∷ [] → after ≡ before ++ listed message
    → Comes gives shown uri changed t u message
    → AreRefreshed gives shown uri changed (t ∷ []) others all before after
refreshed_one gives shown uri changed t u message others all before after texts messages comes = (
  u ∷ [],
  listed message,
  texts,
  messages,
  inl (u, [], message, [], refl, sym (append-nil (listed message)), comes, (refl, refl)),
)

-- a text that is no longer followed
pub refreshed_lost : (gives : Gives) (shown : Shown) (uri : List ℕ) (changed : Bool)
    (t : OpenText) (message : Data) (others all : List OpenText) (before after : List Data)
    → all ≡ others → after ≡ before ++ message ∷ [] → IsShown message
    → AreRefreshed gives shown uri changed (t ∷ []) others all before after
refreshed_lost gives shown uri changed t message others all before after texts messages shows = (
  [],
  message ∷ [],
  texts ∙ sym (append-nil others),
  messages,
  inr (message, [], refl, shows, (refl, refl)),
)

-- ---- what holds of each text

-- a text has what it was given, and the client was told what it gives, unless it changed it
abbrev pub Waits : Gives → Shown → List ℕ → OpenText → Type 0
Waits gives shown uri t = gives (string_bytes t.uri) t.session.prelude
    × (is_named uri t ≡ false → IsToldNow shown t)

-- what was given before is given after, where definitions did not change
abbrev pub Unchanged : (before after : Gives) → Bool → Type 0
Unchanged before after changed = changed ≡ false → (uri : List ℕ) (prelude : List Forest)
    → before uri prelude → after uri prelude

over_given : (before after : Gives) (changed : Bool) (old new : OpenText)
    → Unchanged before after changed → before (string_bytes old.uri) old.session.prelude
    → IsOver after changed old new → after (string_bytes new.uri) new.session.prelude
over_given before after true old new same given over =
    subst (λ (t : OpenText). after (string_bytes t.uri) t.session.prelude) (sym over.2) over.1
over_given before after false old new same given over =
    subst (λ (t : OpenText). after (string_bytes t.uri) t.session.prelude) (sym over)
    (same refl (string_bytes old.uri) old.session.prelude given)

told_settled : (after : Gives) (shown : Shown) (is_own : Bool) (old new : OpenText)
    (message : Option Data) → after (string_bytes old.uri) old.session.prelude
    → IsToldBy shown is_own old new message → IsSettled after shown new
told_settled after which.All is_own old new message given told =
    let uri : string_bytes new.uri ≡ string_bytes old.uri =
    ap (λ (d : Document). d.uri) told.same in
    record {
      prelude = rw (uri, told.prelude) given;
      told = (told.given, told.is_given, told.told);
    }
told_settled after which.Nothing is_own old new message given told =
    record { prelude = rw told.0 given; told = tt }

settled : (before after : Gives) (shown : Shown) (uri : List ℕ) (changed : Bool)
    (old new : OpenText) (message : Option Data) → Unchanged before after changed
    → Waits before shown uri old → Comes after shown uri changed old new message
    → IsSettled after shown new
settled before after shown uri changed old new message same waits comes =
    elim (parts after shown (is_named uri old) changed old new message comes) [
      | inl stays ↦ subst (IsSettled after shown) (sym stays.0) (record {
        prelude = same stays.3 (string_bytes old.uri) old.session.prelude waits.0;
        told = waits.1 stays.2;
      })
      | inr told ↦ told_settled after shown (is_named uri old) told.0 new message
          (over_given before after changed old told.0 same waits.0 told.1) told.2
    ]

-- each text that this comes of is settled
pub all_settled : (before after : Gives) (shown : Shown) (uri : List ℕ) (changed : Bool)
    (old new : List OpenText) (messages : List Data) → Unchanged before after changed
    → All (Waits before shown uri) old → Each (Comes after shown uri changed) old new messages
    → All (IsSettled after shown) new
all_settled before after shown uri changed [] new messages same wait each =
    rw each.0 (All-nil (IsSettled after shown))
all_settled before after shown uri changed (t ∷ ts) new messages same wait (inl e) =
    rw e.4 (All-cons (IsSettled after shown) e.0 e.1
    (settled before after shown uri changed t e.0 e.2 same
    (All-head (Waits before shown uri) t ts wait) e.6)
    (all_settled before after shown uri changed ts e.1 e.3 same
    (All-tail (Waits before shown uri) t ts wait) e.7))
all_settled before after shown uri changed (t ∷ ts) new messages same wait (inr e) =
    all_settled before after shown uri changed ts new e.1 same
    (All-tail (Waits before shown uri) t ts wait) e.4
