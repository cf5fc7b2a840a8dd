-- What a client tells, done before diagnostics are told. (For `start` and `tell`.)
use Rattle.std.proofs.Common.{◌≡◌, ◌∙◌, ℕ, suc, arith, Bool, ◌+◌, List, [], ◌∷◌, ◌++◌, refl, sym, ap, inl, inr, subst, take, drop, true, false, Option, Some, None, string_bytes}
use Rattle.std.specs.Prelude.{All, OnErr, OnOk, Result, Ok, Err, ℤ}
use Rattle.std.specs.List.{remove}
use Rattle.std.proofs.lemmas.List.{map-append}
use Rattle.std.proofs.lemmas.List.Elements.{All-append, All-cons, All-drop, All-head, All-push, All-take, All-weaker}
use Rattle.std.proofs.lemmas.Slice.Eq.{bytes_eq-Decides}
use Rattle.client_texts.specs.Params.{Change, Note, opened, edited, closed}
use Rattle.client_texts.specs.Texts.{Document, with_edit, without}
use Rattle.lsp_server.specs.Workspaces.{Begins, Follows, listed, name_of}
use Rattle.serde_json.specs.Data.{Data}
use Rattle.session_workspace.specs.Diagnostics.{withdrawal}
use Rattle.session_workspace.specs.OpenTexts.{Comes, Each, Gives, IsEdited, IsFirst, IsOpened, IsSettled, IsToldNow, IsWithout, Starts, Tells, document_of, documents_of, is_named}
use Rattle.session_workspace.specs.Refreshing.{AreRefreshed, IsDone}
use Rattle.session_workspace.specs.declared.lost.Lost.{Lost}
use Rattle.session_workspace.specs.declared.open_text.OpenText.{OpenText}
use Rattle.session_workspace.specs.declared.workspace.Shown.{Shown}
use Rattle.session_workspace.proofs.RefreshLemmas.{Unchanged, Waits, all_settled, remain}
use Rattle.session_workspace.proofs.TextLemmas.{edit_none, edit_parts, parts_of, without_none, without_parts}

-- ---- what the client has

without_documents : (uri : List ℕ) (old new : List OpenText) → IsWithout uri old new
    → documents_of new ≡ without uri (documents_of old)
without_documents uri old new (inl w) =
    ap documents_of w.2
    ∙ sym (ap (λ (ts : List OpenText). without uri (documents_of ts)) (parts_of uri old w.0 w.1)
    ∙ without_parts uri (take w.0 old) (drop (w.0 + 1) old) w.1.text w.1.before w.1.named)
without_documents uri old new (inr w) = ap documents_of w.1 ∙ sym (without_none uri old w.0)

edited_documents : (uri : List ℕ) (version : ℤ) (changes : List Change) (old new : List OpenText)
    → IsEdited uri version changes old new
    → documents_of new ≡ with_edit uri version changes (documents_of old)
edited_documents uri version changes old new e =
    ap documents_of e.placed
    ∙ sym (ap (λ (ts : List OpenText). with_edit uri version changes (documents_of ts))
    (parts_of uri old e.i e.first)
    ∙ edit_parts uri version changes (take e.i old) (drop (e.i + 1) old) e.first.text e.text
    e.first.before e.first.named e.document)

opened_documents : (gives : Gives) (uri : List ℕ) (d : Document) (old rest new : List OpenText)
    (t : OpenText) → IsWithout uri old rest → new ≡ rest ++ t ∷ [] → IsOpened gives d t
    → documents_of new ≡ without uri (documents_of old) ++ d ∷ []
opened_documents gives uri d old rest new t without_it is opens =
    ap documents_of is ∙ map-append document_of rest (t ∷ [])
    ∙ ap (λ (e : Document). documents_of rest ++ e ∷ []) opens.document
    ∙ ap (λ (ds : List Document). ds ++ d ∷ []) (without_documents uri old rest without_it)

-- the texts follow what the client tells
begins : (gives : Gives) (note : Note) (old new : List OpenText) (message : Option Data)
    → Starts gives note old new message
    → Begins note (documents_of old) (documents_of new) message
begins gives (opened uri version text) old new None (inl s) =
    opened_documents gives uri (record { uri = uri; version = version; text = text }) old s.0 new
    s.1 s.2 s.3 s.4
begins gives (opened uri version text) old new (Some message) (inl s) =
    let is : Some message ≡ None = s.5 in let none : ⊥ = cc in absurd none
begins gives (opened uri version text) old new None (inr s) = absurd s.1
begins gives (opened uri version text) old new (Some message) (inr s) =
    inr (without_documents uri old new s.0, s.1)
begins gives (edited uri version changes) old new None (inl s) =
    edited_documents uri version changes old new s.0
begins gives (edited uri version changes) old new (Some message) (inl s) =
    let is : Some message ≡ None = s.1 in let none : ⊥ = cc in absurd none
begins gives (edited uri version changes) old new None (inr (inl s)) =
    ap documents_of s.1 ∙ sym (edit_none uri version changes old s.0)
begins gives (edited uri version changes) old new (Some message) (inr (inl s)) =
    let is : Some message ≡ None = s.2 in let none : ⊥ = cc in absurd none
begins gives (edited uri version changes) old new None (inr (inr s)) = absurd s.1
begins gives (edited uri version changes) old new (Some message) (inr (inr s)) =
    inr (without_documents uri old new s.0, s.1)
begins gives (closed uri) old new None s =
    let is : None ≡ Some (withdrawal uri) = s.1 in let none : ⊥ = cc in absurd none
begins gives (closed uri) old new (Some message) s =
    let both : Some message ≡ Some (withdrawal uri) = s.1 in
    let is : message ≡ withdrawal uri = cc in
    inl (without_documents uri old new s.0, (_, is))

pub follows : (before after : Gives) (shown : Shown) (note : Note) (old new : List OpenText)
    (messages : List Data) → Tells before after shown note old new messages
    → Follows note (documents_of old) (documents_of new) messages
follows before after shown note old new messages t = record {
  first = t.first;
  between = documents_of t.between;
  begins = begins before note old t.between t.first t.starts;
  more = t.more;
  remain = remain after shown (name_of note) t.changed t.between new t.more t.each;
  all = t.all;
}

-- ---- what holds of each text

-- a text of this name is named so
is_own_name : (uri : List ℕ) (t : OpenText) → string_bytes t.uri ≡ uri → is_named uri t ≡ true
is_own_name uri t same = rw same ((bytes_eq-Decides uri uri).1 refl)

-- of a text that is named so nothing is owed
nothing_owed : (shown : Shown) (uri : List ℕ) (t : OpenText) → is_named uri t ≡ true
    → is_named uri t ≡ false → IsToldNow shown t
nothing_owed shown uri t named other = let none : ⊥ = cc in absurd none

waits_settled : (gives : Gives) (shown : Shown) (uri : List ℕ) (ts : List OpenText)
    → All (IsSettled gives shown) ts → All (Waits gives shown uri) ts
waits_settled gives shown uri ts all =
    All-weaker (IsSettled gives shown) (Waits gives shown uri)
    (λ t settled. (settled.prelude, λ other. settled.told)) ts all

waits_without : (gives : Gives) (shown : Shown) (uri : List ℕ) (old new : List OpenText)
    → IsWithout uri old new → All (Waits gives shown uri) old → All (Waits gives shown uri) new
waits_without gives shown uri old new (inl w) all =
    rw w.2 (All-append (Waits gives shown uri) (take w.0 old) (drop (w.0 + 1) old)
    (All-take (Waits gives shown uri) w.0 old all)
    (All-drop (Waits gives shown uri) (w.0 + 1) old all))
waits_without gives shown uri old new (inr w) all = rw w.1 all

waits_opened : (gives : Gives) (shown : Shown) (uri : List ℕ) (version : ℤ) (text : List ℕ)
    (t : OpenText)
    → IsOpened gives (record { uri = uri; version = version; text = text }) t
    → Waits gives shown uri t
waits_opened gives shown uri version text t opens =
    let same : string_bytes t.uri ≡ uri = ap (λ (d : Document). d.uri) opens.document in (
      rw same opens.prelude,
      nothing_owed shown uri t (is_own_name uri t same),
    )

waits_edited : (gives : Gives) (shown : Shown) (uri : List ℕ) (version : ℤ)
    (changes : List Change) (old new : List OpenText) → IsEdited uri version changes old new
    → All (Waits gives shown uri) old → All (Waits gives shown uri) new
waits_edited gives shown uri version changes old new e all =
    let back : All (Waits gives shown uri) (e.first.text ∷ drop (e.i + 1) old) =
    subst (All (Waits gives shown uri)) e.first.is
    (All-drop (Waits gives shown uri) e.i old all) in
    let first : Waits gives shown uri e.first.text =
    All-head (Waits gives shown uri) e.first.text (drop (e.i + 1) old) back in
    let same : string_bytes e.text.uri ≡ string_bytes e.first.text.uri =
    ap (λ (d : Document). d.uri) e.document in
    let named : is_named uri e.text ≡ true = rw same e.first.named in
    let text : Waits gives shown uri e.text = (
      rw (same, e.prelude) first.0,
      nothing_owed shown uri e.text named,
    ) in
    rw e.placed (All-append (Waits gives shown uri) (take e.i old)
    (e.text ∷ drop (e.i + 1) old) (All-take (Waits gives shown uri) e.i old all)
    (All-cons (Waits gives shown uri) e.text (drop (e.i + 1) old) text
    (All-drop (Waits gives shown uri) (e.i + 1) old all)))

waits : (gives : Gives) (shown : Shown) (note : Note) (old new : List OpenText)
    (message : Option Data) → Starts gives note old new message
    → All (Waits gives shown (name_of note)) old → All (Waits gives shown (name_of note)) new
waits gives shown (opened uri version text) old new message (inl s) all =
    rw s.3 (All-push (Waits gives shown uri) s.0 s.1
    (waits_without gives shown uri old s.0 s.2 all)
    (waits_opened gives shown uri version text s.1 s.4))
waits gives shown (opened uri version text) old new message (inr s) all =
    waits_without gives shown uri old new s.0 all
waits gives shown (edited uri version changes) old new message (inl s) all =
    waits_edited gives shown uri version changes old new s.0 all
waits gives shown (edited uri version changes) old new message (inr (inl s)) all = rw s.1 all
waits gives shown (edited uri version changes) old new message (inr (inr s)) all =
    waits_without gives shown uri old new s.0 all
waits gives shown (closed uri) old new message s all =
    waits_without gives shown uri old new s.0 all

pub settles : (before after : Gives) (shown : Shown) (note : Note) (old new : List OpenText)
    (messages : List Data) → Tells before after shown note old new messages
    → All (IsSettled before shown) old → All (IsSettled after shown) new
settles before after shown note old new messages t all =
    all_settled before after shown (name_of note) t.changed t.between new t.more t.unchanged
    (waits before shown note old t.between t.first t.starts
    (waits_settled before shown (name_of note) old all)) t.each

-- ---- all that a note does

-- a text less is without the first of its name
pub without_removed : (uri : List ℕ) (old new : List OpenText) (i : ℕ) → IsFirst uri old i
    → new ≡ remove old i → IsWithout uri old new
without_removed uri old new i first is =
    let next : suc i ≡ i + 1 = omega arith in
    inl (i, first, is ∙ ap (λ (n : ℕ). take i old ++ drop n old) next)

-- what was done at first, and then for each text
pub tells : (before after : Gives) (shown : Shown) (note : Note) (uri : List ℕ) (changed : Bool)
    (old between new : List OpenText) (first : Option Data) (messages all : List Data)
    → uri ≡ name_of note → Starts before note old between first
    → Unchanged before after changed → messages ≡ listed first
    → AreRefreshed after shown uri changed between [] new messages all
    → Tells before after shown note old new all
tells before after shown note uri changed old between new first messages all named starts same
    listed_first r = record {
      first = first;
      between = between;
      starts = starts;
      changed = changed;
      unchanged = same;
      more = r.1;
      each = subst (λ (u : List ℕ). Each (Comes after shown u changed) between new r.1) named
          (rw r.2 r.4);
      all = r.3 ∙ ap (λ (ms : List Data). ms ++ r.1) listed_first;
    }

-- a text is opened, or there was no memory for it
pub opened_starts : {T : Type 0} (gives : Gives) (uri : List ℕ) (version : ℤ) (text : List ℕ)
    (old rest new : List OpenText) (done : Result T Lost) (message : Option Data)
    → IsWithout uri old rest
    → OnOk done ((t : OpenText) × (new ≡ rest ++ t ∷ [])
    × IsOpened gives (record { uri = uri; version = version; text = text }) t)
    → OnErr done (new ≡ rest) → IsDone done message
    → Starts gives (opened uri version text) old new message
opened_starts gives uri version text old rest new (Ok x) message is ok err done =
    inl (rest, ok.0, is, ok.1, ok.2, done)
opened_starts gives uri version text old rest new (Err e) message is ok err done =
    inr (rw err is, done)
