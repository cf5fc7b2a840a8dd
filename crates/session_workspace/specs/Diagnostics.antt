-- The diagnostics of a text. (LSP 3.17, "Diagnostic" and "PublishDiagnostics Notification".)
use Rattle.std.specs.Prelude.{ℕ, ℤ, Bool, true, false, List, [], ◌∷◌, codes, filter, map, Result}
use Rattle.std.specs.Prelude.{Ok, Err}
use Rattle.serde_json.specs.Data.{Data, array, no_items, number, object, string, member}
use Rattle.serde_json.specs.Data.{no_members, unsigned}
use Rattle.serde_json.specs.Find.{of_integer}
use Rattle.serde_json.specs.View.{items_of}
use Rattle.bridge.specs.declared.reading.outcome.ReadFault.{ReadFault}
use Rattle.expander_model.specs.declared.fault.Fault.{Fault}
use Rattle.expander_model.specs.declared.fault.FaultKind.{FaultKind}
use Rattle.expander_model.specs.declared.fault.FaultKind.TheVariants.{NestedDefinition}
use Rattle.expander_run.specs.Lines.{fault_words, read_fault_words, refusal_words}
use Rattle.expander_scope.specs.declared.refusal.Refusal.{Refusal}
use Rattle.expander_session.specs.declared.session.Reply.{Reply}
use Rattle.expander_session.specs.declared.session.Reply.TheVariants.{Read, Unread}
use Rattle.rpc_messages.specs.Messages.{notification}
use Rattle.session_workspace.specs.Names.{kind_name, read_kind_name, refusal_name}
use Rattle.session_workspace.specs.Ranges.{range_data}

-- ---- one diagnostic

-- a diagnostic: where, how bad it is (1 an error, 2 a warning), and what it is in one word and in
-- several
abbrev pub diagnostic : (range : Data) → (severity : ℕ) → (code words : List ℕ) → Data
diagnostic range severity code words =
    object (member (codes "code") (string code) (member (codes "message") (string words)
    (member (codes "range") range (member (codes "severity") (number (unsigned severity))
    (member (codes "source") (string (codes "filgordd")) no_members)))))

-- that of a fault of an expansion, a warning
abbrev pub fault_diagnostic : List ℕ → Fault → Data
fault_diagnostic text f =
    diagnostic (range_data text f.range) 2 (kind_name f.kind) (fault_words f.kind)

-- that of a reading fault, an error
abbrev pub unread_diagnostic : List ℕ → ReadFault → Data
unread_diagnostic text f =
    diagnostic (range_data text f.range) 1 (read_kind_name f.kind) (read_fault_words f.kind)

-- that of a text whose session has no reply, an error at its first byte
abbrev pub refusal_diagnostic : List ℕ → Refusal → Data
refusal_diagnostic text refusal =
    diagnostic (range_data text (record { start = 0; «end» = 0 })) 1 (refusal_name refusal)
    (refusal_words refusal)

-- ---- all of a text

-- a client is told of faults of a kind: of all but definitions in the output, which are no faults
-- of the text
abbrev pub is_shown : FaultKind → Bool
is_shown NestedDefinition = false
is_shown _ = true

-- those of the faults that are shown, in order
abbrev pub faults_shown : List ℕ → List Fault → List Data
faults_shown text faults = map (fault_diagnostic text) (filter (λ f. is_shown f.kind) faults)

-- those of a text for which a session gives this
abbrev pub diagnostics_of : List ℕ → Result Reply Refusal → List Data
diagnostics_of text (Ok (Read e)) = faults_shown text e.faults
diagnostics_of text (Ok (Unread fault)) = unread_diagnostic text fault ∷ []
diagnostics_of text (Err refusal) = refusal_diagnostic text refusal ∷ []

-- ---- notifications

-- a text of this name and version has these diagnostics
abbrev pub publication : List ℕ → ℤ → List Data → Data
publication uri version diagnostics =
    notification (codes "textDocument/publishDiagnostics")
    (object (member (codes "diagnostics") (array (items_of diagnostics))
    (member (codes "uri") (string uri)
    (member (codes "version") (number (of_integer version)) no_members))))

-- a text of this name, which is closed, has none
abbrev pub withdrawal : List ℕ → Data
withdrawal uri =
    notification (codes "textDocument/publishDiagnostics")
    (object (member (codes "diagnostics") (array no_items)
    (member (codes "uri") (string uri) no_members)))
