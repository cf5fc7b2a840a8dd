-- The Language Server Protocol as this server speaks it: methods, phases, and which requests it
-- refuses. (LSP 3.17, "Server lifecycle" and "Error codes".)
use Rattle.std.specs.Prelude.{ℕ, true, false, List, bytes_eq, codes, if◌then◌else◌, Option, Some, None, option_and_then}
use Rattle.serde_json.specs.Data.{Data}
use Rattle.rpc_messages.specs.Messages.{method_of}
use Rattle.client_texts.specs.Params.{Note, closed_in, edited_in, opened_in}
use Rattle.lsp_server.specs.declared.method.Method.{Method}
use Rattle.lsp_server.specs.declared.method.Method.TheVariants.{Initialize, DidOpen, DidChange, DidClose, Hover, Definition, DocumentSymbol, ExpandMacro, CodeAction, Trace, Shutdown, Exit}
use Rattle.lsp_server.specs.declared.phase.Phase.{Phase}
use Rattle.lsp_server.specs.declared.phase.Phase.TheVariants.{New, Open, Shut, Ended}
use Rattle.lsp_server.specs.declared.phase.ErrorCode.{ErrorCode}
use Rattle.lsp_server.specs.declared.phase.ErrorCode.TheVariants.{InvalidRequest, NotInitialized, UnknownMethod}

-- the methods that the server knows
abbrev pub method_named : List ℕ → Option Method
method_named name =
    if bytes_eq name (codes "initialize") then Some Initialize else
    if bytes_eq name (codes "textDocument/didOpen") then Some DidOpen else
    if bytes_eq name (codes "textDocument/didChange") then Some DidChange else
    if bytes_eq name (codes "textDocument/didClose") then Some DidClose else
    if bytes_eq name (codes "textDocument/hover") then Some Hover else
    if bytes_eq name (codes "textDocument/definition") then Some Definition else
    if bytes_eq name (codes "textDocument/documentSymbol") then Some DocumentSymbol else
    if bytes_eq name (codes "rust-analyzer/expandMacro") then Some ExpandMacro else
    if bytes_eq name (codes "textDocument/codeAction") then Some CodeAction else
    if bytes_eq name (codes "filgordd/trace") then Some Trace else
    if bytes_eq name (codes "shutdown") then Some Shutdown else
    if bytes_eq name (codes "exit") then Some Exit else None

-- the method of a message, if the server knows it
abbrev pub known_method : Data → Option Method
known_method message = option_and_then method_named (method_of message)

-- ---- which requests are refused before they are looked at

-- once the server is open: what is only told is no request
abbrev pub refused_open : Method → Option ErrorCode
refused_open Initialize = Some InvalidRequest
refused_open Hover = None
refused_open Definition = None
refused_open DocumentSymbol = None
refused_open ExpandMacro = None
refused_open CodeAction = None
refused_open Trace = None
refused_open Shutdown = None
refused_open _ = Some UnknownMethod

-- a request with a method that is unknown, or no text
abbrev pub refused_unknown : Option (List ℕ) → Option ErrorCode
refused_unknown (Some name) = Some UnknownMethod
refused_unknown None = Some InvalidRequest

abbrev pub refused_new : Option Method → Option ErrorCode
refused_new (Some Initialize) = None
refused_new _ = Some NotInitialized

abbrev pub refused_by : Phase → (name : Option (List ℕ)) → Option Method → Option ErrorCode
refused_by New name method = refused_new method
refused_by Open name (Some method) = refused_open method
refused_by Open name None = refused_unknown name
refused_by _ name method = Some InvalidRequest

abbrev pub refused : Phase → Data → Option ErrorCode
refused phase message = refused_by phase (method_of message) (known_method message)

-- ---- what requests and notifications change

-- the phase after a request
abbrev pub phase_asked : Phase → Option Method → Phase
phase_asked New (Some Initialize) = Open
phase_asked Open (Some Shutdown) = Shut
phase_asked phase _ = phase

-- the phase after a notification
abbrev pub phase_told : Phase → Option Method → Phase
phase_told Shut (Some Exit) = Ended true
phase_told (Ended asked) (Some Exit) = Ended asked
phase_told phase (Some Exit) = Ended false
phase_told phase _ = phase

-- what a notification tells of the client's texts, once the server is open
abbrev pub note_told : Phase → Option Method → Data → Option Note
note_told Open (Some DidOpen) params = opened_in params
note_told Open (Some DidChange) params = edited_in params
note_told Open (Some DidClose) params = closed_in params
note_told _ _ params = None
