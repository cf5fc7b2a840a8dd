-- What may be done with a call. (LSP 3.17, "Code Action Request" and "WorkspaceEdit".)
use Rattle.std.specs.Prelude.{◌≡◌, ◌&&◌, ℕ, Bool, true, false, List, codes, length, ltb, nat_eq}
use Rattle.std.specs.Prelude.{string_bytes, Option, Some, None}
use Rattle.serde_json.specs.Data.{Data, array, no_items, item, object, string, member, no_members}
use Rattle.bridge.specs.declared.printing.printer.Printed.{Printed}
use Rattle.step_report.specs.expander_trace.call_expansion.declared.answer.Called.{Called}
use Rattle.session_workspace.specs.Layouts.{IsLaidOut}
use Rattle.session_workspace.specs.Ranges.{range_data}

-- an edit that puts a text in the place of a range of the text of this name
abbrev pub edit_data : (uri : List ℕ) → (range : Data) → (new : List ℕ) → Data
edit_data uri range new =
    object (member (codes "changes") (object (member uri (array (item
    (object (member (codes "newText") (string new) (member (codes "range") range no_members)))
    no_items)) no_members)) no_members)

-- the action that does it
abbrev pub action_data : (edit : Data) → Data
action_data edit =
    object (member (codes "edit") edit (member (codes "kind") (string (codes "refactor.inline"))
    (member (codes "title") (string (codes "Replace this call by its tokens")) no_members)))

-- an answer offers to put what came of a call, laid out, in the place of the call's bytes
abbrev pub OffersTokens : (uri text : List ℕ) → Called → Printed → Data → Type 0
OffersTokens uri text c p told = (laid : List ℕ) × IsLaidOut (string_bytes p.text) laid
    × (told ≡ array (item (action_data (edit_data uri (range_data text c.place.range) laid))
    no_items))

-- that is offered where something came of the call, and each token of it has a spelling
abbrev pub is_whole : Printed → Bool
is_whole p = ltb 0 (length p.tokens.items) && nat_eq (length p.left_out.items) 0

abbrev pub OffersIf : (is_offered : Bool) → (uri text : List ℕ) → Called → Printed → Data → Type 0
OffersIf true uri text c p told = OffersTokens uri text c p told
OffersIf false uri text c p told = told ≡ array no_items

-- where a call stays, nothing is offered
abbrev pub OffersResult : (uri text : List ℕ) → Called → Option Printed → Data → Type 0
OffersResult uri text c (Some p) told = OffersIf (is_whole p) uri text c p told
OffersResult uri text c None told = told ≡ array no_items

-- nor is it where no call is
abbrev pub OffersActions : (uri text : List ℕ) → Option Called → Data → Type 0
OffersActions uri text (Some c) told = OffersResult uri text c c.gives told
OffersActions uri text None told = told ≡ array no_items
