-- A client that is served by a workspace. (LSP 3.17, "Lifecycle Messages".)
use Rattle.std.specs.Prelude.{◌≡◌, ℕ, Bool, List, []}
use Rattle.lsp_server.specs.Serving.{Served, has_asked}
use Rattle.lsp_server.specs.Steps.{Serving}
use Rattle.lsp_server.specs.declared.phase.Phase.TheVariants.{New}
use Rattle.session_workspace.specs.OpenTexts.{documents_of}
use Rattle.session_workspace.specs.declared.workspace.SessionWorkspace.{SessionWorkspace}

-- a client is served from where it has not asked to initialize and no text is open, over a
-- workspace whose texts are those of its sessions; and whether it asked to shut down before the end
pub record ServesTexts (S : Type 0) (asked : Bool) (comes goes : List ℕ → Type 0) : Type 0 where
  pub first : SessionWorkspace S
  pub none_open : documents_of first.texts.items ≡ []
  pub last : Serving (SessionWorkspace S)
  pub served : Served (λ w. documents_of w.texts.items)
      (record { phase = New; workspace = first }) last comes goes
  pub has_asked : asked ≡ has_asked last.phase
