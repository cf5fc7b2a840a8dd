-- What goes for a notification. (For `take_note`.)
use Rattle.std.proofs.Common.{◌≡◌, ◌∙◌, List, [], ◌∷◌, ◌++◌, refl, ap, inl, inr, Option, Some, None}
use Rattle.std.specs.Prelude.{IfOk, Result, Ok, Err}
use Rattle.serde_json.specs.Data.{Data}
use Rattle.rpc_messages.specs.Messages.{answered}
use Rattle.client_texts.specs.Params.{Note}
use Rattle.client_texts.specs.Texts.{Document}
use Rattle.lsp_server.specs.Workspaces.{Begins, Follows, IsPublished, IsPublishedIf, IsShown, Remain, listed}

-- what is published or shown answers nothing
published_quiet : (message : Data) (more : List Data) → IsPublished message
    → answered (message ∷ more) ≡ answered more
published_quiet message more is = rw is.1 refl

shown_quiet : (message : Data) (more : List Data) → IsShown message
    → answered (message ∷ more) ≡ answered more
shown_quiet message more is = rw is.1 refl

listed_quiet : (message : Option Data) (more : List Data) → IsPublishedIf message
    → answered (listed message ++ more) ≡ answered more
listed_quiet None more is = refl
listed_quiet (Some message) more is = published_quiet message more is

remain_quiet : (old new : List Document) (messages : List Data) → Remain old new messages
    → answered messages ≡ []
remain_quiet [] new messages remain = rw remain.1 refl
remain_quiet (d ∷ ds) new messages (inl stays) =
    ap answered stays.4 ∙ listed_quiet stays.1 stays.2 stays.5
    ∙ remain_quiet ds stays.0 stays.2 stays.6
remain_quiet (d ∷ ds) new messages (inr lost) =
    ap answered lost.2 ∙ shown_quiet lost.0 lost.1 lost.3 ∙ remain_quiet ds new lost.1 lost.4

begins_quiet : (note : Note) (old new : List Document) (first : Option Data) (more : List Data)
    → Begins note old new first → answered (listed first ++ more) ≡ answered more
begins_quiet note old new None more begins = refl
begins_quiet note old new (Some message) more (inl is) = published_quiet message more is.1
begins_quiet note old new (Some message) more (inr is) = shown_quiet message more is.1

-- what goes where texts follow answers nothing
follows_quiet : (note : Note) (old new : List Document) (messages : List Data)
    → Follows note old new messages → answered messages ≡ []
follows_quiet note old new messages f =
    ap answered f.all ∙ begins_quiet note old f.between f.first f.more f.begins
    ∙ remain_quiet f.between new f.more f.remain

pub quiet_if_ok : {A E : Type 0} (r : Result A E) (outs : A → List Data) (note : Note)
    (old new : List Document) → IfOk r (λ a. Follows note old new (outs a))
    → IfOk r (λ a. answered (outs a) ≡ [])
quiet_if_ok (Ok a) outs note old new follows = follows_quiet note old new (outs a) follows
quiet_if_ok (Err e) outs note old new follows = tt
