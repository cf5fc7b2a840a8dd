use Rattle.std.proofs.Common.{◌∷◌, [], subst, refl}
use Rattle.std.proofs.lemmas.Result.{on_ok_weaker}
use Rattle.source_snippet.specs.Messages.{message, part_of}
use Rattle.call_messages.specs.Plain.{IsAbout}
use Rattle.std.specs.Prelude.{string_bytes}
use Rattle.call_messages.proofs.plain.push_plain.Goals as goal

pub returns : goal.returns
returns c =
    let only = part_of c.in_ok-only.only in
    let file = c.args.source.file.now in
    let text = c.args.source.text.now in
    let about : IsAbout file text c.args.title.now c.args.words.now c.args.range only =
    subst (λ t. IsAbout file text t c.args.words.now c.args.range only) c.in_ok-title.ensures.ok
    (subst (λ w. IsAbout file text (string_bytes c.in_ok-title.title) w c.args.range only) c.in_ok-words.ensures.ok c.in_ok-only.ensures) in
    on_ok_weaker c.push_message.result (λ e. (message (only ∷ []), e, record { only = only; about = about; is = refl })) c.push_message.ensures
