use Rattle.std.proofs.Common.{◌≡◌, ◌+◌, ◌-◌, ◌∙◌, sym, ap, List, length, take, drop, ℕ}
use Rattle.rpc_frames.specs.Frames.{begin_of}
use Rattle.rpc_frames.specs.declared.begin.Begin.TheVariants.{Whole}
use Rattle.rpc_frames.proofs.StreamLemmas.{taken_frame}
use Rattle.rpc_frames.proofs.frames.Frames.take.Goals as goal

pub returns-in_ok-self-inside-in-Whole-clause-some :
    goal.returns-in_ok-self-inside-in-Whole-clause-some
returns-in_ok-self-inside-in-Whole-clause-some c =
    let bytes : List ℕ = c.self.inside.bytes.items in
    let head : ℕ = c.in-Whole.head in
    let end : ℕ = head + c.in-Whole.body in
    let begins : begin_of bytes ≡ Whole head c.in-Whole.body =
    ap begin_of (sym c.as_slice.ensures.value) ∙ sym c.begin_of.ensures ∙ c.in-Whole.is in
    let cut = taken_frame bytes head c.in-Whole.body c.in_ok-taken-in-Whole.taken.items
    c.in_ok-self-inside-in-Whole.field-0.items begins
    (c.in_ok-taken-in-Whole.ensures.items
    ∙ ap (λ (xs : List ℕ). take (end - head) (drop head xs)) c.deref.ensures.value)
    (c.in_ok-self-inside-in-Whole.ensures.items
    ∙ ap (λ (xs : List ℕ). take (length xs - end) (drop end xs)) c.deref-in-Whole.ensures.value) in
    (cut.0, cut.1, cut.2, sym c.self.view_is ∙ cut.3)
