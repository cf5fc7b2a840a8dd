use Rattle.std.proofs.Common.{◌≡◌, ◌∙◌, sym, ap, true, Some, Option, List, drop, length, arith, ℕ, Bool}
use Rattle.std.specs.Prelude.{option_and_then}
use Rattle.std.proofs.lemmas.List.{drop-drop}
use Rattle.rpc_frames.specs.Frames.{behind_name, field_name, has_name, number_in}
use Rattle.rpc_frames.proofs.HeadLemmas.{behind_name-found}
use Rattle.rpc_frames.proofs.head.length_in.Goals as goal

pub returns-then-has_name : goal.returns-then-has_name
returns-then-has_name c =
    let head : List ℕ = c.args.head.now in
    let rest : c.from.result.now ≡ drop c.loop-at.at head = c.from.ensures in
    let named : has_name field_name (drop c.loop-at.at head) ≡ true =
    ap (has_name field_name) (sym rest) ∙ sym c.has_name.ensures.name ∙ c.if-has_name.true in
    let behind = behind_name-found head c.loop-at.at (omega (arith, c.loop-at-test.true)) named in
    let whole : behind_name true head ≡ Some (drop (length field_name) (drop c.loop-at.at head)) =
    sym c.loop-at.invariant
    ∙ ap (λ (begin : Bool). behind_name begin (drop c.loop-at.at head)) c.if-is_begin.true
    ∙ behind in
    c.number_in.ensures
    ∙ ap number_in (c.from-then-has_name.ensures
    ∙ sym (drop-drop (length field_name) c.loop-at.at head))
    ∙ ap (λ (found : Option (List ℕ)). option_and_then number_in found) (sym whole)
