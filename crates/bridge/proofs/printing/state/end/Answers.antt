use Rattle.std.proofs.Common.{◌≡◌, ◌++◌, [], refl, rules}
use Rattle.std.specs.Prelude.{string_bytes}
use Rattle.bridge.specs.PrintStates.{state_of}
use Rattle.bridge.specs.Printers.{continued}
use Rattle.bridge.proofs.PrintStepLemmas.{ended}
use Rattle.bridge.proofs.printing.state.end.Goals as goal

pub returns-in_ok-push_str-clause-ends : goal.returns-in_ok-push_str-clause-ends
returns-in_ok-push_str-clause-ends c = λ all p.
    let out = c.settle.new.out in
    let text : string_bytes c.push_str.new.self ≡ string_bytes out.text ++ continued out.depth out.last [] = search rules in
    ended (state_of out) (string_bytes c.push_str.new.self) all (c.in_ok-settle.ensures.settled.settled [] all refl p) text

pub returns-else-is_some-clause-ends : goal.returns-else-is_some-clause-ends
returns-else-is_some-clause-ends c = λ all p.
    let out = c.settle.new.out in
    let text : string_bytes out.text ≡ string_bytes out.text ++ continued out.depth out.last [] = search rules in
    ended (state_of out) (string_bytes out.text) all (c.in_ok-settle.ensures.settled.settled [] all refl p) text
