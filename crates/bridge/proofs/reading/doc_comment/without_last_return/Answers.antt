use Rattle.std.proofs.Common.{◌≡◌, ◌+◌, length, take, get_or, nat_eq, false, ◌∙◌, rules}
use Rattle.bridge.proofs.EscapeLemmas.{no_return, return_taken}
use Rattle.bridge.proofs.reading.doc_comment.without_last_return.Goals as goal

pub returns-then-as_bytes-last-eq13 : goal.returns-then-as_bytes-last-eq13
returns-then-as_bytes-last-eq13 c =
    let long : length c.args.text.now ≡ c.in-Some.last + 1 = search rules in
    let at : get_or c.args.text.now c.in-Some.last 0 ≡ 13 = search rules in
    let cut : c.range.result.now ≡ take c.in-Some.last c.args.text.now = search rules in
    cut ∙ return_taken c.args.text.now c.in-Some.last long at

pub returns-else-as_bytes-last-eq13 : goal.returns-else-as_bytes-last-eq13
returns-else-as_bytes-last-eq13 c =
    let long : length c.args.text.now ≡ c.in-Some.last + 1 = search rules in
    let at : nat_eq (get_or c.args.text.now c.in-Some.last 0) 13 ≡ false = search rules in
    no_return c.args.text.now c.in-Some.last long at
