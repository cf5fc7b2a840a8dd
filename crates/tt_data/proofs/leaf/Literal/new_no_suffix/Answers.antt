-- All is the text.
use Rattle.std.proofs.Common.{◌≡◌, ◌∙◌, [], sym, append-nil, rules}
use Rattle.std.proofs.lemmas.Str.{IsUtf8-nil}
use Rattle.tt_data.proofs.LiteralLemmas.{inside, cut}
use Rattle.tt_data.proofs.leaf.Literal.new_no_suffix.Goals as goal

pub invariant_of-result : goal.invariant_of-result
invariant_of-result c =
    let same : c.in_ok-new.field-0 ≡ c.args.text.now = search rules in
    inside _ c.args.text.now [] (same ∙ sym (append-nil c.args.text.now)) IsUtf8-nil

pub returns-clause-literal : goal.returns-clause-literal
returns-clause-literal c =
    let same : c.in_ok-new.field-0 ≡ c.args.text.now = search rules in
    cut _ c.args.text.now [] (same ∙ sym (append-nil c.args.text.now)) c.args.kind c.args.span
