-- What is left of a limit, and when too many tokens are put out.
use Rattle.std.proofs.Common.{◌≡◌, sym, ap, subst, ◌∙◌, ℕ, ◌<◌, ◌≤◌, ◌+◌, Some, arith}
use Rattle.std.specs.Prelude.{unwrap_or}
use Rattle.tt.specs.Building.{count_of}
use Rattle.mbe_rules.specs.Ops.{items_of}
use Rattle.mbe_transcriber.specs.mbe_matcher.Bound.{map_of}
use Rattle.mbe_transcriber.specs.Given.{PutsOutWithin}
use Rattle.mbe_transcriber.specs.Limits.{most_rounds}
use Rattle.mbe_transcriber.specs.Markers.{is_name}
use Rattle.mbe_transcriber.specs.Output.{output}
use Rattle.mbe.proofs.LeftLemmas.{left_within, no_limit}
use Rattle.mbe.proofs.select_rule.filled.Goals as goal

pub returns-in-Ok-clause-left : goal.returns-in-Ok-clause-left
returns-in-Ok-clause-left g c = λ mark marked.
    let n : ℕ = output is_name most_rounds mark (map_of c.args.bindings.now) (items_of c.args.template.now) in
    let within : PutsOutWithin c.in_ok-out.out.tree c.fill_within.new.out.tree n c.unwrap_or-most.result =
    ((rw c.in-Whole.is at c.in_ok-ended.ensures.ends) mark marked).1 in
    let fresh : count_of c.in_ok-out.out.tree ≡ 0 = ap (λ b. count_of b.tree) c.in_ok-out.ensures.ok in
    let put_out : c.len.result ≡ n = omega (arith, c.len.ensures, within.0, fresh) in
    let less : n ≤ unwrap_or c.args.bounds.most 18446744073709551615 =
    subst (λ m. n ≤ m) c.unwrap_or-most.ensures (omega (arith, within.0, within.1, fresh)) in
    ap Some c.left_behind-left.ensures ∙ left_within 18446744073709551615 c.args.bounds.most n c.len.result put_out less

pub returns-clause-tokens : goal.returns-clause-tokens
returns-clause-tokens g c = λ mark marked refused.
    let n : ℕ = output is_name most_rounds mark (map_of c.args.bindings.now) (items_of c.args.template.now) in
    let passed : c.unwrap_or-most.result < count_of c.in_ok-out.out.tree + n =
    (rw c.in-Passed-2.is at c.in_ok-ended.ensures.ends) mark marked in
    let fresh : count_of c.in_ok-out.out.tree ≡ 0 = ap (λ b. count_of b.tree) c.in_ok-out.ensures.ok in
    let any : c.unwrap_or-most.result ≡ 18446744073709551615 =
    c.unwrap_or-most.ensures ∙ no_limit 18446744073709551615 c.args.bounds.most (sym c.is_some.ensures ∙ c.if-is_some.false) in
    omega (arith, passed, fresh, any)
