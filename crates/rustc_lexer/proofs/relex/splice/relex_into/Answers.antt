use Rattle.std.proofs.Common.{rules, ◌≡◌, ◌∙◌, ap, drop, length}
use Rattle.rustc_lexer.proofs.RelexedLemmas.{to_the_end}
use Rattle.rustc_lexer.proofs.SplicedLemmas.{relexed}
use Rattle.rustc_lexer.proofs.relex.splice.relex_into.Goals as goal

pub returns-clause-relexed : goal.returns-clause-relexed
returns-clause-relexed c =
    let old = to_the_end c.args.stop c.as_slice.result.now ∙ ap (drop c.args.stop) c.as_slice.ensures in
    let found = c.in_ok-fresh.ensures in
    let size : c.len.result ≡ length c.in_ok-fresh.fresh.items = search rules in
    relexed _ _ _ _ _ _ _ _ _ _ _ _ _ size c.in_ok-replace.ensures.tokens found.fresh found.count found.met.0 found.met.1 found.met.2 c.range_from.ensures.value old c.requires.within
