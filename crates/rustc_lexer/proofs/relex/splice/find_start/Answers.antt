use Rattle.std.proofs.Common.{◌-◌, length, take, drop, arith, subst}
use Rattle.rustc_lexer.specs.Relexing.{IsScan}
use Rattle.rustc_lexer.proofs.RelexedLemmas.{to_text_end, to_the_end, total_split}
use Rattle.rustc_lexer.proofs.relex.splice.find_start.Goals as goal

pub first_from-passed-requires-clause-fits : goal.first_from-passed-requires-clause-fits
first_from-passed-requires-clause-fits c =
    let ts = c.args.tokens.now in
    let k = c.front-count.result.0 in
    let all = to_text_end c.args.text.now ts (take (length ts - k) (drop k ts)) k c.front-count.result.1 c.utf8.text c.requires.tokens (to_the_end k ts) c.front-count.ensures.at in
    omega (arith, all, c.requires.small)

pub first_from-passed-requires-clause-reaches : goal.first_from-passed-requires-clause-reaches
first_from-passed-requires-clause-reaches c =
    let ts = c.args.tokens.now in
    let k = c.front-count.result.0 in
    let all = to_text_end c.args.text.now ts (take (length ts - k) (drop k ts)) k c.front-count.result.1 c.utf8.text c.requires.tokens (to_the_end k ts) c.front-count.ensures.at in
    omega (arith, all, c.requires.stop.0)

pub returns-clause-begun : goal.returns-clause-begun
returns-clause-begun c =
    let f = c.front-count.ensures in
    record { count = f.count; is_at = f.at; clear = f.clear; within = f.within }

pub returns-clause-scan : goal.returns-clause-scan
returns-clause-scan c =
    let f = c.first_from-passed.ensures in
    subst (IsScan c.front-count.result.1 c.args.stop c.first_from-passed.result.0 c.first_from-passed.result.1) (to_the_end c.front-count.result.0 c.args.tokens.now)
    (record { place = f.place; within = f.within; behind = f.stop; moves = f.moves })

pub returns-clause-fits : goal.returns-clause-fits
returns-clause-fits c =
    let ts = c.args.tokens.now in
    let k = c.front-count.result.0 in
    let all = to_text_end c.args.text.now ts (take (length ts - k) (drop k ts)) k c.front-count.result.1 c.utf8.text c.requires.tokens (to_the_end k ts) c.front-count.ensures.at in
    omega (arith, all, total_split c.first_from-passed.result.0 (take (length ts - k) (drop k ts)), c.first_from-passed.ensures.place)
