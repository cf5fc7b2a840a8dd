use Rattle.std.proofs.Common.{◌-◌, ap, arith, get_or}
use Rattle.rustc_lexer.proofs.ReadLemmas.{is_other}
use Rattle.rustc_lexer.proofs.RunStartLemmas.{run_start_is}
use Rattle.rustc_lexer.proofs.relex.lookahead.run_start.Goals as goal

pub returns-else-bytes-run-eq35 : goal.returns-else-bytes-run-eq35
returns-else-bytes-run-eq35 c =
    run_start_is c.args.text.now c.args.start _ c.loop-run.run c.utf8.text c.requires c.char_before-last.ensures c.loop-run.invariant.before c.loop-run.invariant.hashed
    (λ k. is_other 35 _ _ (ap (λ bs. get_or bs (c.loop-run.run - 1) 0) c.as_bytes-bytes.ensures.value) c.if-bytes-run-eq35.false)

pub returns-after-loop-run : goal.returns-after-loop-run
returns-after-loop-run c =
    run_start_is c.args.text.now c.args.start _ c.loop-run.run c.utf8.text c.requires c.char_before-last.ensures c.loop-run.invariant.before c.loop-run.invariant.hashed
    (λ k. absurd (omega (arith, c.loop-run-test.false, k)))
