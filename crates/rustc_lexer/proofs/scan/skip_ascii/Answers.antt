use Rattle.std.proofs.Common.{sym, subst, IsCharBoundary}
use Rattle.rustc_lexer.proofs.AsciiLemmas.{ascii_run, run_left, run_stopped}
use Rattle.rustc_lexer.proofs.scan.skip_ascii.Goals as goal

pub range_from-requires : goal.range_from-requires
range_from-requires g c =
    let run = ascii_run g.T.CharTest.passes c.args.text.now c.utf8.text in
    λ _. subst (IsCharBoundary c.args.text.now) (sym c.ascii_run.ensures) run.boundary

pub returns-clause-on : goal.returns-clause-on
returns-clause-on g c = run_left g.T.CharTest.passes c.args.text.now _ _ c.utf8.text c.ascii_run.ensures c.range_from.ensures.value

pub returns-clause-stops : goal.returns-clause-stops
returns-clause-stops g c = run_stopped g.T.CharTest.passes c.args.text.now _ _ c.utf8.text c.ascii_run.ensures c.range_from.ensures.value
