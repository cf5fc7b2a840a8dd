use Rattle.std.proofs.Common.{sym}
use Rattle.clap.specs.Words.{found_of, rows_of, subcommand_rows_of}
use Rattle.command_line.proofs.CommandLemmas.{makes_asked, together}
use Rattle.command_line.proofs.request.job_in.Goals as goal

pub returns-in-Some-action_of : goal.returns-in-Some-action_of
returns-in-Some-action_of c =
    let name_is = rw c.in-Some.is at c.subcommand.ensures.name in
    let rows_are = rw c.in-Some.is at c.subcommand.ensures.rows in
    makes_asked (subcommand_rows_of c.args.matches.now) c.in-Some.name.now (rows_of (found_of c.in-Some.inner.now)) c.in-Some-action_of.action c.job_of.result
    (together _ _ _ c.in-Some.name.now (rows_of (found_of c.in-Some.inner.now)) (sym name_is) (sym rows_are))
    c.in-Some-action_of.ensures c.job_of.ensures.action c.job_of.ensures.words
