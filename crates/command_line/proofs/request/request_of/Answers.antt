use Rattle.std.proofs.Common.{List, Option, map, string_bytes, subst}
use Rattle.clap.specs.Words.{Row, Text, app_of}
use Rattle.command_line.specs.Commands.{AsksFor}
use Rattle.command_line.proofs.CommandLemmas.{is_simple_program}
use Rattle.command_line.proofs.request.request_of.Goals as goal

pub returns-in-Some : goal.returns-in-Some
returns-in-Some c =
    let app = app_of c.in_ok-program.field-0 in
    let same = (c.in-Ok.ensures.matches (is_simple_program app c.in_ok-program.ensures)).1 in
    (app, c.in_ok-program.ensures, subst (λ (o : Option (Text × List Row)). AsksFor o c.in-Some.job) same (rw c.in-Some.is at c.in_ok-job-in-Ok.ensures))

pub returns : goal.returns
returns c = c.told.ensures (map string_bytes c.args.words.now)
