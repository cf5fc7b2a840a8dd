use Rattle.std.proofs.Common.{◌<◌, arith}
use Rattle.std.proofs.lemmas.Grind.{common_steps}
use Rattle.unicode_ident.proofs.IdentLemmas.{is_xid_start-ascii}
use Rattle.rustc_lexer.proofs.character.is_id_start.Goals as goal

pub returns-else-c-eq95 : goal.returns-else-c-eq95
returns-else-c-eq95 c =
    let low : c.args.c < 128 = grind (arith, common_steps) in
    rw (is_xid_start-ascii c.args.c low) (grind (arith, common_steps))
