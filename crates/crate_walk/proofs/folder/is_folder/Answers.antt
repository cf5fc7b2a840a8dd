-- A path ends with a slash as the definition says.
use Rattle.std.proofs.Common.{codes, arith}
use Rattle.std.proofs.lemmas.Str.Pattern.{ends_text}
use Rattle.crate_walk.proofs.folder.is_folder.Goals as goal

pub returns-else-is_empty : goal.returns-else-is_empty
returns-else-is_empty c =
    let e = ends_text c.ends_with.result (codes "/") c.args.path.now c.ends_with.ensures.cases in
    grind (arith, e)
