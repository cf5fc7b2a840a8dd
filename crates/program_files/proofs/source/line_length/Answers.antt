use Rattle.std.proofs.Common.{◌≡◌, ◌∙◌, ap, arith, ℕ}
use Rattle.std.specs.Prelude.{Option}
use Rattle.std.specs.Option.{unwrap_or}
use Rattle.program_files.proofs.SourceLemmas.{within}
use Rattle.program_files.specs.Sources.{line_length}
use Rattle.program_files.proofs.source.line_length.Goals as goal

pub returns-clause-within : goal.returns-clause-within
returns-clause-within c =
    let is : c.unwrap_or.result ≡ line_length c.args.text.now = c.unwrap_or.ensures ∙ ap (λ (o : Option ℕ). unwrap_or o 0) c.strip_shebang.ensures in
    omega (arith, is, within c.args.text.now)
