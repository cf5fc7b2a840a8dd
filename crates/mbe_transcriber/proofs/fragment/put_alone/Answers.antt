use Rattle.tt.specs.Views.{forest}
use Rattle.mbe_transcriber.proofs.PuttingLemmas.{alone-lacks}
use Rattle.mbe_transcriber.proofs.fragment.put_alone.Goals as goal

pub returns-clause-tokens : goal.returns-clause-tokens
returns-clause-tokens c = λ e. alone-lacks c.args.out.now.tree (forest c.args.trees) (c.extend_with_tt_alone.ensures.tokens.0 e)
