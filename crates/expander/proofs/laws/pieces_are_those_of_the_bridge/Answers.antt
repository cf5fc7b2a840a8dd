use Rattle.bridge.specs.TokenSteps.{text_steps}
use Rattle.expander_model.proofs.SplittingLemmas.{put_together-cut}
use Rattle.expander.proofs.TextPieceLemmas.{cut_stands, member_trees, text_pieces}
use Rattle.expander.proofs.laws.pieces_are_those_of_the_bridge.Goals as goal

pub returns-clause-may : goal.returns-clause-may
returns-clause-may c = λ text f u read.
    cut_stands c.tokens_follow_one_another.ensures.part c.tokens_follow_one_another.ensures.piece f (put_together-cut f)
    (c.tokens_follow_one_another.ensures.text text f u (c.reading_is_a_relation.ensures.walk (text_steps text) f read))

pub returns-clause-trees : goal.returns-clause-trees
returns-clause-trees c = λ text f read. text_pieces text f (c.reading_is_a_relation.ensures.walk (text_steps text) f read)

pub returns-clause-members : goal.returns-clause-members
returns-clause-members c = λ layers depth text f read. member_trees layers depth text f (c.reading_is_a_relation.ensures.walk (text_steps text) f read)
