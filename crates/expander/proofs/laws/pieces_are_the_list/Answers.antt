use Rattle.expander_model.proofs.SplittingLemmas.{put_together-cut, cut_alone}
use Rattle.expander.proofs.PieceEndLemmas.{ends_within, only_pieces, piece_ended}
use Rattle.expander.proofs.laws.pieces_are_the_list.Goals as goal

pub returns-clause-whole : goal.returns-clause-whole
returns-clause-whole c = put_together-cut

pub returns-clause-each : goal.returns-clause-each
returns-clause-each c = cut_alone

pub returns-clause-ended : goal.returns-clause-ended
returns-clause-ended c = piece_ended

pub returns-clause-within : goal.returns-clause-within
returns-clause-within c = ends_within

pub returns-clause-only : goal.returns-clause-only
returns-clause-only c = only_pieces
