use Rattle.tt.proofs.RelabellingLemmas.{agreeing, anchors_of-relabelled, relabelled-same, relabelled-twice, tokens_of-relabelled}
use Rattle.tt.proofs.laws.trees_relabelled.Goals as goal

pub returns-clause-tokens : goal.returns-clause-tokens
returns-clause-tokens c = tokens_of-relabelled

pub returns-clause-anchors : goal.returns-clause-anchors
returns-clause-anchors c = anchors_of-relabelled

pub returns-clause-twice : goal.returns-clause-twice
returns-clause-twice c = relabelled-twice

pub returns-clause-same : goal.returns-clause-same
returns-clause-same c = relabelled-same

pub returns-clause-agreeing : goal.returns-clause-agreeing
returns-clause-agreeing c = agreeing
