-- By induction on the forest.
use Rattle.tt_data.proofs.ForestLemmas.{map_spans-joined, size-map_spans, preorder-map_spans, walk-map_spans, map_spans-map_spans, map_spans-same, forest_of-token_with, IsPreorder-token_with, shape-map_spans}
use Rattle.tt_data.proofs.laws.spans_mapped.Goals as goal

pub returns-clause-joining : goal.returns-clause-joining
returns-clause-joining c = map_spans-joined

pub returns-clause-counted : goal.returns-clause-counted
returns-clause-counted c = size-map_spans

pub returns-clause-tokens : goal.returns-clause-tokens
returns-clause-tokens c = preorder-map_spans

pub returns-clause-steps : goal.returns-clause-steps
returns-clause-steps c = walk-map_spans

pub returns-clause-twice : goal.returns-clause-twice
returns-clause-twice c = map_spans-map_spans

pub returns-clause-same : goal.returns-clause-same
returns-clause-same c = map_spans-same

pub returns-clause-shapes : goal.returns-clause-shapes
returns-clause-shapes c = shape-map_spans

pub returns-clause-flat : goal.returns-clause-flat
returns-clause-flat c = forest_of-token_with

pub returns-clause-flat_whole : goal.returns-clause-flat_whole
returns-clause-flat_whole c = IsPreorder-token_with
