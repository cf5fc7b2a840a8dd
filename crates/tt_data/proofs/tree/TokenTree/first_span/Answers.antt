use Rattle.std.proofs.Common.{rules}
use Rattle.tt_data.proofs.tree.TokenTree.first_span.Goals as goal

pub returns-in-Leaf : goal.returns-in-Leaf
returns-in-Leaf c = search rules

pub returns-in-Subtree : goal.returns-in-Subtree
returns-in-Subtree c = search rules
