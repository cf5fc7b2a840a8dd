use Rattle.expander_session.proofs.MemoLemmas.{link_within}
use Rattle.expander_session.proofs.memo_index.find_valid.Goals as goal

pub linked_memo-requires-clause-within : goal.linked_memo-requires-clause-within
linked_memo-requires-clause-within c = link_within c.args.held.now c.args.link c.args.tree.now.value c.requires.link

pub returns-in-Some-clause-any : goal.returns-in-Some-clause-any
returns-in-Some-clause-any c = (c.in-Some.ensures c.args.tree.now.value c.requires.link).any

pub returns-in-Some-clause-found : goal.returns-in-Some-clause-found
returns-in-Some-clause-found c = (c.in-Some.ensures c.args.tree.now.value c.requires.link).found

pub returns-in-Some-clause-within : goal.returns-in-Some-clause-within
returns-in-Some-clause-within c = (c.in-Some.ensures c.args.tree.now.value c.requires.link).within
