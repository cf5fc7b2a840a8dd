use Rattle.mbe_transcriber.proofs.LeafLemmas.{ignored-fills}
use Rattle.mbe_transcriber.proofs.leaf.put_dollar.Goals as goal

pub returns-in-Ignore-clause-filled : goal.returns-in-Ignore-clause-filled
returns-in-Ignore-clause-filled c = λ mark. rw c.in-Ignore.is (ignored-fills c.args.out.now.tree c.is_ignored.result _ (c.is_ignored.ensures mark))

pub returns-in-Concat-clause-filled : goal.returns-in-Concat-clause-filled
returns-in-Concat-clause-filled c = λ mark. rw (c.in-Concat.is, ← c.deref.ensures.value) (c.put_concat.ensures.filled mark)

pub returns-in-Concat-clause-tokens : goal.returns-in-Concat-clause-tokens
returns-in-Concat-clause-tokens c = λ mark. rw (c.in-Concat.is, ← c.deref.ensures.value) (c.put_concat.ensures.tokens mark)
