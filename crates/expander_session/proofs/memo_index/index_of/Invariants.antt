use Rattle.expander_session.specs.LookupTrees.{IsIndexOf}
use Rattle.expander_session.proofs.memo_index.index_of.Given as goal

-- the memos so far are in the index
abbrev pub invariant-loop-i : goal.invariant-loop-i
invariant-loop-i l = IsIndexOf l.index l.held l.i
