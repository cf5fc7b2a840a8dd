use Rattle.std.proofs.Common.{◌≡◌, ℕ, Option, drop}
use Rattle.expander_session.specs.LookupTrees.{Extends, Leads, branch_of, lookups_at}
use Rattle.expander_session.specs.Memos.{finds_of}
use Rattle.expander_session.proofs.lookup_tree.LookupTree.push_from.Given as goal

-- nothing has changed; where the look-ups left lead, all of them lead from the first memo
abbrev pub invariant-loop-place : goal.invariant-loop-place
invariant-loop-place l = record {
  same : l.self ≡ l.fn.self;
  leads : (new : ℕ → ℕ → ℕ → Option ℕ) → Extends (branch_of l.fn.self) new
      → Leads new (lookups_at l.memos) (drop l.place (finds_of l.memo)) l.at l.place → Leads new (lookups_at l.memos) (finds_of l.memo) l.first 0;
}
