use Rattle.std.proofs.Common.{◌≡◌, ◌≤◌, ◌-◌, drop}
use Rattle.expander_scope.specs.NameStacks.{entries_of}
use Rattle.expander_scope.proofs.name_stack.NameStack.cut_back.Given as goal

abbrev pub invariant-loop : goal.invariant-loop
invariant-loop g l = record {
  popped : entries_of l.self ≡ drop (l.counter - l.fn.len) (entries_of l.fn.self);
  none_popped : l.end ≤ l.fn.len → l.counter ≡ l.fn.len;
}
