use Rattle.std.specs.HashMap.{get}
use Rattle.small_grammar.specs.Text.{same_text}
use Rattle.expander_scope.proofs.NameStackLemmas.{hidden_fewer, last_resolves, table_fewer, was_put}
use Rattle.expander_scope.proofs.name_stack.NameStack.pop.Goals as goal

pub invariant_of-self-in-Some-shadowed : goal.invariant_of-self-in-Some-shadowed
invariant_of-self-in-Some-shadowed g c =
    let there =
    last_resolves c.args.self.now.entries.items c.pop.new.self.items c.in-Some.entry (get same_text c.args.self.now.nearest)
    c.in-Some.ensures.items c.args.self.now.in_order in
    record {
      hidden = hidden_fewer c.args.self.now.entries.items c.pop.new.self.items c.in-Some.entry c.in-Some.ensures.items c.args.self.now.hidden;
      in_order = table_fewer c.args.self.now.entries.items c.pop.new.self.items c.in-Some.entry (get same_text c.args.self.now.nearest)
          (get same_text c.insert.new.self) c.in-Some.ensures.items c.args.self.now.hidden c.args.self.now.in_order
          (rw c.in-Some-shadowed.is (was_put c.insert.result _ _ c.insert.ensures.updates c.insert.ensures.absent there).0);
    }

pub unreachable-requires : goal.unreachable-requires
unreachable-requires g c =
    let there =
    last_resolves c.args.self.now.entries.items c.pop.new.self.items c.in-Some.entry (get same_text c.args.self.now.nearest)
    c.in-Some.ensures.items c.args.self.now.in_order in
    cc (there, c.in_default-insert.ensures.absent)

pub invariant_of-self-in-None-entry : goal.invariant_of-self-in-None-entry
invariant_of-self-in-None-entry g c = record {
  hidden = hidden_fewer c.args.self.now.entries.items c.pop.new.self.items c.in-Some.entry c.in-Some.ensures.items c.args.self.now.hidden;
  in_order = table_fewer c.args.self.now.entries.items c.pop.new.self.items c.in-Some.entry (get same_text c.args.self.now.nearest)
      (get same_text c.remove.new.self) c.in-Some.ensures.items c.args.self.now.hidden c.args.self.now.in_order (rw c.in-None.is c.remove.ensures.updates.0);
}
