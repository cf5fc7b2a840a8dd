use Rattle.std.proofs.Common.{◌≡◌, ◌∙◌, ◌∷◌, [], ◌++◌, ℕ, List, Some, ap, arith, cond, length, rules}
use Rattle.std.specs.HashMap.{get}
use Rattle.small_grammar.specs.Text.{same_text}
use Rattle.expander_scope.proofs.NameStackLemmas.{hidden_more, table_more}
use Rattle.expander_scope.specs.declared.name_stack.Entry.{Entry}
use Rattle.expander_scope.proofs.name_stack.NameStack.push.Goals as goal

pub invariant_of-self-2 : goal.invariant_of-self-2
invariant_of-self-2 g c =
    let entry : Entry g.row.T.Denot = record { name = c.args.name; value = c.args.value; shadowed = c.in_ok-shadowed.shadowed } in
    let added : c.push.new.self.items ≡ c.args.self.now.entries.items ++ entry ∷ [] = search rules in
    let counted : c.len-index.result ≡ length c.args.self.now.entries.items = omega arith in
    let named : c.in_ok-clone.field-0 ≡ c.args.name = search rules in
    record {
      hidden = hidden_more c.args.self.now.entries.items c.push.new.self.items entry added c.args.self.now.hidden
          (c.in_ok-shadowed.ensures.old ∙ ap (get same_text c.args.self.now.nearest) named ∙ c.args.self.now.in_order c.args.name);
      in_order = table_more c.args.self.now.entries.items c.push.new.self.items entry c.len-index.result (get same_text c.args.self.now.nearest)
          (get same_text c.insert.new.self) added counted c.args.self.now.in_order
          (λ other. c.in_ok-shadowed.ensures.updates.0 other
          ∙ ap (λ (w : List ℕ). cond (same_text w other) (Some c.len-index.result) (get same_text c.args.self.now.nearest other)) named);
    }
