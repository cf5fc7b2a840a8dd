use Rattle.std.proofs.Common.{[]}
use Rattle.expander_scope.specs.ScopeTable.{expanded_under}
use Rattle.expander_session.proofs.new_memo.printed_output.Goals as goal

pub returns-clause-parts : goal.returns-clause-parts
returns-clause-parts g c =
    let e = c.in_ok-output.ensures.expands in record {
      output = (rw c.in-Some.is at c.in_ok-output-2.ensures) c.args.tree.now.inner (expanded_under (g.G.FragmentGrammar.answer c.args.env.now.grammar.now) c.args.env.now.scope.now c.args.env.now.dialect.now c.args.env.now.depth c.args.tree.now.inner).steps (e.steps [] c.in_ok-none.ensures);
      faults = e.faults;
      finds = e.finds;
    }
