use Rattle.std.proofs.Common.{◌≡◌, false, rules, true}
use Rattle.std.specs.Prelude.{is_some}
use Rattle.expander_model.specs.Definitions.{definition_of}
use Rattle.expander_trace.specs.Parts.{may_define}
use Rattle.expander_trace.proofs.TextLemmas.{of_definition, of_lists, of_plain}
use Rattle.expander_trace.proofs.text_trace.piece_trace.Goals as goal

pub returns-then-is_some-clause-trace : goal.returns-then-is_some-clause-trace
returns-then-is_some-clause-trace g c = λ before has.
    let says : is_some (definition_of c.args.piece.now) ≡ true = search rules in
    of_definition (g.G.FragmentGrammar.answer c.args.by.now.grammar.now) c.args.by.now.edition c.args.by.now.dialect.now c.args.by.now.depth c.args.at c.args.left before c.args.piece.now
    (definition_of c.args.piece.now) c.untraced-trace.result says c.untraced-trace.ensures.steps c.untraced-trace.ensures.room

pub returns-then-branch-clause-trace : goal.returns-then-branch-clause-trace
returns-then-branch-clause-trace g c = λ before has.
    let says : is_some (definition_of c.args.piece.now) ≡ false = search rules in
    let may : may_define c.args.by.now.dialect.now.scope c.args.piece.now ≡ true = search rules in
    of_lists (g.G.FragmentGrammar.answer c.args.by.now.grammar.now) c.args.by.now.edition c.args.by.now.dialect.now c.args.by.now.depth c.args.at c.args.left before c.args.piece.now
    (definition_of c.args.piece.now) c.pass_over.new.trace says may (search rules) (search rules) (search rules)

pub returns-clause-trace : goal.returns-clause-trace
returns-clause-trace g c = λ before has.
    let says : is_some (definition_of c.args.piece.now) ≡ false = search rules in
    let may : may_define c.args.by.now.dialect.now.scope c.args.piece.now ≡ false = search rules in
    of_plain (g.G.FragmentGrammar.answer c.args.by.now.grammar.now) c.args.by.now.edition c.args.by.now.dialect.now c.args.by.now.depth c.args.at c.args.left before c.args.piece.now
    c.args.scope.now (definition_of c.args.piece.now) c.untraced-trace.result c.trace_list.new.trace c.requires.edition has says may c.untraced-trace.ensures.steps c.untraced-trace.ensures.room
    (rw c.tracing_by-tracing.ensures.is at c.in_ok-trace_list.ensures.adds)
