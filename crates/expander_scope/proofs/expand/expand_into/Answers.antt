use Rattle.std.proofs.Common.{◌≡◌, rules, true}
use Rattle.expander_model.specs.Held.{numbered_world}
use Rattle.expander_model.specs.World.{world}
use Rattle.expander_scope.specs.ScopeTable.{scope_in}
use Rattle.expander_scope.proofs.HandedLemmas.{handed}
use Rattle.expander_scope.proofs.CallResultLemmas.{piece_bursts, piece_expands}
use Rattle.expander_scope.proofs.expand.expand_into.Goals as goal

pub returns-in_err-search_list-clause-tokens : goal.returns-in_err-search_list-clause-tokens
returns-in_err-search_list-clause-tokens g c = λ e.
    piece_bursts (numbered_world (world (g.G.FragmentGrammar.answer c.args.env.now.grammar.now) c.args.env.now.scope.now.edition c.args.env.now.dialect.now)) (scope_in c.args.env.now.scope.now) c.args.env.now.depth c.args.tree.now.inner
    (rw (c.iter.ensures, c.new-3.ensures.none) at (c.in_err-search_list.ensures.tokens (handed c.from_residual.result _ c.from_residual.ensures.1 e))).0

pub returns-clause-expands : goal.returns-clause-expands
returns-clause-expands g c =
    let more : c.in_ok-search_list.field-0 ≡ true = search rules in
    piece_expands (numbered_world (world (g.G.FragmentGrammar.answer c.args.env.now.grammar.now) c.args.env.now.scope.now.edition c.args.env.now.dialect.now)) (scope_in c.args.env.now.scope.now) c.args.env.now.depth c.args.tree.now.inner
    g.S.EventSink.has_taken _ c.search_list.new.search.out c.new.ensures.items c.new-2.ensures.items (rw (c.iter.ensures, c.new-3.ensures.none) at (c.in_ok-search_list.ensures.done more)).adds
