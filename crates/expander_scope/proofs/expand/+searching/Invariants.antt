use Rattle.std.proofs.Common.{◌+◌, ◌*◌, ◌++◌}
use Rattle.expander_scope.specs.Expanding.{levels_at, list_under, world_under}
use Rattle.expander_scope.specs.LocalTables.{locals_of}
use Rattle.expander_scope.specs.ScopeTable.{scope_in}
use Rattle.expander_scope.specs.Turns.{turns_left}
use Rattle.expander_scope.proofs.GoesLemmas.{Going}
use Rattle.expander_scope.proofs.expand.+searching.Given as goal

abbrev pub decreases-search_result : goal.decreases-search_result
decreases-search_result g l = 4 * l.env.now.depth

abbrev pub decreases-replace : goal.decreases-replace
decreases-replace g l = 4 * l.env.now.depth + 1

abbrev pub decreases-expand_call : goal.decreases-expand_call
decreases-expand_call g l = 4 * l.env.now.depth + 2

abbrev pub decreases-search_list : goal.decreases-search_list
decreases-search_list g l = 4 * l.env.now.depth + 3

abbrev pub invariant-search_list-turns : goal.invariant-search_list-turns
invariant-search_list-turns g l =
    let a = list_under (g.G.FragmentGrammar.answer l.env.grammar.now) l.env.scope.now l.env.dialect.now l.env.depth l.fn.standing l.outer l.initial.search.locals l.trees in
    Going l.env.dialect.now (world_under (g.G.FragmentGrammar.answer l.env.grammar.now) l.env.scope.now l.env.dialect.now) (scope_in l.env.scope.now)
    (levels_at l.env.dialect.now l.env.depth l.outer) l.outer l.env.scope.now.edition
    g.S.EventSink.has_taken (a.outcome, a.defines ++ locals_of l.initial.search.locals) l.initial.search l.search l.walk

abbrev pub decreases-search_list-turns : goal.decreases-search_list-turns
decreases-search_list-turns g l = turns_left l.walk
