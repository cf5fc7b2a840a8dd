use Rattle.std.proofs.Common.{map}
use Rattle.expander_reparse.specs.RelativePieces.{piece_at}
use Rattle.expander_session.specs.MemoRefs.{plain_tops}
use Rattle.expander_scope.specs.Interning.{definition_tops}
use Rattle.expander_session.proofs.MemoRefLemmas.{links_are}
use Rattle.expander_session.proofs.SessionLemmas.{takes_text}
use Rattle.expander_session.proofs.session.expand_pieces.Goals as goal

pub expansion_of-requires : goal.expansion_of-requires
expansion_of-requires g c = (_, c.in_ok-numbers.ensures.taken.steps)

pub returns-clause-taken : goal.returns-clause-taken
returns-clause-taken g c =
    takes_text c.equal_pieces.ensures (g.G.FragmentGrammar.answer c.args.context.now.grammar.now) c.args.edition c.args.context.now.dialect.now c.args.context.now.depth c.args.context.now.memory.now c.args.context.now.prelude.now (map piece_at c.args.pieces.now) c.in_ok-numbers.field-0
    c.in_ok-expansion.expansion c.in_ok-numbers.ensures.taken c.in_ok-expansion.ensures c.args.sources c.requires.sources
    (links_are (plain_tops c.in_ok-numbers.field-0.plains.items) (definition_tops c.in_ok-numbers.field-0.numbers.definitions.items) c.in_ok-numbers.field-0.links.items c.args.pieces.now c.args.sources
    c.in_ok-numbers.ensures.links c.requires.theirs)
