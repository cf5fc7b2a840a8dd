-- One token at its offset in the text: where it may be cut, and what it adds.
use Rattle.std.proofs.Common.{◌≤◌, ◌+◌, length, arith}
use Rattle.rustc_lexer.specs.Cursors.{suffix_of}
use Rattle.bridge.proofs.CutLemmas.{boundary_in, may_cut}
use Rattle.bridge.proofs.ReadTokensLemmas.{all_refuse, all_take}
use Rattle.bridge.proofs.reading.add_token.Goals as goal

pub overflow_add-end : goal.overflow_add-end
overflow_add-end c =
    let fits : c.args.start + c.args.token.len ≤ length c.args.text.now = c.requires.here.stop.0 in
    omega arith

pub add-requires-clause-some : goal.add-requires-clause-some
add-requires-clause-some c = omega (arith, c.requires.here.positive)

pub add-requires-clause-cut : goal.add-requires-clause-cut
add-requires-clause-cut c =
    let at = c.requires.here in
    rw (c.class_of-class.ensures, c.range-word.ensures.value)
    (may_cut c.args.token.kind _ at.utf8 (λ ended. c.token_shapes.ensures.bytes _ _ _ at ended)
    (boundary_in c.args.text.now c.args.start c.args.token.len (suffix_of c.args.token.kind)
    (c.suffix_starts.ensures.within _ _ _ at) at.stop.0 (c.suffix_starts.ensures.boundary _ _ _ c.utf8.text at)))

pub returns-clause-takes : goal.returns-clause-takes
returns-clause-takes c =
    all_take c.add.result c.args.text.now c.args.start c.args.token c.args.more.now c.range-word.result.now c.first_kind.result c.class_of-class.result c.args.builder.now.tree c.add.new.builder.tree
    c.range-word.ensures.value c.requires.here.stop.0 c.first_kind.ensures c.class_of-class.ensures c.add.ensures.takes

pub returns-clause-refused : goal.returns-clause-refused
returns-clause-refused c =
    all_refuse c.add.result c.args.text.now c.args.start c.args.token c.args.more.now c.range-word.result.now c.first_kind.result c.class_of-class.result c.args.builder.now.tree
    c.range-word.ensures.value c.requires.here.stop.0 c.first_kind.ensures c.class_of-class.ensures c.add.ensures.refused
