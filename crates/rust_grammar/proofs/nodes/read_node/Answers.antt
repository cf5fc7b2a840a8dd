use Rattle.std.proofs.Common.{ap, ◌∙◌}
use Rattle.rust_grammar.specs.Table.{is_sound}
use Rattle.rust_grammar.proofs.TableLemmas.{node-sound, node-read}
use Rattle.rust_grammar.proofs.nodes.read_node.Goals as goal

pub returns-clause-same : goal.returns-clause-same
returns-clause-same c = node-read c.args.place c.element.result c.element.ensures

pub returns-clause-sound : goal.returns-clause-sound
returns-clause-sound c =
    ap (is_sound c.args.place) (node-read c.args.place c.element.result c.element.ensures) ∙ node-sound c.args.place c.requires
