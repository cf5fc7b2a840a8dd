use Rattle.rust_grammar.proofs.StartLemmas.{starts-read}
use Rattle.rust_grammar.proofs.nodes.starts_at.Goals as goal

pub returns : goal.returns
returns c = starts-read c.args.place c.element.result c.element.ensures
