use Rattle.std.proofs.Common.{get_or, sym, ap, ◌∙◌}
use Rattle.std.proofs.lemmas.Option.{get_or_from_slice_get}
use Rattle.rust_grammar.specs.declared.table.TheConstants.{SIGNS}
use Rattle.rust_grammar.proofs.nodes.class_of_sign.Goals as goal

pub returns : goal.returns
returns c =
    sym (get_or_from_slice_get SIGNS c.min.result c.element.result 7 c.element.ensures) ∙ ap (λ k. get_or SIGNS k 7) c.min.ensures
