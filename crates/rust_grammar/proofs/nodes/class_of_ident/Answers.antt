use Rattle.std.proofs.Common.{◌+◌, ◌*◌, ◌%◌, get_or, sym, ap, ◌∙◌}
use Rattle.std.proofs.lemmas.Option.{get_or_from_slice_get}
use Rattle.rust_grammar.specs.declared.table.TheConstants.{IDENTS}
use Rattle.rust_grammar.proofs.nodes.class_of_ident.Goals as goal

pub returns : goal.returns
returns c =
    sym (get_or_from_slice_get IDENTS (c.min.result * 32 + c.args.first % 32) c.element.result 6 c.element.ensures)
    ∙ ap (λ k. get_or IDENTS (k * 32 + c.args.first % 32) 6) c.min.ensures
