-- The quote, and then the name.
use Rattle.std.proofs.Common.{arith}
use Rattle.tt_data.specs.Forest.{Forest, empty, leaf}
use Rattle.tt_data.specs.declared.leaf.IdentIsRaw.TheVariants as is_raw
use Rattle.tt_data.specs.declared.leaf.Spacing.TheVariants.{Joint}
use Rattle.bridge.specs.TokenSteps.{mark_leaf, name_leaf}
use Rattle.bridge.proofs.AddingLemmas.{ok_then, passed_on, refused_at}
use Rattle.bridge.proofs.reading.leaf.add_quoted_name.Goals as goal

pub returns-clause-ok : goal.returns-clause-ok
returns-clause-ok c =
    let quote : Forest = leaf (mark_leaf 39 Joint c.written_at-quote.result) empty in
    let name : Forest = leaf (name_leaf c.range_from.result.now is_raw.No c.written_at-name.result) empty in
    let both = ok_then c.add_name.result c.args.builder.now.tree _ _ quote name c.in_ok-add_mark.ensures.ok c.add_name.ensures.ok in
    rw (c.written_at-quote.ensures, c.written_at-name.ensures, c.range_from.ensures.value) at both

pub returns-clause-refused : goal.returns-clause-refused
returns-clause-refused c =
    passed_on c.add_name.result _ _ (λ e h. refused_at e _ _ _ 1 2 c.in_ok-add_mark.ensures.ok (omega arith) h) c.add_name.ensures.refused
