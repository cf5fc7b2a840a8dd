use Rattle.std.proofs.Common.{◌∙◌, ap, arith}
use Rattle.std.specs.HashMap.{get}
use Rattle.std.specs.Option.{option_copied}
use Rattle.small_grammar.specs.Text.{same_text}
use Rattle.expander_scope.proofs.NameStackLemmas.{finds_at, finds_none, finds_within}
use Rattle.expander_scope.proofs.name_stack.NameStack.find.Goals as goal

pub returns-in_err-index : goal.returns-in_err-index
returns-in_err-index g c =
    ap option_copied c.from_residual.ensures
    ∙ finds_none c.args.self.now.entries.items (get same_text c.args.self.now.nearest) c.args.self.now.in_order c.args.name.now c.in_err-index.ensures.value

pub index-requires : goal.index-requires
index-requires g c =
    let below =
    finds_within c.args.self.now.entries.items (get same_text c.args.self.now.nearest) c.args.self.now.in_order c.args.name.now
    c.in_ok-index.field-0.now c.in_ok-index.ensures.value in
    omega arith

pub returns : goal.returns
returns g c =
    finds_at c.args.self.now.entries.items (get same_text c.args.self.now.nearest) c.args.self.now.in_order c.args.name.now _ c.index.result.now
    c.in_ok-index.ensures.value c.index.ensures
