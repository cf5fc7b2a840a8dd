use Rattle.std.proofs.Common.{◌∙◌, arith, sym}
use Rattle.std.proofs.lemmas.List.{drop_all}
use Rattle.token_bytes.specs.Items.{items}
use Rattle.token_bytes.proofs.TokensLemmas.{length-items}
use Rattle.token_bytes.proofs.tokens.Tokens.behind.Goals as goal

pub returns-then-count-self : goal.returns-then-count-self
returns-then-count-self c =
    c.end.ensures ∙ sym (drop_all c.args.count (items c.args.self) (omega (arith, c.if-count-self.true, length-items c.args.self)))

pub run_size-requires : goal.run_size-requires
run_size-requires c = omega (arith, c.requires, length-items c.args.self, c.if-count-self.false)

pub past-requires-clause-count : goal.past-requires-clause-count
past-requires-clause-count c = omega (arith, c.requires, length-items c.args.self)
