-- Text by text.
use Rattle.std.proofs.Common.{◌≤◌, ◌-◌, ◌∙◌, ap, sym, arith, length, take}
use Rattle.std.proofs.lemmas.List.{take_all, take-take}
use Rattle.token_bytes.proofs.text_table.TextTable.cut_back.Goals as goal

pub loop-self-preserved : goal.loop-self-preserved
loop-self-preserved c =
    let items = c.loop-self.self.texts.items in
    let more : c.args.len ≤ length items - 1 = omega (arith, c.loop-self-test.true, c.len.ensures, c.loop-self.self.texts.ok.0) in
    let left = c.forget_last.ensures.table in (
      c.forget_last.ensures.numbered,
      ap (take c.args.len) left ∙ take-take c.args.len (length items - 1) items more ∙ c.loop-self.invariant.1,
    )

pub returns-clause-table : goal.returns-clause-table
returns-clause-table c =
    let items = c.loop-self.self.texts.items in
    let few : length items ≤ c.args.len = omega (arith, c.loop-self-test.false, c.len.ensures, c.loop-self.self.texts.ok.0) in
    sym (take_all c.args.len items few) ∙ c.loop-self.invariant.1
