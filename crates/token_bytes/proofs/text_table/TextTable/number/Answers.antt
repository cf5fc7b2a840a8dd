-- A text that is not there is appended.
use Rattle.std.proofs.Common.{rules, ◌≡◌, ◌<◌, ◌∙◌, ap, sym, arith, length, ◌++◌, ◌∷◌, []}
use Rattle.token_bytes.specs.Packing.{number_of}
use Rattle.token_bytes.proofs.NumberLemmas.{number_of-bound, with_text-next, with_text-there}
use Rattle.token_bytes.proofs.text_table.TextTable.number.Goals as goal
use Rattle.token_bytes.proofs.text_table.TextTable.number.Goals.{then-number-len+in_ok-clone+in_ok-append, else-number-len}

pub overflow_cast-result : goal.overflow_cast-result
overflow_cast-result c =
    omega (arith, number_of-bound c.args.text.now c.args.self.now.texts.items, c.number_of-number.ensures, c.requires.room)

pub returns-clause-table : goal.returns-clause-table
returns-clause-table c =
    let text = c.args.text.now in
    let table = c.args.self.now.texts.items in
    elim c.if-number-len.branch [
      | then-number-len+in_ok-clone+in_ok-append w ↦
          let next : number_of text table ≡ length table = omega (arith, w.if-number-len.true, c.number_of-number.ensures, c.len.ensures, c.args.self.now.texts.ok.0) in
          let copied : w.in_ok-clone.field-0 ≡ text = search rules in
          ap (λ t. t.texts.items) w.self-is ∙ w.in_ok-append.ensures.table ∙ ap (λ y. table ++ y ∷ []) copied ∙ sym (with_text-next text table next)
      | else-number-len w ↦
          let below : number_of text table < length table =
          omega (arith, number_of-bound text table, w.if-number-len.false, c.number_of-number.ensures, c.len.ensures, c.args.self.now.texts.ok.0) in
          ap (λ t. t.texts.items) w.self-is ∙ sym (with_text-there text table below)
    ]
