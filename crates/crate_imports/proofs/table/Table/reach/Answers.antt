-- Each new module has no names.
use Rattle.std.proofs.Common.{◌≡◌, ap, ◌∙◌, rules}
use Rattle.std.specs.Prelude.{ℕ, List, None}
use Rattle.std.specs.BTreeMap.{get_by_text}
use Rattle.crate_imports.proofs.TableLemmas.{one_more}
use Rattle.crate_imports.specs.Tables.{names_in}
use Rattle.crate_imports.proofs.table.Table.reach.Goals as goal

pub room-preserved : goal.room-preserved
room-preserved c =
    let none : (name : List ℕ) → get_by_text c.new.result name ≡ None = λ name. search rules in
    ap names_in c.in_ok-push.ensures.items ∙ one_more c.room.self.names.items c.new.result none ∙ c.room.invariant
