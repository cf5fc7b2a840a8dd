-- A file of a new name is added.
use Rattle.std.specs.Prelude.{string_bytes}
use Rattle.std.proofs.lemmas.Result.{IfOk-weaker}
use Rattle.crate_walk.specs.Tables.{Adds, AddsOrFinds, IsTable}
use Rattle.crate_walk.specs.Files.{files_in}
use Rattle.crate_walk.proofs.TableLemmas.{adds_number, table_more}
use Rattle.crate_walk.proofs.walk.file_of.Goals as goal

pub returns-in_ok-content-in-None-clause-right : goal.returns-in_ok-content-in-None-clause-right
returns-in_ok-content-in-None-clause-right g c =
    IfOk-weaker c.add.result
    (Adds c.args.table.now c.add.new.self (string_bytes c.args.name) c.in_ok-content-in-None.content)
    (λ k. IsTable (g.F.Files.reads c.args.files.now) (files_in c.add.new.self))
    (λ k added. table_more (g.F.Files.reads c.args.files.now) c.args.table.now c.add.new.self
    (string_bytes c.args.name) c.in_ok-content-in-None.content k c.requires
    (rw c.as_str.ensures.value at c.in-None.ensures.absent)
    (rw c.as_str-in-None.ensures.value at c.in_ok-content-in-None.ensures) added)
    c.add.ensures

pub returns-in_ok-content-in-None-clause-number : goal.returns-in_ok-content-in-None-clause-number
returns-in_ok-content-in-None-clause-number g c =
    IfOk-weaker c.add.result
    (Adds c.args.table.now c.add.new.self (string_bytes c.args.name) c.in_ok-content-in-None.content)
    (AddsOrFinds (files_in c.args.table.now) (files_in c.add.new.self) (string_bytes c.args.name))
    (λ k added. adds_number c.args.table.now c.add.new.self
    (string_bytes c.args.name) c.in_ok-content-in-None.content k c.requires.count added)
    c.add.ensures
