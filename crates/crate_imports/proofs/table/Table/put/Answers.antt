-- The name is put into the map of its module.
use Rattle.std.proofs.Common.{◌≡◌, ℕ, List, Option, Some, sym, ap, ◌∙◌, string_bytes}
use Rattle.std.proofs.lemmas.Option.{slice_get-get_or}
use Rattle.std.proofs.lemmas.Map.Text.{btree_map_updates_text}
use Rattle.std.specs.Prelude.{option_and_then, if◌then◌else◌}
use Rattle.std.specs.BTreeMap.{get_by_text}
use Rattle.std.specs.Str.{bytes_eq}
use Rattle.crate_imports.proofs.TableLemmas.{is_put}
use Rattle.crate_imports.specs.Names.{Names, put}
use Rattle.crate_imports.specs.Tables.{names_in}
use Rattle.crate_imports.specs.declared.target.Target.{Target}
use Rattle.crate_imports.proofs.table.Table.put.Goals as goal

pub returns : goal.returns
returns c =
    let new : (name : List ℕ) → get_by_text c.insert.new.self name
    ≡ (if bytes_eq (string_bytes c.args.name) name then Some c.args.target else names_in c.reach.new.self.names.items c.args.at name) = λ name.
    btree_map_updates_text (string_bytes c.args.name) c.index_mut.result.now c.insert.new.self (Some c.args.target) c.in_ok-insert.ensures.updates name
    ∙ ap (λ (o : Option Target). if bytes_eq (string_bytes c.args.name) name then Some c.args.target else o)
    (sym (ap (option_and_then (λ m. get_by_text m name))
    (slice_get-get_or c.reach.new.self.names.items c.args.at c.index_mut.result.now c.in_ok-reach.ensures.room ∙ ap Some (sym c.index_mut.ensures.value)))) in
    is_put c.reach.new.self.names.items c.insert.new.self c.args.at (string_bytes c.args.name) c.args.target c.in_ok-reach.ensures.room new
    ∙ ap (λ (n : Names). put n c.args.at (string_bytes c.args.name) c.args.target) c.in_ok-reach.ensures.same
