-- The names of the module are filled, or there are no others.
use Rattle.std.proofs.Common.{◌≡◌, ℕ, List, Option, Some, None, sym, ap, ◌∙◌}
use Rattle.std.proofs.lemmas.Option.{slice_get-get_or}
use Rattle.std.specs.Prelude.{option_and_then, option_copied}
use Rattle.std.specs.BTreeMap.{get_by_text}
use Rattle.std.specs.List.{slice_get}
use Rattle.std.specs.Option.{option_or}
use Rattle.crate_imports.proofs.TableLemmas.{fills_none, is_filled, on_ok}
use Rattle.crate_imports.specs.Names.{Names, filled}
use Rattle.crate_imports.specs.Tables.{looked_up, names_in}
use Rattle.crate_imports.specs.declared.target.Target.{Target}
use Rattle.crate_imports.proofs.table.Table.fill.Goals as goal

pub returns-in-Some : goal.returns-in-Some
returns-in-Some c =
    let held : (name : List ℕ) → get_by_text c.index_mut.result.now name ≡ names_in c.reach.new.self.names.items c.args.at name = λ name.
    sym (ap (option_and_then (λ m. get_by_text m name))
    (slice_get-get_or c.reach.new.self.names.items c.args.at c.index_mut.result.now c.in_ok-reach.ensures.room ∙ ap Some (sym c.index_mut.ensures.value))) in
    let there : slice_get c.args.from.now.names.items c.args.of ≡ Some c.in-Some.more.now =
    sym c.names_of.ensures ∙ ap option_copied c.in-Some.is in
    let more : (name : List ℕ) → get_by_text c.in-Some.more.now name ≡ looked_up c.args.from.now c.args.of name = λ name.
    sym (ap (option_and_then (λ m. get_by_text m name)) there) in
    on_ok c.fill_names.result _ _ (λ filled_is. is_filled c.reach.new.self.names.items c.fill_names.new.names c.args.at (looked_up c.args.from.now c.args.of)
    c.in_ok-reach.ensures.room
    (λ name. filled_is name ∙ ap (λ (o : Option Target). option_or o (get_by_text c.in-Some.more.now name)) (held name)
    ∙ ap (option_or (names_in c.reach.new.self.names.items c.args.at name)) (more name))
    ∙ ap (λ (n : Names). filled n c.args.at (looked_up c.args.from.now c.args.of)) c.in_ok-reach.ensures.same) c.fill_names.ensures

pub returns-in-None : goal.returns-in-None
returns-in-None c =
    let gone : slice_get c.args.from.now.names.items c.args.of ≡ None =
    sym c.names_of.ensures ∙ ap option_copied c.in-None.is in
    let none : (name : List ℕ) → looked_up c.args.from.now c.args.of name ≡ None = λ name. ap (option_and_then (λ m. get_by_text m name)) gone in
    c.in_ok-reach.ensures.same ∙ fills_none (looked_up c.args.self.now) c.args.at (looked_up c.args.from.now c.args.of) none
