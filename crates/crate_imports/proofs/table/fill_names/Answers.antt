-- The names that are passed, and those that are left.
use Rattle.std.proofs.Common.{◌≡◌, ℕ, List, [], ◌∷◌, Some, None, sym, ap, ◌∙◌, string_bytes, rules, true}
use Rattle.std.proofs.lemmas.Map.Iter.{rest_all, rest_more}
use Rattle.std.proofs.lemmas.Map.Text.{btree_map_updates_text}
use Rattle.std.specs.Prelude.{String, not, if◌then◌else◌}
use Rattle.std.specs.BTreeMap.{get_by_text}
use Rattle.std.specs.Global.{Global}
use Rattle.std.specs.Map.Iter.{deref_pair}
use Rattle.std.specs.Option.{is_some, option_or}
use Rattle.std.specs.Str.{bytes_eq}
use Rattle.crate_imports.proofs.TableLemmas.{absent, added, kept, or_none, present}
use Rattle.crate_imports.specs.Entries.{found_in}
use Rattle.crate_imports.specs.declared.target.Target.{Target}
use Rattle.crate_imports.proofs.table.fill_names.Goals as goal

pub loop-name-init : goal.loop-name-init
loop-name-init c = λ name.
    let all : c.into_iter-name-iterator.result ≡ c.args.more.now.entries = search rules in
    ap (λ (es : List (String Global × Target)). option_or (get_by_text c.args.names.now name) (found_in es name)) all

pub loop-name-preserved-in_ok-insert : goal.loop-name-preserved-in_ok-insert
loop-name-preserved-in_ok-insert c = λ name.
    let rest : c.loop-name.name-iterator ≡ (c.in-Some.name.now, c.in-Some.target.now) ∷ c.next.new.self =
    rest_more deref_pair c.loop-name.name-iterator c.next.new.self c.next.result (c.in-Some.name, c.in-Some.target) c.in-Some.is c.next.ensures.steps in
    let none : get_by_text c.loop-name.names (string_bytes c.in-Some.name.now) ≡ None =
    ap (get_by_text c.loop-name.names) (sym c.as_str.ensures.value) ∙ sym c.get.ensures.value ∙ absent c.get.result (c.is_none.ensures ∙ ap not c.if-is_none.true) in
    let put : get_by_text c.insert.new.self name ≡ (if bytes_eq (string_bytes c.in-Some.name.now) name then Some c.in-Some.target.now else get_by_text c.loop-name.names name) =
    let same : string_bytes c.in_ok-clone.field-0 ≡ string_bytes c.in-Some.name.now = search rules in
    btree_map_updates_text (string_bytes c.in_ok-clone.field-0) c.loop-name.names c.insert.new.self (Some c.in-Some.target.now) c.in_ok-insert.ensures.updates name
    ∙ ap (λ (word : List ℕ). if bytes_eq word name then Some c.in-Some.target.now else get_by_text c.loop-name.names name) same in
    added (get_by_text c.loop-name.names) (get_by_text c.insert.new.self) c.in-Some.name.now c.in-Some.target.now c.next.new.self name none put
    ∙ ap (λ (es : List (String Global × Target)). option_or (get_by_text c.loop-name.names name) (found_in es name)) (sym rest)
    ∙ c.loop-name.invariant name

pub loop-name-preserved : goal.loop-name-preserved
loop-name-preserved c = λ name.
    let rest : c.loop-name.name-iterator ≡ (c.in-Some.name.now, c.in-Some.target.now) ∷ c.next.new.self =
    rest_more deref_pair c.loop-name.name-iterator c.next.new.self c.next.result (c.in-Some.name, c.in-Some.target) c.in-Some.is c.next.ensures.steps in
    let some : is_some (get_by_text c.loop-name.names (string_bytes c.in-Some.name.now)) ≡ true =
    ap is_some (ap (get_by_text c.loop-name.names) (sym c.as_str.ensures.value) ∙ sym c.get.ensures.value) ∙ present c.get.result (c.is_none.ensures ∙ ap not c.if-is_none.false) in
    sym (kept (get_by_text c.loop-name.names) c.in-Some.name.now c.in-Some.target.now c.next.new.self name some)
    ∙ ap (λ (es : List (String Global × Target)). option_or (get_by_text c.loop-name.names name) (found_in es name)) (sym rest)
    ∙ c.loop-name.invariant name

pub returns : goal.returns
returns c = λ name.
    let none : c.loop-name.name-iterator ≡ [] = rest_all deref_pair c.loop-name.name-iterator c.next.new.self c.next.result c.in-None.is c.next.ensures.steps in
    sym (or_none (get_by_text c.loop-name.names name))
    ∙ ap (λ (es : List (String Global × Target)). option_or (get_by_text c.loop-name.names name) (found_in es name)) (sym none)
    ∙ c.loop-name.invariant name
