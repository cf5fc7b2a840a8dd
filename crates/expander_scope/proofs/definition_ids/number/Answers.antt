use Rattle.std.proofs.Common.{◌≡◌, ◌∙◌, ap, cond, subst, sym, rules}
use Rattle.std.specs.Prelude.{None, Some}
use Rattle.expander_scope.specs.Interning.{AllRead, known_in, numbers_in}
use Rattle.expander_scope.specs.Editions.{IsRead}
use Rattle.expander_model.specs.EqualTrees.{same_top}
use Rattle.expander_scope.specs.declared.interner.Interner.{Interner}
use Rattle.expander_scope.specs.declared.macro_def.MacroDef.{MacroDef}
use Rattle.expander_scope.proofs.HandedLemmas.{handed}
use Rattle.expander_scope.proofs.DefinitionTextLemmas.{has_none, has_number, number_put, numbered_again, numbered_new, numbered_old, numbers_end, numbers_grow, read_put, tops_pushed}
use Rattle.expander_scope.proofs.definition_ids.number.Goals as goal

pub returns-in-Some-clause-numbered : goal.returns-in-Some-clause-numbered
returns-in-Some-clause-numbered c = λ given known trees had has.
    let k : MacroDef = c.in-Some.known.now.value in
    let here : known_in c.args.now.now.by_tree c.args.tree.value ≡ Some k = sym c.in-Some.ensures in
    numbered_again c.equal_pieces.ensures c.equal_trees.ensures given c.args.old.now known trees had c.args.now.now _ has c.args.tree.value c.requires.top k
    (c.requires.table c.args.tree.value k here) _ c.in_ok-push.ensures.definitions (search rules) c.in_ok-push.ensures.given c.in_ok-push.ensures.table here

pub returns-in-Some-clause-tree : goal.returns-in-Some-clause-tree
returns-in-Some-clause-tree c =
    let k : MacroDef = c.in-Some.known.now.value in
    let same : c.in_ok-known.known.value ≡ k = search rules in
    ap (λ (x : MacroDef). x.tree) same ∙ c.requires.table c.args.tree.value k (sym c.in-Some.ensures)

pub returns-in-Some-clause-number : goal.returns-in-Some-clause-number
returns-in-Some-clause-number c =
    let k : MacroDef = c.in-Some.known.now.value in
    let here : known_in c.args.now.now.by_tree c.args.tree.value ≡ Some k = sym c.in-Some.ensures in
    let same : c.in_ok-known.known.value ≡ k = search rules in
    ap (λ (m : Interner). numbers_in m c.args.tree.value.inner) c.in_ok-push.ensures.table ∙ has_number c.args.now.now.by_tree c.args.tree.value k c.requires.top here
    ∙ ap (λ (x : MacroDef). Some x.number) (sym same)

pub returns-in-Some-clause-listed : goal.returns-in-Some-clause-listed
returns-in-Some-clause-listed c =
    let k : MacroDef = c.in_ok-known.known.value in
    tops_pushed c.args.now.now.definitions.items _ _ k c.in_ok-push.ensures.definitions (search rules)

pub returns-in-Some-known_of-clause-listed : goal.returns-in-Some-known_of-clause-listed
returns-in-Some-known_of-clause-listed c =
    let k : MacroDef = c.in_ok-known-2.known.value in
    tops_pushed c.args.now.now.definitions.items _ _ k c.in_ok-put.ensures.definitions (search rules)

pub returns-in-Some-known_of-clause-numbered : goal.returns-in-Some-known_of-clause-numbered
returns-in-Some-known_of-clause-numbered c = λ given known trees had has.
    let k : MacroDef = c.in-Some-known_of.known.now.value in
    let there : known_in c.args.old.now c.args.tree.value ≡ Some k = sym c.in-Some-known_of.ensures in
    let none : known_in c.args.now.now.by_tree c.args.tree.value ≡ None = sym c.in_default.ensures in
    let same : c.in_ok-clone-2.field-0.value ≡ k = search rules in
    numbered_old c.equal_pieces.ensures c.equal_trees.ensures given c.args.old.now known trees had c.args.now.now _ has c.args.tree.value c.requires.top k
    (c.requires.old_table c.args.tree.value k there) _ c.in_ok-put.ensures.definitions same
    (λ t. c.in_ok-put.ensures.table t ∙ ap (λ (x : MacroDef). cond (same_top c.args.tree.value t) (Some x) (known_in c.args.now.now.by_tree t)) same) none c.in_ok-put.ensures.given there

pub returns-in-Some-known_of-clause-tree : goal.returns-in-Some-known_of-clause-tree
returns-in-Some-known_of-clause-tree c =
    let k : MacroDef = c.in-Some-known_of.known.now.value in
    let same : c.in_ok-known-2.known.value ≡ k = search rules in
    ap (λ (x : MacroDef). x.tree) same ∙ c.requires.old_table c.args.tree.value k (sym c.in-Some-known_of.ensures)

pub returns-in-Some-known_of-clause-grows : goal.returns-in-Some-known_of-clause-grows
returns-in-Some-known_of-clause-grows c =
    numbers_grow c.equal_pieces.ensures c.equal_trees.ensures c.args.now.now.by_tree c.put.new.self.by_tree c.args.tree.value c.in_ok-clone-2.field-0.value
    c.in_ok-put.ensures.table c.requires.top (has_none c.args.now.now.by_tree c.args.tree.value c.requires.top (sym c.in_default.ensures))

pub returns-in_err-known-3-clause-cause : goal.returns-in_err-known-3-clause-cause
returns-in_err-known-3-clause-cause c = λ given known trees had has e.
    numbers_end c.equal_pieces.ensures c.equal_trees.ensures given c.args.old.now known trees had c.args.now.now has c.args.tree.value c.requires.top
    (sym c.in_default.ensures) (sym c.in_default-known_of.ensures) (c.in_err-known-3.ensures.numbers (handed c.from_residual-in_err-known-3.result _ c.from_residual-in_err-known-3.ensures.1 e))

pub returns-in-Some-clause-read : goal.returns-in-Some-clause-read
returns-in-Some-clause-read c = λ old now.
    let k : MacroDef = c.in-Some.known.now.value in
    let same : c.in_ok-known.known.value ≡ k = search rules in
    subst (IsRead c.args.edition) (sym same) (now c.args.tree.value k (sym c.in-Some.ensures))

pub returns-in-Some-clause-table_read : goal.returns-in-Some-clause-table_read
returns-in-Some-clause-table_read c = λ old now. subst (AllRead c.args.edition) (sym c.in_ok-push.ensures.table) now

pub returns-in-Some-known_of-clause-read : goal.returns-in-Some-known_of-clause-read
returns-in-Some-known_of-clause-read c = λ old now.
    let k : MacroDef = c.in-Some-known_of.known.now.value in
    let same : c.in_ok-known-2.known.value ≡ k = search rules in
    subst (IsRead c.args.edition) (sym same) (old c.args.tree.value k (sym c.in-Some-known_of.ensures))

pub returns-in-Some-known_of-clause-table_read : goal.returns-in-Some-known_of-clause-table_read
returns-in-Some-known_of-clause-table_read c = λ old now.
    let k : MacroDef = c.in-Some-known_of.known.now.value in
    let same : c.in_ok-clone-2.field-0.value ≡ k = search rules in
    read_put c.args.edition c.args.now.now.by_tree c.put.new.self.by_tree c.args.tree.value c.in_ok-clone-2.field-0.value c.in_ok-put.ensures.table
    (subst (IsRead c.args.edition) (sym same) (old c.args.tree.value k (sym c.in-Some-known_of.ensures))) now

pub returns : goal.returns
returns c =
    let k : MacroDef = c.in_ok-known-3.known.value in
    let same : c.in_ok-clone-3.field-0.value ≡ k = search rules in
    let none = has_none c.args.now.now.by_tree c.args.tree.value c.requires.top (sym c.in_default.ensures) in
    record {
      numbered = λ given known trees had has.
          numbered_new c.equal_pieces.ensures c.equal_trees.ensures given c.args.old.now known trees had c.args.now.now _ has c.args.tree.value c.requires.top k
          c.in_ok-known-3.ensures.tree _ c.in_ok-put-2.ensures.definitions same
          (λ t. c.in_ok-put-2.ensures.table t ∙ ap (λ (x : MacroDef). cond (same_top c.args.tree.value t) (Some x) (known_in c.args.now.now.by_tree t)) same) (sym c.in_default.ensures)
          (c.in_ok-put-2.ensures.given ∙ ap (λ (x : MacroDef). x.number) c.as_ref.ensures) c.in_ok-known-3.ensures.number (sym c.in_default-known_of.ensures);
      tree = c.in_ok-known-3.ensures.tree;
      listed = tops_pushed c.args.now.now.definitions.items _ _ k c.in_ok-put-2.ensures.definitions same;
      number = number_put c.equal_pieces.ensures c.equal_trees.ensures c.args.now.now.by_tree c.put-2.new.self.by_tree c.args.tree.value c.in_ok-clone-3.field-0.value
          c.in_ok-put-2.ensures.table c.requires.top ∙ ap (λ (x : MacroDef). Some x.number) same;
      grows = numbers_grow c.equal_pieces.ensures c.equal_trees.ensures c.args.now.now.by_tree c.put-2.new.self.by_tree c.args.tree.value c.in_ok-clone-3.field-0.value
          c.in_ok-put-2.ensures.table c.requires.top none;
      read = λ old now. c.in_ok-known-3.ensures.read;
      table_read = λ old now.
          read_put c.args.edition c.args.now.now.by_tree c.put-2.new.self.by_tree c.args.tree.value c.in_ok-clone-3.field-0.value c.in_ok-put-2.ensures.table
          (subst (IsRead c.args.edition) (sym same) c.in_ok-known-3.ensures.read) now;
      cause = λ given known trees had has e. absurd (cc e);
      tokens = λ e. absurd (cc e);
    }
