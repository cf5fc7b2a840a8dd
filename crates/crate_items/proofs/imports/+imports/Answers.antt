-- Each tree is one part, and each name or brace one level.
use Rattle.std.proofs.Common.{◌-◌, ◌++◌, ◌∙◌, ◌<◌, ◌∷◌, List, ℕ, ap, sym, subst, map, arith}
use Rattle.std.proofs.lemmas.Result.{IfOk-equal}
use Rattle.cfg_options.proofs.PartLemmas.{cut_first, less_after}
use Rattle.cfg_options.specs.Conditions.{cut_at_commas}
use Rattle.cfg_options.specs.Conditions.{first_part}
use Rattle.tt_data.specs.Forest.{Forest, empty, size}
use Rattle.crate_items.proofs.ImportLemmas.{a_segment, names_more, no_level, no_segment, some_tree}
use Rattle.crate_items.proofs.ItemLemmas.{next_tree}
use Rattle.crate_items.specs.Heads.{braced}
use Rattle.crate_items.specs.ImportEvents.{names_in, use_of}
use Rattle.crate_items.specs.Imports.{Import, tree_end, tree_imports}
use Rattle.crate_items.specs.Items.{import, items_of_events}
use Rattle.crate_items.proofs.imports.+imports.Goals as goal

pub push_parts-loop-rest-smaller : goal.push_parts-loop-rest-smaller
push_parts-loop-rest-smaller t c =
    subst (λ (x : Forest). size x < size c.loop-rest.rest) (sym c.split_part-part.ensures.rest)
    (less_after c.loop-rest.rest (some_tree c.is_empty.result c.loop-rest.rest c.is_empty.ensures c.loop-rest-test.true))

pub push_parts-loop-rest-preserved : goal.push_parts-loop-rest-preserved
push_parts-loop-rest-preserved t c = record {
  same = c.in_ok-push_tree.ensures.same ∙ c.loop-rest.invariant.same;
  added =
      next_tree import (tree_imports (use_of c.args.at) c.args.levels (names_in c.args.path.now))
      (items_of_events c.loop-rest.events) (items_of_events c.push_tree.new.events)
      (first_part c.loop-rest.rest) (cut_at_commas c.split_part-part.result.1 empty) (cut_at_commas c.loop-rest.rest empty)
      (cut_first c.loop-rest.rest (some_tree c.is_empty.result c.loop-rest.rest c.is_empty.ensures c.loop-rest-test.true)
      ∙ ap (λ (f : Forest). first_part c.loop-rest.rest ∷ cut_at_commas f empty) (sym c.split_part-part.ensures.rest))
      (c.in_ok-push_tree.ensures.added
      ∙ (ap (λ (f : Forest). items_of_events c.loop-rest.events ++ map import (tree_imports (use_of c.args.at) c.args.levels (names_in c.loop-rest.path) f)) c.split_part-part.ensures.part
      ∙ ap (λ (p : List (List ℕ)). items_of_events c.loop-rest.events ++ map import (tree_imports (use_of c.args.at) c.args.levels p (first_part c.loop-rest.rest))) c.loop-rest.invariant.same))
      ∙ c.loop-rest.invariant.added;
}

pub push_tree-returns-then-levels-eq0-clause-added :
    goal.push_tree-returns-then-levels-eq0-clause-added
push_tree-returns-then-levels-eq0-clause-added t c =
    no_level (use_of c.args.at) c.args.levels (names_in c.args.path.now) c.args.tree.now
    (items_of_events c.args.events.now) c.if-levels-eq0.true

pub push_tree-returns-in_default-clause-added : goal.push_tree-returns-in_default-clause-added
push_tree-returns-in_default-clause-added t c =
    IfOk-equal c.push_end.result (items_of_events c.push_end.new.events)
    (items_of_events c.args.events.now ++ map import (tree_end (use_of c.args.at) (tree_imports (use_of c.args.at) (c.args.levels - 1)) (names_in c.args.path.now) c.args.tree.now (braced c.args.tree.now)))
    (items_of_events c.args.events.now ++ map import (tree_imports (use_of c.args.at) c.args.levels (names_in c.args.path.now) c.args.tree.now))
    c.push_end.ensures.added
    (ap (λ (l : List Import). items_of_events c.args.events.now ++ map import l)
    (sym (no_segment (use_of c.args.at) c.args.levels (names_in c.args.path.now) c.args.tree.now (omega (arith, c.if-levels-eq0.false)) (sym c.first_segment.ensures ∙ c.in_default.is))))

pub push_tree-returns-clause-added : goal.push_tree-returns-clause-added
push_tree-returns-clause-added t c =
    c.in_ok-push_tree.ensures.added
    ∙ (ap (λ (p : List (List ℕ)). items_of_events c.args.events.now ++ map import (tree_imports (use_of c.args.at) (c.args.levels - 1) p c.in-Some.rest))
    (names_more c.args.path.now c.push.new.self c.in_ok-text.field-0 c.in-Some.name.sym c.in_ok-push.ensures.items c.in_ok-text.ensures)
    ∙ ap (λ (l : List Import). items_of_events c.args.events.now ++ map import l)
    (sym (a_segment (use_of c.args.at) c.args.levels (names_in c.args.path.now) c.args.tree.now c.in-Some.rest c.in-Some.name (omega (arith, c.if-levels-eq0.false)) (sym c.first_segment.ensures ∙ c.in-Some.is))))
