-- The definitions that pieces have, piece by piece and module by module.
use Rattle.std.proofs.Common.{◌≡◌, ◌≢◌, ℕ, zero, suc, ◌-◌, true, false, List, [], ◌∷◌, ◌++◌, append_assoc, append-nil, map, Option, Some, None, option_map, refl, ap, sym, subst, ◌∙◌, arith}
use Rattle.std.specs.Prelude.{flat_map, is_some}
use Rattle.tt_data.specs.Forest.{Forest, empty, map_spans}
use Rattle.tt_data.specs.declared.leaf.Ident.{Ident}
use Rattle.tt_data.specs.declared.span.Span.{Span}
use Rattle.expander_model.specs.Definitions.{definition_of}
use Rattle.expander_model.specs.Pieces.{cut}
use Rattle.expander_sources.specs.SourceItems.{AreOrdered}
use Rattle.expander_sources.specs.Sources.{Item, in_module, inner_items, items_of, module_of, own_items}
use Rattle.expander_sources.proofs.OrderLemmas.{back_ordered, front_ordered}
use Rattle.expander_sources.proofs.PartLemmas.{Passes, cut-with, cut_parts, module_of-with, module_passes, named_with}

-- ---- order passes to parts

pub ordered_passes : (t : ℕ) → Passes (AreOrdered t)
ordered_passes t = record {
  behind_leaf = λ l rest h. record { written = h.written.1; order = h.order.1 };
  behind_group = λ d inner rest h. record { written = h.written.3; order = h.order.2 };
  in_group = λ d inner rest h. record { written = h.written.2; order = h.order.1 };
}

pub module_ordered : (t : ℕ) (p : Forest) (name : Ident) (inner : Forest) → module_of p ≡ Some (name, inner) → AreOrdered t p → AreOrdered t inner
module_ordered t = module_passes (AreOrdered t) (ordered_passes t)

pub piece_ordered : (t : ℕ) (old piece new : Forest) → cut old ≡ piece ∷ cut new → AreOrdered t old → AreOrdered t piece
piece_ordered t old piece new e h = front_ordered t piece new (subst (AreOrdered t) (cut_parts old piece new e) h)

pub rest_ordered : (t : ℕ) (old piece new : Forest) → cut old ≡ piece ∷ cut new → AreOrdered t old → AreOrdered t new
rest_ordered t old piece new e h = back_ordered t piece new (subst (AreOrdered t) (cut_parts old piece new e) h)

module _ (f : Span → Span) where
  -- ---- pieces one after another

  -- the next piece's definitions come before those of the pieces left
  pub next_items : (has : Forest → List Item) (old piece new : Forest) (before after : List Item) → cut old ≡ piece ∷ cut new → after ≡ before ++ has (map_spans f piece)
      → after ++ flat_map has (cut (map_spans f new)) ≡ before ++ flat_map has (cut (map_spans f old))
  next_items has old piece new before after e added =
      let pieces_are : cut (map_spans f old) ≡ map_spans f piece ∷ cut (map_spans f new) =
      cut-with f old ∙ ap (map (map_spans f)) e ∙ ap (λ (ps : List Forest). map_spans f piece ∷ ps) (sym (cut-with f new)) in
      ap (λ (xs : List Item). xs ++ flat_map has (cut (map_spans f new))) added
      ∙ append_assoc before (has (map_spans f piece)) (flat_map has (cut (map_spans f new)))
      ∙ ap (λ (ps : List Forest). before ++ flat_map has ps) (sym pieces_are)

  pub no_items : (has : Forest → List Item) (left : Forest) (items : List Item) → left ≡ empty → items ++ flat_map has (cut (map_spans f left)) ≡ items
  no_items has left items e = ap (λ (g : Forest). items ++ flat_map has (cut (map_spans f g))) e ∙ append-nil items

  -- ---- one piece

  is_some_with : {X Y : Type 0} (m : X → Y) (o : Option X) → is_some (option_map m o) ≡ is_some o
  is_some_with m None = refl
  is_some_with m (Some x) = refl

  -- its own definition, and those of its module
  pub piece_items : (levels : ℕ) (modules : List (List ℕ)) (p : Forest) (before mid after : List Item)
      → mid ≡ before ++ own_items modules p → after ≡ mid ++ inner_items levels modules p → after ≡ before ++ items_of levels modules p
  piece_items levels modules p before mid after own inner =
      inner ∙ ap (λ (xs : List Item). xs ++ inner_items levels modules p) own
      ∙ append_assoc before (own_items modules p) (inner_items levels modules p)

  pub own_one : (modules : List (List ℕ)) (p : Forest) → is_some (definition_of p) ≡ true → own_items modules p ≡ record { modules = modules; piece = p } ∷ []
  own_one modules p e = rw e refl

  pub own_none : (modules : List (List ℕ)) (p : Forest) → is_some (definition_of p) ≡ false → own_items modules p ≡ []
  own_none modules p e = rw e refl

  -- ---- its module

  pub no_levels : (levels : ℕ) (modules : List (List ℕ)) (p : Forest) → levels ≡ 0 → inner_items levels modules p ≡ []
  no_levels levels modules p e = ap (λ (n : ℕ). inner_items n modules p) e

  pub no_module : (levels : ℕ) (modules : List (List ℕ)) (p : Forest) → module_of p ≡ None → inner_items levels modules (map_spans f p) ≡ []
  no_module zero modules p e = refl
  no_module (suc levels) modules p e =
      ap (in_module (λ around q. own_items around q ++ inner_items levels around q) modules) (module_of-with f p ∙ ap (option_map (named_with f)) e)

  pub a_module : (levels : ℕ) (modules : List (List ℕ)) (p : Forest) (name : Ident) (inner : Forest) → levels ≢ 0 → module_of p ≡ Some (name, inner)
      → inner_items levels modules (map_spans f p) ≡ flat_map (items_of (levels - 1) (modules ++ name.sym ∷ [])) (cut (map_spans f inner))
  a_module zero modules p name inner some e = absurd (some refl)
  a_module (suc levels) modules p name inner some e =
      let less : levels ≡ suc levels - 1 = omega arith in
      ap (in_module (λ around q. own_items around q ++ inner_items levels around q) modules) (module_of-with f p ∙ ap (option_map (named_with f)) e)
      ∙ ap (λ (n : ℕ). flat_map (items_of n (modules ++ name.sym ∷ [])) (cut (map_spans f inner))) less
