-- One step of the reading of a predicate: what it gives, and that less is left.
use Rattle.std.proofs.Common.{◌≡◌, ℕ, ◌+◌, ◌≤◌, ◌<◌, Bool, true, false, List, [], ◌∷◌, ◌++◌, Option, Some, None, option_map, codes, refl, sym, ap, ◌∙◌, arith}
use Rattle.std.specs.Bool.{IsTrue}
use Rattle.tt_data.specs.Forest.{Forest, empty, leaf, group, size}
use Rattle.tt_data.specs.Literals.{LiteralParts}
use Rattle.small_grammar.specs.Text.{is_empty}
use Rattle.cfg_options.specs.Conditions.{or_else}
use Rattle.cfg_options.specs.Conditions.{Options, list_behind, option_value, predicate_value}
use Rattle.cfg_options.specs.OpenLists.{begun, left_in, list_of, lists_value, value_around, weight, whole_value}
use Rattle.cfg_options.specs.Parts.{open_value}
use Rattle.cfg_options.specs.Conditions.{after_part, first_part}
use Rattle.cfg_options.specs.declared.predicate.OpenList.{OpenList}
use Rattle.cfg_options.specs.declared.predicate.OpenLists.{OpenLists}
use Rattle.cfg_options.specs.declared.predicate.SoFar.{SoFar}
use Rattle.cfg_options.specs.declared.predicate.SoFar.TheVariants.{All, Any, Not}
use Rattle.cfg_options.proofs.OpenListLemmas.{at_first, innermost, left_with}
use Rattle.cfg_options.proofs.PartLemmas.{less_after, part_sizes}
use Rattle.cfg_options.proofs.PredicateLemmas.{list_less, value_of_list, value_of_other}

-- trees that a test found are some
pub some_trees : (f : Forest) → (f ≡ empty → IsTrue false) → is_empty f ≡ false
some_trees empty h = absurd (cc (h refl))
some_trees (leaf l f) h = refl
some_trees (group d i f) h = refl

rest_or : Option OpenList → Forest
rest_or None = empty
rest_or (Some k) = k.rest

begun_less : (s : SoFar) (t : List ℕ) (p : Forest) (l : OpenList) (o : Option Forest) → list_behind t p ≡ o → option_map (begun s) o ≡ Some l → size l.rest + 2 ≤ size p
unfolding rest_or
begun_less s t p l None h e = absurd (cc e)
begun_less s t p l (Some f) h e =
    let same : f ≡ l.rest = ap rest_or e in
    let sizes : size f ≡ size l.rest = ap size same in
    omega (arith, list_less t p f h, sizes)

pick_less : (p : Forest) (l : OpenList) (a b : Option OpenList) → (a ≡ Some l → size l.rest + 2 ≤ size p) → (b ≡ Some l → size l.rest + 2 ≤ size p) → or_else a b ≡ Some l → size l.rest + 2 ≤ size p
pick_less p l None b ha hb e = hb e
pick_less p l (Some k) b ha hb e = ha e

-- a list has at least two tokens less than the predicate that it is
pub inside_less : (p : Forest) (l : OpenList) → list_of p ≡ Some l → size l.rest + 2 ≤ size p
inside_less p l e =
    pick_less p l (option_map (begun (All true)) (list_behind (codes "all") p))
    (or_else (option_map (begun (Any false)) (list_behind (codes "any") p)) (option_map (begun Not) (list_behind (codes "not") p)))
    (begun_less (All true) (codes "all") p l (list_behind (codes "all") p) refl)
    (pick_less p l (option_map (begun (Any false)) (list_behind (codes "any") p)) (option_map (begun Not) (list_behind (codes "not") p))
    (begun_less (Any false) (codes "any") p l (list_behind (codes "any") p) refl)
    (begun_less Not (codes "not") p l (list_behind (codes "not") p) refl))
    e

module _ (o : Options) (t : LiteralParts → Option (List ℕ)) where
  abbrev v : Forest → Option Bool
  v = predicate_value o t

  -- a list inside is read before the rest
  pub entered : (list : OpenList) (around : List OpenList) (part rest : Forest) (inner : OpenList) (more : OpenLists)
      → is_empty list.rest ≡ false → part ≡ first_part list.rest → rest ≡ after_part list.rest → list_of part ≡ Some inner
      → more.list ≡ inner → more.around.items ≡ around ++ (record { so_far = list.so_far; rest = rest } ∷ [])
      → lists_value v more ≡ whole_value v around (open_value v list)
  entered list around part rest inner more some p r is m a =
      ap (λ ls. whole_value v ls (open_value v more.list)) a
      ∙ ap (λ l. whole_value v (around ++ (record { so_far = list.so_far; rest = rest } ∷ [])) (open_value v l)) m
      ∙ innermost v around (record { so_far = list.so_far; rest = rest }) (open_value v inner)
      ∙ ap (λ x. whole_value v around (value_around v (record { so_far = list.so_far; rest = rest }) x)) (sym (value_of_list o t part inner is) ∙ ap v p)
      ∙ ap (λ f. whole_value v around (value_around v (record { so_far = list.so_far; rest = f }) (v (first_part list.rest)))) r
      ∙ ap (whole_value v around) (sym (at_first v list.so_far list.rest some))

  -- an option is read, and its value given
  pub was_given : (list : OpenList) (around : List OpenList) (part rest : Forest) (value : Option Bool)
      → is_empty list.rest ≡ false → part ≡ first_part list.rest → rest ≡ after_part list.rest → list_of part ≡ None → value ≡ option_value o t part
      → whole_value v around (value_around v (record { so_far = list.so_far; rest = rest }) value) ≡ whole_value v around (open_value v list)
  was_given list around part rest value some p r is e =
      ap (λ x. whole_value v around (value_around v (record { so_far = list.so_far; rest = rest }) x)) (e ∙ sym (value_of_other o t part is) ∙ ap v p)
      ∙ ap (λ f. whole_value v around (value_around v (record { so_far = list.so_far; rest = f }) (v (first_part list.rest)))) r
      ∙ ap (whole_value v around) (sym (at_first v list.so_far list.rest some))

pub entered_less : (list : OpenList) (around : List OpenList) (part rest : Forest) (inner : OpenList) (more : OpenLists)
    → part ≡ first_part list.rest → rest ≡ after_part list.rest → list_of part ≡ Some inner
    → more.list ≡ inner → more.around.items ≡ around ++ (record { so_far = list.so_far; rest = rest } ∷ [])
    → weight more < size list.rest + left_in around
entered_less list around part rest inner more p r is m a =
    let left : left_in more.around.items ≡ left_in around + (1 + size rest) = ap left_in a ∙ left_with around (record { so_far = list.so_far; rest = rest }) in
    let here : size more.list.rest ≡ size inner.rest = ap (λ (l : OpenList). size l.rest) m in
    let parts = part_sizes list.rest in
    let sp : size part ≡ size (first_part list.rest) = ap size p in
    let sr : size rest ≡ size (after_part list.rest) = ap size r in
    let inside = inside_less part inner is in
    omega (arith, left, here, parts, sp, sr, inside)

pub given_less : (list : OpenList) (around : List OpenList) (rest : Forest) → is_empty list.rest ≡ false → rest ≡ after_part list.rest
    → size rest + left_in around < size list.rest + left_in around
given_less list around rest some r =
    let sr : size rest ≡ size (after_part list.rest) = ap size r in
    omega (arith, sr, less_after list.rest some)
