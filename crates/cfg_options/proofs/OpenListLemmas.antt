-- Open lists: what the outermost gives, and what is left.
use Rattle.std.proofs.Common.{◌≡◌, ℕ, ◌+◌, ◌<◌, Bool, false, List, [], ◌∷◌, ◌++◌, Option, None, refl, ap, arith}
use Rattle.tt_data.specs.Forest.{Forest, size}
use Rattle.small_grammar.specs.Text.{is_empty}
use Rattle.cfg_options.specs.OpenLists.{IsLess, IsWithin, left_in, value_around, whole_value}
use Rattle.cfg_options.specs.Parts.{open_value, value_of_rest}
use Rattle.cfg_options.specs.Conditions.{after_part, first_part}
use Rattle.cfg_options.specs.declared.predicate.OpenList.{OpenList}
use Rattle.cfg_options.specs.declared.predicate.SoFar.{SoFar}
use Rattle.cfg_options.specs.declared.predicate.Turn.{Turn}
use Rattle.cfg_options.specs.declared.predicate.Turn.TheVariants.{More, Done}
use Rattle.cfg_options.proofs.PartLemmas.{cut_first}

module _ (v : Forest → Option Bool) where
  -- without a value in it a list has none
  pub no_value : (ls : List OpenList) → whole_value v ls None ≡ None
  no_value [] = refl
  no_value (l ∷ ls) = ap (value_around v l) (no_value ls)

  pub innermost : (ls : List OpenList) (l : OpenList) (o : Option Bool) → whole_value v (ls ++ (l ∷ [])) o ≡ whole_value v ls (value_around v l o)
  innermost [] l o = refl
  innermost (k ∷ ls) l o = ap (value_around v k) (innermost ls l o)

  -- a list is read at its first part
  pub at_first : (s : SoFar) (f : Forest) → is_empty f ≡ false → open_value v (record { so_far = s; rest = f }) ≡ value_around v (record { so_far = s; rest = after_part f }) (v (first_part f))
  at_first s f some = ap (value_of_rest v s) (cut_first f some)

pub left_with : (ls : List OpenList) (l : OpenList) → left_in (ls ++ (l ∷ [])) ≡ left_in ls + (1 + size l.rest)
left_with [] l = omega arith
left_with (k ∷ ls) l = omega (arith, left_with ls l)

pub less_than : (n m : ℕ) (t : Turn) → n < m → IsWithin n t → IsLess m t
less_than n m (More l) lt h = omega (arith, lt, h)
less_than n m (Done v) lt h = tt
