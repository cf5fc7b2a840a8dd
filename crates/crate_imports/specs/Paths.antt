-- Where paths lead. (The Rust Reference, "Paths".)
use Rattle.std.specs.Prelude.{ℕ, List, [], ◌∷◌, codes, Option, Some, None, option_and_then, if◌then◌else◌}
use Rattle.std.specs.List.{slice_get}
use Rattle.std.specs.Str.{bytes_eq}
use Rattle.crate_imports.specs.Names.{Names}
use Rattle.crate_imports.specs.declared.target.Target.{Target}
use Rattle.crate_imports.specs.declared.target.Target.TheVariants as target

-- the module that a name stands for
abbrev pub module_at : Option Target → Option ℕ
module_at (Some (target.Module k)) = Some k
module_at other = None

-- `parents` has the module around each module, and `modules` what names of modules stand for
module _ (parents : List (Option ℕ)) (modules : Names) where
  -- the module to which one name leads
  abbrev pub step : ℕ → List ℕ → Option ℕ
  step k name =
      if bytes_eq name (codes "self") then Some k
      else if bytes_eq name (codes "super") then option_and_then (λ p. p) (slice_get parents k)
      else if bytes_eq name (codes "crate") then Some 0
      else module_at (modules k name)

  -- the module to which names lead, one after another
  abbrev pub reached : ℕ → List (List ℕ) → Option ℕ
  reached k [] = Some k
  reached k (name ∷ names) = option_and_then (λ j. reached j names) (step k name)
