-- A clash, found in one pass.
use Rattle.std.proofs.Common.{◌≡◌, refl, ◌&&◌, ◌||◌, not, Bool, true, false, List, [], ◌∷◌}
use Rattle.std.specs.List.{list_any}
use Rattle.mbe_rules.specs.Text.{is_nil}
use Rattle.mbe_matcher.specs.Paths.{clash}

abbrev pub clash_after : Bool → Bool → List Bool → Bool
clash_after any fragment [] = false
clash_after any fragment (b ∷ bs) = (any && (b || fragment)) || clash_after true (fragment || b) bs

after-fragment : (bs : List Bool) → clash_after true true bs ≡ not (is_nil bs)
after-fragment [] = refl
after-fragment (true ∷ bs) = refl
after-fragment (false ∷ bs) = refl

after-unit : (bs : List Bool) → clash_after true false bs ≡ list_any (λ b. b) bs
after-unit [] = refl
after-unit (true ∷ bs) = refl
after-unit (false ∷ bs) = after-unit bs

pub clash-passes : (bs : List Bool) → clash_after false false bs ≡ clash bs
clash-passes [] = refl
clash-passes (true ∷ bs) = after-fragment bs
clash-passes (false ∷ bs) = after-unit bs
