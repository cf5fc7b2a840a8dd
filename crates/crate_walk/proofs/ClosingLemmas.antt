-- In a walk each module ends that begins.
use Rattle.std.proofs.Common.{◌≡◌, ℕ, suc, true, refl, Option, List, [], ◌∷◌, ◌++◌, ap, ◌∙◌, append_assoc, ◌+◌}
use Rattle.crate_walk.specs.Closing.{closes}
use Rattle.crate_walk.specs.Files.{Files}
use Rattle.crate_walk.specs.Walks.{Here, IsWalk, Walks, in_root}
use Rattle.crate_walk.specs.Walks.Walks.{ends, item, inline, file, passed}
use Rattle.crate_walk.specs.declared.files.Content.{Content}
use Rattle.crate_walk.specs.declared.step.Step.{Step}
use Rattle.crate_walk.specs.declared.step.Step.TheVariants as step

module _ (finds : List ℕ → Option (List ℕ) → Type 0) (files : Files) where
  -- the steps of a module, its end, and what follows
  module_closes : (n : ℕ) (inner rest behind : List Step)
      → ((m : ℕ) (l : List Step) → closes (suc m) (inner ++ l) ≡ closes (suc m) l)
      → ((m : ℕ) (l : List Step) → closes (suc m) (rest ++ l) ≡ closes (suc m) l)
      → closes (suc (suc n)) ((inner ++ step.End ∷ rest) ++ behind) ≡ closes (suc n) behind
  module_closes n inner rest behind p q =
      ap (closes (suc (suc n))) (append_assoc inner (step.End ∷ rest) behind)
      ∙ (p (suc n) (step.End ∷ (rest ++ behind)) ∙ q n behind)

  -- what follows a walk closes as without it
  walk_closes : (h : Here) (i j : ℕ) (steps : List Step) → Walks finds files h i j steps
      → (n : ℕ) (behind : List Step) → closes (suc n) (steps ++ behind) ≡ closes (suc n) behind
  walk_closes h i j steps (ends _ _ _ at) n behind = refl
  walk_closes h i j steps (item _ _ _ e rest at is w) n behind = walk_closes h (i + 1) j rest w n behind
  walk_closes h i j steps (passed _ _ _ m why rest at is w) n behind = walk_closes h (i + 1) j rest w n behind
  walk_closes h i j steps (inline _ _ _ m k inner rest at v w) n behind =
      module_closes n inner rest behind (walk_closes _ _ _ inner v) (walk_closes _ _ _ rest w)
  walk_closes h i j steps (file _ _ _ m k folder c inner rest at is v w) n behind =
      module_closes n inner rest behind (walk_closes _ _ _ inner v) (walk_closes _ _ _ rest w)

-- the root ends last
pub modules_end : (finds : List ℕ → Option (List ℕ) → Type 0) (reads : List ℕ → Content → Type 0)
    (root : List ℕ) (most : ℕ) (files : Files) (steps : List Step)
    → IsWalk finds reads root most files steps → closes 1 steps ≡ true
modules_end finds reads root most files steps w =
    ap (closes 1) w.are ∙ walk_closes finds files _ _ _ w.inner w.walks 0 (step.End ∷ [])
