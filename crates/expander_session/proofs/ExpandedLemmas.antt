-- A tree is expanded by a dialect to the same in two scopes that agree on its look-ups, and each
-- look-up is what its scope finds.
use Rattle.std.proofs.Common.{◌≡◌, ℕ, List, [], ◌∷◌, Option, None, ap}
use Rattle.std.specs.Prelude.{All}
use Rattle.std.proofs.lemmas.List.Elements.{All-cons, All-head, All-nil, All-tail}
use Rattle.tt_data.specs.Forest.{Forest}
use Rattle.expander_model.specs.Definitions.{Definition}
use Rattle.expander_model.specs.Expansion.{World}
use Rattle.expander_model.specs.Scoping.{Scoped, without_locals}
use Rattle.expander_model.specs.Limits.{expanded}
use Rattle.expander_model.specs.declared.scope_rules.Standing.TheVariants.{Top}
use Rattle.expander_session.specs.Agreement.{FoundIn, scope_of}
use Rattle.expander_session.proofs.FindsLemmas.{made_finds}
use Rattle.expander_scope.proofs.BoundedLemmas.{agree_outermost, found_outermost}

-- a look-up is what the scope finds
abbrev IsFound : {D : Type 0} → (List ℕ → Option D) → (List ℕ × Option D) → Type 0
IsFound scope find = scope find.0 ≡ find.1

each_found : {D : Type 0} → (scope : List ℕ → Option D) (finds : List (List ℕ × Option D)) → FoundIn scope finds → All (IsFound scope) finds
each_found scope [] h = All-nil (IsFound scope)
each_found scope (x ∷ finds) h = All-cons (IsFound scope) x finds h.0 (each_found scope finds h.1)

all_found : {D : Type 0} → (scope : List ℕ → Option D) (finds : List (List ℕ × Option D)) → All (IsFound scope) finds → FoundIn scope finds
all_found scope [] h = tt
all_found scope (x ∷ finds) h = (All-head (IsFound scope) x finds h, all_found scope finds (All-tail (IsFound scope) x finds h))

module _ {D : Type 0} (world : World D) (local : Definition → D) where
  -- a tree is expanded to the same in a scope that has its look-ups
  pub same_expanded : (scope others : List ℕ → Option D) (depth : ℕ) (tree : Forest) → FoundIn others (expanded world local scope depth tree).finds
      → expanded world local others depth tree ≡ expanded world local scope depth tree
  same_expanded scope others depth tree h =
      ap (λ (a : Scoped D). a.outcome)
      (agree_outermost world.dialect world local world.dialect.limits scope others depth (without_locals Top None) tree
      (each_found others (expanded world local scope depth tree).finds h))

  -- each name that was looked up is found so in the scope of the expansion
  pub found_expanded : (scope : List ℕ → Option D) (depth : ℕ) (tree : Forest) → FoundIn scope (expanded world local scope depth tree).finds
  found_expanded scope depth tree =
      all_found scope (expanded world local scope depth tree).finds
      (found_outermost world.dialect world local world.dialect.limits scope depth (without_locals Top None) tree)

  -- an expansion is that under the scope made of its finds: what a held piece keeps of a scope
  pub expanded_by_finds : (scope : List ℕ → Option D) (depth : ℕ) (tree : Forest)
      → expanded world local (scope_of (expanded world local scope depth tree).finds) depth tree ≡ expanded world local scope depth tree
  expanded_by_finds scope depth tree =
      let finds : List (List ℕ × Option D) = (expanded world local scope depth tree).finds in
      same_expanded scope (scope_of finds) depth tree (made_finds scope finds (found_expanded scope depth tree) [] tt)
