-- A text has no cache miss against itself.
use Rattle.std.proofs.Common.{◌≡◌, ◌↔◌, Bool, true, false, List, [], ◌∷◌, Some, refl, ap, length, if◌then◌else◌}
use Rattle.std.specs.Prelude.{All, filter, not, ◌||◌}
use Rattle.std.specs.List.{list_any}
use Rattle.std.proofs.lemmas.List.Elements.{All-cons, All-head, All-nil, All-tail}
use Rattle.tt_data.specs.Forest.{Forest}
use Rattle.expander_session.specs.Count.{Looked, expanded_count, is_same}
use Rattle.expander_model.specs.EqualTrees.{same_forest}
use Rattle.expander_session.proofs.ReuseLemmas.{looked_same}

-- pieces that all have a match
abbrev pub AllMatch : List Looked → List Looked → Type 0
AllMatch earlier ls = All (λ p. list_any (is_same p) earlier ≡ true) ls

pub none_counts : (earlier ls : List Looked) → AllMatch earlier ls → length (filter (λ p. not (list_any (is_same p) earlier)) ls) ≡ 0
none_counts earlier [] h = refl
none_counts earlier (l ∷ ls) h =
    go (list_any (is_same l) earlier) (All-head (λ p. list_any (is_same p) earlier ≡ true) l ls h)
    (none_counts earlier ls (All-tail (λ p. list_any (is_same p) earlier ≡ true) l ls h))
  where
    go : (b : Bool) → b ≡ true → length (filter (λ p. not (list_any (is_same p) earlier)) ls) ≡ 0
        → length (if not b then l ∷ filter (λ p. not (list_any (is_same p) earlier)) ls else filter (λ p. not (list_any (is_same p) earlier)) ls) ≡ 0
    go true e later = later
    go false e later = cc

module _ (equal : (f g : Forest) → (same_forest f g ≡ true) ↔ (f ≡ g)) where
  pub all_match : (earlier ls : List Looked) → ((l : Looked) → list_any (is_same l) ls ≡ true → list_any (is_same l) earlier ≡ true) → AllMatch earlier ls
  all_match earlier [] into = All-nil (λ p. list_any (is_same p) earlier ≡ true)
  all_match earlier (l ∷ ls) into =
      All-cons (λ p. list_any (is_same p) earlier ≡ true) l ls
      (into l (ap (λ (b : Bool). b || list_any (is_same l) ls) (looked_same equal l)))
      (all_match earlier ls (λ m h. into m (or_else (is_same m l) (list_any (is_same m) ls) h)))
    where
      or_else : (a b : Bool) → b ≡ true → (a || b) ≡ true
      or_else true b e = refl
      or_else false b e = e

  pub no_new_piece : (ls : List Looked) → expanded_count (Some ls) ls ≡ 0
  no_new_piece ls = none_counts ls ls (all_match ls ls (λ l h. h))
