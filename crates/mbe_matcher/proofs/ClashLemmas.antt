-- Clashes among consuming moves: the test decides the statement, position by position.
use Rattle.std.proofs.Common.{◌≡◌, ◌⊎◌, inl, inr, refl, sym, ap, subst, ◌∙◌, ℕ, ◌==◌, ◌||◌, Bool, true, false, [], ◌∷◌}
use Rattle.std.specs.List.{list_any}
use Rattle.std.proofs.lemmas.Bool.{eqb-true}
use Rattle.mbe_matcher.specs.Paths.{Takings, takings_at, clash, HasClash, has_clash}

pub or-left : (a b : Bool) → a ≡ true → (a || b) ≡ true
or-left true b e = refl
or-left false b e = absurd (cc e)

pub or-right : (a b : Bool) → b ≡ true → (a || b) ≡ true
or-right true b e = refl
or-right false b e = e

pub or-cases : (a b : Bool) → (a || b) ≡ true → (a ≡ true) ⊎ (b ≡ true)
or-cases true b e = inl refl
or-cases false b e = inr e

pub same_bool : (a b : Bool) → (a ≡ true → b ≡ true) → (b ≡ true → a ≡ true) → a ≡ b
same_bool true b f h = sym (f refl)
same_bool false true f h = h refl
same_bool false false f h = refl

some-clash : (found ms : Takings) → list_any (λ m. clash (takings_at m.0 found)) ms ≡ true → HasClash found
some-clash found [] e = absurd (cc e)
some-clash found (m ∷ ms) e =
    elim (or-cases (clash (takings_at m.0 found)) _ e) [ inl k ↦ (m.0, k) | inr k ↦ some-clash found ms k ]

pub clash-from : (found : Takings) → has_clash found ≡ true → HasClash found
clash-from found e = some-clash found found e

clash-some : (found : Takings) (q : ℕ) → clash (takings_at q found) ≡ true → (ms : Takings) →
    (takings_at q ms ≡ [] → ⊥) → list_any (λ m. clash (takings_at m.0 found)) ms ≡ true
clash-some found q e [] n = absurd (n refl)
clash-some found q e (m ∷ ms) n = go (clash-some found q e ms) (m.0 == q) refl
  where
    go : ((takings_at q ms ≡ [] → ⊥) → list_any (λ m. clash (takings_at m.0 found)) ms ≡ true) →
        (b : Bool) → (m.0 == q) ≡ b → (clash (takings_at m.0 found) || list_any (λ m. clash (takings_at m.0 found)) ms) ≡ true
    go rec true k = or-left (clash (takings_at m.0 found)) _ (ap (λ r. clash (takings_at r found)) (eqb-true m.0 q k) ∙ e)
    go rec false k = or-right (clash (takings_at m.0 found)) _ (rec (λ h. n (rw k h)))

pub clash-to : (found : Takings) → HasClash found → has_clash found ≡ true
clash-to found (q, e) = clash-some found q e found (λ h. let k : clash [] ≡ true = subst (λ r. clash r ≡ true) h e in cc)
