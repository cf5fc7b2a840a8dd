-- Iterations of one metavariable, whose values are bound at once.
use Rattle.std.proofs.Common.{◌≡◌, refl, sym, ap, ◌∙◌, ℕ, suc, Bool, true, false, List, [], ◌∷◌, Some, if◌then◌else◌, subst}
use Rattle.std.proofs.lemmas.Slice.Eq.{bytes_eq-Decides}
use Rattle.tt_data.specs.Forest.{Forest, empty, leaf, group}
use Rattle.mbe_rules.specs.Text.{same_text}
use Rattle.mbe_rules.specs.declared.parser.MetaVarKind.{MetaVarKind}
use Rattle.mbe_matcher.specs.Bindings.{Binding, fragment, rounds, Values, value_put, Map, binding_of, bind, with_round, bind_round}
use Rattle.mbe_matcher.specs.Collecting.{after_all, run_through}
use Rattle.mbe_matcher.specs.Threads.{rounds_of}

by-case : {R : Type 0} (b : Bool) → (b ≡ true → R) → (b ≡ false → R) → R
by-case true t f = t refl
by-case false t f = f refl

itself : (n : List ℕ) → same_text n n ≡ true
itself n = (bytes_eq-Decides n n).1 refl

-- what was bound is found
bound-found : (n : List ℕ) (b : Binding) (m : Map) → binding_of n (bind n b m) ≡ Some b
bound-found n b [] = rw (itself n) refl
bound-found n b (e ∷ es) =
    by-case (same_text n e.0) (λ t. rw (t, itself n) refl) (λ f. rw (f, f) (bound-found n b es))

-- what is bound last stands
pub bound-again : (n : List ℕ) (b c : Binding) (m : Map) → bind n c (bind n b m) ≡ bind n c m
bound-again n b c [] = rw (itself n) refl
bound-again n b c (e ∷ es) =
    by-case (same_text n e.0) (λ t. rw (t, itself n) refl) (λ f. rw (f, f) (ap (λ r. e ∷ r) (bound-again n b c es)))

-- what is bound already may be bound again
pub bound-same : (n : List ℕ) (b : Binding) (m : Map) → binding_of n m ≡ Some b → bind n b m ≡ m
bound-same n b [] h = absurd (cc h)
bound-same n b (e ∷ es) h =
    by-case (same_text n e.0) (λ t. here t (subst found t h)) (λ f. rw f (ap (λ r. e ∷ r) (bound-same n b es (subst found f h))))
  where
    found : Bool → Type 0
    found c = (if c then Some e.1 else binding_of n es) ≡ Some b

    here : same_text n e.0 ≡ true → Some e.1 ≡ Some b → bind n b (e ∷ es) ≡ e ∷ es
    here t i =
        let name : n ≡ e.0 = (bytes_eq-Decides n e.0).0 t in
        let same : b ≡ e.1 = cc i in
        rw t (ap (λ x. x ∷ es) (ap (λ y. (y, b)) name ∙ ap (λ y. (e.0, y)) same))

-- a round ends
round-over-bound : (n : List ℕ) (m : Map) (vs : Values) (b : Binding) (r : ℕ) → bind_round r ((n, b) ∷ []) (bind n (rounds vs) m) ≡ bind n (rounds (value_put r b vs)) m
round-over-bound n m vs b r =
    ap (λ o. bind n (with_round r b o) (bind n (rounds vs) m)) (bound-found n (rounds vs) m) ∙ bound-again n (rounds vs) (rounds (value_put r b vs)) m

-- and one after another
pub run-rounds : (n : List ℕ) (k : MetaVarKind) (f : Forest) (m : Map) (vs : Values) (b : Binding) (r : ℕ) (os : List (Map × ℕ)) →
    ((n, (run_through k f (vs, b, r)).1) ∷ [], (bind n (rounds (run_through k f (vs, b, r)).0) m, (run_through k f (vs, b, r)).2) ∷ os)
    ≡ after_all (rounds_of n k f) ((n, b) ∷ [], (bind n (rounds vs) m, r) ∷ os)
run-rounds n k empty m vs b r os = refl
run-rounds n k (leaf l rest) m vs b r os =
    run-rounds n k rest m (value_put r b vs) (fragment k (leaf l empty)) (suc r) os
    ∙ sym (ap (λ o. after_all (rounds_of n k rest) ((n, fragment k (leaf l empty)) ∷ [], (o, suc r) ∷ os)) (round-over-bound n m vs b r))
run-rounds n k (group d inner rest) m vs b r os =
    run-rounds n k rest m (value_put r b vs) (fragment k (group d inner empty)) (suc r) os
    ∙ sym (ap (λ o. after_all (rounds_of n k rest) ((n, fragment k (group d inner empty)) ∷ [], (o, suc r) ∷ os)) (round-over-bound n m vs b r))
