-- A cursor's way to the end of its list.
use Rattle.std.proofs.Common.{◌≡◌, ◌↔◌, ◌∙◌, ◌<◌, Bool, false, List, [], ◌∷◌, ◌++◌, length, ap, sym, subst, append_assoc, append-nil, arith}
use Rattle.std.proofs.lemmas.Bool.{false≢true}
use Rattle.std.specs.Prelude.{IsTrue}
use Rattle.tt_data.specs.Walk.{Step, walk}
use Rattle.tt.specs.Places.{Place, IsEnd, IsStep, steps_before, steps_before_in, steps_after}

pub not_end : (p : Place) (b : Bool) → (IsTrue b ↔ IsEnd p) → b ≡ false → IsEnd p → ⊥
not_end p b h e at = false≢true (subst IsTrue e (h.1 at))

pub moved_on : (p q : Place) (w : List Step) → IsStep p q → steps_before p ++ steps_after p ≡ w → steps_before q ++ steps_after q ≡ w
moved_on p q w (s, before, after) e =
    ap (λ xs. xs ++ steps_after q) before
    ∙ append_assoc (steps_before p) (s ∷ []) (steps_after q)
    ∙ ap (λ xs. steps_before p ++ xs) (sym after)
    ∙ e

pub less_left : (p q : Place) → IsStep p q → length (steps_after q) < length (steps_after p)
less_left p q (s, before, after) = (let e = ap length after in omega (arith, e))

pub all_passed : (p : Place) (w : List Step) → IsEnd p → steps_after p ≡ [] → steps_before p ++ steps_after p ≡ w → walk p.before ≡ w
all_passed p w (out, none) left e =
    ap (λ a. steps_before_in a p.before) (sym out)
    ∙ sym (append-nil (steps_before p))
    ∙ ap (λ xs. steps_before p ++ xs) (sym left)
    ∙ e
