-- Errors that are passed on.
use Rattle.std.proofs.Common.{◌≡◌, sym, subst}
use Rattle.std.specs.Prelude.{IfErr, Result, Ok, Err}
use Rattle.std.specs.Result.{IsErrAnd}

-- a fault that is handed on is the one that came
pub handed : {E A B : Type 0} (r : Result A E) (came : E) {fault : E} → IsErrAnd r (λ e. e ≡ came) → r ≡ Err fault
    → ◌≡◌ {A = Result B E} (Err came) (Err fault)
handed (Ok a) came is e = absurd is
handed (Err x) came is e = cc

-- what is true of the fault that came is true of it where it is handed on
pub if_handed : {E A : Type 0} (P : E → Type 0) (r : Result A E) (came : E) → IsErrAnd r (λ e. e ≡ came) → P came → IfErr r P
if_handed P (Ok a) came is h = absurd is
if_handed P (Err x) came is h = subst P (sym is) h
