-- A walk at the arguments' machine values, which are known to be these.
use Rattle.std.proofs.Common.{◌≡◌, List, sym, subst}
use seplogic.Ra.Ura.{Ura}
use mir.Val.{Val}
use base.Logic.{SProp, ent, id⊢}

pub at_words : {M : Type 1} (𝓤 : Ura M) (Run : List Val → SProp 𝓤) (us ws : List Val) → ws ≡ us → ent 𝓤 (Run us) (Run ws)
at_words 𝓤 Run us ws e = subst (λ (vs : List Val). ent 𝓤 (Run us) (Run vs)) (sym e) (id⊢ 𝓤 (Run us))
