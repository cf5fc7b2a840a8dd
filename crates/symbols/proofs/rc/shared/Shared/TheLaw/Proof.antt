-- A `&` to an owner holds a share of the owners' token, and what a `&` to the value holds; or what stays for good. Assumes `Logic`.
use seplogic.Ra.Ura.{Ura}
use mathlib.Core.Bool.{Bool, true, false}
use Rattle.std.proofs.Common.{[], ◌∷◌}
use base.Logic.{sep, wand, apply∗}
use base.Fml.{Fml, Lft, ftrue, fbor}
use types.Logic.{Logic, sem, lfts}
use types.Kit.{‵, raw, later, ◌⊛◌, ◌$◌, ◌∵◌, !, qed, move, drop, use1, use2, await, split, updating, now, done}
use denote.RattleType.{RattleType}
use denote.Param.Laws.{Laws}
use denote.Param.Shared.{copy_shared}
use denote.RawPtr.{Ptr}
use denote.RcWeak.{Lends-rc}
use denote.Model.Laws.{Lends-some}
use denote.Struct.Field.{RawPtr-field}
use denote.Struct.Laws.{RawPtr-copy}
use denote.Struct.Lending.{Lends, of_Lends}
use Rattle.symbols.specs.SharedBlock.{counts, rest, seen, stays, owns_by, owner_owns, lends_by, owner_lends}
use Rattle.symbols.specs.contracts.rc.shared.Shared as C
use Rattle.symbols.proofs.CountedBlock.{key, sees, stays_twice, lends_laws}
use Rattle.symbols.proofs.rc.shared.Shared.TheLaw.Statement.{statement}

-- what a `&` to an owner of the block c holds
module _ (T : RattleType) (L : Laws T) (c : Ptr) (x : T.Denot) {M : Type 1} {𝓤 : Ura M} (𝓛 : Logic 𝓤) where
  open 𝓛 use {H, A}

  abbrev Stays : Fml
  Stays = stays T c x

  -- what stays can be had twice, so a borrow of it gives it
  stays_lends : (l : Lft) → Lends 𝓛 Stays (λ _. Stays) l
  stays_lends l κ ts inc sp = qed 𝓛 (‵ (fbor κ Stays) ∷ raw (lfts 𝓛 ts) ∷ []) ∵ updating ! $
      use2 𝓛 (later (‵ Stays ⊛ raw (wand 𝓤 (sem 𝓛 Stays) (H.⇛ (sep 𝓤 (A.bor κ Stays) (lfts 𝓛 ts)))))) (𝓛.more.bor_acc_by κ ts Stays sp) $ await ! tt $
      split ! $ use1 𝓛 (‵ Stays ⊛ ‵ Stays) (stays_twice T L c x 𝓛) $ split ! $ move ! (0 ∷ 2 ∷ []) $
      use2 𝓛 (later (‵ (fbor κ Stays) ⊛ raw (lfts 𝓛 ts))) (apply∗ 𝓤 (sem 𝓛 Stays) (H.⇛ (sep 𝓤 (A.bor κ Stays) (lfts 𝓛 ts)))) $ await ! tt $ split ! $
      drop ! $ move ! (1 ∷ 0 ∷ []) $ now ! $ done !

  each : (l : Lft) (y : Bool) → Lends 𝓛 (owns_by T c x y) (lends_by T c x y) l
  each l true = Lends-rc 64 (key T L c x) (counts T c x) (λ _. ftrue) (rest T c x) ftrue ftrue (seen T c x) 𝓛 (sees T L c x) l
  each l false = stays_lends l

  had : (l : Lft) → Lends 𝓛 (owner_owns T c x) (owner_lends T c x) l
  had l = Lends-some 𝓛 Bool (owns_by T c x) (lends_by T c x) l (each l)

pub shares : (T : RattleType) (L : Laws T) → statement T L
shares T L =
    of_Lends (C.struct T) (C.the_codes T.Denot T.coded) (C.the_heap T) (C.the_lent T) (λ d place. lends_laws T L d.block d.value)
    (copy_shared RawPtr-field RawPtr-copy, tt) (λ M 𝓤 𝓛 d place. had T L d.block d.value 𝓛 (C.the_row T).lives)
