-- The steps of a walk that is given a `&` to an owner. The word of an owner is that of std's counted handles. Assumes `Logic`.
--     at_words          a walk is moved to the machine values that its arguments are known to have
--     owner_opens       an owner, with the thread's token, is opened to the block's count, or to a count that stays
--     opens, returned   the same of a `&` to an owner, and its token is had back;  Way      the way there
--     reads_full        a count that stays is looked at
use Rattle.std.proofs.Common.{◌≡◌, refl, sym, subst, ℕ, ◌+◌, ◌<◌, List, [], ◌∷◌}
use mathlib.Core.Bool.{Bool, true, false}
use seplogic.Ra.Ura.{Ura}
use base.Share
use base.Fraction.{full_share}
use ghost.Rules.{Halves}
use base.Mask.{every}
use base.Logic.{SProp, ent, never, id⊢, wand, apply∗, fst∗}
use base.Fml.{Lft, Share, Fml, fex, fhide, fat, flft, ftok, fshr_bor}
use mir.Syntax.{Sym, w64, ty_int}
use mir.Val.{Val, vint}
use types.Logic.{Logic, sem}
use types.Kit.{Item, Goal, Seq, Step, Soaks, step, raw, later, some, ‵, ◌⊛◌, ◌$◌, move, drop, use0, use1, use2, use3, pick, learn, await, group, split, split3, fsplit, fsplit3, fpick, rewrite}
use types.Tokens.{shr_bor-open}
use denote.Laid.Spread.{cell_Cuts}
use denote.Memory.{part_at, hidden_shr, shared_of}
use denote.Opens.{Shut, Cuts-Halves, unhide}
use denote.Param.{param}
use denote.Param.Laws.{Laws, param_laws}
use denote.RattleType.{RattleType}
use denote.RawPtr.{Ptr, block_ptr, in_a_block, ◌+ₚ◌}
use denote.Struct.Lending.{lent_at}
use Rattle.std_alloc.proofs.RcSteps.{Word, word, word_ty, reads, read}
use Rattle.symbols.specs.SharedBlock.{most, count_in, count_at, value_offset, seen, stays, owns_by, owner_owns, lends_by, owner_lends}
use Rattle.symbols.proofs.CountedBlock.{Name, shared_for, word_at, part, standing, standing_twice, stays_twice, Inside, Entry, Entered, enters, owner_enters, Lent, looks_in}
use Rattle.bare_box.proofs.HeapBoxes.{boxed}

-- a walk at the arguments' machine values, which are known to be these
pub at_words : {M : Type 1} (𝓤 : Ura M) (Run : List Val → SProp 𝓤) (us ws : List Val) → ws ≡ us → ent 𝓤 (Run us) (Run ws)
at_words 𝓤 Run us ws e = subst (λ (vs : List Val). ent 𝓤 (Run us) (Run vs)) (sym e) (id⊢ 𝓤 (Run us))

-- shares of a count's memory
halved : {M : Type 1} {𝓤 : Ura M} (𝓛 : Logic 𝓤) (b o : ℕ) (v : Val) → Halves 𝓤 𝓛.H 𝓛.A (λ q. fat q (ty_int w64) b o v)
halved 𝓛 b o v = Cuts-Halves 𝓛 (λ q. fat q (ty_int w64) b o v) (cell_Cuts 𝓛 (ty_int w64) b o v)

-- a case for each of two forms
module _ {M : Type 1} {𝓤 : Ura M} {𝓛 : Logic 𝓤} {K : Type 0} {Γ : List (Item 𝓤)} {G : Goal 𝓤 𝓛.H} where
  either : K → (A : Bool → Item 𝓤) → Seq K 𝓛 (A true ∷ Γ) G → Seq K 𝓛 (A false ∷ Γ) G → Seq K 𝓛 (some A ∷ Γ) G
  either t A one other = pick t (λ y. elim y as (λ y. Seq K 𝓛 (A y ∷ Γ) G) [ true ↦ one | false ↦ other ])

  f_either : K → (P : Bool → Fml) → Seq K 𝓛 (‵ (P true) ∷ Γ) G → Seq K 𝓛 (‵ (P false) ∷ Γ) G → Seq K 𝓛 (‵ (fex Bool P) ∷ Γ) G
  f_either t P one other = fpick t (λ y. elim y as (λ y. Seq K 𝓛 (‵ (P y) ∷ Γ) G) [ true ↦ one | false ↦ other ])

module _ (T : RattleType) (L : Laws T) where
  abbrev pub R : RattleType
  R = param 0 T

  abbrev pub LR : Laws R
  LR = param_laws 0 T L

  module _ (c : Ptr) (x : T.Denot) {M : Type 1} {𝓤 : Ura M} {𝓛 : Logic 𝓤} {K : Type 0} {Γ : List (Item 𝓤)} {G : Goal 𝓤 𝓛.H} where
    open 𝓛 use {H, A}

    -- [the count; the invariant; a part of the owners' token], or [what stays; the thread's token]
    pub owner_opens : K → Soaks G
        → ((a : Name) (n cb co : ℕ) → c ≡ block_ptr cb co → 0 < n → n < most
        → Seq K 𝓛 (‵ (word_at cb co n) ∷ Inside R LR c x 𝓛 a n ∷ ‵ (part R LR c x a) ∷ Γ) G)
        → Seq K 𝓛 (‵ (stays R c x) ∷ ‵ (ftok every) ∷ Γ) G
        → Seq K 𝓛 (‵ (owner_owns R c x) ∷ ‵ (ftok every) ∷ Γ) G
    owner_opens t z k full = f_either t (owns_by R c x)
        (fpick t (λ a. fsplit3 t $ move t (2 ∷ []) $ drop t $ let by = ‵ (part R LR c x a) in
        use3 𝓛 (later (Entered R LR c x 𝓛 a by)) (owner_enters R LR c x 𝓛 a) $ await t z $ either t (Entry R LR c x 𝓛 a by)
        (pick t (λ n. learn t (λ within. split3 t $ in_a_block t c (λ p. count_at p n) (id⊢ 𝓤 (never 𝓤)) (λ cb co at.
        k a n cb co at within.0 within.1))))
        -- [what stays; the part; the thread's token]
        (split3 t $ move t (1 ∷ []) $ drop t $ full)))
        full

    -- [a share of the count; what stays]
    pub reads_full : K → Soaks G
        → ((r : Share) (cb co : ℕ) → c ≡ block_ptr cb co → Seq K 𝓛 (‵ (fat r (ty_int w64) cb (co + 0) (vint w64 most)) ∷ ‵ (stays R c x) ∷ Γ) G)
        → Seq K 𝓛 (‵ (stays R c x) ∷ Γ) G
    reads_full t z k = use1 𝓛 (‵ (stays R c x) ⊛ ‵ (stays R c x)) (stays_twice R LR c x 𝓛) $ split t $ fsplit t $ move t (1 ∷ []) $
        -- [what is seen; the count; what stays]
        in_a_block t c (λ p. lent_at R (p +ₚ value_offset R c x) x []) (fst∗ 𝓤 (never 𝓤) (sem 𝓛 (shared_of R x 0 0 []))) (λ cb co at. drop t $
        rewrite t 0 (λ (p : Ptr). ‵ (fshr_bor [] (λ q. count_in q p most))) at refl $
        use0 𝓛 (‵ (flft [] full_share)) (𝓛.lfts.lft-nil full_share) $ move t (1 ∷ 0 ∷ []) $
        shr_bor-open t z (halved 𝓛 cb (co + 0) (vint w64 most)) (λ r. drop t $ k r cb co at))

  -- the `&` lies at o in the block b, and its word has the name ν
  module _ (c : Ptr) (x : T.Denot) (ν : Sym) (κ : Lft) (q : Share) (b o : ℕ) where
    abbrev pub Way : {M : Type 1} {𝓤 : Ura M} (𝓛 : Logic 𝓤) → Name → Share → Share → Item 𝓤
    Way {𝓤 = 𝓤} 𝓛 a s r = let A = 𝓛.A in ‵ (flft (shared_for a) s) ⊛ raw (wand 𝓤 (A.lft (shared_for a) s) (𝓛.H.⇛ (A.lft κ (Share.left q)))) ⊛ Shut 𝓛 κ
        (Share.right q) (part_at (Word (boxed T L) ν) r (c, tt) b o)

    module _ {M : Type 1} {𝓤 : Ura M} {𝓛 : Logic 𝓤} {K : Type 0} {Γ : List (Item 𝓤)} {G : Goal 𝓤 𝓛.H} where
      open 𝓛 use {H, A}

      -- [the count; the invariant; the word; the way back; the invariant once more; what is seen], or [what stays; the word; its token; the thread's]
      pub opens : K → Soaks G
          → ((a : Name) (s r : Share) (n cb co : ℕ) → c ≡ block_ptr cb co → n < most
          → Seq K 𝓛 (‵ (word_at cb co n) ∷ Inside R LR c x 𝓛 a n ∷ ‵ (fat r (word_ty ν) b o (word c)) ∷ Way 𝓛 a s r ∷ ‵ (standing R LR c x a) ∷ ‵
          (seen R c x (shared_for a)) ∷ Γ) G)
          → Seq K 𝓛 (‵ (stays R c x) ∷ ‵ (hidden_shr (Word (boxed T L) ν) κ (c, tt) b o) ∷ ‵ (flft κ q) ∷ ‵ (ftok every) ∷ Γ) G
          → Seq K 𝓛 (‵ (hidden_shr (Word (boxed T L) ν) κ (c, tt) b o) ∷ ‵ (fhide (owner_lends R c x κ)) ∷ ‵ (flft κ q) ∷ ‵ (ftok every) ∷ Γ) G
      opens t z k full =
          move t (1 ∷ []) $ unhide t $ f_either t (λ y. lends_by R c x y κ)
          (move t (2 ∷ []) $ use1 𝓛 (‵ (flft κ (Share.left q)) ⊛ ‵ (flft κ (Share.right q))) (𝓛.lfts.lft_split κ q) $ split t $ move t (2 ∷ 0 ∷ []) $
          use2 𝓛 (later (some (Lent R LR c x 𝓛 κ (Share.left q)))) (looks_in R LR c x 𝓛 κ (Share.left q)) $ await t z $
          pick t (λ u. split3 t $ move t (2 ∷ []) $ split t $ move t (2 ∷ []) $
          use1 𝓛 (‵ (standing R LR c x u.0) ⊛ ‵ (standing R LR c x u.0)) (standing_twice R LR c x 𝓛 u.0) $ split t $
          -- [the invariant, twice; the share; the way back; what is seen; the other half of the token; the word; the thread's token]
          move t (0 ∷ 2 ∷ 7 ∷ []) $ let by = ‵ (flft (shared_for u.0) u.1) in
          use3 𝓛 (later (Entered R LR c x 𝓛 u.0 by)) (enters R LR c x 𝓛 u.0 u.1) $ await t z $ either t (Entry R LR c x 𝓛 u.0 by)
          (pick t (λ n. learn t (λ within. split3 t $ in_a_block t c (λ p. count_at p n) (id⊢ 𝓤 (never 𝓤)) (λ cb co at.
          -- [the count; the invariant; the share; the invariant once more; the way back; what is seen; the other half; the word]
          move t (7 ∷ 6 ∷ []) $ reads (boxed T L) ν c t z b o (λ r. move t (4 ∷ 6 ∷ 1 ∷ []) $ group t 3 $
          move t (2 ∷ 3 ∷ 1 ∷ 0 ∷ []) $ k u.0 u.1 r n cb co at within.1)))))
          -- [what stays; the share; the thread's token; the invariant; the way back; what is seen; the other half; the word]
          (split3 t $ move t (1 ∷ 4 ∷ []) $
          use2 𝓛 (later (‵ (flft κ (Share.left q)))) (apply∗ 𝓤 (A.lft (shared_for u.0) u.1) (H.⇛ (A.lft κ (Share.left q)))) $ await t z $
          move t (0 ∷ 5 ∷ []) $ use2 𝓛 (‵ (flft κ q)) (𝓛.lfts.lft_join κ q) $ move t (3 ∷ 4 ∷ []) $ drop t $ drop t $
          move t (1 ∷ 3 ∷ 0 ∷ []) $ full)))
          full

      pub returned : K → Soaks G → (a : Name) (s r : Share)
          → Step K 𝓛 (‵ (flft κ q) ∷ Γ) G (‵ (fat r (word_ty ν) b o (word c)) ∷ Way 𝓛 a s r ∷ Γ) G
      returned t z a s r = step (λ next. move t (1 ∷ []) $ split3 t $ move t (3 ∷ 2 ∷ []) $ read (boxed T L) ν c t z b o r $ move t (1 ∷ 2 ∷ []) $
          use2 𝓛 (later (‵ (flft κ (Share.left q)))) (apply∗ 𝓤 (A.lft (shared_for a) s) (H.⇛ (A.lft κ (Share.left q)))) $ await t z $
          use2 𝓛 (‵ (flft κ q)) (𝓛.lfts.lft_join κ q) $ next)
