-- `release` makes room of the places, and gives it back with the right to free it. Assumes `Logic`.
use Rattle.std.proofs.Common.{◌≡◌, ℕ, ◌*◌, ◌^◌, ◌<◌, Bool, List, [], ◌∷◌, ◌++◌, length, refl, sym, ap, ◌∙◌, subst, arith, w64, T as IsSo}
use mir.Syntax.{ty_array, ty_unit}
use mir.Val.{Val, WT, has_ty, vptr, vint, vunit}
use mir.MapTy.{inst_fn}
use base.Fml.{Incl-trans, ftrue, froom, flft}
use prog.Capped.{capped_fits}
use prog.Memory.{align, capped}
use prog.Wp.{WpFn}
use contract.BorrowLft.{◌⊑◌}
use contract.Monad.{fact}
use contract.Running.{tables}
use types.Kit.{‵, raw, ◌⊛◌, given, later, prop, at_ret, ◌$◌, ◌∵◌, !, qed, by, move, keep, drop, use1, use2, use3, split, split3, join, learn, regoal, rewrite, fsplit, fjoin, feq_i, await}
use types.Part.{whole, sub}
use types.Run.{stop, fld, size_word, align_word, unit_lit, bin, of_opd, no_more, and_then, first, blocks, exec, returns, enter}
use types.ByLocal.{alloc_all, pass_all, free_all, look_at, get, get_in, is, sets, lands_as, lands_last, env}
use denote.RattleType.{owns}
use denote.RawPtr.{Ptr, block_ptr}
use denote.Signature.{types_at}
use denote.Steps.{nothing, heard}
use denote.Triple.Call.{calls_at, calls_at_last}
use denote.Triple.Walked.{Stays, stay_dropped, walk_of, Goes-dropped}
use Rattle.core.proofs.alloc.Calls.{Al, token, Goes-blank, Gives, at_gives, Gives-goes, Gives-Gives}
use Rattle.core.proofs.alloc.Shapes.{after}
use Rattle.core.proofs.atomic.Steps.{fm}
use Rattle.core.proofs.mem.Param.{El, R, elτ}
use Rattle.core.proofs.slots.Leases.{uncapped, block_ty, block_size, block_align, args}
use Rattle.core.proofs.slots.Opens.{el_d, row_val, row_had, row_made}
use Rattle.core.proofs.slots.Places.{sz, to_room}
use Rattle.core.proofs.slots.Slots.into_raw_parts.Met as callee
use Rattle.std.proofs.raw_atomic.Walks.{proved_at, leaves}
use Rattle.std.specs.Vec.Ownership.{owns_if}
use Rattle.std_alloc.proofs.RawLayout.{as_raw}
use Rattle.std_alloc.proofs.VecSteps.El as vecs
use Rattle.std_alloc.proofs.VecSteps.Opens.{is_live}
use Rattle.std_alloc.proofs.vec.Blocks.{all}
use Rattle.std_alloc.proofs.vec.Spares.{Into, at_into, Into-goes, Into-gives}
use Rattle.byte_buffer.specs.Blocks.{IsDeedOf}
use Rattle.byte_buffer.specs.Deeds.{deed_owns}
use Rattle.byte_buffer.proofs.BlockWalks.{slot_at, mark, mark_told}
use Rattle.byte_buffer.specs.contracts.block.Deed.release as f
use Rattle.byte_buffer.proofs.block.Deed.release.Statement.{statement}
use Rattle.byte_buffer.proofs.block.Deed.release.Code as code

pub release_spec : {M : Type 1} → statement M
release_spec 𝓤 𝓛 𝓜 𝓡 wired T A L LA g d dd met md =
    let H = 𝓛.H in let E : El = record { row = T; laws = L } in let Z : Al = record { row = A; laws = LA; g = g; d = d; drops = dd } in
    let V : vecs.El = record { row = T; laws = L; al = Z } in
    let end = f.ended T A g d dd in let c = f.clauses T A g d dd 𝓛 𝓜.mem 𝓡.returns in let 𝓣 = tables 𝓤 H 𝓜 𝓡 𝓡.env in
    let inst = args E Z in let fn = inst_fn inst code.function in let ps = end.signature.params in
    let stayed : Stays ps end.kept = (
      stay_dropped (slot_at 0 ps) end.kept.0,
      (stay_dropped (slot_at 1 ps) end.kept.1.0, (stay_dropped (slot_at 2 ps) end.kept.1.1.0, tt)),
    ) in
    proved_at 𝓛 end stayed c 𝓜 𝓡 (
      Goes-blank 𝓛 3 (slot_at 0 ps) end.kept.0 (λ κs x w. tt),
      (Goes-dropped 𝓛 3 (slot_at 1 ps) end.kept.1.0 (λ κs x w. refl), (Goes-blank 𝓛 3 (slot_at 2 ps) end.kept.1.1.0 (λ κs x w. tt), tt)),
    ) (f.Key.name inst) fn (code.unfolded 𝓤 H 𝓜 𝓡 wired (T, (A, tt)) d dd) (λ z are.
    let κ = z.0.0.0 in let q = z.0.1.0 in let κT = z.0.0.1.0 in let qT = z.0.1.1.0 in let κA = z.0.0.1.1.0 in let qA = z.0.1.1.1.0 in
    let deed = z.0.3.0 in let a : A.Denot = z.0.3.1.0.now in let hp = z.0.3.1.0.ref_ptr in let h : el_d E = z.0.3.1.1.0 in
    let n : ℕ = h.len in let xs = h.items in let s = sz E in let al : ℕ = capped (align (elτ E)) in let τ = block_ty E n in
    let Post = (walk_of 𝓛 end stayed c).post z in
    let Some : Type 0 = 0 < n in let Asked : Type 0 = IsDeedOf a h deed in
    qed 𝓛 (((‵ (flft κ q) ⊛ ‵ (flft κT qT) ⊛ ‵ (flft κA qA) ⊛ ‵ ftrue) ⊛ ‵ (owns (types_at ps z.0.0) z.0.3 z.0.4))
    ∷ (raw (fact 𝓤 (κT ⊑ T.lives)) ⊛ raw (fact 𝓤 (κA ⊑ A.lives)) ⊛ raw (fact 𝓤 Some) ⊛ raw (fact 𝓤 Asked)) ∷ []) ∵
    move ! (1 ∷ []) $ split3 ! $ heard ! (κT ⊑ T.lives) (λ inT. heard ! (κA ⊑ A.lives) (λ inA. split ! $ heard ! Some (λ some. heard ! Asked (λ asked.
    split ! $ split3 ! $ move ! (3 ∷ []) $ fsplit ! $ fsplit ! $ drop ! $ move ! (1 ∷ []) $ fsplit ! $ fsplit ! $ drop ! $ move ! (1 ∷ []) $ fsplit ! $
    row_had E ! h z.0.4.1.1.0 (λ b o at told fits small. row_made E ! h b o at fits small $ let p : Ptr = block_ptr b o in move ! (3 ∷ 0 ∷ 2 ∷ []) $
    rewrite ! 0 (λ (u : A.Denot × ℕ × Ptr). ‵ (deed_owns (token Z u.0) (R E) u.2 u.1)) (λ i. (asked.by i, asked.all i, (asked.at ∙ at) i)) refl $
    rewrite ! 0 (λ (k : Bool). ‵ (owns_if k (token Z a τ p))) (is_live n some) refl $ keep ! (0 ∷ 1 ∷ 2 ∷ 4 ∷ 5 ∷ 6 ∷ []) $
    -- [the right to free it; the row; the handle; its token; the values' token; the others]
    let wide : n * s < 2 ^ 64 = omega (arith, small) in let words : WT (row_val b o n) = (tt, (record { fits = fits }, tt)) in
    regoal ! (λ (us : List Val). prop (WpFn 𝓤 H 𝓣.C 𝓣.Λ fn us Post)) (λ i. mark_told z.0.4.0 are.0.0 i ++ (are.1.0.0 i ++ (told i ++ []))) refl $
    enter ! 𝓣.C 𝓣.Λ fn (mark ∷ vptr hp.0 hp.1 ∷ row_val b o n ∷ []) Post $
    alloc_all ! (λ l. pass_all ! refl ((tt, (tt, tt)), ((tt, tt), ((tt, words), tt))) $ let En = env fn.locals l in
    let y = at_into V 𝓛 𝓜.mem 𝓡.returns κT qT h b o in let w = at_gives Z 𝓛 𝓜.mem 𝓡.returns κ q hp a b o (n * s) al τ in
    first ! $ blocks ! $ sets ! (of_opd ! (get ! refl)) refl (tt, words) $ move ! (1 ∷ 4 ∷ []) $
    use2 𝓛 (raw ((Into V 𝓛 𝓜.mem 𝓡.returns).pre y)) (Into-goes V 𝓛 𝓜.mem 𝓡.returns κT qT h b o inT) $
    calls_at ! (fm 𝓛 𝓜 𝓡) (Into V 𝓛 𝓜.mem 𝓡.returns) (callee.met 𝓤 𝓛 𝓜 𝓡 (code.calls-core::slots::Slots::into_raw_parts 𝓡.env wired) T L) y
    (and_then ! (get ! refl) (no_more !)) (λ v.
    use1 𝓛 (later (given (v ≡ row_val b o n) (‵ (all V b o xs h.filled) ⊛ ‵ (flft κT qT)))) (Into-gives V 𝓛 𝓜.mem 𝓡.returns κT qT h b o v at) $ await ! tt $
    learn ! (λ got. split ! $
    -- [the places; the values' token; the right to free it; the handle; its token; the others]
    lands_as ! got refl (tt, words) $
    sets ! (of_opd ! (get_in ! (fld ! refl (stop !)) (sub ! 0 refl (whole !)))) refl (tt, tt) $
    sets ! (of_opd ! (get_in ! (fld ! refl (stop !)) (sub ! 1 refl (whole !)))) refl (tt, record { fits = fits }) $
    sets ! (of_opd ! (get ! refl)) refl (tt, tt) $
    sets ! (is ! (bin ! (get ! refl) (size_word !) (record { fits = subst (λ (k : ℕ). k < 2 ^ 64) (sym (uncapped n s wide)) wide }))
    (ap (vint w64) (uncapped n s wide))) refl
    (tt, record { fits = wide }) $
    use1 𝓛 (‵ (froom (ty_array (elτ E) (length xs)) b o)) (to_room E 𝓛 b xs h.filled o (sym h.ok.1 ∙ h.ok.0)) $
    rewrite ! 0 (λ (k : ℕ). ‵ (froom (ty_array (elτ E) k) b o)) (sym h.ok.0) refl $ as_raw ! (ty_array (elτ E) n) b o $
    move ! (3 ∷ 4 ∷ []) $ join ! $ move ! (1 ∷ 3 ∷ 0 ∷ []) $
    use3 𝓛 (raw ((Gives Z 𝓛 𝓜.mem 𝓡.returns).pre w))
    (Gives-goes Z 𝓛 𝓜.mem 𝓡.returns κ q hp a (Incl-trans z.0.2.0 inA) b o (n * s) al τ (block_size E n wide)
    (block_align E n) wide (capped_fits (align (elτ E)))) $
    calls_at_last ! (fm 𝓛 𝓜 𝓡) (Gives Z 𝓛 𝓜.mem 𝓡.returns) (met.deallocate dd) w (and_then ! (get ! refl)
    (and_then ! (get ! refl) (and_then ! (get ! refl) (and_then ! (align_word !) (no_more !))))) (λ u.
    use1 𝓛 (later (given (u ≡ vunit) (‵ (flft κ q)))) (Gives-Gives Z 𝓛 𝓜.mem 𝓡.returns κ q hp a b o (n * s) al τ u) $ await ! tt $ learn ! (λ e.
    lands_last ! refl (subst (λ (k : Val). IsSo (has_ty ty_unit k) × WT k) (sym e) (tt, tt)) $ exec ! 𝓣.C 𝓣.Λ En (after 1 fn.body) (at_ret En Post) $
    sets ! (of_opd ! (unit_lit !)) refl (tt, tt) $ returns ! (look_at ! 0 refl) $ free_all ! refl $
    move ! (1 ∷ 2 ∷ []) $ join ! $ move ! (1 ∷ 0 ∷ []) $ join ! $ feq_i ! (List Val) (vunit ∷ []) (vunit ∷ []) refl $
    nothing ! $ nothing ! $ nothing ! $ fjoin ! $ nothing ! $ fjoin ! $ nothing ! $ fjoin ! $ move ! (3 ∷ 0 ∷ 2 ∷ 1 ∷ []) $
    by ! (leaves 𝓛 end stayed c z vunit tt (tt, (tt, (tt, tt))) (tt, (tt, (tt, tt)))))))))))))))
