-- `lend` shows the first places of a row, all of which are filled, as a slice. Assumes `Logic`.
use Rattle.std.proofs.Common.{◌≡◌, ℕ, ◌+◌, ◌*◌, ◌^◌, ◌≤◌, ◌<◌, List, [], ◌∷◌, ◌++◌, length, take, refl, sym, ap, ◌∙◌, arith, w64}
use mir.Syntax.{a_type, named}
use mir.Val.{Val, vint, vptr}
use mir.MapTy.{inst_fn}
use base.Logic.{emp}
use base.Fml.{ftrue, flt, flft}
use prog.Wp.{WpFn}
use contract.BorrowLft.{◌⊑◌}
use contract.Monad.{fact, fact_i}
use contract.Running.{tables}
use types.Kit.{‵, raw, ◌⊛◌, prop, at_ret, ◌$◌, ◌∵◌, !, qed, by, move, keep, drop, use0, use1, split, split3, regoal, fsplit, fjoin, feq_i, flt_i, flt_l, rewrite}
use types.Part.{whole, sub, agg}
use types.Run.{stop, fld, of_opd, no_more, and_then, first, blocks, exec, returns, enter}
use types.ByLocal.{alloc_all, pass_all, free_all, look_at, get, get_in, sets, sets_last, env}
use denote.RattleType.{owns}
use denote.Builtin.{usize}
use denote.Memory.{hidden_shr}
use denote.Opens.{hide}
use denote.Param.{layouts}
use denote.RawPtr.{Ptr, RawPtr, block_ptr, block_of, count_of}
use denote.Signature.{types_at}
use denote.Slice.{ShrSlice, slice_val, elements_shared}
use denote.Steps.{nothing, heard}
use denote.Triple.Walked.{Stays, stay_dropped, walk_of, Goes-dropped}
use Rattle.core.specs.Mem.Slots.Ownership.{slots_lent}
use Rattle.byte_buffer.specs.Places.{HoldsFirst}
use Rattle.core.proofs.alloc.Shapes.{after}
use Rattle.core.proofs.mem.Param.{El, R}
use Rattle.core.proofs.ptr.Rows.{times_below}
use Rattle.core.proofs.slots.Lent.{shown}
use Rattle.core.proofs.slots.Opens.{el_d}
use Rattle.core.proofs.slots.Places.{sz}
use Rattle.std.proofs.raw_atomic.Walks.{proved_at, leaves}
use lib.Seq.{length-take-le}
use Rattle.byte_buffer.proofs.BlockWalks.{slot_at, start_val, start_told, values_seen}
use Rattle.byte_buffer.specs.contracts.block.lend as f
use Rattle.byte_buffer.proofs.block.lend.Statement.{statement}
use Rattle.byte_buffer.proofs.block.lend.Code as code

pub lend_spec : {M : Type 1} → statement M
lend_spec 𝓤 𝓛 𝓜 𝓡 wired T L =
    let H = 𝓛.H in let E : El = record { row = T; laws = L } in let end = f.ended T in let c = f.clauses T 𝓛 𝓜.mem 𝓡.returns in
    let 𝓣 = tables 𝓤 H 𝓜 𝓡 𝓡.env in let inst = layouts (a_type ∷ []) (T, tt) in let fn = inst_fn inst code.function in let ps = end.signature.params in
    let stayed : Stays ps end.kept = (
      stay_dropped (slot_at 0 ps) end.kept.0,
      (stay_dropped (slot_at 1 ps) end.kept.1.0, (stay_dropped (slot_at 2 ps) end.kept.1.1.0, tt)),
    ) in
    proved_at 𝓛 end stayed c 𝓜 𝓡 (
      Goes-dropped 𝓛 2 (slot_at 0 ps) end.kept.0 (λ κs x w. refl),
      (Goes-dropped 𝓛 2 (slot_at 1 ps) end.kept.1.0 (λ κs x w. refl), (Goes-dropped 𝓛 2 (slot_at 2 ps) end.kept.1.1.0 (λ κs x w. refl), tt)),
    ) (f.Key.name inst) fn (code.unfolded 𝓤 H 𝓜 𝓡 wired (T, tt)) (λ z are.
    let κ = z.0.0.0 in let q = z.0.1.0 in let κT = z.0.0.1.0 in let qT = z.0.1.1.0 in
    let d : el_d E = z.0.3.0.now in let rb = z.0.3.0.ref_ptr.0 in let ro = z.0.3.0.ref_ptr.1 in let start = z.0.3.1.0 in let n : ℕ = z.0.3.1.1.0 in
    let p : Ptr = start.at in let b = block_of p in let o = count_of p in let at : p ≡ block_ptr b o = start.placed in
    let Post = (walk_of 𝓛 end stayed c).post z in let fits : n < 2 ^ 64 = are.1.1.0.1 in
    let Begins : Type 0 = p ≡ d.ptr in let Asked : Type 0 = HoldsFirst n d in
    qed 𝓛 (((‵ (flft κ q) ⊛ ‵ (flft κT qT) ⊛ ‵ ftrue) ⊛ ‵ (owns (types_at ps z.0.0) z.0.3 z.0.4)) ∷ (raw (fact 𝓤 (κT ⊑ T.lives)) ⊛ raw (fact 𝓤 Begins) ⊛ raw
    (fact 𝓤 Asked)) ∷ []) ∵
    move ! (1 ∷ []) $ split3 ! $ drop ! $ heard ! Begins (λ begins. heard ! Asked (λ asked. split ! $ move ! (1 ∷ []) $ fsplit ! $ fsplit ! $ drop ! $
    keep ! (0 ∷ 2 ∷ []) $
    let le : n ≤ length d.items = omega (arith, asked.within, d.ok.0) in let xs = take n d.items in let long : length xs ≡ n = length-take-le n d.items le in
    use1 𝓛 (‵ (hidden_shr RawPtr κ d.ptr rb (ro + 0)) ⊛ ‵ (hidden_shr usize κ d.len rb (ro + 8)) ⊛ ‵ (flt (d.len * sz E)
    (2 ^ 63)) ⊛ ‵ (slots_lent (R E) d.ptr d.items d.filled κ)) (shown E 𝓛 κ d rb ro) $
    split3 ! $ move ! (2 ∷ []) $ split ! $ flt_l ! (λ small. rewrite ! 0 (λ (r : Ptr). ‵ (slots_lent (R E) r d.items d.filled κ)) (sym begins ∙ at) refl $
    use1 𝓛 (‵ (elements_shared (R E) xs b o κ)) (values_seen E 𝓛 κ b d.items d.filled n o le (omega (arith, asked.within, d.ok.1)) asked.filled) $ hide ! $
    keep ! (0 ∷ 3 ∷ []) $
    -- [the values; the tokens]
    regoal ! (λ (us : List Val). prop (WpFn 𝓤 H 𝓣.C 𝓣.Λ fn us Post)) (λ i. are.0.0 i ++ ((start_told p z.0.4.1.0 are.1.0 ∙ ap
    (λ (r : Ptr). start_val r ∷ []) at) i ++ (are.1.1.0.0 i ++ []))) refl $
    enter ! 𝓣.C 𝓣.Λ fn (vptr rb ro ∷ start_val (block_ptr b o) ∷ vint w64 n ∷ []) Post $
    alloc_all ! (λ l. pass_all ! refl ((tt, tt), ((tt, (tt, tt)), ((tt, record { fits = fits }), tt))) $ let En = env fn.locals l in
    first ! $ blocks ! $
    sets_last ! (agg ! (and_then ! (get_in ! (fld ! refl (stop !)) (sub ! 0 refl (whole !)))
    (and_then ! (get ! refl) (no_more !)))) refl (tt, (tt, (record { fits = fits }, tt))) $
    exec ! 𝓣.C 𝓣.Λ En (after 1 fn.body) (at_ret En Post) $ sets ! (of_opd ! (get ! refl)) refl (tt, (tt, (record { fits = fits }, tt))) $
    returns ! (look_at ! 0 refl) $ free_all ! refl $
    let r : (ShrSlice (named 0) κ (R E)).Denot = record { ref_ptr = (b, o); now = xs } in
    flt_i ! (length xs * sz E) (2 ^ 63) (times_below (length xs) d.len (sz E) (2 ^ 63) (omega (arith, asked.within, long)) small) $
    flt_i ! (length xs) (2 ^ 64) (omega (arith, fits, long)) $ fjoin ! $
    feq_i ! (List Val) (slice_val (b, o) n ∷ []) (slice_val (b, o) (length xs) ∷ []) (ap (λ (k : ℕ). slice_val (b, o) k ∷ []) (sym long)) $ fjoin ! $ fjoin ! $
    use0 𝓛 (raw (fact 𝓤 (xs ≡ xs))) (fact_i 𝓤 (xs ≡ xs) (emp 𝓤) refl) $ nothing ! $ nothing ! $ fjoin ! $ nothing ! $ fjoin ! $ nothing ! $ fjoin ! $
    move ! (3 ∷ 0 ∷ 2 ∷ 1 ∷ []) $
    by ! (leaves 𝓛 end stayed c z (slice_val (b, o) n) r (tt, (tt, (tt, tt))) (tt, (tt, (tt, tt)))))))))
