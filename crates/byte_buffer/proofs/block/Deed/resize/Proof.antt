-- `resize` hands the first values and the room after them to the allocator, and makes a row of what comes back. Assumes `Logic`.
use Rattle.std.proofs.Common.{◌≡◌, ℕ, ◌^◌, ◌≤◌, ◌<◌, Bool, true, false, List, [], ◌∷◌, ◌++◌, length, take, refl, sym, ap, ◌∙◌, subst, arith, w64, if◌then◌else◌}
use mir.Syntax.{Body}
use mir.Val.{Val, WT, vptr, vint, vbool}
use mir.MapTy.{inst_fn}
use base.Logic.{emp, ex}
use base.Fml.{Incl-trans, ftrue, flft}
use prog.Wp.{WpFn}
use contract.BorrowLft.{◌⊑◌}
use contract.Monad.{fact, fact_i}
use contract.Running.{tables}
use types.Kit.{Post as After, ‵, raw, ◌⊛◌, some, given, later, prop, at_ret, Sq, ◌$◌, ◌∵◌, !, qed, by, move, keep, drop, use0, use1, use2, use3, split, split3, join, pick, learn, regoal, rewrite, fsplit, fjoin, feq_i, await}
use types.Match.{vrt, in_variant}
use types.Part.{whole, sub, agg}
use types.Run.{stop, fld, true_lit, false_lit, of_opd, no_more, and_then, first, blocks, switches_on, exec, returns, enter}
use types.ByLocal.{alloc_all, pass_all, free_all, look_at, get, get_in, get_tag, sets, sets_last, lands_as, env}
use denote.Builtin.{bool}
use denote.Param.{layout}
use denote.RattleType.{RattleType, owns}
use denote.RawPtr.{Ptr, block_ptr}
use denote.Signature.{types_at}
use denote.Steps.{nothing, heard}
use denote.Struct.Tuple.{Tuple}
use denote.Triple.Call.{calls_at}
use denote.Triple.Walked.{Stays, stay_dropped, walk_of, Goes-dropped}
use lib.Seq.{length-take-le}
use Rattle.core.specs.Allocator.{block_with_items}
use Rattle.core.specs.Mem.Slots.Ownership.{Filled}
use Rattle.core.proofs.alloc.Calls.{Al, Answer-typed, token, Goes-blank}
use Rattle.core.proofs.alloc.Resizes.{Grows, Resizes, at_resizes, Resized, left_by, Resizes-goes, Resizes-gives, flagged}
use Rattle.core.proofs.alloc.Shapes.{after, head, arm_body}
use Rattle.core.proofs.atomic.Steps.{fm}
use Rattle.core.proofs.cell.Inside.{Good}
use Rattle.core.proofs.mem.Param.{El, R, el_x}
use Rattle.core.proofs.slice.Lists.{hd}
use Rattle.core.proofs.slots.Leases.{block_ty, args, P}
use Rattle.core.proofs.slots.Opens.{Sr, el_d, row_val, row_had, row_made}
use Rattle.core.proofs.slots.Places.{sz}
use Rattle.core.proofs.slots.Slots.from_raw_parts.Met as made_by
use Rattle.core.proofs.slots.Slots.into_raw_parts.Met as parted_by
use Rattle.std.proofs.raw_atomic.Walks.{proved_at, leaves}
use Rattle.std.specs.Vec.Ownership.{FitsInBlock, owns_if}
use Rattle.std_alloc.proofs.Pairs.{pair_val, pair_of}
use Rattle.std_alloc.proofs.VecSteps.El as vecs
use Rattle.std_alloc.proofs.VecSteps.Opens.{is_live}
use Rattle.std_alloc.proofs.vec.Blocks.{all}
use Rattle.std_alloc.proofs.vec.Spares.{Row, From, at_from, Made, from_goes, from_gives, Into, at_into, Into-goes, Into-gives}
use Rattle.byte_buffer.specs.Blocks.{IsDeedOf, IsOneOf}
use Rattle.byte_buffer.specs.Deeds.{deed_owns}
use Rattle.byte_buffer.specs.Places.{HoldsFirst, KeepsFirst}
use Rattle.byte_buffer.proofs.BlockWalks.{slot_at, then_runs, out_of_block, start_val, start_made, mark, mark_told, mark_own, mark_made, three_val, three_of}
use Rattle.byte_buffer.proofs.ResizeWalks.{places_in, places_out, Has}
use Rattle.byte_buffer.specs.contracts.block.Block as the_blocks
use Rattle.byte_buffer.specs.contracts.block.Deed as deeds
use Rattle.byte_buffer.specs.contracts.block.Start as starts
use Rattle.byte_buffer.specs.contracts.block.Deed.resize as f
use Rattle.byte_buffer.proofs.block.Deed.resize.Statement.{statement}
use Rattle.byte_buffer.proofs.block.Deed.resize.Code as code

pub resize_spec : {M : Type 1} → statement M
resize_spec 𝓤 𝓛 𝓜 𝓡 wired T A L LA g d dd met md =
    let H = 𝓛.H in let E : El = record { row = T; laws = L } in let Z : Al = record { row = A; laws = LA; g = g; d = d; drops = dd } in
    let V : vecs.El = record { row = T; laws = L; al = Z } in
    let end = f.ended T A g d dd in let c = f.clauses T A g d dd 𝓛 𝓜.mem 𝓡.returns in let 𝓣 = tables 𝓤 H 𝓜 𝓡 𝓡.env in
    let inst = args E Z in let fn = inst_fn inst code.function in let ps = end.signature.params in
    let stayed : Stays ps end.kept = (
      stay_dropped (slot_at 0 ps) end.kept.0,
      (
        stay_dropped (slot_at 1 ps) end.kept.1.0,
        (stay_dropped (slot_at 2 ps) end.kept.1.1.0, (stay_dropped (slot_at 3 ps) end.kept.1.1.1.0, (stay_dropped (slot_at 4 ps) end.kept.1.1.1.1.0, tt))),
      ),
    ) in
    proved_at 𝓛 end stayed c 𝓜 𝓡 (
      Goes-blank 𝓛 3 (slot_at 0 ps) end.kept.0 (λ κs x w. tt),
      (
        Goes-dropped 𝓛 3 (slot_at 1 ps) end.kept.1.0 (λ κs x w. refl),
        (
          Goes-blank 𝓛 3 (slot_at 2 ps) end.kept.1.1.0 (λ κs x w. tt),
          (Goes-dropped 𝓛 3 (slot_at 3 ps) end.kept.1.1.1.0 (λ κs x w. refl), (Goes-dropped 𝓛 3 (slot_at 4 ps) end.kept.1.1.1.1.0 (λ κs x w. refl), tt)),
        ),
      ),
    ) (f.Key.name inst) fn (code.unfolded 𝓤 H 𝓜 𝓡 wired (T, (A, tt)) d dd) (λ z are.
    let κ = z.0.0.0 in let q = z.0.1.0 in let κT = z.0.0.1.0 in let qT = z.0.1.1.0 in let κA = z.0.0.1.1.0 in let qA = z.0.1.1.1.0 in
    let deed = z.0.3.0 in let a : A.Denot = z.0.3.1.0.now in let hp = z.0.3.1.0.ref_ptr in let h : el_d E = z.0.3.1.1.0 in let len : ℕ = z.0.3.1.1.1.0 in
    let wanted : ℕ = z.0.3.1.1.1.1.0 in
    let n : ℕ = h.len in let s = sz E in let Post = (walk_of 𝓛 end stayed c).post z in
    let fl : len < 2 ^ 64 = are.1.1.1.0.1 in let fw : wanted < 2 ^ 64 = are.1.1.1.1.0.1 in
    let Some : Type 0 = 0 < n in let Asked : Type 0 = IsDeedOf a h deed in let Held : Type 0 = HoldsFirst len h in
    let Sizes : Type 0 = (n ≤ wanted) × FitsInBlock (R E) wanted in
    let others = ‵ (flft κA qA) ⊛ ‵ ftrue in let Whole : RattleType = the_blocks.the_row (R E) (P E Z) g in
    -- [the row; the values' token; the right to free it; the handle's token; the others]
    let out : (b o m : ℕ) (y : Bool) → 0 < m → (r : (Sr E).Denot) → r.ptr ≡ block_ptr b o → r.len ≡ m → HoldsFirst len r → KeepsFirst len h r
    → m ≡ (if y then wanted else n)
    → Sq 𝓛 (‵ ((Sr E).own_val r (row_val b o m ∷ [])) ∷ ‵ (flft κT qT) ∷ ‵ (token Z a (block_ty E m) (block_ptr b o)) ∷ ‵ (flft κ q) ∷ others ∷ [])
    (prop (Post (pair_val (three_val (start_val (block_ptr b o)) (row_val b o m) mark) (vbool y)))) = λ b o m y pos r at_r len_r holds keeps size.
    let p : Ptr = block_ptr b o in let start : (starts.the_row (R E)).Denot = record { at = p; placed = refl } in
    let got : Val = three_val (start_val p) (row_val b o m) mark in
    let new_deed : (deeds.the_row (R E) (P E Z) g).Denot = record { by = record {}; at = p; len = m; alloc = a } in
    let one : Whole.Denot = record { start = start; places = r; deed = new_deed } in
    move ! (1 ∷ 4 ∷ []) $ join ! $ move ! (3 ∷ 0 ∷ []) $ join ! $ move ! (2 ∷ 1 ∷ []) $
    rewrite ! 0 (λ (k : Bool). ‵ (owns_if k (token Z a (block_ty E m) p))) (sym (is_live m pos)) refl $ use0 𝓛 (‵ (mark_own (mark ∷ []))) (mark_made 𝓛) $
    fjoin ! $ move ! (1 ∷ 0 ∷ []) $
    use0 𝓛 (‵ ((starts.the_row (R E)).own_val start (start_val p ∷ []))) (start_made 𝓛 p) $
    use3 𝓛 (‵ (Whole.own_val one (got ∷ []))) (three_of 𝓛 (starts.the_row (R E)) (Sr E) (deeds.the_row (R E) (P E Z) g) start r new_deed (start_val p)
    (row_val b o m) mark) $
    feq_i ! (List Val) (vbool y ∷ []) (vbool y ∷ []) refl $ move ! (1 ∷ 0 ∷ []) $
    use2 𝓛 (‵ ((Tuple (Whole ∷ bool ∷ [])).own_val (one, y) (pair_val got (vbool y) ∷ []))) (pair_of 𝓛 Whole bool one y got (vbool y)) $
    let Len : Type 0 = r.len ≡ (if y then wanted else n) in let One : Type 0 = IsOneOf a one × HoldsFirst len r in
    use0 𝓛 (raw (fact 𝓤 Len)) (fact_i 𝓤 Len (emp 𝓤) (len_r ∙ size)) $ use0 𝓛 (raw (fact 𝓤 (KeepsFirst len h r))) (fact_i 𝓤 (KeepsFirst len h r) (emp 𝓤) keeps) $
    join ! $
    use0 𝓛 (raw (fact 𝓤 One)) (fact_i 𝓤 One (emp 𝓤) (record { starts = sym at_r; frees = record { at = sym at_r; all = sym len_r; by = refl } }, holds)) $
    join ! $
    nothing ! $ nothing ! $ fjoin ! $ nothing ! $ fjoin ! $ nothing ! $ fjoin ! $ nothing ! $ fjoin ! $ nothing ! $ fjoin ! $ move ! (3 ∷ 0 ∷ 2 ∷ 1 ∷ []) $
    by ! (leaves 𝓛 end stayed c z (pair_val got (vbool y)) (one, y) (tt, (tt, (tt, (tt, (tt, tt))))) (tt, (tt, (tt, (tt, (tt, tt)))))) in
    qed 𝓛 (((‵ (flft κ q) ⊛ ‵ (flft κT qT) ⊛ others) ⊛ ‵ (owns (types_at ps z.0.0) z.0.3 z.0.4))
    ∷ (raw (fact 𝓤 (κT ⊑ T.lives)) ⊛ raw (fact 𝓤 (κA ⊑ A.lives)) ⊛ raw (fact 𝓤 Some) ⊛ raw (fact 𝓤 Asked) ⊛ raw (fact 𝓤 Held) ⊛ raw (fact 𝓤 Sizes)) ∷ []) ∵
    move ! (1 ∷ []) $ split3 ! $ heard ! (κT ⊑ T.lives) (λ inT. heard ! (κA ⊑ A.lives) (λ inA. split3 ! $
    heard ! Some (λ full. heard ! Asked (λ asked. split ! $ heard ! Held (λ held. heard ! Sizes (λ sizes.
    split ! $ split3 ! $ move ! (3 ∷ []) $ fsplit ! $ fsplit ! $ drop ! $ move ! (1 ∷ []) $ fsplit ! $ fsplit ! $ drop ! $ move ! (1 ∷ []) $ fsplit ! $
    row_had E ! h z.0.4.1.1.0 (λ b o at told fo small. row_made E ! h b o at fo small $ let p : Ptr = block_ptr b o in move ! (3 ∷ 0 ∷ 2 ∷ []) $
    rewrite ! 0 (λ (u : A.Denot × ℕ × Ptr). ‵ (deed_owns (token Z u.0) (R E) u.2 u.1)) (λ i. (asked.by i, asked.all i, (asked.at ∙ at) i)) refl $
    rewrite ! 0 (λ (k : Bool). ‵ (owns_if k (token Z a (block_ty E n) p))) (is_live n full) refl $ keep ! (0 ∷ 1 ∷ 2 ∷ 4 ∷ 5 ∷ 6 ∷ []) $
    -- [the right to free it; the row; the handle; its token; the values' token; the others]
    let words : WT (row_val b o n) = (tt, (record { fits = fo }, tt)) in let le : len ≤ n = held.within in let xs = take len h.items in
    let lx : length xs ≡ len = length-take-le len h.items (omega (arith, le, h.ok.0)) in let item : el_x E = hd h.items (omega (arith, full, h.ok.0)) in
    regoal ! (λ (us : List Val). prop (WpFn 𝓤 H 𝓣.C 𝓣.Λ fn us Post))
    (λ i. mark_told z.0.4.0 are.0.0 i ++ (are.1.0.0 i ++ (told i ++ (are.1.1.1.0.0 i ++ (are.1.1.1.1.0.0 i ++ []))))) refl $
    enter ! 𝓣.C 𝓣.Λ fn (mark ∷ vptr hp.0 hp.1 ∷ row_val b o n ∷ vint w64 len ∷ vint w64 wanted ∷ []) Post $
    alloc_all ! (λ l. pass_all ! refl ((tt, (tt, tt)), ((tt, tt), ((tt, words), ((tt, record { fits = fl }), ((tt, record { fits = fw }), tt))))) $
    let En = env fn.locals l in
    let inner : Body = head (head fn.body) in let arm : ℕ → Body = λ k. arm_body k (head (after 5 inner)) in
    let Then : After 𝓤 H = then_runs 𝓛 𝓣.C 𝓣.Λ En (after 6 inner) (out_of_block 𝓛 (then_runs 𝓛 𝓣.C 𝓣.Λ En (after 1 fn.body) (at_ret En Post))) in
    let y = at_into V 𝓛 𝓜.mem 𝓡.returns κT qT h b o in let w = at_resizes Z T (Grows T) 𝓛 𝓜.mem 𝓡.returns κ κT q qT hp a b o len n wanted xs in
    first ! $ blocks ! $ sets ! (of_opd ! (get ! refl)) refl (tt, words) $ move ! (1 ∷ 4 ∷ []) $
    use2 𝓛 (raw ((Into V 𝓛 𝓜.mem 𝓡.returns).pre y)) (Into-goes V 𝓛 𝓜.mem 𝓡.returns κT qT h b o inT) $
    calls_at ! (fm 𝓛 𝓜 𝓡) (Into V 𝓛 𝓜.mem 𝓡.returns) (parted_by.met 𝓤 𝓛 𝓜 𝓡 (code.calls-core::slots::Slots::into_raw_parts 𝓡.env wired) T L) y
    (and_then ! (get ! refl) (no_more !)) (λ v.
    use1 𝓛 (later (given (v ≡ row_val b o n) (‵ (all V b o h.items h.filled) ⊛ ‵ (flft κT qT)))) (Into-gives V 𝓛 𝓜.mem 𝓡.returns κT qT h b o v at) $
    await ! tt $ learn ! (λ parted. split ! $
    -- [the places; the values' token; the right to free it; the handle; its token; the others]
    lands_as ! parted refl (tt, words) $
    sets ! (of_opd ! (get_in ! (fld ! refl (stop !)) (sub ! 0 refl (whole !)))) refl (tt, tt) $
    sets ! (of_opd ! (get_in ! (fld ! refl (stop !)) (sub ! 1 refl (whole !)))) refl (tt, record { fits = fo }) $
    move ! (0 ∷ 2 ∷ []) $
    use2 𝓛 (‵ (block_with_items (token Z a) (R E) p len n xs)) (places_in V 𝓛 a b o len n h.items h.filled h.ok.0 h.ok.1 le held.filled) $
    -- [the block; the values' token; the handle; its token; the others]
    move ! (3 ∷ 1 ∷ []) $ join ! $ move ! (2 ∷ 0 ∷ []) $ join ! $ move ! (1 ∷ 0 ∷ []) $
    use2 𝓛 (raw ((Resizes Z T (Grows T) 𝓛 𝓜.mem 𝓡.returns).pre w))
    (Resizes-goes Z T (Grows T) 𝓛 𝓜.mem 𝓡.returns κ κT q qT hp a b o len n wanted xs (Incl-trans z.0.2.0 inA) inT (le, sizes.0, sizes.1.0) fl fo fw) $
    calls_at ! (fm 𝓛 𝓜 𝓡) (Resizes Z T (Grows T) 𝓛 𝓜.mem 𝓡.returns) (met.grow dd T L) w
    (and_then ! (get ! refl) (and_then ! (get ! refl) (and_then ! (get ! refl) (and_then ! (get ! refl) (and_then ! (get ! refl) (no_more !)))))) (λ u.
    use1 𝓛 (later (raw (ex 𝓤 (Resized Z T (Grows T) 𝓛 𝓜.mem 𝓡.returns κ κT q qT hp a b o len n wanted xs u)) ⊛ ‵ (flft κ q) ⊛ ‵ (flft κT qT)))
    (Resizes-gives Z T (Grows T) 𝓛 𝓜.mem 𝓡.returns κ κT q qT hp a b o len n wanted xs u) $ await ! tt $ split3 ! $
    flagged ! u (left_by Z T (Grows T) 𝓛 𝓜.mem 𝓡.returns κ κT q qT hp a b o len n wanted xs)
    (λ b' o' e.
    -- [the block; the handle's token; the values' token; the others]
    let more : len ≤ wanted = omega (arith, le, sizes.0) in let new_words : WT (row_val b' o' wanted) = (tt, (record { fits = fw }, tt)) in
    let block_typed : Good (layout Whole) (three_val (start_val (block_ptr b' o'))
    (row_val b' o' wanted) mark) = (tt, ((tt, tt), (new_words, ((tt, tt), tt)))) in
    lands_as ! e refl (Answer-typed true b' o') $ first ! $ switches_on ! (get_tag ! (vrt ! refl (fld ! refl (stop !))) (whole !)) $
    exec ! 𝓣.C 𝓣.Λ En (arm 0) Then $
    sets ! (of_opd ! (get_in ! (vrt ! refl (fld ! refl (stop !))) (in_variant ! 0 0 refl refl (whole !)))) refl (tt, tt) $
    sets_last ! (agg ! (and_then ! (get ! refl) (and_then ! (get ! refl) (and_then ! (true_lit !)
    (no_more !))))) refl (tt, (tt, (record { fits = fw }, (tt, tt)))) $
    exec ! 𝓣.C 𝓣.Λ En (after 6 inner) (out_of_block 𝓛 (then_runs 𝓛 𝓣.C 𝓣.Λ En (after 1 fn.body) (at_ret En Post))) $
    sets ! (of_opd ! (get ! refl)) refl (tt, (tt, (record { fits = fw }, (tt, tt)))) $
    sets ! (of_opd ! (get_in ! (fld ! refl (stop !)) (sub ! 0 refl (whole !)))) refl (tt, tt) $
    sets ! (of_opd ! (get_in ! (fld ! refl (stop !)) (sub ! 1 refl (whole !)))) refl (tt, record { fits = fw }) $
    sets ! (of_opd ! (get_in ! (fld ! refl (stop !)) (sub ! 2 refl (whole !)))) refl (tt, tt) $
    use1 𝓛 (some (λ (w : List (el_x E) × List Bool). given (Has V 𝓛 a b' o' len wanted xs w)
    (‵ (all V b' o' w.0 w.1) ⊛ ‵ (token Z a (block_ty E wanted) (block_ptr b' o'))))) (places_out V 𝓛 a b' o' len wanted xs more lx item) $
    pick ! (λ w. learn ! (λ had. split ! $ let zs = w.0 in let fs = w.1 in let from = at_from V 𝓛 𝓜.mem 𝓡.returns κT qT b' o' wanted zs fs in
    -- [the places; the right to free it; the handle's token; the values' token; the others]
    move ! (0 ∷ 3 ∷ []) $
    use2 𝓛 (raw ((From V 𝓛 𝓜.mem 𝓡.returns).pre from)) (from_goes V 𝓛 𝓜.mem 𝓡.returns κT qT b' o' wanted zs fs inT had.0 had.1 fw sizes.1.0) $
    calls_at ! (fm 𝓛 𝓜 𝓡) (From V 𝓛 𝓜.mem 𝓡.returns) (made_by.met 𝓤 𝓛 𝓜 𝓡 (code.calls-core::slots::Slots::from_raw_parts 𝓡.env wired) T L) from
    (and_then ! (get ! refl) (and_then ! (get ! refl) (no_more !))) (λ t.
    use1 𝓛 (later (some (λ (r : (Row V).Denot). given ((t ≡ row_val b' o' wanted) × Made V 𝓛 𝓜.mem 𝓡.returns κT qT b' o' wanted zs fs r)
    (‵ ((Row V).own_val r (row_val b' o' wanted ∷ [])) ⊛ ‵ (flft κT qT)))))
    (from_gives V 𝓛 𝓜.mem 𝓡.returns κT qT b' o' wanted zs fs t) $ await ! tt $ pick ! (λ r. learn ! (λ made. split ! $ let of = made.1 in
    -- [the row; the values' token; the right to free it; the handle's token; the others]
    lands_as ! made.0 refl (tt, new_words) $ sets ! (agg ! (and_then ! (get ! refl) (no_more !))) refl (tt, (tt, tt)) $
    sets ! (of_opd ! (get ! refl)) refl (tt, new_words) $
    sets ! (agg ! (no_more !)) refl (tt, tt) $ sets ! (agg ! (and_then ! (get ! refl) (no_more !))) refl (tt, (tt, tt)) $
    sets ! (agg ! (and_then ! (get ! refl) (and_then ! (get ! refl) (and_then ! (get ! refl) (no_more !))))) refl block_typed $
    sets ! (of_opd ! (get ! refl)) refl block_typed $
    sets_last ! (agg ! (and_then ! (get ! refl) (and_then ! (get ! refl) (no_more !)))) refl (tt, (block_typed.1, (tt, tt))) $
    exec ! 𝓣.C 𝓣.Λ En (after 1 fn.body) (at_ret En Post) $ sets ! (of_opd ! (get ! refl)) refl (tt, (block_typed.1, (tt, tt))) $ returns ! (look_at ! 0 refl) $
    free_all ! refl $
    out b' o' wanted true (omega (arith, full, sizes.0)) r of.0 of.1 (record {
      within = omega (arith, of.1, more);
      filled = subst (λ gs. Filled gs 0 len)
          (sym of.3) had.2;
    })
    (ap (take len) of.2 ∙ had.3) refl))))))
    (λ e.
    -- the same
    let new_words : WT (row_val b o n) = (tt, (record { fits = fo }, tt)) in
    let block_typed : Good (layout Whole) (three_val (start_val (block_ptr b o)) (row_val b o n) mark) = (tt, ((tt, tt), (new_words, ((tt, tt), tt)))) in
    lands_as ! e refl (Answer-typed false 0 0) $ first ! $ switches_on ! (get_tag ! (vrt ! refl (fld ! refl (stop !))) (whole !)) $
    exec ! 𝓣.C 𝓣.Λ En (arm 1) Then $
    sets_last ! (agg ! (and_then ! (get ! refl) (and_then ! (get ! refl) (and_then ! (false_lit !)
    (no_more !))))) refl (tt, (tt, (record { fits = fo }, (tt, tt)))) $
    exec ! 𝓣.C 𝓣.Λ En (after 6 inner) (out_of_block 𝓛 (then_runs 𝓛 𝓣.C 𝓣.Λ En (after 1 fn.body) (at_ret En Post))) $
    sets ! (of_opd ! (get ! refl)) refl (tt, (tt, (record { fits = fo }, (tt, tt)))) $
    sets ! (of_opd ! (get_in ! (fld ! refl (stop !)) (sub ! 0 refl (whole !)))) refl (tt, tt) $
    sets ! (of_opd ! (get_in ! (fld ! refl (stop !)) (sub ! 1 refl (whole !)))) refl (tt, record { fits = fo }) $
    sets ! (of_opd ! (get_in ! (fld ! refl (stop !)) (sub ! 2 refl (whole !)))) refl (tt, tt) $
    use1 𝓛 (some (λ (w : List (el_x E) × List Bool). given (Has V 𝓛 a b o len n xs w) (‵ (all V b o w.0 w.1) ⊛ ‵ (token Z a (block_ty E n) (block_ptr b o)))))
    (places_out V 𝓛 a b o len n xs le lx item) $
    pick ! (λ w. learn ! (λ had. split ! $ let zs = w.0 in let fs = w.1 in let from = at_from V 𝓛 𝓜.mem 𝓡.returns κT qT b o n zs fs in
    -- [the places; the right to free it; the handle's token; the values' token; the others]
    move ! (0 ∷ 3 ∷ []) $
    use2 𝓛 (raw ((From V 𝓛 𝓜.mem 𝓡.returns).pre from)) (from_goes V 𝓛 𝓜.mem 𝓡.returns κT qT b o n zs fs inT had.0 had.1 fo small) $
    calls_at ! (fm 𝓛 𝓜 𝓡) (From V 𝓛 𝓜.mem 𝓡.returns) (made_by.met 𝓤 𝓛 𝓜 𝓡 (code.calls-core::slots::Slots::from_raw_parts 𝓡.env wired) T L) from
    (and_then ! (get ! refl) (and_then ! (get ! refl) (no_more !))) (λ t.
    use1 𝓛 (later (some (λ (r : (Row V).Denot). given ((t ≡ row_val b o n) × Made V 𝓛 𝓜.mem 𝓡.returns κT qT b o n zs fs r)
    (‵ ((Row V).own_val r (row_val b o n ∷ [])) ⊛ ‵ (flft κT qT)))))
    (from_gives V 𝓛 𝓜.mem 𝓡.returns κT qT b o n zs fs t) $ await ! tt $ pick ! (λ r. learn ! (λ made. split ! $ let of = made.1 in
    -- [the row; the values' token; the right to free it; the handle's token; the others]
    lands_as ! made.0 refl (tt, new_words) $ sets ! (agg ! (and_then ! (get ! refl) (no_more !))) refl (tt, (tt, tt)) $
    sets ! (of_opd ! (get ! refl)) refl (tt, new_words) $
    sets ! (agg ! (no_more !)) refl (tt, tt) $ sets ! (agg ! (and_then ! (get ! refl) (no_more !))) refl (tt, (tt, tt)) $
    sets ! (agg ! (and_then ! (get ! refl) (and_then ! (get ! refl) (and_then ! (get ! refl) (no_more !))))) refl block_typed $
    sets ! (of_opd ! (get ! refl)) refl block_typed $
    sets_last ! (agg ! (and_then ! (get ! refl) (and_then ! (get ! refl) (no_more !)))) refl (tt, (block_typed.1, (tt, tt))) $
    exec ! 𝓣.C 𝓣.Λ En (after 1 fn.body) (at_ret En Post) $ sets ! (of_opd ! (get ! refl)) refl (tt, (block_typed.1, (tt, tt))) $ returns ! (look_at ! 0 refl) $
    free_all ! refl $
    out b o n false (omega (arith, full, sizes.0)) r of.0 of.1 (record {
      within = omega (arith, of.1, le);
      filled = subst (λ gs. Filled gs 0 len)
          (sym of.3) had.2;
    })
    (ap (take len) of.2 ∙ had.3) refl))))))))))))))))))
