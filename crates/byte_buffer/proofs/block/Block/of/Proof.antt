-- `of` asks the allocator for an array, and makes a row of empty places of its room. Assumes `Logic`.
use Rattle.std.proofs.Common.{◌≡◌, ℕ, ◌*◌, ◌^◌, ◌<◌, Bool, true, false, List, [], ◌∷◌, ◌++◌, replicate, refl, sym, ap, subst, arith, lit<, w64}
use mir.Syntax.{Body, ty_array}
use mir.Val.{Val, WT, vint, vptr, vstruct, vcons, vnil}
use mir.MapTy.{inst_fn}
use base.Logic.{emp}
use base.Fml.{Incl-trans, ftrue, flft}
use prog.Capped.{capped_fits}
use prog.Memory.{align, capped}
use prog.Wp.{WpFn}
use contract.BorrowLft.{◌⊑◌}
use contract.Monad.{fact, fact_i}
use contract.Running.{tables}
use types.Kit.{‵, raw, ◌⊛◌, some, given, later, prop, at_ret, ◌$◌, ◌∵◌, !, qed, by, move, keep, drop, use0, use1, use2, use3, split, split3, join, pick, learn, regoal, rewrite, fsplit, fjoin, await}
use types.Match.{live, vrt, in_variant}
use types.Part.{whole, agg}
use types.Run.{stop, fld, lit, size_word, align_word, bin, of_opd, no_more, and_then, first, blocks, switches_on, exec, returns, enter}
use types.ByLocal.{alloc_all, pass_all, free_all, look_at, get, get_in, get_tag, is, sets, sets_last, lands_as, lands_last, env}
use denote.Laws.{Is}
use denote.Param.{layout}
use denote.RattleType.{RattleType, owns}
use denote.RawPtr.{Ptr, block_ptr}
use denote.Signature.{types_at, type_at}
use denote.Steps.{nothing, heard, owned}
use denote.Struct.Declared as Declared
use denote.Struct.Struct.{Struct, Struct-Makes}
use denote.Triple.Call.{calls_at, calls_at_last}
use denote.Triple.Walked.{Stays, stay_dropped, walk_of, Goes-dropped}
use lib.ListN.{length-replicate}
use Rattle.core.specs.contracts.alloc.AllocError as AE
use Rattle.core.proofs.alloc.Calls.{Al, Answer-typed, token, Takes, at_takes, Answered, Takes-goes, Takes-gives, answers}
use Rattle.core.proofs.alloc.Shapes.{after, head, arm_body}
use Rattle.core.proofs.atomic.Steps.{fm}
use Rattle.core.proofs.mem.Param.{El, R, el_x, elτ}
use Rattle.core.proofs.slots.Leases.{uncapped, block_ty, block_size, block_align, args, P}
use Rattle.core.proofs.slots.Opens.{Sr, row_val}
use Rattle.core.proofs.slots.Places.{sz}
use Rattle.core.proofs.slots.Runs.{of_space}
use Rattle.core.proofs.slots.Slots.from_raw_parts.Met as callee
use Rattle.std.proofs.raw_atomic.Walks.{proved_at, leaves}
use Rattle.std.specs.Prelude.{Ok, Err}
use Rattle.std.specs.Vec.Ownership.{FitsInBlock, owns_if}
use Rattle.std_alloc.proofs.RawLayout.{as_written}
use Rattle.std_alloc.proofs.RcSteps.{Good, first_Good}
use Rattle.std_alloc.proofs.ResultValues.{ok_of, err_of}
use Rattle.std_alloc.proofs.VecSteps.El as vecs
use Rattle.std_alloc.proofs.VecSteps.Opens.{is_live}
use Rattle.std_alloc.proofs.vec.Blocks.{all}
use Rattle.std_alloc.proofs.vec.Spares.{Row, From, at_from, Made, row_Typed, from_goes, from_gives}
use Rattle.byte_buffer.specs.Blocks.{IsOneOf}
use Rattle.byte_buffer.proofs.BlockWalks.{slot_at, then_runs, start_val, start_made, mark, mark_own, mark_made, three_val, three_of}
use Rattle.byte_buffer.specs.contracts.block.Block as blocks
use Rattle.byte_buffer.specs.contracts.block.Deed as deeds
use Rattle.byte_buffer.specs.contracts.block.Start as starts
use Rattle.byte_buffer.specs.contracts.block.Block.of as f
use Rattle.byte_buffer.proofs.block.Block.of.Statement.{statement}
use Rattle.byte_buffer.proofs.block.Block.of.Code as code

pub of_spec : {M : Type 1} → statement M
of_spec 𝓤 𝓛 𝓜 𝓡 wired T A L LA g d dd met md =
    let H = 𝓛.H in let E : El = record { row = T; laws = L } in let Z : Al = record { row = A; laws = LA; g = g; d = d; drops = dd } in
    let V : vecs.El = record { row = T; laws = L; al = Z } in
    let end = f.ended T A g d dd in let c = f.clauses T A g d dd 𝓛 𝓜.mem 𝓡.returns in let 𝓣 = tables 𝓤 H 𝓜 𝓡 𝓡.env in
    let inst = args E Z in let fn = inst_fn inst code.function in let ps = end.signature.params in
    let stayed : Stays ps end.kept = (stay_dropped (slot_at 0 ps) end.kept.0, (stay_dropped (slot_at 1 ps) end.kept.1.0, tt)) in
    proved_at 𝓛 end stayed c 𝓜 𝓡 (
      Goes-dropped 𝓛 3 (slot_at 0 ps) end.kept.0 (λ κs x w. refl),
      (Goes-dropped 𝓛 3 (slot_at 1 ps) end.kept.1.0 (λ κs x w. refl), tt),
    )
    (f.Key.name inst) fn (code.unfolded 𝓤 H 𝓜 𝓡 wired (T, (A, tt)) d dd) (λ z are.
    let κ = z.0.0.0 in let q = z.0.1.0 in let κT = z.0.0.1.0 in let qT = z.0.1.1.0 in let κA = z.0.0.1.1.0 in let qA = z.0.1.1.1.0 in
    let a : A.Denot = z.0.3.0.now in let hp = z.0.3.0.ref_ptr in let n : ℕ = z.0.3.1.0 in let s = sz E in let al : ℕ = capped (align (elτ E)) in
    let τ = block_ty E n in
    let Post = (walk_of 𝓛 end stayed c).post z in let fits : n < 2 ^ 64 = are.1.0.1 in
    let Asked : Type 0 = FitsInBlock (R E) n × (0 < n) in
    qed 𝓛 (((‵ (flft κ q) ⊛ ‵ (flft κT qT) ⊛ ‵ (flft κA qA) ⊛ ‵ ftrue) ⊛ ‵ (owns (types_at ps z.0.0) z.0.3 z.0.4))
    ∷ (raw (fact 𝓤 (κT ⊑ T.lives)) ⊛ raw (fact 𝓤 (κA ⊑ A.lives)) ⊛ raw (fact 𝓤 Asked) ⊛ raw (fact 𝓤 (el_x E))) ∷ []) ∵
    move ! (1 ∷ []) $ split3 ! $ heard ! (κT ⊑ T.lives) (λ inT. heard ! (κA ⊑ A.lives) (λ inA. split ! $
    heard ! Asked (λ asked. heard ! (el_x E) (λ item. split ! $ split3 ! $ move ! (3 ∷ []) $
    fsplit ! $ fsplit ! $ drop ! $
    keep ! (0 ∷ 2 ∷ 3 ∷ 4 ∷ []) $
    -- [the handle; its token; the values' token; the others]
    let small : n * s < 2 ^ 63 = asked.0.0 in let wide : n * s < 2 ^ 64 = omega (arith, small) in let xs = replicate n item in
    let fs : List Bool = replicate n false in
    regoal ! (λ (us : List Val). prop (WpFn 𝓤 H 𝓣.C 𝓣.Λ fn us Post)) (λ i. are.0.0 i ++ (are.1.0.0 i ++ [])) refl $
    enter ! 𝓣.C 𝓣.Λ fn (vptr hp.0 hp.1 ∷ vint w64 n ∷ []) Post $ alloc_all ! (λ l. pass_all ! refl ((tt, tt), ((tt, record { fits = fits }), tt)) $
    let En = env fn.locals l in
    let arm : ℕ → Body = λ k. arm_body k (head (after 2 fn.body)) in
    let y = at_takes Z 𝓛 𝓜.mem 𝓡.returns κ q hp a (n * s) al τ in
    sets ! (is ! (bin ! (get ! refl) (size_word !) (record { fits = subst (λ (k : ℕ). k < 2 ^ 64) (sym (uncapped n s wide)) wide }))
    (ap (vint w64) (uncapped n s wide))) refl
    (tt, record { fits = wide }) $
    use2 𝓛 (raw ((Takes Z 𝓛 𝓜.mem 𝓡.returns).pre y))
    (Takes-goes Z 𝓛 𝓜.mem 𝓡.returns κ q hp a (Incl-trans z.0.2.0 inA) (n * s) al τ (block_size E n wide) (block_align E n) wide (capped_fits (align (elτ E)))) $
    calls_at ! (fm 𝓛 𝓜 𝓡) (Takes Z 𝓛 𝓜.mem 𝓡.returns) (met.allocate dd) y (and_then ! (get ! refl)
    (and_then ! (get ! refl) (and_then ! (align_word !) (no_more !)))) (λ v.
    use1 𝓛 (later (raw (Answered Z 𝓛 𝓜.mem 𝓡.returns a τ v) ⊛ ‵ (flft κ q))) (Takes-gives Z 𝓛 𝓜.mem 𝓡.returns κ q hp a (n * s) al τ v) $ await ! tt $ split ! $
    answers Z ! 𝓜.mem 𝓡.returns a τ v
    (λ b o e.
    -- [the room; the right to free it; the handle's token; the values' token; the others]
    let p : Ptr = block_ptr b o in let words : WT (row_val b o n) = (tt, (record { fits = fits }, tt)) in
    let Whole : RattleType = blocks.the_row (R E) (P E Z) g in
    let whole_val : Val = three_val (start_val p) (row_val b o n) mark in
    let typed : Good (layout Whole) whole_val = (tt, ((tt, tt), (words, ((tt, tt), tt)))) in let ok = first_Good (layout Whole) whole_val typed in
    let start : (starts.the_row (R E)).Denot = record { at = p; placed = refl } in
    let deed : (deeds.the_row (R E) (P E Z) g).Denot = record { by = record {}; at = p; len = n; alloc = a } in
    lands_as ! e refl (Answer-typed true b o) $ first ! $ switches_on ! (get_tag ! (vrt ! refl (fld ! refl (stop !))) (whole !)) $
    exec ! 𝓣.C 𝓣.Λ En (arm 0) (then_runs 𝓛 𝓣.C 𝓣.Λ En (after 3 fn.body) (at_ret En Post)) $
    sets ! (of_opd ! (get_in ! (vrt ! refl (fld ! refl (stop !))) (in_variant ! 0 0 refl refl (whole !)))) refl (tt, tt) $
    sets ! (of_opd ! (get ! refl)) refl (tt, tt) $
    as_written ! (ty_array (elτ E) n) b o $ use1 𝓛 (‵ (all V b o xs fs)) (of_space E 𝓛 b o n xs (length-replicate n item)) $ move ! (0 ∷ 3 ∷ []) $
    let w = at_from V 𝓛 𝓜.mem 𝓡.returns κT qT b o n xs fs in
    use2 𝓛 (raw ((From V 𝓛 𝓜.mem 𝓡.returns).pre w))
    (from_goes V 𝓛 𝓜.mem 𝓡.returns κT qT b o n xs fs inT (sym (length-replicate n item)) (sym (length-replicate n false)) fits small) $ first ! $ blocks ! $
    calls_at_last ! (fm 𝓛 𝓜 𝓡) (From V 𝓛 𝓜.mem 𝓡.returns) (callee.met 𝓤 𝓛 𝓜 𝓡 (code.calls-core::slots::Slots::from_raw_parts 𝓡.env wired) T L) w
    (and_then ! (get ! refl) (and_then ! (get ! refl) (no_more !))) (λ u.
    use1 𝓛 (later (some (λ (r : (Row V).Denot). given ((u ≡ row_val b o n) × Made V 𝓛 𝓜.mem 𝓡.returns κT qT b o n xs fs r)
    (‵ ((Row V).own_val r (row_val b o n ∷ [])) ⊛ ‵ (flft κT qT)))))
    (from_gives V 𝓛 𝓜.mem 𝓡.returns κT qT b o n xs fs u) $ await ! tt $ pick ! (λ r. learn ! (λ made. split ! $
    -- [the row; the values' token; the right to free it; the handle's token; the others]
    lands_last ! refl (row_Typed V u b o n made.0 fits) $ exec ! 𝓣.C 𝓣.Λ En (after 3 (arm 0)) (then_runs 𝓛 𝓣.C 𝓣.Λ En (after 3 fn.body) (at_ret En Post)) $
    sets ! (is ! (of_opd ! (get ! refl)) made.0) refl (tt, words) $ sets ! (agg ! (and_then ! (get ! refl) (no_more !))) refl (tt, (tt, tt)) $
    sets ! (of_opd ! (get ! refl)) refl (tt, words) $ sets ! (agg ! (no_more !)) refl (tt, tt) $
    sets ! (agg ! (and_then ! (get ! refl) (no_more !))) refl (tt, (tt, tt)) $
    sets ! (agg ! (and_then ! (get ! refl) (and_then ! (get ! refl) (and_then ! (get ! refl) (no_more !))))) refl typed $
    sets_last ! (agg ! (and_then ! (lit ! tt) (and_then ! (get ! refl) (no_more !)))) refl ok $
    exec ! 𝓣.C 𝓣.Λ En (after 3 fn.body) (at_ret En Post) $ sets ! (of_opd ! (get ! refl)) refl ok $ returns ! (look_at ! 0 refl) $ free_all ! refl $
    move ! (1 ∷ 4 ∷ []) $ join ! $ move ! (3 ∷ 0 ∷ []) $ join ! $ move ! (2 ∷ 1 ∷ []) $
    let one : Whole.Denot = record { start = start; places = r; deed = deed } in
    -- [the right to free it; the row; the tokens]
    rewrite ! 0 (λ (k : Bool). ‵ (owns_if k (token Z a τ p))) (sym (is_live n asked.1)) refl $ use0 𝓛 (‵ (mark_own (mark ∷ []))) (mark_made 𝓛) $ fjoin ! $
    move ! (1 ∷ 0 ∷ []) $
    use0 𝓛 (‵ ((starts.the_row (R E)).own_val start (start_val p ∷ []))) (start_made 𝓛 p) $
    use3 𝓛 (‵ (Whole.own_val one (whole_val ∷ []))) (three_of 𝓛 (starts.the_row (R E)) (Sr E) (deeds.the_row (R E) (P E Z) g) start r deed (start_val p)
    (row_val b o n) mark) $
    let Out : RattleType = type_at end.signature.result z.0.0 in let got : Val = live 0 (vcons whole_val vnil) in
    use1 𝓛 (‵ (Out.own_val (Ok one) (got ∷ []))) (ok_of 𝓛 Whole AE.the_row one whole_val) $
    let Said : Type 0 = IsOneOf a one × (r.len ≡ n) in
    use0 𝓛 (raw (fact 𝓤 Said)) (fact_i 𝓤 Said (emp 𝓤) (
      record { starts = sym made.1.0; frees = record { at = sym made.1.0; all = sym made.1.1; by = refl } },
      made.1.1,
    )) $
    nothing ! $ nothing ! $ fjoin ! $ nothing ! $ fjoin ! $ move ! (3 ∷ 0 ∷ 2 ∷ 1 ∷ []) $
    by ! (leaves 𝓛 end stayed c z got (Ok one) (tt, (tt, tt)) (tt, (tt, tt)))))))
    (λ e.
    -- [the handle's token; the values' token; the others]
    let Refusal : RattleType = Struct (Declared.shape AE.the_type) in let none : Val = live 1 (vcons (vstruct vnil) vnil) in
    let Whole : RattleType = blocks.the_row (R E) (P E Z) g in let Out : RattleType = type_at end.signature.result z.0.0 in
    lands_as ! e refl (Answer-typed false 0 0) $ first ! $ switches_on ! (get_tag ! (vrt ! refl (fld ! refl (stop !))) (whole !)) $
    exec ! 𝓣.C 𝓣.Λ En (arm 1) (then_runs 𝓛 𝓣.C 𝓣.Λ En (after 3 fn.body) (at_ret En Post)) $
    sets ! (of_opd ! (get_in ! (vrt ! refl (fld ! refl (stop !))) (in_variant ! 1 0 refl refl (whole !)))) refl (tt, tt) $
    sets_last ! (agg ! (and_then ! (lit ! tt) (and_then ! (get ! refl) (no_more !)))) refl (tt, (record { fits = lit< tt }, (tt, tt))) $
    exec ! 𝓣.C 𝓣.Λ En (after 3 fn.body) (at_ret En Post) $ sets ! (of_opd ! (get ! refl)) refl (tt, (record { fits = lit< tt }, (tt, tt))) $
    returns ! (look_at ! 0 refl) $ free_all ! refl $ move ! (1 ∷ 2 ∷ []) $ join ! $ move ! (1 ∷ 0 ∷ []) $ join ! $
    owned ! Refusal (Is Refusal) (Struct-Makes 𝓛 (Declared.shape AE.the_type) tt) tt (vstruct vnil ∷ []) (tt, (refl, tt)) $
    use1 𝓛 (‵ (Out.own_val (Err (record {})) (none ∷ []))) (err_of 𝓛 Whole AE.the_row (record {}) (vstruct vnil)) $
    use0 𝓛 (raw (fact 𝓤 (Unit {0}))) (fact_i 𝓤 (Unit {0}) (emp 𝓤) tt) $ nothing ! $ nothing ! $ fjoin ! $ nothing ! $ fjoin ! $ move ! (3 ∷ 0 ∷ 2 ∷ 1 ∷ []) $
    by ! (leaves 𝓛 end stayed c z none (Err (record {})) (tt, (tt, tt)) (tt, (tt, tt)))))))))))
