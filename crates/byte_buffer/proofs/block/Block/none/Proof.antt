-- `none` makes a row of no places, at an address that is not null. Assumes `Logic`.
use Rattle.std.proofs.Common.{◌≡◌, ℕ, Bool, List, [], ◌∷◌, ◌++◌, refl, sym, arith, lit<}
use native.Mathlib.Nat.{zero-mul}
use mir.Val.{Val, WT, vptr}
use mir.MapTy.{inst_fn}
use base.Logic.{emp}
use base.Fml.{ftrue, flft}
use prog.Wp.{WpFn}
use contract.BorrowLft.{◌⊑◌}
use contract.Monad.{fact, fact_i}
use contract.Running.{tables}
use types.Kit.{‵, raw, ◌⊛◌, some, given, later, prop, at_ret, ◌$◌, ◌∵◌, !, qed, by, move, drop, use0, use1, use2, use3, split, split3, join, pick, learn, regoal, fjoin, await}
use types.Part.{agg}
use types.Run.{stop, from, addr, lit, of_opd, no_more, and_then, first, blocks, exec, returns, enter}
use types.ByLocal.{alloc_all, pass_all, free_all, look_at, get, is, sets, lands_last, env}
use denote.RattleType.{RattleType, owns}
use denote.RawPtr.{Ptr, block_ptr}
use denote.Signature.{types_at}
use denote.Steps.{nothing, heard}
use denote.Triple.Call.{calls_at_last}
use denote.Triple.Walked.{Stays, stay_dropped, walk_of, Goes-dropped}
use Rattle.core.proofs.alloc.Calls.{Al}
use Rattle.core.proofs.alloc.Shapes.{after}
use Rattle.core.proofs.atomic.Steps.{fm}
use Rattle.core.proofs.mem.Param.{El, R, el_x}
use Rattle.core.proofs.slots.Leases.{args, P}
use Rattle.core.proofs.slots.Opens.{Sr, row_val}
use Rattle.core.proofs.slots.Places.{sz}
use Rattle.core.proofs.slots.Slots.from_raw_parts.Met as callee
use Rattle.std.proofs.raw_atomic.Walks.{proved_at, leaves}
use Rattle.std_alloc.proofs.VecSteps.El as vecs
use Rattle.std_alloc.proofs.vec.Spares.{Row, From, at_from, Made, row_Typed, from_goes, from_gives}
use Rattle.byte_buffer.specs.Blocks.{IsOneOf}
use Rattle.byte_buffer.proofs.BlockWalks.{slot_at, start_val, start_made, mark, mark_own, mark_made, three_val, three_of}
use Rattle.byte_buffer.specs.contracts.block.Block as blocks
use Rattle.byte_buffer.specs.contracts.block.Deed as deeds
use Rattle.byte_buffer.specs.contracts.block.Start as starts
use Rattle.byte_buffer.specs.contracts.block.Block.none as f
use Rattle.byte_buffer.proofs.block.Block.none.Statement.{statement}
use Rattle.byte_buffer.proofs.block.Block.none.Code as code

pub none_spec : {M : Type 1} → statement M
none_spec 𝓤 𝓛 𝓜 𝓡 wired T A L LA g d dd met md =
    let H = 𝓛.H in let E : El = record { row = T; laws = L } in let Z : Al = record { row = A; laws = LA; g = g; d = d; drops = dd } in
    let V : vecs.El = record { row = T; laws = L; al = Z } in
    let end = f.ended T A g d dd in let c = f.clauses T A g d dd 𝓛 𝓜.mem 𝓡.returns in let 𝓣 = tables 𝓤 H 𝓜 𝓡 𝓡.env in
    let inst = args E Z in let fn = inst_fn inst code.function in let ps = end.signature.params in
    let stayed : Stays ps end.kept = (stay_dropped (slot_at 0 ps) end.kept.0, tt) in
    proved_at 𝓛 end stayed c 𝓜 𝓡 (Goes-dropped 𝓛 3 (slot_at 0 ps) end.kept.0 (λ κs x w. refl), tt)
    (f.Key.name inst) fn (code.unfolded 𝓤 H 𝓜 𝓡 wired (T, (A, tt)) d dd) (λ z are.
    let κ = z.0.0.0 in let q = z.0.1.0 in let κT = z.0.0.1.0 in let qT = z.0.1.1.0 in let κA = z.0.0.1.1.0 in let qA = z.0.1.1.1.0 in
    let a : A.Denot = z.0.3.0.now in let hp = z.0.3.0.ref_ptr in let Post = (walk_of 𝓛 end stayed c).post z in
    qed 𝓛 (((‵ (flft κ q) ⊛ ‵ (flft κT qT) ⊛ ‵ (flft κA qA) ⊛ ‵ ftrue) ⊛ ‵ (owns (types_at ps z.0.0) z.0.3 z.0.4))
    ∷ (raw (fact 𝓤 (κT ⊑ T.lives)) ⊛ raw (fact 𝓤 (κA ⊑ A.lives)) ⊛ ‵ ftrue) ∷ []) ∵
    move ! (1 ∷ []) $ split ! $ heard ! (κT ⊑ T.lives) (λ inT. drop ! $ split ! $ split3 ! $ move ! (3 ∷ []) $ drop ! $
    -- [the handle's token; the values' token; the others]
    regoal ! (λ (us : List Val). prop (WpFn 𝓤 H 𝓣.C 𝓣.Λ fn us Post)) (λ i. are.0.0 i ++ []) refl $
    enter ! 𝓣.C 𝓣.Λ fn (vptr hp.0 hp.1 ∷ []) Post $ alloc_all ! (λ l. pass_all ! refl ((tt, tt), tt) $ let En = env fn.locals l in
    let b : ℕ = l 2 in let p : Ptr = block_ptr b 0 in let words : WT (row_val b 0 0) = (tt, (record { fits = lit< tt }, tt)) in
    let no_values : List (el_x E) = [] in let no_flags : List Bool = [] in
    let Whole : RattleType = blocks.the_row (R E) (P E Z) g in let got : Val = three_val (start_val p) (row_val b 0 0) mark in
    let start : (starts.the_row (R E)).Denot = record { at = p; placed = refl } in
    let deed : (deeds.the_row (R E) (P E Z) g).Denot = record { by = record {}; at = p; len = 0; alloc = a } in
    sets ! (agg ! (no_more !)) refl (tt, tt) $ sets ! (addr ! (from ! (stop !))) refl (tt, tt) $ nothing ! $ move ! (0 ∷ 2 ∷ []) $
    let w = at_from V 𝓛 𝓜.mem 𝓡.returns κT qT b 0 0 no_values no_flags in
    use2 𝓛 (raw ((From V 𝓛 𝓜.mem 𝓡.returns).pre w)) (from_goes V 𝓛 𝓜.mem 𝓡.returns κT qT b 0 0 no_values no_flags inT refl refl (lit< tt)
    (omega (arith, zero-mul (sz E)))) $
    first ! $ blocks ! $
    calls_at_last ! (fm 𝓛 𝓜 𝓡) (From V 𝓛 𝓜.mem 𝓡.returns) (callee.met 𝓤 𝓛 𝓜 𝓡 (code.calls-core::slots::Slots::from_raw_parts 𝓡.env wired) T L) w
    (and_then ! (get ! refl) (and_then ! (lit ! tt) (no_more !))) (λ u.
    use1 𝓛 (later (some (λ (r : (Row V).Denot). given ((u ≡ row_val b 0 0) × Made V 𝓛 𝓜.mem 𝓡.returns κT qT b 0 0 no_values no_flags r)
    (‵ ((Row V).own_val r (row_val b 0 0 ∷ [])) ⊛ ‵ (flft κT qT)))))
    (from_gives V 𝓛 𝓜.mem 𝓡.returns κT qT b 0 0 no_values no_flags u) $ await ! tt $ pick ! (λ r. learn ! (λ made. split ! $
    -- [the row; the values' token; the handle's token; the others]
    lands_last ! refl (row_Typed V u b 0 0 made.0 (lit< tt)) $ exec ! 𝓣.C 𝓣.Λ En (after 3 fn.body) (at_ret En Post) $
    sets ! (is ! (of_opd ! (get ! refl)) made.0) refl (tt, words) $ sets ! (agg ! (and_then ! (get ! refl) (no_more !))) refl (tt, (tt, tt)) $
    sets ! (of_opd ! (get ! refl)) refl (tt, words) $ sets ! (agg ! (no_more !)) refl (tt, tt) $
    sets ! (agg ! (and_then ! (get ! refl) (no_more !))) refl (tt, (tt, tt)) $
    sets ! (agg ! (and_then ! (get ! refl) (and_then ! (get ! refl) (and_then ! (get ! refl) (no_more !))))) refl (tt, ((tt, tt), (words, ((tt, tt), tt)))) $
    returns ! (look_at ! 0 refl) $ free_all ! refl $ move ! (1 ∷ 3 ∷ []) $ join ! $ move ! (2 ∷ 0 ∷ []) $ join ! $ move ! (1 ∷ []) $
    let one : Whole.Denot = record { start = start; places = r; deed = deed } in
    -- [the row; the tokens]
    nothing ! $ use0 𝓛 (‵ (mark_own (mark ∷ []))) (mark_made 𝓛) $ fjoin ! $ move ! (1 ∷ 0 ∷ []) $
    use0 𝓛 (‵ ((starts.the_row (R E)).own_val start (start_val p ∷ []))) (start_made 𝓛 p) $
    use3 𝓛 (‵ (Whole.own_val one (got ∷ []))) (three_of 𝓛 (starts.the_row (R E)) (Sr E) (deeds.the_row (R E) (P E Z) g) start r deed (start_val p)
    (row_val b 0 0) mark) $
    use0 𝓛 (raw (fact 𝓤 (r.len ≡ 0))) (fact_i 𝓤 (r.len ≡ 0) (emp 𝓤) made.1.1) $
    use0 𝓛 (raw (fact 𝓤 (IsOneOf a one))) (fact_i 𝓤 (IsOneOf a one) (emp 𝓤)
    (record { starts = sym made.1.0; frees = record { at = sym made.1.0; all = sym made.1.1; by = refl } })) $ join ! $
    nothing ! $ nothing ! $ fjoin ! $ move ! (3 ∷ 0 ∷ 2 ∷ 1 ∷ []) $
    by ! (leaves 𝓛 end stayed c z got one (tt, tt) (tt, tt))))))))
