-- `write` stores an array at once over a run of places, whatever they held. Assumes `Logic`.
use Rattle.std.proofs.Common.{◌≡◌, ℕ, ◌+◌, ◌-◌, ◌*◌, ◌^◌, ◌≤◌, ◌<◌, true, false, List, [], ◌∷◌, ◌++◌, length, replicate, refl, sym, ap, ◌∙◌, arith, subst, w64}
use mir.Syntax.{a_type, a_number, ty_array}
use mir.Val.{Val, vint, vptr, vunit}
use mir.MapTy.{inst_fn}
use base.Fraction.{full_share}
use base.Logic.{via}
use base.Fml.{ftrue, fat, froom, flft}
use prog.Wp.{WpFn}
use contract.BorrowLft.{◌⊑◌}
use contract.Monad.{fact}
use contract.Running.{tables}
use types.Kit.{‵, raw, ◌⊛◌, given, prop, at_ret, ◌$◌, ◌∵◌, !, qed, move, keep, drop, use1, use2, split, split3, join, learn, regoal, rewrite, fsplit, fsplit3, fjoin, fjoin3, feq_i, suffices, done}
use types.Part.{whole, sub}
use types.Run.{init, stop, fld, size_word, unit_lit, bin, of_opd, assigns_last, first, blocks, exec, returns, enter}
use types.ByLocal.{alloc_all, pass_all, free_all, look_at, get, get_in, through, is, sets, take_at, give_at, env}
use denote.Array.{Array}
use denote.Exit.{all_rest}
use denote.Index.{row}
use denote.Memory.{part_at}
use denote.Param.{ArrayAt, layout, layouts, number, param}
use denote.Param.Laws.{param_laws, array_at_laws}
use denote.RattleType.{RattleType, owns}
use denote.RawPtr.{Ptr, block_ptr, block_of, count_of}
use denote.Signature.{plain, types_at}
use denote.Steps.{nothing, heard}
use denote.Triple.Walked.{Stays, stay_dropped, stay_ref, walk_of, says, ends_at, Goes-dropped, Goes-ref}
use borrow.Table.OneValue.{part_in}
use lib.ListN.{length-replicate, get_or-replicate}
use Rattle.core.specs.Mem.Slots.Ownership.{slots}
use Rattle.core.proofs.alloc.Shapes.{after}
use Rattle.core.proofs.mem.Param.{El, R, elτ}
use Rattle.core.proofs.ptr.Rows as arrays
use Rattle.core.proofs.slots.Leases.{uncapped}
use Rattle.core.proofs.slots.Opens.{Sr, el_d, places, row_opens, row_closes}
use Rattle.core.proofs.slots.Places.{sz}
use Rattle.core.proofs.slots.Runs.{run as part, spliced, run_long, spliced_long, inside, outside, Around, run_out, run_in, of_values, to_space}
use Rattle.std.proofs.raw_atomic.Walks.{proved_at}
use Rattle.byte_buffer.proofs.BlockWalks.{slot_at, start_val, start_told, alone, nothing_left}
use Rattle.byte_buffer.specs.contracts.block.Start as starts
use Rattle.byte_buffer.specs.contracts.block.write as f
use Rattle.byte_buffer.proofs.block.write.Statement.{statement}
use Rattle.byte_buffer.proofs.block.write.Code as code

pub write_spec : {M : Type 1} → statement M
write_spec 𝓤 𝓛 𝓜 𝓡 wired T N L fN =
    let H = 𝓛.H in let E : El = record { row = T; laws = L } in let N' : RattleType = number N in let end = f.ended T N' in
    let c = f.clauses T N' 𝓛 𝓜.mem 𝓡.returns in
    let 𝓣 = tables 𝓤 H 𝓜 𝓡 𝓡.env in let inst = layouts (a_type ∷ a_number ∷ []) (T, (N', tt)) in let fn = inst_fn inst code.function in
    let ps = end.signature.params in
    let stayed : Stays ps end.kept = (
      stay_ref (0 ∷ []) tt (plain (λ _. Sr E)),
      (stay_dropped (slot_at 1 ps) end.kept.1.0, (stay_dropped (slot_at 2 ps) end.kept.1.1.0, (stay_dropped (slot_at 3 ps) end.kept.1.1.1.0, tt))),
    ) in
    proved_at 𝓛 end stayed c 𝓜 𝓡 (
      Goes-ref 𝓛 3 0 tt (plain (λ _. Sr E)),
      (
        Goes-dropped 𝓛 3 (slot_at 1 ps) end.kept.1.0 (λ κs x w. refl),
        (Goes-dropped 𝓛 3 (slot_at 2 ps) end.kept.1.1.0 (λ κs x w. refl), (λ κs x w vs ok. via 𝓤 _ (nothing_left 𝓛 x w) (𝓛.laws.⇛_intro _), tt)),
      ),
    ) (f.Key.name inst) fn (code.unfolded 𝓤 H 𝓜 𝓡 wired (T, (N', tt))) (λ z are.
    let κ = z.0.0.0 in let q = z.0.1.0 in let κT = z.0.0.1.0 in let qT = z.0.1.1.0 in let κN = z.0.0.1.1.0 in let qN = z.0.1.1.1.0 in
    let rb : ℕ = z.0.3.0.ref_ptr.0 in let ro : ℕ = z.0.3.0.ref_ptr.1 in let h : el_d E = z.0.3.0.now in let start = z.0.3.1.0 in let to : ℕ = z.0.3.1.1.0 in
    let xs : List T.Denot = z.0.3.1.1.1.0 in let p : Ptr = start.at in let s = sz E in let Arr : RattleType = ArrayAt (R E) (param 1 N') in
    let Post = (walk_of 𝓛 end stayed c).post z in let fits : to < 2 ^ 64 = are.1.1.0.1 in
    let only = alone (ty_array (elτ E) N) z.0.4.1.1.1.0 (((array_at_laws 1 (R E) (param_laws 0 T L) N).lawful 𝓛).typed xs z.0.4.1.1.1.0 are.1.1.1.0) in
    let v : Val = only.0 in let good = only.2 in
    let Narrow : Type 0 = N * s < 2 ^ 63 in let Begins : Type 0 = p ≡ h.ptr in let Room : Type 0 = to + N ≤ h.len in
    qed 𝓛 (((‵ (flft κ q) ⊛ ‵ (flft κT qT) ⊛ ‵ (flft κN qN) ⊛ ‵ ftrue) ⊛ ‵ (owns (types_at ps z.0.0) z.0.3 z.0.4))
    ∷ (raw (fact 𝓤 (κT ⊑ T.lives)) ⊛ raw (fact 𝓤 (κN ⊑ [])) ⊛ raw (fact 𝓤 Narrow) ⊛ raw (fact 𝓤 Begins) ⊛ raw (fact 𝓤 Room)) ∷ []) ∵
    move ! (1 ∷ []) $ split3 ! $ drop ! $ drop ! $ split3 ! $ drop ! $ heard ! Begins (λ begins. heard ! Room (λ within. split ! $ split3 ! $ move ! (3 ∷ []) $
    fsplit ! $ fsplit3 ! $ drop ! $
    move ! (2 ∷ []) $ fsplit ! $ drop ! $ fsplit ! $ drop ! $ fsplit ! $ rewrite ! 0 (λ (us : List Val). ‵ (Arr.own_val xs us)) only.1 refl $
    keep ! (2 ∷ 3 ∷ 4 ∷ 0 ∷ 5 ∷ 6 ∷ []) $
    -- [obs; the borrow; its token; the array; the values' token; the others]
    regoal ! (λ (us : List Val). prop (WpFn 𝓤 H 𝓣.C 𝓣.Λ fn us Post))
    (λ i. are.0.0 i ++ ((start_told p z.0.4.1.0 are.1.0 ∙ ap (λ (r : Ptr). start_val r ∷ []) start.placed) i ++ (are.1.1.0.0 i ++ (only.1 i ++ [])))) refl $
    enter ! 𝓣.C 𝓣.Λ fn (vptr rb ro ∷ start_val (block_ptr (block_of p) (count_of p)) ∷ vint w64 to ∷ v ∷ []) Post $
    alloc_all ! (λ l. pass_all ! refl ((tt, tt), ((tt, (tt, tt)), ((tt, record { fits = fits }), (good, tt)))) $ let En = env fn.locals l in
    row_opens E ! tt h rb ro (λ b o at_b wide fit.
    let gx = h.ok.0 in let gf = h.ok.1 in
    let fgx : to + N ≤ length h.items = omega (arith, within, gx) in let fgf : to + N ≤ length h.filled = omega (arith, within, gf) in
    let far : to * s < 2 ^ 63 = arrays.times_below to h.len s (2 ^ 63) (omega (arith, within)) fit in let fm : to * s < 2 ^ 64 = omega (arith, far) in
    let dst : ℕ = to * s + o in
    take_at ! 2 $ rewrite ! 0 (λ (r : Ptr). ‵ (fat full_share (layout (starts.the_row (R E))) (l 2) 0 (start_val r))) (sym start.placed ∙ begins ∙ at_b) refl $
    give_at ! 2 $
    first ! $ blocks ! $
    sets ! (is ! (bin ! (get ! refl) (size_word !) (record { fits = subst (λ (k : ℕ). k < 2 ^ 64) (sym (uncapped to s fm)) fm }))
    (ap (vint w64) (uncapped to s fm))) refl (tt, record { fits = fm }) $
    sets ! (bin ! (get_in ! (fld ! refl (stop !)) (sub ! 0 refl (whole !))) (get ! refl) tt) refl (tt, tt) $ sets ! (of_opd ! (get ! refl)) refl good $
    use1 𝓛 (‵ (slots (R E) (block_ptr b dst) (part h.items to N) (part h.filled to N)) ⊛ ‵ (Around E 𝓛 b o h.items h.filled to N))
    (run_out E 𝓛 b o h.items h.filled to N fgx (omega (arith, gx, gf))) $ split ! $
    use1 𝓛 (‵ (froom (ty_array (elτ E) N) b dst)) (to_space E 𝓛 b dst N _ (run_long h.items to N fgx) _ (run_long h.filled to N fgf)) $
    -- [the room; the other places; the two words; the open borrow; obs; auth; the array; the values' token; the others]
    assigns_last ! (of_opd ! (get ! refl)) (through ! refl (stop !)) (init ! 0 refl good) $
    exec ! 𝓣.C 𝓣.Λ En (after 1 fn.body) (at_ret En Post) $ sets ! (of_opd ! (unit_lit !)) refl (tt, tt) $ move ! (0 ∷ 6 ∷ []) $
    use2 𝓛 (‵ (part_at (Array (R E) N) full_share xs b dst)) (part_in 𝓛 (Array (R E) N) refl full_share xs b dst v) $
    let E' : arrays.El = record { row = T; laws = L } in
    use1 𝓛 (given (length xs ≡ N) (‵ (row (R E) full_share xs b dst))) (arrays.apart E' 𝓛 full_share N xs b dst) $ learn ! (λ counted.
    use1 𝓛 (‵ (part_at (Array (R E) N) full_share xs b dst)) (arrays.whole E' 𝓛 full_share N xs b dst counted) $
    use1 𝓛 (‵ (slots (R E) (block_ptr b dst) xs (replicate N true))) (of_values E 𝓛 b dst N xs counted) $
    let all = length-replicate N true in
    let new : el_d E = record {
      ptr = h.ptr;
      len = h.len;
      items = spliced h.items to N xs;
      filled = spliced h.filled to N (replicate N true);
      ok = (gx ∙ sym (spliced_long h.items to N fgx xs counted), gf ∙ sym (spliced_long h.filled to N fgf _ all));
      small = h.small;
    } in
    use2 𝓛 (‵ (places E new b o)) (run_in E 𝓛 b o h.items h.filled to N fgx (omega (arith, gx, gf)) xs _ counted all) $
    row_closes E ! tt new b o rb ro at_b wide fit $
    returns ! (look_at ! 0 refl) $ free_all ! refl $
    suffices ! _ (ends_at 𝓛 end stayed c z vunit tt (new, (tt, (tt, (all_rest (λ _. Unit {0}) (λ _. tt) xs, tt)))) (tt, (tt, (tt, (tt, tt))))) $
    says ! (record {
      items = refl;
      inside = λ k u lt. inside h.filled to N fgf _ all k false u lt ∙ get_or-replicate N (k - to) true false (omega (arith, u, lt));
      outside = λ k out. outside h.filled to N fgf _ all k false out;
      places = record { start = refl; count = refl };
    }) $
    -- [obs; the borrow; its token; the values' token; the others]
    feq_i ! (List Val) z.0.4.0 (vptr rb ro ∷ []) are.0.0 $ fjoin3 ! $ nothing ! $ nothing ! $ fjoin ! $ nothing ! $ fjoin ! $ nothing ! $ fjoin ! $
    move ! (1 ∷ 0 ∷ []) $ fjoin ! $
    move ! (2 ∷ 3 ∷ []) $ join ! $ move ! (2 ∷ 0 ∷ []) $ join ! $ feq_i ! (List Val) (vunit ∷ []) (vunit ∷ []) refl $ keep ! (1 ∷ 2 ∷ 0 ∷ []) $ done !))))))
