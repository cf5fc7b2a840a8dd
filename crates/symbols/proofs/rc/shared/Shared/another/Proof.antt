-- `another` makes one more owner, whom the block counts unless its count stays.
use contract.Running.{tables_of}
use Rattle.bare_box.proofs.WalkWords.{◌+◌, ◌<◌, ◌^◌, List, [], ◌∷◌, ◌++◌, Bool, false, refl, sym, ap, arith, Sym, a_type, inst_fn, Val, vptr, id⊢, every, fhide, ftrue, flft, ftok, WpFn, ‵, raw, ◌⊛◌, later, at_ret, ◌$◌, ◌∵◌, !, qed, move, keep, drop, split, join, group, fsplit, fjoin, fpack, suffices, use1, await, rewrite, frame, done, stop, fld, load, look, lit, neg_lit, bin, store, of_opd, and_then, no_more, assigns_last, first, blocks, branches, skips, exec, returns, enter, well_typed, alloc_all, pass_all, free_all, look_at, get, through, sets, is, env, agg, sub, whole, look_in, bare_unfolds, RefOf, yes, hidden_shr, layouts, RattleType, owns, Ptr, ptr_val, types_at, plain, nothing, Stays, stay_dropped, walk_of, says, ends_at, Goes-dropped, after, Word, word, word-Good, word_made, reads, read, is_not, is_so}
use Rattle.symbols.specs.SharedBlock.{most, count_at, owns_by, owner_owns, owner_lends}
use Rattle.symbols.specs.contracts.rc.shared.Shared as owners
use Rattle.symbols.specs.contracts.rc.shared.Shared.another as f
use Rattle.symbols.proofs.CountedBlock.{adds}
use Rattle.bare_box.proofs.HeapBoxes.{boxed}
use Rattle.symbols.proofs.OwnerWalks.{at_words, R, LR, opens, returned, reads_full}
use Rattle.symbols.proofs.TokenEntry.{inner, calls, asked, walks_with_token}
use Rattle.symbols.proofs.rc.shared.Shared.another.Statement.{statement}
use Rattle.symbols.proofs.rc.shared.Shared.another.Code as code
use Rattle.symbols.proofs.rc.shared.Shared.another.Code.{code}

pub another_spec : {M : Type 1} → statement M
unfolding tables_of code
another_spec 𝓤 𝓛 𝓜 𝓡 wired T L =
    let 𝓣 = calls 𝓛 𝓜 𝓡 in let E = boxed T L in let Z : RattleType = R T L in let LZ = LR T L in let end = f.ended T in
    let c = f.clauses T 𝓛 𝓜.mem 𝓡.returns in let inst = layouts (a_type ∷ []) (T, tt) in let fn = inst_fn inst code.function in
    let Out : RattleType = owners.the_row Z in let ν : Sym = (owners.the_type Z).name in
    let stayed : Stays end.signature.params end.kept = (stay_dropped _ yes, tt) in let held = asked 𝓛 𝓜 𝓡 end stayed c in
    walks_with_token 𝓛 𝓜 𝓡 end stayed c (Goes-dropped 𝓛 2 (RefOf (0 ∷ []) tt (plain (λ _. Out)) (λ _. tt)) yes (λ κs x w. refl), tt) (f.Key.name inst) fn
    (bare_unfolds 𝓤 𝓛.H (inner 𝓛 𝓜 𝓡).inner 𝓡.allowed 𝓡.how 𝓡.env (f.Key.name inst) fn (wired.0.0 (f.Key.name inst) refl)) (λ y are.
    let κ = y.0.0.0 in let q = y.0.1.0 in let others = ‵ (flft y.0.0.1.0 y.0.1.1.0) ⊛ ‵ ftrue in let p : Ptr = y.0.3.0.now.block in
    let x = y.0.3.0.now.value in let b = y.0.3.0.ref_ptr.0 in let o = y.0.3.0.ref_ptr.1 in
    let Post = (walk_of 𝓛 end stayed held).post y in let Run = λ (us : List Val). WpFn 𝓤 𝓛.H 𝓣.C 𝓣.Λ fn us Post in
    qed 𝓛 (((‵ (flft κ q) ⊛ others) ⊛ ‵ (owns (types_at end.signature.params y.0.0) y.0.3 y.0.4)) ∷ (‵ (ftok every) ⊛ raw
    ((c y.0.0 y.0.3).requires y.1)) ∷ []) ∵
    move ! (1 ∷ []) $ split ! $ move ! (1 ∷ []) $ drop ! $ move ! (1 ∷ []) $ split ! $ split ! $ move ! (2 ∷ []) $ fsplit ! $ fsplit ! $ drop ! $
    use1 𝓛 (‵ (hidden_shr (Word E ν) κ (p, tt) b o) ⊛ ‵ (fhide (owner_lends Z p x κ))) (id⊢ 𝓤 _) $ split ! $ move ! (0 ∷ 1 ∷ 3 ∷ 5 ∷ 4 ∷ []) $
    -- [the word; what the `&` holds; its token; the thread's; the others]
    suffices ! (Run (vptr b o ∷ [])) (at_words 𝓤 Run (vptr b o ∷ []) _ (λ i. are.0.0 i ++ [])) $
    enter ! 𝓣.C 𝓣.Λ fn (vptr b o ∷ []) Post $ alloc_all ! (λ l. pass_all ! refl ((tt, tt), tt) $
    let Ev = env fn.locals l in let made : Out.Denot = record { block = p; value = x } in
    opens T L p x ν κ q b o ! tt (λ a s r m cb co at low. well_typed ! (λ ok.
    -- [the count; the invariant; the word; the way back; the invariant once more; what is seen; the others]
    sets ! (is ! (of_opd ! (load ! (through ! refl (fld ! refl (stop !))) (look_in ! 2 (sub ! 0 refl (whole !))))) (ap ptr_val at)) refl (tt, tt) $
    sets ! (of_opd ! (get ! refl)) refl (tt, tt) $ first ! $ blocks ! $
    sets ! (of_opd ! (load ! (through ! refl (fld ! refl (stop !))) (look ! 0 refl))) refl ok $
    sets ! (bin ! (get ! refl) (neg_lit ! tt) tt) refl (tt, tt) $ branches ! (get ! refl)
    (λ below. let fits : m + 1 < 2 ^ 64 = omega (arith, low) in
    sets ! (bin ! (get ! refl) (lit ! tt) (record { fits = fits })) refl (tt, record { fits = fits }) $
    assigns_last ! (of_opd ! (get ! refl)) (through ! refl (fld ! refl (stop !))) (store ! 0 refl (tt, record { fits = fits })) $
    exec ! 𝓣.C 𝓣.Λ Ev (after 3 fn.body) (at_ret Ev Post) $
    sets ! (is ! (agg ! (and_then ! (get ! refl) (no_more !))) (ap word (sym at))) refl (word-Good ν p) $
    rewrite ! 0 (λ (s' : Ptr). ‵ (count_at s' (m + 1))) (sym at) refl $ move ! (0 ∷ 1 ∷ 4 ∷ 5 ∷ []) $ group ! 4 $
    use1 𝓛 (later (‵ (ftok every) ⊛ ‵ (owner_owns Z p x))) (adds Z LZ p x 𝓛 a m low) $ await ! tt $ split ! $
    move ! (2 ∷ 3 ∷ []) $ returned T L p x ν κ q b o ! tt a s r $
    -- [the `&`'s token; the thread's; the new owner; the others]
    move ! (2 ∷ []) $ word_made E ν p ! $ fjoin ! $
    returns ! (look_at ! 0 refl) $ free_all ! refl $ keep ! (0 ∷ 1 ∷ 3 ∷ 2 ∷ []) $
    suffices ! _ (ends_at 𝓛 end stayed held y (word p) made (tt, tt) (tt, tt)) $ nothing ! $ nothing ! $ fjoin ! $
    join ! $ move ! (1 ∷ 2 ∷ []) $ join ! $ join ! $ frame ! $ says ! refl $ done !)
    (λ full. absurd (omega (arith, low, is_so m most full)))))
    (reads_full T L p x ! tt (λ r' cb co at. move ! (2 ∷ 3 ∷ []) $ reads E ν p ! tt b o (λ r. move ! (2 ∷ []) $ well_typed ! (λ ok.
    -- [the count; the word; its way back; what stays; the thread's token; the others]
    sets ! (is ! (of_opd ! (load ! (through ! refl (fld ! refl (stop !))) (look_in ! 1 (sub ! 0 refl (whole !))))) (ap ptr_val at)) refl (tt, tt) $
    sets ! (of_opd ! (get ! refl)) refl (tt, tt) $ first ! $ blocks ! $
    sets ! (of_opd ! (load ! (through ! refl (fld ! refl (stop !))) (look ! 0 refl))) refl ok $
    sets ! (bin ! (get ! refl) (neg_lit ! tt) tt) refl (tt, tt) $ branches ! (get ! refl)
    (λ below. absurd (is_not most most below refl))
    (λ full. skips ! $ exec ! 𝓣.C 𝓣.Λ Ev (after 3 fn.body) (at_ret Ev Post) $
    sets ! (is ! (agg ! (and_then ! (get ! refl) (no_more !))) (ap word (sym at))) refl (word-Good ν p) $
    move ! (1 ∷ 2 ∷ []) $ read E ν p ! tt b o r $ move ! (2 ∷ []) $ fpack ! Bool (owns_by Z p x) false $
    -- [the new owner; the `&`'s token; the count; the thread's token; the others]
    word_made E ν p ! $ fjoin ! $
    returns ! (look_at ! 0 refl) $ free_all ! refl $ keep ! (0 ∷ 1 ∷ 4 ∷ 3 ∷ []) $
    suffices ! _ (ends_at 𝓛 end stayed held y (word p) made (tt, tt) (tt, tt)) $ nothing ! $ nothing ! $ fjoin ! $
    join ! $ move ! (1 ∷ 2 ∷ []) $ join ! $ join ! $ frame ! $ says ! refl $ done !)))))))
