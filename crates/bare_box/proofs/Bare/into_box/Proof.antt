-- `into_box` makes the box again.
use Rattle.bare_box.proofs.WalkWords.{◌≡◌, List, [], ◌∷◌, ◌++◌, refl, Sym, a_type, inst_fn, Val, ftrue, fsep, flft, WpFn, ‵, raw, some, given, later, at_ret, ◌⊛◌, ◌$◌, ◌∵◌, !, qed, move, keep, drop, split, join, fsplit, fjoin, pick, learn, suffices, use1, use3, await, done, stop, fld, of_opd, no_more, and_then, first, blocks, exec, returns, enter, alloc_all, pass_all, free_all, look_at, get, get_in, sets, lands_last, env, sub, whole, ◌⊑◌, fact, tables, yes, no, RattleType, plain, nothing, heard, layout, layouts, calls_at_last, Stays, stay_dropped, walk_of, says, ends_at, Goes-dropped, handle_tells, fm, Good, after, proved_at, ghosts, dict, word, word-Good, word_had, Ptr-Good}
use Rattle.std.proofs.impls.GlobalAllocator.TheImpl.Met.{passed}
use Rattle.std.specs.contracts.alloc.Global as heap
use Rattle.std_alloc.proofs.BoxSteps.Form as box
use Rattle.std_alloc.proofs.boxed.Box.from_raw.Met.{met}
use Rattle.bare_box.proofs.Destruct++none.drop.Symbol.{glues}
use Rattle.bare_box.specs.contracts.Bare as F
use Rattle.bare_box.specs.contracts.Bare.into_box as f
use Rattle.bare_box.proofs.HeapBoxes.{Heap, Heap_laws, handle, boxed, no_drop, Whole, to_box, from_raw_asks, from_raw_gives}
use Rattle.bare_box.proofs.MachineWords.{at_words}
use Rattle.bare_box.proofs.Bare.into_box.Statement.{statement}
use Rattle.bare_box.proofs.Bare.into_box.Code as code

pub into_box_spec : {M : Type 1} → statement M
into_box_spec {M} 𝓤 𝓛 𝓜 𝓡 wired T L =
    let 𝓣 = tables 𝓤 𝓛.H 𝓜 𝓡 𝓡.env in let E = boxed T L in let B : RattleType = box.B E in let R : RattleType = box.R E in let end = f.ended T in
    let c = f.clauses T 𝓛 𝓜.mem 𝓡.returns in
    let ν : Sym = (F.the_type R).name in let stayed : Stays end.signature.params end.kept = (stay_dropped _ no, (stay_dropped _ yes, tt)) in
    let inst = layouts (a_type ∷ []) (T, tt) in let fn = inst_fn inst code.function in
    let from_raw_met = met 𝓤 𝓛 𝓜 𝓡 (code.calls-std_alloc::boxed::Box::from_raw 𝓡.env wired) T Heap L Heap_laws ghosts dict no_drop
    (passed 𝓡.env (code.calls-std_heap::GlobalAllocator::allocate 𝓡.env wired) (code.calls-std_heap::GlobalAllocator::deallocate 𝓡.env wired)
    (code.calls-std_heap::GlobalAllocator::grow 𝓡.env wired) (code.calls-std_heap::GlobalAllocator::shrink 𝓡.env wired) M 𝓤 𝓛 𝓜 𝓡)
    (glues 𝓡.env (code.calls-bare_box::Destruct++none::drop 𝓡.env wired) Heap Heap_laws M 𝓤 𝓛 𝓜 𝓡) in
    proved_at 𝓛 end stayed c 𝓜 𝓡 (
      Goes-dropped 𝓛 1 (plain (λ _. F.the_row R)) no (λ κs x w. refl),
      (
        Goes-dropped 𝓛 1 (plain (λ _. heap.the_row)) yes
            (λ κs x w. refl),
        tt,
      ),
    ) (f.Key.name inst) fn (code.unfolded 𝓤 𝓛.H 𝓜 𝓡 wired (T, tt)) (λ y are.
    let κ = y.0.0.0 in let q = y.0.1.0 in let v = y.0.3.0 in let a = y.0.3.1.0 in let p = v.at in let x = v.value in
    let Post = (walk_of 𝓛 end stayed c).post y in let Run = λ (us : List Val). WpFn 𝓤 𝓛.H 𝓣.C 𝓣.Λ fn us Post in
    qed 𝓛 (((‵ (flft κ q) ⊛ ‵ ftrue) ⊛ ‵ (fsep ((F.the_row R).own_val v y.0.4.0) (fsep (Heap.own_val a y.0.4.1.0) ftrue))) ∷
    (raw (fact 𝓤 (κ ⊑ T.lives)) ⊛ ‵ ftrue) ∷ []) ∵
    move ! (1 ∷ []) $ split ! $ heard ! (κ ⊑ T.lives) (λ within. drop ! $ split ! $ split ! $ move ! (2 ∷ []) $ fsplit ! $ fsplit ! $
    word_had E ν p ! y.0.4.0 (λ ep. move ! (1 ∷ []) $ fsplit ! $ handle_tells handle ! a y.0.4.1.0 (λ h eh fits.
    -- [the handle; nothing; the block; the token; nothing]
    suffices ! (Run (word p ∷ h ∷ [])) (at_words 𝓤 Run (word p ∷ h ∷ []) _ (λ i. ep i ++ (eh i ++ []))) $
    enter ! 𝓣.C 𝓣.Λ fn (word p ∷ h ∷ []) Post $ alloc_all ! (λ l. pass_all ! refl (word-Good ν p, (fits, tt)) $ let Ev = env fn.locals l in
    sets ! (of_opd ! (get_in ! (fld ! refl (stop !)) (sub ! 0 refl (whole !)))) refl (Ptr-Good p) $ first ! $ blocks ! $ move ! (3 ∷ 2 ∷ 0 ∷ []) $
    use3 𝓛 (raw ((Whole T L 𝓛 𝓜.mem 𝓡.returns κ q within a h p x).pre (to_box T L 𝓛 𝓜.mem 𝓡.returns κ q within a h p x)))
    (from_raw_asks T L 𝓛 𝓜.mem 𝓡.returns κ q within a h p x) $
    calls_at_last ! (fm 𝓛 𝓜 𝓡) (Whole T L 𝓛 𝓜.mem 𝓡.returns κ q within a h p x) from_raw_met (to_box T L 𝓛 𝓜.mem 𝓡.returns κ q within a h p x)
    (and_then ! (get ! refl) (and_then ! (get ! refl) (no_more !))) (λ u.
    use1 𝓛 (later (some (λ (r : B.Denot). given ((r.value ≡ x) × Good (layout B) u) (‵ (B.own_val r (u ∷ [])) ⊛ ‵ (flft κ q)))))
    (from_raw_gives T L 𝓛 𝓜.mem 𝓡.returns κ q within a h p x u) $ await ! tt $ pick ! (λ r. learn ! (λ known. split ! $
    lands_last ! refl known.1 $ exec ! 𝓣.C 𝓣.Λ Ev (after 2 fn.body) (at_ret Ev Post) $ sets ! (of_opd ! (get ! refl)) refl known.1 $
    returns ! (look_at ! 0 refl) $ free_all ! refl $ keep ! (0 ∷ 1 ∷ 2 ∷ []) $
    suffices ! _ (ends_at 𝓛 end stayed c y u r (tt, (tt, tt)) (tt, (tt, tt))) $ says ! known.0 $ nothing ! $ nothing ! $ fjoin ! $ nothing ! $
    fjoin ! $ join ! $ move ! (1 ∷ 2 ∷ []) $ join ! $ join ! $ done !))))))))
