-- `of` keeps the pointer of a box, and the right to free its block.
use Rattle.bare_box.proofs.WalkWords.{◌≡◌, List, [], ◌∷◌, ◌++◌, refl, Sym, a_type, dcons, dnil, Val, inst_fn, ftrue, fsep, flft, WpFn, ‵, raw, some, given, later, ◌⊛◌, ◌$◌, ◌∵◌, !, qed, move, keep, drop, split, join, fsplit, fjoin, pick, learn, suffices, use1, use2, await, done, of_opd, no_more, and_then, returns, enter, alloc_all, pass_all, free_all, look_at, get, sets, lands_as, agg, ◌⊑◌, fact, tables, no, RattleType, plain, Ptr, ptr_val, nothing, heard, bounded, calls_at, Stays, stay_dropped, walk_of, says, ends_at, Goes-dropped, fm, proved_at, ghosts, dict, box_out, box_in, word, word-Good, word_made, Ptr-Good}
use Rattle.std.proofs.impls.GlobalAllocator.TheImpl.Met.{passed}
use Rattle.std.specs.contracts.alloc.Global as heap
use Rattle.std_alloc.specs.contracts.boxed.Box as boxes
use Rattle.std_alloc.proofs.BoxSteps.Form as box
use Rattle.std_alloc.proofs.boxed.Box.into_raw.Met.{met}
use Rattle.bare_box.specs.BareBox.{bare_owns}
use Rattle.bare_box.proofs.Destruct++none.drop.Symbol.{glues}
use Rattle.bare_box.specs.contracts.Bare as F
use Rattle.bare_box.specs.contracts.Bare.of as f
use Rattle.bare_box.proofs.HeapBoxes.{Heap, Heap_laws, boxed, no_drop, Raw, to_raw, into_raw_asks, into_raw_gives}
use Rattle.bare_box.proofs.MachineWords.{at_words}
use Rattle.bare_box.proofs.Bare.of.Statement.{statement}
use Rattle.bare_box.proofs.Bare.of.Code as code

pub of_spec : {M : Type 1} → statement M
of_spec {M} 𝓤 𝓛 𝓜 𝓡 wired T L dT glue =
    let 𝓣 = tables 𝓤 𝓛.H 𝓜 𝓡 𝓡.env in let E = boxed T L in let B : RattleType = box.B E in let R : RattleType = box.R E in let end = f.ended T dT in
    let c = f.clauses T dT 𝓛 𝓜.mem 𝓡.returns in
    let ν : Sym = (F.the_type R).name in let stayed : Stays end.signature.params end.kept = (stay_dropped _ no, tt) in
    let inst = bounded (a_type ∷ []) (T, tt) (dcons dT dnil) in let fn = inst_fn inst code.function in
    let into_raw_met = met 𝓤 𝓛 𝓜 𝓡 (code.calls-std_alloc::boxed::Box::into_raw 𝓡.env wired) T Heap L Heap_laws ghosts dict no_drop dT
    (passed 𝓡.env (code.calls-std_heap::GlobalAllocator::allocate 𝓡.env wired) (code.calls-std_heap::GlobalAllocator::deallocate 𝓡.env wired)
    (code.calls-std_heap::GlobalAllocator::grow 𝓡.env wired) (code.calls-std_heap::GlobalAllocator::shrink 𝓡.env wired) M 𝓤 𝓛 𝓜 𝓡)
    (glues 𝓡.env (code.calls-bare_box::Destruct++none::drop 𝓡.env wired) Heap Heap_laws M 𝓤 𝓛 𝓜 𝓡) glue in
    proved_at 𝓛 end stayed c 𝓜 𝓡 (Goes-dropped 𝓛 1 (plain (λ _. boxes.the_row R heap.the_row ghosts)) no (λ κs x w. refl), tt) (f.Key.name inst) fn
    (code.unfolded 𝓤 𝓛.H 𝓜 𝓡 wired (T, tt) dT) (λ y are.
    let κ = y.0.0.0 in let q = y.0.1.0 in let v = y.0.3.0 in let Post = (walk_of 𝓛 end stayed c).post y in
    let Run = λ (us : List Val). WpFn 𝓤 𝓛.H 𝓣.C 𝓣.Λ fn us Post in
    qed 𝓛 (((‵ (flft κ q) ⊛ ‵ ftrue) ⊛ ‵ (fsep (B.own_val v y.0.4.0) ftrue)) ∷ (raw (fact 𝓤 (κ ⊑ T.lives)) ⊛ ‵ ftrue) ∷ []) ∵ move ! (1 ∷ []) $
    split ! $ heard ! (κ ⊑ T.lives) (λ within. drop ! $ split ! $ split ! $ move ! (2 ∷ []) $ fsplit ! $
    box_out E ! v y.0.4.0 (λ b o h at words fits. box_in E ! v b o v.value at refl $ let w = box.word E h b o in
    suffices ! (Run (w ∷ [])) (at_words 𝓤 Run (w ∷ []) _ (λ i. words i ++ [])) $
    enter ! 𝓣.C 𝓣.Λ fn (w ∷ []) Post $ alloc_all ! (λ l. pass_all ! refl (box.box_typed E h b o fits, tt) $
    sets ! (of_opd ! (get ! refl)) refl (box.box_typed E h b o fits) $
    -- [the box; nothing; the token; nothing]
    move ! (2 ∷ 0 ∷ []) $ use2 𝓛 (raw ((Raw T L 𝓛 𝓜.mem 𝓡.returns κ q within dT v w).pre (to_raw T L 𝓛 𝓜.mem 𝓡.returns κ q within dT v w)))
    (into_raw_asks T L 𝓛 𝓜.mem 𝓡.returns κ q within dT v w) $
    calls_at ! (fm 𝓛 𝓜 𝓡) (Raw T L 𝓛 𝓜.mem 𝓡.returns κ q within dT v w) into_raw_met (to_raw T L 𝓛 𝓜.mem 𝓡.returns κ q within dT v w)
    (and_then ! (get ! refl) (no_more !)) (λ u.
    use1 𝓛 (later (some (λ (p : Ptr). given (u ≡ ptr_val p) (‵ (bare_owns R p v.value) ⊛ ‵ (flft κ q)))))
    (into_raw_gives T L 𝓛 𝓜.mem 𝓡.returns κ q within dT v w u) $ await ! tt $ pick ! (λ p. learn ! (λ e. split ! $
    lands_as ! e refl (Ptr-Good p) $ sets ! (agg ! (and_then ! (get ! refl) (no_more !))) refl (word-Good ν p) $ word_made E ν p ! $ fjoin ! $
    returns ! (look_at ! 0 refl) $ free_all ! refl $ keep ! (0 ∷ 1 ∷ 2 ∷ []) $
    suffices ! _ (ends_at 𝓛 end stayed c y (word p) (record { at = p; value = v.value }) (tt, tt) (tt, tt)) $ says ! refl $ nothing ! $ nothing ! $
    fjoin ! $ join ! $ move ! (1 ∷ 2 ∷ []) $ join ! $ join ! $ done !)))))))
