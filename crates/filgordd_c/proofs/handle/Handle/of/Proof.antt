-- `of` keeps the pointer.
use Rattle.bare_box.proofs.WalkWords.{List, [], ◌∷◌, ◌++◌, refl, sym, Sym, bare, Val, never, fst∗, ftrue, fsep, WpFn, sem, ‵, ◌⊛◌, ◌$◌, ◌∵◌, !, qed, move, keep, drop, split, join, fsplit, fjoin, rewrite, suffices, done, stop, fld, of_opd, no_more, and_then, returns, enter, alloc_all, pass_all, free_all, look_at, get, get_in, sets, agg, sub, whole, tables, yes, RattleType, plain, Ptr, null_ptr, in_a_block, nothing, layout, Stays, stay_dropped, walk_of, says, ends_at, Goes-dropped, proved_at, word, word-Good, word_had, word_made, Ptr-Good, Some}
use Rattle.filgordd_c.specs.contracts.live.Live as lives
use Rattle.bare_box.specs.BareBox.{bare_owns, may_free}
use Rattle.filgordd_c.specs.Handles.{handle_owns}
use Rattle.bare_box.specs.contracts.Bare as bares
use Rattle.filgordd_c.specs.contracts.handle.Handle as handles
use Rattle.filgordd_c.specs.contracts.handle.Handle.of as f
use Rattle.bare_box.proofs.MachineWords.{at_words}
use Rattle.filgordd_c.proofs.LiveBoxes.{E}
use Rattle.filgordd_c.proofs.handle.Handle.of.Statement.{statement}
use Rattle.filgordd_c.proofs.handle.Handle.of.Code as code

pub of_spec : {M : Type 1} → statement M
of_spec 𝓤 𝓛 𝓜 𝓡 wired =
    let 𝓣 = tables 𝓤 𝓛.H 𝓜 𝓡 𝓡.env in let R : RattleType = lives.the_row in let end = f.ended in let c = f.clauses 𝓛 𝓜.mem 𝓡.returns in
    let fn = code.function in let νb : Sym = (bares.the_type R).name in let νh : Sym = handles.the_type.name in
    let stayed : Stays end.signature.params end.kept = (stay_dropped _ yes, tt) in
    proved_at 𝓛 end stayed c 𝓜 𝓡 (Goes-dropped 𝓛 0 (plain (λ _. bares.the_row R)) yes (λ κs x w. refl), tt) f.Key.name fn
    (code.unfolded 𝓤 𝓛.H 𝓜 𝓡 wired) (λ y are.
    let p : Ptr = y.0.3.0.at in let x = y.0.3.0.value in
    let Post = (walk_of 𝓛 end stayed c).post y in let Run = λ (us : List Val). WpFn 𝓤 𝓛.H 𝓣.C 𝓣.Λ fn us Post in
    qed 𝓛 ((‵ ftrue ⊛ ‵ (fsep ((bares.the_row R).own_val y.0.3.0 y.0.4.0) ftrue)) ∷ ‵ ftrue ∷ []) ∵ move ! (1 ∷ []) $ drop ! $ split ! $ drop ! $
    fsplit ! $ fsplit ! $ word_had E νb p ! y.0.4.0 (λ ep.
    -- [the block; nothing]
    suffices ! (Run (word p ∷ [])) (at_words 𝓤 Run (word p ∷ []) _ (λ i. ep i ++ [])) $
    enter ! 𝓣.C 𝓣.Λ fn (word p ∷ []) Post $ alloc_all ! (λ l. pass_all ! refl (word-Good νb p, tt) $
    in_a_block ! p (λ r. bare_owns R r x) (fst∗ 𝓤 (never 𝓤) (sem 𝓛 (may_free (bare (layout R)) null_ptr))) (λ b o at.
    rewrite ! 0 (λ (r : Ptr). ‵ (handle_owns R r (Some x))) (sym at) refl $
    sets ! (of_opd ! (get_in ! (fld ! refl (stop !)) (sub ! 0 refl (whole !)))) refl (Ptr-Good p) $
    sets ! (of_opd ! (get ! refl)) refl (Ptr-Good p) $
    sets ! (agg ! (and_then ! (get ! refl) (no_more !))) refl (word-Good νh p) $
    word_made E νh p ! $ fjoin ! $ returns ! (look_at ! 0 refl) $ free_all ! refl $ keep ! (0 ∷ []) $
    suffices ! _ (ends_at 𝓛 end stayed c y (word p) (record { at = p; held = Some x }) (tt, tt) (tt, tt)) $ says ! refl $ nothing ! $ nothing ! $
    fjoin ! $ join ! $ nothing ! $ join ! $ done !))))
