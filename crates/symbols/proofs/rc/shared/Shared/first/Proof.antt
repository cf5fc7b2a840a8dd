-- `first` makes the first owner of a block whose count is 1.
use Rattle.bare_box.proofs.WalkWords.{◌≡◌, ℕ, List, [], ◌∷◌, ◌++◌, refl, sym, Sym, a_type, inst_fn, bare, Val, never, fst∗, fsep, ftrue, flft, WpFn, sem, ‵, raw, ◌⊛◌, later, ◌$◌, ◌∵◌, !, qed, move, keep, split, join, fsplit, fjoin, suffices, use1, use3, await, rewrite, done, stop, fld, of_opd, and_then, no_more, returns, enter, alloc_all, pass_all, free_all, look_at, get, get_in, sets, agg, sub, whole, ◌⊑◌, fact, tables, no, RattleType, plain, Ptr, block_ptr, null_ptr, in_a_block, nothing, heard, layout, layouts, Stays, stay_dropped, walk_of, says, ends_at, Goes-dropped, proved_at, word, word-Good, word_had, word_made, Ptr-Good}
use Rattle.symbols.specs.SharedBlock.{rest, owner_owns}
use Rattle.bare_box.specs.BareBox.{bare_owns, may_free}
use Rattle.bare_box.specs.contracts.Bare as bares
use Rattle.symbols.specs.contracts.rc.shared.Shared as owners
use Rattle.symbols.specs.contracts.rc.shared.Shared.first as f
use Rattle.symbols.proofs.BlockFields.{Block, apart}
use Rattle.symbols.proofs.CountedBlock.{word_at, founded}
use Rattle.bare_box.proofs.HeapBoxes.{boxed}
use Rattle.symbols.proofs.OwnerWalks.{at_words, R, LR}
use Rattle.symbols.proofs.rc.shared.Shared.first.Statement.{statement}
use Rattle.symbols.proofs.rc.shared.Shared.first.Code as code

pub first_spec : {M : Type 1} → statement M
first_spec 𝓤 𝓛 𝓜 𝓡 wired T L =
    let 𝓣 = tables 𝓤 𝓛.H 𝓜 𝓡 𝓡.env in let E = boxed T L in let B : RattleType = Block T in let end = f.ended T in
    let c = f.clauses T 𝓛 𝓜.mem 𝓡.returns in let inst = layouts (a_type ∷ []) (T, tt) in let fn = inst_fn inst code.function in
    let νb : Sym = (bares.the_type B).name in let νo : Sym = (owners.the_type (R T L)).name in
    let stayed : Stays end.signature.params end.kept = (stay_dropped _ no, tt) in
    proved_at 𝓛 end stayed c 𝓜 𝓡 (Goes-dropped 𝓛 1 (plain (λ _. bares.the_row B)) no (λ κs x w. refl), tt) (f.Key.name inst) fn
    (code.unfolded 𝓤 𝓛.H 𝓜 𝓡 wired (T, tt)) (λ y are.
    let κ = y.0.0.0 in let q = y.0.1.0 in let p : Ptr = y.0.3.0.at in let d = y.0.3.0.value in let x = d.value in
    let Post = (walk_of 𝓛 end stayed c).post y in let Run = λ (us : List Val). WpFn 𝓤 𝓛.H 𝓣.C 𝓣.Λ fn us Post in
    qed 𝓛 (((‵ (flft κ q) ⊛ ‵ ftrue) ⊛ ‵ (fsep ((bares.the_row B).own_val y.0.3.0 y.0.4.0) ftrue)) ∷ (raw (fact 𝓤 (κ ⊑ T.lives)) ⊛ raw
    (fact 𝓤 (d.owners ≡ 1))) ∷ []) ∵
    move ! (1 ∷ []) $ split ! $ heard ! (κ ⊑ T.lives) (λ within. heard ! (d.owners ≡ 1) (λ one. split ! $ split ! $ move ! (2 ∷ []) $ fsplit ! $
    fsplit ! $ word_had E νb p ! y.0.4.0 (λ ep.
    -- [the block; nothing; the token; nothing]
    suffices ! (Run (word p ∷ [])) (at_words 𝓤 Run (word p ∷ []) _ (λ i. ep i ++ [])) $
    enter ! 𝓣.C 𝓣.Λ fn (word p ∷ []) Post $ alloc_all ! (λ l. pass_all ! refl (word-Good νb p, tt) $
    in_a_block ! p (λ r. bare_owns B r d) (fst∗ 𝓤 (never 𝓤) (sem 𝓛 (may_free (bare (layout B)) null_ptr))) (λ b o at. let c' : Ptr = block_ptr b o in
    use1 𝓛 (‵ (word_at b o d.owners) ⊛ ‵ (rest (R T L) c' x)) (apart T L 𝓛 b o d) $ split ! $ rewrite ! 0 (λ (n : ℕ). ‵ (word_at b o n)) one refl $
    move ! (0 ∷ 1 ∷ 3 ∷ []) $
    use3 𝓛 (later (‵ (owner_owns (R T L) c' x) ⊛ ‵ (flft κ q))) (founded (R T L) (LR T L) c' x 𝓛 κ q within) $ await ! tt $ split ! $
    rewrite ! 0 (λ (r : Ptr). ‵ (owner_owns (R T L) r x)) (sym at) refl $
    sets ! (of_opd ! (get_in ! (fld ! refl (stop !)) (sub ! 0 refl (whole !)))) refl (Ptr-Good p) $
    sets ! (agg ! (and_then ! (get ! refl) (no_more !))) refl (word-Good νo p) $
    word_made E νo p ! $ fjoin ! $ returns ! (look_at ! 0 refl) $ free_all ! refl $ keep ! (0 ∷ 1 ∷ 2 ∷ []) $
    suffices ! _ (ends_at 𝓛 end stayed c y (word p) (record { block = p; value = x }) (tt, tt) (tt, tt)) $ says ! refl $ nothing ! $ nothing ! $
    fjoin ! $ join ! $ move ! (1 ∷ 2 ∷ []) $ join ! $ join ! $ done !))))))
