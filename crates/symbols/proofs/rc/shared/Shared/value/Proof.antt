-- `value` shows what every owner shares.
use Rattle.bare_box.proofs.WalkWords.{◌+◌, List, [], ◌∷◌, ◌++◌, refl, sym, Sym, a_type, inst_fn, Val, vptr, id⊢, fst∗, never, fhide, ftrue, fat, flft, WpFn, sem, ‵, raw, ◌⊛◌, at_ret, ◌$◌, ◌∵◌, !, qed, move, keep, drop, split, join, fsplit, fjoin, fpick, suffices, use1, feq_i, rewrite, done, stop, fld, hop, addr, of_opd, first, blocks, exec, returns, enter, alloc_all, pass_all, free_all, look_at, get, through, sets, sets_last, env, sub, whole, look_in, tables, RefOf, yes, hidden_shr, shared_of, unhide, hide, layouts, RattleType, owns, Ptr, in_a_block, ◌+ₚ◌, types_at, plain, nothing, lent_at, Stays, stay_dropped, walk_of, says, ends_at, Goes-dropped, after, proved_at, Word, word, word_ty, reads, read}
use Rattle.symbols.specs.SharedBlock.{seen, value_offset, owner_lends}
use Rattle.symbols.specs.contracts.rc.shared.Shared as owners
use Rattle.symbols.specs.contracts.rc.shared.Shared.value as f
use Rattle.symbols.proofs.CountedBlock.{owner_sees}
use Rattle.bare_box.proofs.HeapBoxes.{boxed}
use Rattle.symbols.proofs.OwnerWalks.{at_words, R, LR}
use Rattle.symbols.proofs.rc.shared.Shared.value.Statement.{statement}
use Rattle.symbols.proofs.rc.shared.Shared.value.Code as code

pub value_spec : {M : Type 1} → statement M
value_spec 𝓤 𝓛 𝓜 𝓡 wired T L =
    let 𝓣 = tables 𝓤 𝓛.H 𝓜 𝓡 𝓡.env in let E = boxed T L in let Z : RattleType = R T L in let end = f.ended T in
    let c = f.clauses T 𝓛 𝓜.mem 𝓡.returns in let inst = layouts (a_type ∷ []) (T, tt) in let fn = inst_fn inst code.function in
    let ν : Sym = (owners.the_type Z).name in let stayed : Stays end.signature.params end.kept = (stay_dropped _ yes, tt) in
    proved_at 𝓛 end stayed c 𝓜 𝓡 (Goes-dropped 𝓛 2 (RefOf (0 ∷ []) tt (plain (λ _. owners.the_row Z)) (λ _. tt)) yes (λ κs x w. refl), tt)
    (f.Key.name inst) fn (code.unfolded 𝓤 𝓛.H 𝓜 𝓡 wired (T, tt)) (λ y are.
    let κ = y.0.0.0 in let q = y.0.1.0 in let others = ‵ (flft y.0.0.1.0 y.0.1.1.0) ⊛ ‵ ftrue in let p : Ptr = y.0.3.0.now.block in
    let x = y.0.3.0.now.value in let b = y.0.3.0.ref_ptr.0 in let o = y.0.3.0.ref_ptr.1 in let at = value_offset Z p x in
    let Post = (walk_of 𝓛 end stayed c).post y in let Run = λ (us : List Val). WpFn 𝓤 𝓛.H 𝓣.C 𝓣.Λ fn us Post in
    qed 𝓛 (((‵ (flft κ q) ⊛ others) ⊛ ‵ (owns (types_at end.signature.params y.0.0) y.0.3 y.0.4)) ∷ raw ((c y.0.0 y.0.3).requires y.1) ∷ []) ∵
    move ! (1 ∷ []) $ drop ! $ split ! $ split ! $ move ! (2 ∷ []) $ fsplit ! $ fsplit ! $ drop ! $
    use1 𝓛 (‵ (hidden_shr (Word E ν) κ (p, tt) b o) ⊛ ‵ (fhide (owner_lends Z p x κ))) (id⊢ 𝓤 _) $ split ! $
    -- [the word; what the `&` holds; nothing; the token; the others]
    suffices ! (Run (vptr b o ∷ [])) (at_words 𝓤 Run (vptr b o ∷ []) _ (λ i. are.0.0 i ++ [])) $
    move ! (1 ∷ []) $ unhide ! $ fpick ! (λ form. use1 𝓛 (‵ (seen Z p x κ)) (owner_sees Z (LR T L) p x 𝓛 κ form) $
    in_a_block ! p (λ r. lent_at Z (r +ₚ at) x κ) (fst∗ 𝓤 (never 𝓤) (sem 𝓛 (shared_of Z x 0 0 κ))) (λ cb co lies. fsplit ! $ drop ! $ hide ! $
    let got : Val = vptr cb (co + at) in
    -- [the value; the word; nothing; the token; the others]
    enter ! 𝓣.C 𝓣.Λ fn (vptr b o ∷ []) Post $ alloc_all ! (λ l. pass_all ! refl ((tt, tt), tt) $ move ! (1 ∷ 3 ∷ []) $
    reads E ν p ! tt b o (λ r. rewrite ! 0 (λ (s : Ptr). ‵ (fat r (word_ty ν) b o (word s))) lies refl $
    first ! $ blocks ! $ sets_last ! (addr ! (through ! refl (fld ! refl (hop ! (look_in ! 0 (sub ! 0 refl (whole !))) (fld ! refl (stop !)))))) refl
    (tt, tt) $
    exec ! 𝓣.C 𝓣.Λ (env fn.locals l) (after 1 fn.body) (at_ret (env fn.locals l) Post) $ sets ! (of_opd ! (get ! refl)) refl (tt, tt) $
    rewrite ! 0 (λ (s : Ptr). ‵ (fat r (word_ty ν) b o (word s))) (sym lies) refl $ read E ν p ! tt b o r $ move ! (1 ∷ []) $
    feq_i ! (List Val) (got ∷ []) (got ∷ []) refl $ fjoin ! $
    returns ! (look_at ! 0 refl) $ free_all ! refl $ keep ! (0 ∷ 1 ∷ 3 ∷ []) $
    suffices ! _ (ends_at 𝓛 end stayed c y got (record { ref_ptr = (cb, co + at); now = x }) (tt, tt) (tt, tt)) $
    says ! refl $ nothing ! $ nothing ! $ fjoin ! $ join ! $ move ! (1 ∷ 2 ∷ []) $ join ! $ join ! $ done !)))))
