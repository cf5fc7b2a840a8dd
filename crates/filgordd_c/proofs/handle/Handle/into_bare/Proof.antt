-- `into_bare` tells null from a block.
use Rattle.bare_box.proofs.WalkWords.{◌≡◌, ℕ, List, [], ◌∷◌, ◌++◌, refl, sym, lit<, Sym, bare, Val, vcons, vnil, ent, ftrue, fsep, WpFn, sem, ‵, given, at_ret, ◌⊛◌, ◌$◌, ◌∵◌, !, qed, move, keep, drop, split, join, fsplit, fjoin, fpick, fpack, learn, suffices, done, use0, use1, stop, fld, lit, bin, of_opd, no_more, and_then, first, branches, exec, returns, enter, alloc_all, pass_all, free_all, look_at, get, get_in, sets, sets_last, env, live, agg, sub, whole, tables, yes, RattleType, plain, Ptr, null_ptr, block_ptr, nothing, layout, Stays, stay_dropped, walk_of, says, ends_at, Goes-dropped, proved_at, word, word_ty, word-Good, word_had, word_made, Ptr-Good, some_Good, Some, None, Some-of, none_of, after, ghosts}
use base.Logic.{never_e, via, snd∗, guard, guard_i, SProp}
use contract.Monad.{fact_use}
use denote.RawPtr.{Testable, tests_null, lies_at}
use types.Kit.{by}
use base.Fraction.{full_share}
use Rattle.std.specs.Prelude.{Option}
use Rattle.std.specs.declared.alloc.Global.{Global}
use Rattle.std.proofs.GlobalToken.{dealloc_token-Testable}
use Rattle.std_alloc.specs.Box.Ownership.{box_owns}
use Rattle.filgordd_c.specs.contracts.live.Live as lives
use Rattle.core.specs.contracts.option.Option as options
use Rattle.bare_box.specs.BareBox.{bare_owns}
use Rattle.filgordd_c.specs.Handles.{handle_owns}
use Rattle.bare_box.specs.contracts.Bare as bares
use Rattle.filgordd_c.specs.contracts.handle.Handle as handles
use Rattle.filgordd_c.specs.contracts.handle.Handle.into_bare as f
use Rattle.bare_box.proofs.MachineWords.{at_words}
use Rattle.filgordd_c.proofs.LiveBoxes.{E}
use Rattle.filgordd_c.proofs.handle.Handle.into_bare.Statement.{statement}
use Rattle.filgordd_c.proofs.handle.Handle.into_bare.Code as code

abbrev R : RattleType
R = lives.the_row

tested : {M : Type 1} {𝓤 : seplogic.Ra.Ura.Ura M} (𝓛 : types.Logic.Logic 𝓤) (a : Global) (p : Ptr) (x : R.Denot)
    → ent 𝓤 (sem 𝓛 (box_owns (ghosts.dealloc_token a) R p x)) (guard 𝓤 (Testable p) (sem 𝓛 (box_owns (ghosts.dealloc_token a) R p x)))
tested {𝓤 = 𝓤} 𝓛 a p x = let B : SProp 𝓤 = sem 𝓛 (box_owns (ghosts.dealloc_token a) R p x) in
    fact_use 𝓤 (Testable p) (via 𝓤 _ (snd∗ 𝓤 (sem 𝓛 (lies_at R full_share p x)) (sem 𝓛 (ghosts.dealloc_token a (bare (layout R)) p)))
    (dealloc_token-Testable 𝓛 a (bare (layout R)) p)) (guard_i 𝓤 (Testable p) B)

pub into_bare_spec : {M : Type 1} → statement M
into_bare_spec 𝓤 𝓛 𝓜 𝓡 wired =
    let 𝓣 = tables 𝓤 𝓛.H 𝓜 𝓡 𝓡.env in let end = f.ended in let c = f.clauses 𝓛 𝓜.mem 𝓡.returns in
    let fn = code.function in let νb : Sym = (bares.the_type R).name in let νh : Sym = handles.the_type.name in let Out : RattleType = bares.the_row R in
    let stayed : Stays end.signature.params end.kept = (stay_dropped _ yes, tt) in
    proved_at 𝓛 end stayed c 𝓜 𝓡 (Goes-dropped 𝓛 0 (plain (λ _. handles.the_row)) yes (λ κs x w. refl), tt) f.Key.name fn
    (code.unfolded 𝓤 𝓛.H 𝓜 𝓡 wired) (λ y are.
    let Post = (walk_of 𝓛 end stayed c).post y in let Run = λ (us : List Val). WpFn 𝓤 𝓛.H 𝓣.C 𝓣.Λ fn us Post in
    let p₀ : Ptr = y.0.3.0.at in let h₀ : Option R.Denot = y.0.3.0.held in
    let null_walk : h₀ ≡ None → ent 𝓤 (sem 𝓛 ftrue) (Run (word null_ptr ∷ [])) = λ same.
    qed 𝓛 (‵ ftrue ∷ []) ∵ drop ! $ enter ! 𝓣.C 𝓣.Λ fn (word null_ptr ∷ []) Post $ alloc_all ! (λ l. pass_all ! refl (word-Good νh null_ptr, tt) $
    let Ev = env fn.locals l in
    sets ! (of_opd ! (get_in ! (fld ! refl (stop !)) (sub ! 0 refl (whole !)))) refl (Ptr-Good null_ptr) $
    sets ! (bin ! (get ! refl) (lit ! tt) tt) refl (tt, tt) $ first ! $ branches ! (get ! refl)
    (λ _. sets_last ! (agg ! (and_then ! (lit ! tt) (no_more !))) refl (tt, (record { fits = lit< tt }, tt)) $
    exec ! 𝓣.C 𝓣.Λ Ev (after 3 fn.body) (at_ret Ev Post) $ sets ! (of_opd ! (get ! refl)) refl (tt, (record { fits = lit< tt }, tt)) $
    use0 𝓛 (‵ ((options.the_row Out).own_val None (live 0 vnil ∷ []))) (none_of 𝓛 Out) $ returns ! (look_at ! 0 refl) $ free_all ! refl $ keep ! (0 ∷ []) $
    suffices ! _ (ends_at 𝓛 end stayed c y (live 0 vnil) None (tt, tt) (tt, tt)) $ says ! (sym same) $ nothing ! $ nothing ! $ fjoin ! $ join ! $ nothing ! $ join ! $ done !)
    (λ wrong. absurd wrong)) in
    let block_walk : (b o : ℕ) (x : R.Denot) → h₀ ≡ Some x → ent 𝓤 (sem 𝓛 (bare_owns R (block_ptr b o) x)) (Run (word (block_ptr b o) ∷ [])) = λ b o x same.
    let p : Ptr = block_ptr b o in
    qed 𝓛 (‵ (bare_owns R p x) ∷ []) ∵ fsplit ! $ move ! (1 ∷ []) $ fpick ! (λ heap. move ! (1 ∷ 0 ∷ []) $ fjoin ! $
    use1 𝓛 (given (Testable p) (‵ (box_owns (ghosts.dealloc_token heap) R p x))) (tested 𝓛 heap p x) $ learn ! (λ t. fsplit ! $ move ! (1 ∷ []) $
    fpack ! Global (λ (k : Global). ghosts.dealloc_token k (bare (layout R)) p) heap $ move ! (1 ∷ 0 ∷ []) $ fjoin ! $
    enter ! 𝓣.C 𝓣.Λ fn (word p ∷ []) Post $ alloc_all ! (λ l. pass_all ! refl (word-Good νh p, tt) $ let Ev = env fn.locals l in
    let made : Out.Denot = record { at = p; value = x } in
    sets ! (of_opd ! (get_in ! (fld ! refl (stop !)) (sub ! 0 refl (whole !)))) refl (Ptr-Good p) $
    sets ! (bin ! (get ! refl) (lit ! tt) (tests_null p t)) refl (tt, tt) $ first ! $ branches ! (get ! refl) (λ wrong. absurd wrong) (λ _.
    sets ! (of_opd ! (get ! refl)) refl (Ptr-Good p) $ sets ! (agg ! (and_then ! (get ! refl) (no_more !))) refl (word-Good νb p) $
    sets_last ! (agg ! (and_then ! (lit ! tt) (and_then ! (get ! refl) (no_more !)))) refl (some_Good (word_ty νb) (word p) (word-Good νb p)) $
    exec ! 𝓣.C 𝓣.Λ Ev (after 3 fn.body) (at_ret Ev Post) $ sets ! (of_opd ! (get ! refl)) refl (some_Good (word_ty νb) (word p) (word-Good νb p)) $
    word_made E νb p ! $ fjoin ! $ use1 𝓛 (‵ ((options.the_row Out).own_val (Some made) (live 1 (vcons (word p) vnil) ∷ []))) (Some-of 𝓛 Out made (word p)) $
    returns ! (look_at ! 0 refl) $ free_all ! refl $ keep ! (0 ∷ []) $
    suffices ! _ (ends_at 𝓛 end stayed c y (live 1 (vcons (word p) vnil)) (Some made) (tt, tt) (tt, tt)) $ says ! (sym same) $ nothing ! $ nothing ! $ fjoin ! $ join ! $ nothing ! $ join ! $ done !)))) in
    let each : (p : Ptr) (h : Option R.Denot) → h₀ ≡ h → ent 𝓤 (sem 𝓛 (handle_owns R p h)) (Run (word p ∷ [])) =
    λ p. elim p as (λ p. (h : Option R.Denot) → h₀ ≡ h → ent 𝓤 (sem 𝓛 (handle_owns R p h)) (Run (word p ∷ []))) [
      | block_ptr b o ↦ λ h. elim h as (λ h. h₀ ≡ h → ent 𝓤 (sem 𝓛 (handle_owns R (block_ptr b o) h)) (Run (word (block_ptr b o) ∷ []))) [ None ↦ λ e. never_e 𝓤 _ | Some x ↦ block_walk b o x ]
      | null_ptr ↦ λ h. elim h as (λ h. h₀ ≡ h → ent 𝓤 (sem 𝓛 (handle_owns R null_ptr h)) (Run (word null_ptr ∷ []))) [ None ↦ null_walk | Some x ↦ λ e. never_e 𝓤 _ ]
    ] in
    qed 𝓛 ((‵ ftrue ⊛ ‵ (fsep (handles.the_row.own_val y.0.3.0 y.0.4.0) ftrue)) ∷ ‵ ftrue ∷ []) ∵ move ! (1 ∷ []) $ drop ! $ split ! $ drop ! $
    fsplit ! $ fsplit ! $ word_had E νh p₀ ! y.0.4.0 (λ ep.
    suffices ! (Run (word p₀ ∷ [])) (at_words 𝓤 Run (word p₀ ∷ []) _ (λ i. ep i ++ [])) $ keep ! (0 ∷ []) $ by ! (each p₀ h₀ refl)))
