-- `release` gives an owner's part back. The last owner gets the block.
use contract.Running.{tables_of}
use Rattle.bare_box.proofs.WalkWords.{◌≡◌, ℕ, ◌-◌, ◌<◌, ◌^◌, List, [], ◌∷◌, ◌++◌, refl, sym, ap, lit<, arith, eqb→eq, Sym, a_type, inst_fn, Val, vcons, vnil, every, ftrue, flft, ftok, Wp, WpFn, after_block, after_seq, at_return, ‵, raw, ◌⊛◌, later, at_ret, any_q, ◌$◌, ◌∵◌, !, qed, move, keep, drop, split, join, fsplit, fjoin, suffices, use0, use1, use2, await, rewrite, frame, done, stop, fld, load, look, lit, neg_lit, bin, store, of_opd, and_then, no_more, assigns, first, blocks, branches, skips, exec, returns, returns_within, enter, well_typed, alloc_all, pass_all, free_all, look_at, get, get_in, through, sets, is, env, live, agg, sub, whole, bare_unfolds, no, layouts, RattleType, owns, Ptr, block_ptr, ptr_val, types_at, plain, nothing, Stays, stay_dropped, walk_of, says, ends_at, Goes-dropped, None, Some, Some-of, none_of, after, head, inside, word, word_ty, word-Good, word_had, word_made, some_Good, is_not, is_so}
use Rattle.core.specs.contracts.option.Option as options
use Rattle.symbols.specs.SharedBlock.{most, count_at, rest}
use Rattle.bare_box.specs.BareBox.{bare_owns}
use Rattle.bare_box.specs.contracts.Bare as bares
use Rattle.symbols.specs.contracts.rc.shared.Shared as owners
use Rattle.symbols.specs.contracts.rc.shared.Shared.release as f
use Rattle.symbols.proofs.BlockFields.{Block, together}
use Rattle.symbols.proofs.CountedBlock.{Inside, leaves, one_less, none_left}
use Rattle.bare_box.proofs.HeapBoxes.{boxed}
use Rattle.symbols.proofs.OwnerWalks.{at_words, R, LR, owner_opens, reads_full}
use Rattle.symbols.proofs.TokenEntry.{inner, calls, asked, walks_with_token}
use Rattle.symbols.proofs.rc.shared.Shared.release.Statement.{statement}
use Rattle.symbols.proofs.rc.shared.Shared.release.Code as code
use Rattle.symbols.proofs.rc.shared.Shared.release.Code.{code}

pub release_spec : {M : Type 1} → statement M
unfolding tables_of code
release_spec 𝓤 𝓛 𝓜 𝓡 wired T L =
    let 𝓣 = calls 𝓛 𝓜 𝓡 in let E = boxed T L in let Z : RattleType = R T L in let LZ = LR T L in let end = f.ended T in
    let c = f.clauses T 𝓛 𝓜.mem 𝓡.returns in let inst = layouts (a_type ∷ []) (T, tt) in let fn = inst_fn inst code.function in
    let B : RattleType = Block T in let Out : RattleType = bares.the_row B in let νo : Sym = (owners.the_type Z).name in
    let νb : Sym = (bares.the_type B).name in
    let stayed : Stays end.signature.params end.kept = (stay_dropped _ no, tt) in let held = asked 𝓛 𝓜 𝓡 end stayed c in
    walks_with_token 𝓛 𝓜 𝓡 end stayed c (Goes-dropped 𝓛 1 (plain (λ _. owners.the_row Z)) no (λ κs x w. refl), tt) (f.Key.name inst) fn
    (bare_unfolds 𝓤 𝓛.H (inner 𝓛 𝓜 𝓡).inner 𝓡.allowed 𝓡.how 𝓡.env (f.Key.name inst) fn (wired.0.0 (f.Key.name inst) refl)) (λ y are.
    let κ = y.0.0.0 in let q = y.0.1.0 in let toks = ‵ (flft κ q) ⊛ ‵ ftrue in let p : Ptr = y.0.3.0.block in let x = y.0.3.0.value in
    let Post = (walk_of 𝓛 end stayed held).post y in let Run = λ (us : List Val). WpFn 𝓤 𝓛.H 𝓣.C 𝓣.Λ fn us Post in
    qed 𝓛 ((toks ⊛ ‵ (owns (types_at end.signature.params y.0.0) y.0.3 y.0.4)) ∷ (‵ (ftok every) ⊛ raw ((c y.0.0 y.0.3).requires y.1)) ∷ []) ∵
    move ! (1 ∷ []) $ split ! $ move ! (1 ∷ []) $ drop ! $ move ! (1 ∷ []) $ split ! $ move ! (1 ∷ []) $ fsplit ! $ fsplit ! $
    word_had E νo p ! y.0.4.0 (λ ep.
    -- [what the owner owns; nothing; the tokens; the thread's token]
    suffices ! (Run (word p ∷ [])) (at_words 𝓤 Run (word p ∷ []) _ (λ i. ep i ++ [])) $
    enter ! 𝓣.C 𝓣.Λ fn (word p ∷ []) Post $ alloc_all ! (λ l. pass_all ! refl (word-Good νo p, tt) $
    let Ev = env fn.locals l in move ! (0 ∷ 3 ∷ []) $ owner_opens T L p x ! tt (λ a m cb co at some_m low. well_typed ! (λ ok.
    -- [the count; the invariant; a part of the owners' token; nothing; the tokens]
    sets ! (is ! (of_opd ! (get_in ! (fld ! refl (stop !)) (sub ! 0 refl (whole !)))) (ap ptr_val at)) refl (tt, tt) $
    sets ! (of_opd ! (get ! refl)) refl (tt, tt) $ first ! $ blocks ! $
    sets ! (of_opd ! (load ! (through ! refl (fld ! refl (stop !))) (look ! 0 refl))) refl ok $
    sets ! (bin ! (get ! refl) (neg_lit ! tt) tt) refl (tt, tt) $ first ! $ branches ! (get ! refl)
    (λ full. let over : m ≡ most = eqb→eq m most full in absurd (omega (arith, low, over)))
    (λ below. skips ! $ exec ! 𝓣.C 𝓣.Λ Ev (after 3 (inside (head (after 2 fn.body))))
    (any_q (after_block 𝓤 𝓛.H (after_seq 𝓤 𝓛.H (Wp 𝓤 𝓛.H 𝓣.C 𝓣.Λ Ev (after 3 fn.body) (at_return 𝓤 𝓛.H Ev Post)) (at_return 𝓤 𝓛.H Ev Post)))) $
    sets ! (bin ! (get ! refl) (lit ! tt) tt) refl (tt, tt) $ branches ! (get ! refl)
    (λ many. let fits : m - 1 < 2 ^ 64 = omega (arith, low) in
    sets ! (bin ! (get ! refl) (lit ! tt) (omega (arith, some_m))) refl (tt, record { fits = fits }) $
    assigns ! (of_opd ! (get ! refl)) (through ! refl (fld ! refl (stop !))) (store ! 0 refl (tt, record { fits = fits })) $
    sets ! (agg ! (and_then ! (lit ! tt) (no_more !))) refl (tt, (record { fits = lit< tt }, tt)) $
    move ! (1 ∷ 2 ∷ []) $ use2 𝓛 (Inside Z LZ p x 𝓛 a (m - 1)) (one_less Z LZ p x 𝓛 a m (omega (arith, is_not m 1 many, some_m))) $ move ! (1 ∷ 0 ∷ []) $
    rewrite ! 0 (λ (s : Ptr). ‵ (count_at s (m - 1))) (sym at) refl $ use2 𝓛 (later (‵ (ftok every))) (leaves Z LZ p x 𝓛 a (m - 1) (omega (arith, low))) $ await ! tt $
    use0 𝓛 (‵ ((options.the_row Out).own_val None (live 0 vnil ∷ []))) (none_of 𝓛 Out) $ returns_within ! Post refl (look_at ! 0 refl) $
    free_all ! refl $ keep ! (0 ∷ 3 ∷ 1 ∷ []) $
    suffices ! _ (ends_at 𝓛 end stayed held y (live 0 vnil) None (tt, tt) (tt, tt)) $ nothing ! $ nothing ! $ fjoin ! $ join ! $ move ! (1 ∷ 0 ∷ []) $
    join ! $ frame ! $ says ! tt $ done !)
    (λ only. let one : m ≡ 1 = is_so m 1 only in let d : B.Denot = record { owners = m; value = x } in let made : Out.Denot = record { at = p; value = d } in
    skips ! $ exec ! 𝓣.C 𝓣.Λ Ev (after 3 fn.body) (at_ret Ev Post) $
    sets ! (is ! (agg ! (and_then ! (get ! refl) (no_more !))) (ap word (sym at))) refl (word-Good νb p) $
    sets ! (agg ! (and_then ! (lit ! tt) (and_then ! (get ! refl) (no_more !)))) refl (some_Good (word_ty νb) (word p) (word-Good νb p)) $
    move ! (1 ∷ 2 ∷ []) $ rewrite ! 0 (λ (j : ℕ). Inside Z LZ p x 𝓛 a j) one refl $
    use2 𝓛 (later (‵ (rest Z p x) ⊛ ‵ (ftok every))) (none_left Z LZ p x 𝓛 a) $ await ! tt $ split ! $
    -- [all but the count; the thread's token; the count; nothing; the tokens]
    rewrite ! 0 (λ (s : Ptr). ‵ (rest Z s x)) at refl $ move ! (2 ∷ 0 ∷ []) $ use2 𝓛 (‵ (bare_owns B (block_ptr cb co) d)) (together T L 𝓛 cb co d) $
    rewrite ! 0 (λ (s : Ptr). ‵ (bare_owns B s d)) (sym at) refl $
    word_made E νb p ! $ fjoin ! $ use1 𝓛 (‵ ((options.the_row Out).own_val (Some made) (live 1 (vcons (word p) vnil) ∷ []))) (Some-of 𝓛 Out made (word p)) $
    returns ! (look_at ! 0 refl) $ free_all ! refl $ keep ! (0 ∷ 3 ∷ 1 ∷ []) $
    suffices ! _ (ends_at 𝓛 end stayed held y (live 1 (vcons (word p) vnil)) (Some made) (tt, tt) (tt, tt)) $ nothing ! $ nothing ! $ fjoin ! $
    join ! $ move ! (1 ∷ 0 ∷ []) $ join ! $ frame ! $ says ! refl $ done !))))
    (reads_full T L p x ! tt (λ r cb co at. well_typed ! (λ ok.
    -- [the count; what stays; the thread's token; nothing; the tokens]
    sets ! (is ! (of_opd ! (get_in ! (fld ! refl (stop !)) (sub ! 0 refl (whole !)))) (ap ptr_val at)) refl (tt, tt) $
    sets ! (of_opd ! (get ! refl)) refl (tt, tt) $ first ! $ blocks ! $
    sets ! (of_opd ! (load ! (through ! refl (fld ! refl (stop !))) (look ! 0 refl))) refl ok $
    sets ! (bin ! (get ! refl) (neg_lit ! tt) tt) refl (tt, tt) $ first ! $ branches ! (get ! refl)
    (λ full. sets ! (agg ! (and_then ! (lit ! tt) (no_more !))) refl (tt, (record { fits = lit< tt }, tt)) $
    use0 𝓛 (‵ ((options.the_row Out).own_val None (live 0 vnil ∷ []))) (none_of 𝓛 Out) $ returns_within ! Post refl (look_at ! 0 refl) $
    free_all ! refl $ keep ! (0 ∷ 5 ∷ 3 ∷ []) $
    suffices ! _ (ends_at 𝓛 end stayed held y (live 0 vnil) None (tt, tt) (tt, tt)) $ nothing ! $ nothing ! $ fjoin ! $ join ! $ move ! (1 ∷ 0 ∷ []) $
    join ! $ frame ! $ says ! tt $ done !)
    (λ below. absurd (is_not most most below refl))))))))
