-- `closed` owns nothing, since its pointer is null.
use Rattle.bare_box.proofs.WalkWords.{[], ◌∷◌, refl, Sym, ftrue, ‵, ◌⊛◌, ◌$◌, ◌∵◌, !, qed, keep, drop, join, fjoin, suffices, done, lit, no_more, and_then, returns, enter, alloc_all, pass_all, free_all, look_at, sets, agg, tables, nothing, null_ptr, walk_of, says, ends_at, proved_at, word, word-Good, word_made, None}
use Rattle.filgordd_c.specs.contracts.handle.Handle as handles
use Rattle.filgordd_c.specs.contracts.handle.Handle.closed as f
use Rattle.filgordd_c.proofs.LiveBoxes.{E}
use Rattle.filgordd_c.proofs.handle.Handle.closed.Statement.{statement}
use Rattle.filgordd_c.proofs.handle.Handle.closed.Code as code

pub closed_spec : {M : Type 1} → statement M
closed_spec 𝓤 𝓛 𝓜 𝓡 wired =
    let 𝓣 = tables 𝓤 𝓛.H 𝓜 𝓡 𝓡.env in let end = f.ended in let c = f.clauses 𝓛 𝓜.mem 𝓡.returns in let fn = code.function in
    let ν : Sym = handles.the_type.name in
    proved_at 𝓛 end tt c 𝓜 𝓡 tt f.Key.name fn (code.unfolded 𝓤 𝓛.H 𝓜 𝓡 wired) (λ y are.
    let Post = (walk_of 𝓛 end tt c).post y in
    qed 𝓛 ((‵ ftrue ⊛ ‵ ftrue) ∷ ‵ ftrue ∷ []) ∵ drop ! $ drop ! $
    enter ! 𝓣.C 𝓣.Λ fn [] Post $ alloc_all ! (λ l. pass_all ! refl tt $
    sets ! (agg ! (and_then ! (lit ! tt) (no_more !))) refl (word-Good ν null_ptr) $
    returns ! (look_at ! 0 refl) $ free_all ! refl $
    nothing ! $ word_made E ν null_ptr ! $ fjoin ! $ keep ! (0 ∷ []) $
    suffices ! _ (ends_at 𝓛 end tt c y (word null_ptr) (record { at = null_ptr; held = None }) tt tt) $ says ! refl $
    nothing ! $ join ! $ nothing ! $ join ! $ done !))
