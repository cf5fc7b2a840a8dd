-- `Box::into_raw` and `Box::from_raw` at the global heap, as a function calls them that is generic in the value: what it hands over, and what it gets.
--     handle, boxed      the heap's handle under the bound `Allocator`, and a box of it, in `std_alloc`'s words
--     Raw, into_raw_asks, into_raw_gives      the first contract, its beginning and its end.        Whole, from_raw_asks, from_raw_gives      the second's
-- A token of the value's lifetime is cut in two for each call, since the handle has a lifetime too. Assumes `Logic`.
use Rattle.std.proofs.Common.{◌≡◌, refl, sym, ap, subst, List, [], ◌∷◌}
use seplogic.Ra.Ura.{Ura}
use base.Share
use mir.Syntax.{Dict, impl, tcons, tnil, dnil}
use mir.Raw.{raw as bare}
use mir.Val.{Val}
use base.Logic.{SProp, ent, sep, ex, guard, id⊢, emp}
use base.Fml.{Lft, Share, ftrue, flft}
use prog.Memory.{Memory}
use prog.Routine.{Routine}
use contract.BorrowLft.{◌⊑◌, ⊑_static}
use contract.Monad.{Fun, fact, fact_i}
use types.Logic.{Logic, sem}
use types.Kit.{Item, mean, ‵, raw, some, later, ◌⊛◌, ◌$◌, ◌∵◌, !, qed, by, move, keep, drop, use0, use1, use2, pick, show, await, split, split3, join, fsplit, fjoin, fpick, fpack, feq_i, feq_l, rewrite, check, updating, now, done}
use denote.Exit.{no}
use denote.RattleType.{RattleType}
use denote.Param.{layout, arg}
use denote.Param.Laws.{Laws, arg_laws}
use denote.RawPtr.{Ptr, RawPtr, ptr_val}
use denote.Steps.{only, nothing, heard}
use denote.Triple.Clauses.{Lasts, lasts}
use denote.Triple.Spec.{triple_of}
use denote.Triple.Statement.{Contract}
use Rattle.core.proofs.alloc.Calls.{Al}
use Rattle.std.specs.contracts.alloc.Global as heap
use Rattle.std.proofs.alloc.Global.TheLaws as heap_laws
use Rattle.std.specs.contracts.impls.GlobalAllocator.TheImpl.{ghosts, dict}
use Rattle.std.specs.declared.alloc.Global.{Global}
use Rattle.std_alloc.specs.Box.Ownership.{box_owns}
use Rattle.std_alloc.specs.contracts.boxed.Box.into_raw as into
use Rattle.std_alloc.specs.contracts.boxed.Box.from_raw as from
use Rattle.core.proofs.cell.Inside.{Good}
use Rattle.std_alloc.proofs.BoxSteps.Form as box
use Rattle.std_alloc.proofs.BoxSteps.Steps.{box_out, box_in}
use Rattle.bare_box.specs.BareBox.{bare_owns}

-- the type `Global`, as an argument
abbrev pub Heap : RattleType
Heap = arg (bare (layout heap.the_row)) no heap.the_row

abbrev pub Heap_laws : Laws Heap
Heap_laws = arg_laws (bare (layout heap.the_row)) no heap.the_row heap_laws.the_row_laws refl

-- a handle of the heap needs no drop
abbrev pub no_drop : Dict
no_drop = impl ("bare_box::Destruct++none::drop" ∷ []) (tcons (layout Heap) tnil) dnil

abbrev pub handle : Al
handle = record { row = Heap; laws = Heap_laws; g = ghosts; d = dict; drops = no_drop }

module _ (T : RattleType) (L : Laws T) where
  abbrev pub boxed : box.Bx
  boxed = record { row = T; laws = L; al = handle }

  abbrev R : RattleType
  R = box.R boxed

  abbrev B : RattleType
  B = box.B boxed

  module _ {M : Type 1} {𝓤 : Ura M} (𝓛 : Logic 𝓤) (at_mem : Memory → SProp 𝓤) (run : Routine → Fun 𝓤) (κ : Lft) (q : Share) (inside : κ ⊑ T.lives) where
    open 𝓛 use {H, A}

    -- the tokens of a call
    abbrev Tokens : Item 𝓤
    Tokens = ‵ (flft κ (Share.left q)) ⊛ ‵ (flft κ (Share.right q)) ⊛ ‵ ftrue

    -- what a call asks of the lifetimes
    abbrev Lasting : Item 𝓤 → Item 𝓤
    Lasting more = raw (fact 𝓤 (κ ⊑ T.lives)) ⊛ raw (fact 𝓤 (κ ⊑ Heap.lives)) ⊛ more

    lasting : (more : Item 𝓤) → ent 𝓤 (mean 𝓛 more) (mean 𝓛 (Lasting more))
    lasting more = qed 𝓛 (more ∷ []) ∵ use0 𝓛 (raw (fact 𝓤 (κ ⊑ Heap.lives))) (fact_i 𝓤 _ (emp 𝓤) (⊑_static κ)) $ join ! $
        use0 𝓛 (raw (fact 𝓤 (κ ⊑ T.lives))) (fact_i 𝓤 _ (emp 𝓤) inside) $ done !

    cuts : ent 𝓤 (A.lft κ q) (mean 𝓛 Tokens)
    cuts = qed 𝓛 (‵ (flft κ q) ∷ []) ∵ use1 𝓛 (‵ (flft κ (Share.left q)) ⊛ ‵ (flft κ (Share.right q))) (𝓛.lfts.lft_split κ q) $ split ! $ nothing ! $
        move ! (1 ∷ 2 ∷ 0 ∷ []) $ done !

    glues : ent 𝓤 (mean 𝓛 Tokens) (A.lft κ q)
    glues = qed 𝓛 (Tokens ∷ []) ∵ split3 ! $ keep ! (0 ∷ 1 ∷ []) $ by ! (𝓛.lfts.lft_join κ q)

    module _ (dT : Dict) (v : B.Denot) (w : Val) where
      abbrev pub Raw : Contract 𝓤
      Raw = triple_of 𝓛 (into.signature T Heap ghosts dict no_drop dT) (into.spec T Heap ghosts dict no_drop dT 𝓛 at_mem run)

      abbrev pub to_raw : Raw.Ghost
      to_raw = (((κ, (κ, tt)), (Share.left q, (Share.right q, tt)), tt, (v, tt), (w ∷ [], tt)), tt)

      pub into_raw_asks : ent 𝓤 (sep 𝓤 (A.lft κ q) (sem 𝓛 (B.own_val v (w ∷ [])))) (Raw.pre to_raw)
      into_raw_asks = qed 𝓛 (‵ (flft κ q) ∷ ‵ (B.own_val v (w ∷ [])) ∷ []) ∵ nothing ! $ use1 𝓛 (Lasting (‵ ftrue)) (lasting (‵ ftrue)) $ nothing ! $
          move ! (3 ∷ 0 ∷ []) $ fjoin ! $ move ! (2 ∷ []) $
          use1 𝓛 Tokens cuts $ move ! (0 ∷ 1 ∷ []) $ join ! $ join ! $ by ! (id⊢ 𝓤 _)

      pub into_raw_gives : (u : Val) → ent 𝓤 (Raw.post to_raw u) (H.⇛ (ex 𝓤 (λ (p : Ptr). guard 𝓤 (u ≡ ptr_val p)
          (sep 𝓤 (sem 𝓛 (bare_owns R p v.value)) (A.lft κ q)))))
      into_raw_gives u = qed 𝓛 (raw (Raw.post to_raw u) ∷ []) ∵ updating ! $
          use1 𝓛 (later (some (λ (p : Ptr). (Tokens ⊛ ‵ (RawPtr.own_val p (u ∷ []))) ⊛ some
          (λ (ls : Lasts (into.ended T Heap ghosts dict no_drop dT) to_raw.0.0 to_raw.0.3).
          ‵ (lasts (into.ended T Heap ghosts dict no_drop dT) to_raw.0.0 to_raw.0.3 ls) ⊛ ‵ (box_owns (ghosts.dealloc_token v.alloc) R p v.value)))))
          (id⊢ 𝓤 _) $
          await ! tt $ pick ! (λ p. split ! $ split ! $ use1 𝓛 (‵ (flft κ q)) glues $ move ! (1 ∷ []) $ feq_l ! (λ e. move ! (1 ∷ []) $
          pick ! (λ ls. split ! $ drop ! $
          fsplit ! $ move ! (1 ∷ []) $ fpack ! Global (λ (h : Global). ghosts.dealloc_token h (bare (layout T)) p) v.alloc $ move ! (1 ∷ 0 ∷ []) $ fjoin ! $
          now ! $ show ! (λ (r : Ptr). guard 𝓤 (u ≡ ptr_val r) (sep 𝓤 (sem 𝓛 (bare_owns R r v.value)) (A.lft κ q))) p $ check ! (ap only e) $ done !)))

    module _ (a : Global) (h : Val) (p : Ptr) (x : T.Denot) where
      abbrev pub Whole : Contract 𝓤
      Whole = triple_of 𝓛 (from.signature T Heap ghosts dict no_drop) (from.spec T Heap ghosts dict no_drop 𝓛 at_mem run)

      abbrev pub to_box : Whole.Ghost
      to_box = (((κ, (κ, tt)), (Share.left q, (Share.right q, tt)), tt, (a, (p, tt)), (h ∷ [], (ptr_val p ∷ [], tt))), x)

      pub from_raw_asks : ent 𝓤 (sep 𝓤 (A.lft κ q) (sep 𝓤 (sem 𝓛 (bare_owns R p x)) (sem 𝓛 (Heap.own_val a (h ∷ []))))) (Whole.pre to_box)
      from_raw_asks = qed 𝓛 (‵ (flft κ q) ∷ ‵ (bare_owns R p x) ∷ ‵ (Heap.own_val a (h ∷ [])) ∷ []) ∵ move ! (1 ∷ []) $ fsplit ! $ move ! (1 ∷ []) $
          fpick ! (λ any. move ! (1 ∷ 0 ∷ []) $
          use2 𝓛 (‵ (box_owns (ghosts.dealloc_token a) R p x)) (id⊢ 𝓤 _) $
          use1 𝓛 (Lasting (‵ (box_owns (ghosts.dealloc_token a) R p x))) (lasting (‵ (box_owns (ghosts.dealloc_token a) R p x))) $
          -- [what is required; the token; the handle]
          nothing ! $ feq_i ! (List Val) (ptr_val p ∷ []) (ptr_val p ∷ []) refl $ fjoin ! $ move ! (3 ∷ 0 ∷ []) $ fjoin ! $ move ! (2 ∷ []) $
          use1 𝓛 Tokens cuts $ join ! $ join ! $ by ! (id⊢ 𝓤 _))

      -- the box that comes back, and its machine value
      pub from_raw_gives : (u : Val) → ent 𝓤 (Whole.post to_box u) (H.⇛ (ex 𝓤 (λ (r : B.Denot). guard 𝓤 ((r.value ≡ x) × Good (layout B) u)
          (sep 𝓤 (sem 𝓛 (B.own_val r (u ∷ []))) (A.lft κ q)))))
      from_raw_gives u = qed 𝓛 (raw (Whole.post to_box u) ∷ []) ∵ updating ! $
          use1 𝓛 (later (some (λ (r : B.Denot). (Tokens ⊛ ‵ (B.own_val r (u ∷ []))) ⊛ some
          (λ (ls : Lasts (from.ended T Heap ghosts dict no_drop) to_box.0.0 to_box.0.3).
          ‵ (lasts (from.ended T Heap ghosts dict no_drop) to_box.0.0 to_box.0.3 ls) ⊛ raw (fact 𝓤 (r.value ≡ x)) ⊛ raw (fact 𝓤 (r.alloc ≡ a)))))) (id⊢ 𝓤 _) $
          await ! tt $ pick ! (λ r. split ! $ split ! $ use1 𝓛 (‵ (flft κ q)) glues $ move ! (2 ∷ []) $ pick ! (λ ls. split3 ! $ drop ! $
          heard ! (r.value ≡ x) (λ same. drop ! $ move ! (1 ∷ []) $
          box_out boxed ! r (u ∷ []) (λ b o hv at words fits. box_in boxed ! r b o r.value at refl $
          rewrite ! 0 (λ (us : List Val). ‵ (B.own_val r us)) (sym words) refl $
          now ! $ show ! (λ (d : B.Denot). guard 𝓤 ((d.value ≡ x) × Good (layout B) u) (sep 𝓤 (sem 𝓛 (B.own_val d (u ∷ []))) (A.lft κ q))) r $
          check ! (same, subst (Good (layout B)) (sym (ap only words)) (box.box_typed boxed hv b o fits)) $ done !))))
