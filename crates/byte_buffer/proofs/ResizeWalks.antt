-- The places of a block as values with room behind them, and back: what an allocator is handed that resizes it. Assumes `Logic`.
--     places_in    the places are the first values, and the room behind
--     places_out   places are made of them again: as many as there is room for, the first of which hold the values
use Rattle.std.proofs.Common.{◌≡◌, ℕ, ◌+◌, ◌-◌, ◌*◌, ◌≤◌, Bool, true, List, [], ◌∷◌, ◌++◌, length, take, refl, sym, arith}
use seplogic.Ra.Ura.{Ura}
use mir.Syntax.{ty_array}
use mir.Raw.{raw as bare}
use base.Logic.{SProp, ent, sep, ex, guard}
use base.Fml.{froom}
use types.Logic.{Logic, sem}
use types.Kit.{‵, ◌⊛◌, ◌$◌, ◌∵◌, !, qed, move, drop, use0, use1, use2, split, rewrite, fsplit, fjoin, show, check, done}
use denote.RawPtr.{block_ptr}
use Rattle.core.specs.Allocator.{block_with_items}
use Rattle.core.specs.Mem.Slots.Ownership.{Filled}
use Rattle.core.proofs.alloc.Calls.{token}
use Rattle.std_alloc.proofs.RawLayout.{as_raw}
use Rattle.std_alloc.proofs.VecSteps.El.{El, el_x, elτ, R, Hd, sz}
use Rattle.std_alloc.proofs.vec.Blocks.{all, flags, Rest, vec_laid, vec_flags, vec_in, vec_out}

module _ (E : El) {M : Type 1} {𝓤 : Ura M} (𝓛 : Logic 𝓤) (a : Hd E) (b o n c : ℕ) where
  abbrev pub Token : SProp 𝓤
  Token = sem 𝓛 (token E.al a (bare (ty_array (elτ E) c)) (block_ptr b o))

  abbrev pub Valued : List (el_x E) → SProp 𝓤
  Valued xs = sem 𝓛 (block_with_items (token E.al a) (R E) (block_ptr b o) n c xs)

  pub places_in : (zs : List (el_x E)) (fs : List Bool) → c ≡ length zs → c ≡ length fs → n ≤ c → Filled fs 0 n → ent 𝓤 (sep 𝓤 (sem 𝓛 (all E b o zs fs)) Token)
      (Valued (take n zs))
  places_in zs fs lz lf le full =
      let none : 0 ≡ c - c = omega arith in
      qed 𝓛 (‵ (all E b o zs fs) ∷ ‵ (token E.al a (bare (ty_array (elτ E) c)) (block_ptr b o)) ∷ []) ∵
      use0 𝓛 (‵ (froom (ty_array (elτ E) 0) b (o + c * sz E))) (𝓛.laws.room_nil (elτ E) b (o + c * sz E)) $
      rewrite ! 0 (λ (k : ℕ). ‵ (froom (ty_array (elτ E) k) b (o + c * sz E))) none refl $ as_raw ! (ty_array (elτ E) (c - c)) b (o + c * sz E) $
      move ! (0 ∷ 2 ∷ []) $ fjoin ! $ move ! (1 ∷ 0 ∷ []) $
      use2 𝓛 (‵ (block_with_items (token E.al a) (R E) (block_ptr b o) n c (take n zs)))
      (vec_in E 𝓛 b a o true n c c zs fs (sym lz) (sym lf) le (omega arith) full) $ done !

  abbrev pub Has : List (el_x E) → List (el_x E) × List Bool → Type 0
  Has xs u = (c ≡ length u.0) × (c ≡ length u.1) × Filled u.1 0 n × (take n u.0 ≡ xs)

  abbrev pub Placed : List (el_x E) → SProp 𝓤
  Placed xs = ex 𝓤 (λ (u : List (el_x E) × List Bool). guard 𝓤 (Has xs u) (sep 𝓤 (sem 𝓛 (all E b o u.0 u.1)) Token))

  pub places_out : (xs : List (el_x E)) → n ≤ c → length xs ≡ n → el_x E → ent 𝓤 (Valued xs) (Placed xs)
  places_out xs le lx item =
      let laid = vec_laid xs n c (sym lx) le (λ _. item) in let marks = vec_flags n c le in let zs = xs ++ laid.0 in let fs = flags n (c - n) in
      qed 𝓛 (‵ (block_with_items (token E.al a) (R E) (block_ptr b o) n c xs) ∷ []) ∵
      use1 𝓛 (‵ (all E b o zs fs) ⊛ ‵ (Rest E a b o c c)) (vec_out E 𝓛 b a o true n c c xs laid.0 (λ t. absurd t) le (omega arith) lx laid.1) $ split ! $
      move ! (1 ∷ []) $ fsplit ! $ drop ! $ move ! (1 ∷ 0 ∷ []) $
      show ! (λ (u : List (el_x E) × List Bool). guard 𝓤 (Has xs u) (sep 𝓤 (sem 𝓛 (all E b o u.0 u.1)) Token)) (zs, fs) $
      check ! (laid.2, marks.0, marks.1, laid.3) $ done !
