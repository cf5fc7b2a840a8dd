-- What the walks over a block share. Assumes `Logic`.
--     slot_at, then_runs, out_of_block    a parameter of a signature, and what runs behind a statement or a block
--     start_val, start_told, start_made   a block's start, by its one machine word
--     mark, deed_told, deed_made          a deed, which takes no bytes
--     three_val, three_of                 a struct of three fields
--     alone, nothing_left                 machine values of one type;  what an array that was passed leaves
--     values_seen             the first places, all filled, of a `&` to a row, as a slice
use Rattle.std.proofs.Common.{◌≡◌, ℕ, zero, suc, ◌+◌, ◌≤◌, Bool, List, [], ◌∷◌, ◌++◌, length, take, refl, ◌∙◌, arith}
use seplogic.Ra.Ura.{Ura}
use mir.Syntax.{Body, Ty}
use mir.Val.{Val, vstruct, vcons, vnil, of_list}
use base.Logic.{ent, sep, emp}
use base.Fml.{Lft, Fml, ftrue}
use prog.Wp.{Env, Calls, Loops, Wp, after_block, after_seq}
use types.Logic.{Logic, sem}
use types.Kit.{Post, any_q, post, ‵, ◌$◌, ◌∵◌, !, qed, move, keep, use1, rewrite, fsplit, fjoin, fpack, feq_i, done}
use denote.Builtin.{unit}
use denote.Exit.{Entries, all_last}
use denote.Laws.{Typed}
use denote.RattleType.{RattleType, Valss}
use denote.RawPtr.{Ptr, RawPtr, block_ptr, ptr_val}
use denote.Shadow.{shadow, makes_shadow}
use denote.Steps.{nothing}
use denote.Signature.{Slot, plain}
use denote.Slice.{elements_shared}
use denote.Struct.Struct.{Struct, within}
use Rattle.core.proofs.cell.Inside.{Good}
use Rattle.core.specs.Mem.Slots.Ownership.{Filled, slot_lent, slots_lent}
use Rattle.core.proofs.mem.Param.{El, R, el_x}
use Rattle.core.proofs.slots.Places.{sz}

abbrev pub slot_at : {n : ℕ} → ℕ → List (Slot n) → Slot n
slot_at k [] = plain (λ _. unit)
slot_at zero (s ∷ ss) = s
slot_at (suc k) (s ∷ ss) = slot_at k ss

module _ {M : Type 1} {𝓤 : Ura M} (𝓛 : Logic 𝓤) where
  open 𝓛 use {H}

  abbrev pub then_runs : Calls 𝓤 H → Loops 𝓤 H → Env 𝓤 H → Body → Post 𝓤 H → Post 𝓤 H
  then_runs C Λ E b q = any_q (after_seq 𝓤 H (Wp 𝓤 H C Λ E b (post 𝓤 H q)) (post 𝓤 H q))

  abbrev pub out_of_block : Post 𝓤 H → Post 𝓤 H
  out_of_block q = any_q (after_block 𝓤 H (post 𝓤 H q))

-- a struct by its fields alone: what it owns does not read its name
abbrev pub plainly : List RattleType → RattleType
plainly Rs = Struct (record { name = []; args = []; types = []; fields = Rs })

abbrev pub start_val : Ptr → Val
start_val p = vstruct (vcons (ptr_val p) vnil)

pub start_told : (p : Ptr) (vs : List Val) → shadow ((plainly (RawPtr ∷ [])).own_val (p, tt) vs) → vs ≡ start_val p ∷ []
start_told p vs s = s.1.0 ∙ (λ i. vstruct (of_list (s.1.1.0 i ++ [])) ∷ [])

pub start_made : {M : Type 1} {𝓤 : Ura M} (𝓛 : Logic 𝓤) (p : Ptr) → ent 𝓤 (emp 𝓤) (sem 𝓛 ((plainly (RawPtr ∷ [])).own_val (p, tt) (start_val p ∷ [])))
start_made 𝓛 p = makes_shadow 𝓛 ((plainly (RawPtr ∷ [])).own_val (p, tt) (start_val p ∷ [])) (λ _. (tt, (tt, tt))) ((ptr_val p ∷ [], tt), (refl, (refl, tt)))

abbrev pub mark : Val
mark = vstruct (vcons (vstruct vnil) vnil)

abbrev pub mark_own : List Val → Fml
mark_own = (plainly (plainly [] ∷ [])).own_val (tt, tt)

pub mark_told : (vs : List Val) → shadow (mark_own vs) → vs ≡ mark ∷ []
mark_told vs s = s.1.0 ∙ (λ i. vstruct (of_list (s.1.1.0.1.0 i ++ [])) ∷ [])

pub mark_made : {M : Type 1} {𝓤 : Ura M} (𝓛 : Logic 𝓤) → ent 𝓤 (emp 𝓤) (sem 𝓛 (mark_own (mark ∷ [])))
mark_made 𝓛 = makes_shadow 𝓛 (mark_own (mark ∷ [])) (λ _. (tt, ((λ _. (tt, tt)), tt))) ((vstruct vnil ∷ [], tt), (refl, ((tt, (refl, tt)), tt)))

abbrev pub three_val : Val → Val → Val → Val
three_val u v w = vstruct (vcons u (vcons v (vcons w vnil)))

pub three_of : {M : Type 1} {𝓤 : Ura M} (𝓛 : Logic 𝓤) (R S T : RattleType) (x : R.Denot) (y : S.Denot) (z : T.Denot) (u v w : Val)
    → ent 𝓤 (sep 𝓤 (sem 𝓛 (R.own_val x (u ∷ []))) (sep 𝓤 (sem 𝓛 (S.own_val y (v ∷ []))) (sem 𝓛 (T.own_val z (w ∷ [])))))
    (sem 𝓛 ((plainly (R ∷ S ∷ T ∷ [])).own_val (x, (y, (z, tt))) (three_val u v w ∷ [])))
three_of 𝓛 R S T x y z u v w =
    qed 𝓛 (‵ (R.own_val x (u ∷ [])) ∷ ‵ (S.own_val y (v ∷ [])) ∷ ‵ (T.own_val z (w ∷ [])) ∷ []) ∵
    nothing ! $ move ! (3 ∷ 0 ∷ []) $ fjoin ! $ move ! (2 ∷ 0 ∷ []) $ fjoin ! $ move ! (1 ∷ 0 ∷ []) $ fjoin ! $
    feq_i ! (List Val) (three_val u v w ∷ []) (three_val u v w ∷ []) refl $ fjoin ! $
    fpack ! (Valss (R ∷ S ∷ T ∷ [])) (within (record { name = []; args = []; types = []; fields = R ∷ S ∷ T ∷ [] }) (x, (y, (z, tt))) (three_val u v w ∷ []))
    (u ∷ [], (v ∷ [], (w ∷ [], tt))) $ done !

-- machine values of one type are one
pub alone : (τ : Ty) (vs : List Val) → Typed (τ ∷ []) vs → (v : Val) × (vs ≡ v ∷ []) × Good τ v
alone τ [] t = absurd t
alone τ (v ∷ []) t = (v, refl, t.0)
alone τ (v ∷ w ∷ vs) t = absurd t.1

-- an array that was passed leaves nothing behind
pub nothing_left : {M : Type 1} {𝓤 : Ura M} (𝓛 : Logic 𝓤) {X : Type 0} (xs : List X) (fs : Entries (λ _. Unit {0}) xs)
    → ent 𝓤 (sem 𝓛 ftrue) (sem 𝓛 (all_last (λ _. Unit {0}) (λ _ _. ftrue) xs fs))
nothing_left 𝓛 [] fs = qed 𝓛 (‵ ftrue ∷ []) ∵ done !
nothing_left 𝓛 {X} (x ∷ xs) fs = qed 𝓛 (‵ ftrue ∷ []) ∵ use1 𝓛 (‵ (all_last (λ _. Unit {0}) (λ _ _. ftrue) xs fs.1)) (nothing_left 𝓛 xs fs.1) $ nothing ! $
    fjoin ! $ done !

module _ (E : El) {M : Type 1} {𝓤 : Ura M} (𝓛 : Logic 𝓤) (κ : Lft) (b : ℕ) where
  -- the first n places, all filled, as what a slice shows
  pub values_seen : (xs : List (el_x E)) (fs : List Bool) (n o : ℕ) → n ≤ length xs → n ≤ length fs → Filled fs 0 n
      → ent 𝓤 (sem 𝓛 (slots_lent (R E) (block_ptr b o) xs fs κ)) (sem 𝓛 (elements_shared (R E) (take n xs) b o κ))
  values_seen xs fs zero o l m full = qed 𝓛 (‵ (slots_lent (R E) (block_ptr b o) xs fs κ) ∷ []) ∵ keep ! [] $ done !
  values_seen [] fs (suc n) o l m full = absurd (omega arith)
  values_seen (x ∷ xs) [] (suc n) o l m full = absurd (omega arith)
  values_seen (x ∷ xs) (f ∷ fs) (suc n) o l m full = qed 𝓛 (‵ (slot_lent (R E) f (block_ptr b o) x κ) ∷ ‵ (slots_lent (R E)
      (block_ptr b (o + sz E)) xs fs κ) ∷ []) ∵
      rewrite ! 0 (λ (g : Bool). ‵ (slot_lent (R E) g (block_ptr b o) x κ)) (full 0 (omega arith) (omega arith)) refl $ fsplit ! $ move ! (2 ∷ []) $
      use1 𝓛 (‵ (elements_shared (R E) (take n xs) b (o + sz E) κ)) (values_seen xs fs n (o + sz E) (omega arith) (omega arith)
      (λ k p q. full (suc k) (omega arith) (omega arith))) $
      keep ! (2 ∷ 0 ∷ []) $ fjoin ! $ done !
