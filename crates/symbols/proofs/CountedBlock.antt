-- The owners of a counted block, as ghost steps. Of the invariant that they share, a walk sees the count's memory and one entry, `Inside`.
--     Name, standing, handle      an owner's two lifetimes;  the invariant;  what a counted owner owns
--     Inside n                    the invariant of n owners while it is open, but for the count's memory
--     Entered, enters, owner_enters      it is opened by a share of the owners' token, or it is shut again, since the count stays
--     adds, one_less, leaves, none_left      an owner more, one less, shut, and the last, which takes the block
--     founded                     the first owner
-- Assumes `Logic`.
use Rattle.std.proofs.Common.{◌≡◌, refl, ℕ, ◌+◌, ◌-◌, ◌<◌, ◌≤◌, ◌^◌, [], ◌∷◌, ◌++◌, lit<, ltb, arith}
use Rattle.std.proofs.lemmas.Bool.{ltb-true, ltb-false}
use mathlib.Core.Bool.{Bool, true, false}
use seplogic.Ra.Ura.{Ura}
use base.Fraction.{full_share}
use base.Mask.{every}
use base.Logic.{SProp, ent, sep, guard, wand, ex, apply∗, ex_i, id⊢}
use base.Fml.{Fml, Lft, Incl, Incl-trans, Key, Share, ftrue, fsep, fat, flft, fbor, ftok}
use mir.Syntax.{w64, ty_int}
use mir.Val.{vint}
use contract.BorrowLft.{meet_⊑_left, meet_⊑_right, ⊑_static}
use types.Logic.{Logic, sem}
use types.Kit.{Item, mean, ‵, raw, some, later, given, ◌⊛◌, ◌$◌, ◌∵◌, !, qed, by, move, keep, drop, use1, use2, use3, pick, show, learn, await, group, split, split3, join, frame, assume, check, fsplit, fsplit3, fjoin, fjoin3, fpick, fpack, feq_i, feq_l, flt_i, flt_l, rewrite, updating, now, done}
use types.Na.{na_inv_dup}
use types.Tokens.{bor_new, bor_fracture, shr_bor-open, obor_close}
use types.Within.{tokens_halve}
use types.RcWeak as rc
use denote.RcWeak as owners
use denote.RcWeak.{rc_shr_laws, rc_sees}
use denote.RattleType.{RattleType}
use denote.Param.Laws.{Laws}
use denote.RawPtr.{Ptr, block_of, count_of, lies_at, ◌+ₚ◌}
use denote.Shares.{Shares-less}
use denote.Sharing.{ShrLaws, one}
use denote.SharingLaws.{contraction, shortens, one_shr_laws, beside_shr_laws, some_shr_laws, held_shr_laws}
use denote.Moves.{moves_from}
use denote.Steps.{nothing}
use denote.Struct.Lending.{Lends, Lends-first, Lends-lies, lent_at_shr_laws}
use Rattle.symbols.specs.SharedBlock.{most, count_in, count_at, left_at, block_type, field_types, value_offset, rest, seen, full, stays, says, counting, counts, owns_by, owner_owns, lends_by, owner_lends}
use Rattle.bare_box.specs.BareBox.{may_free}

-- the lifetime for which the value is shared, and one for which the block stands
abbrev pub Name : Type 0
Name = ℕ × ℕ

abbrev pub shared_for : Name → Lft
shared_for a = a.0 ∷ []

-- the memory of a count
abbrev pub word_at : ℕ → ℕ → ℕ → Fml
word_at b o m = fat full_share (ty_int w64) b (o + 0) (vint w64 m)

module _ (R : RattleType) (L : Laws R) (c : Ptr) (x : R.Denot) where
  abbrev pub key : Key
  key = (block_of c, count_of c)

  abbrev pub sees : ShrLaws (seen R c x)
  sees = lent_at_shr_laws R L.shr_laws (c +ₚ value_offset R c x) x

  full_laws : ShrLaws (full R c x)
  full_laws = beside_shr_laws (one (λ q. count_in q c most)) (seen R c x) (one_shr_laws (λ q. count_in q c most)) sees

  -- what a `&` to an owner holds, and of a count that stays
  pub lends_laws : ShrLaws (owner_lends R c x)
  lends_laws = some_shr_laws Bool (lends_by R c x) either
    where
      either : (y : Bool) → ShrLaws (lends_by R c x y)
      either true = rc_shr_laws 64 key (counts R c x) (λ _. ftrue) (rest R c x) ftrue ftrue (seen R c x) sees
      either false = held_shr_laws [] (full R c x) full_laws

  abbrev pub part : Name → Fml
  part a = rc.part 64 a.0

  abbrev pub standing : Name → Fml
  standing = rc.box 64 key (counts R c x) (λ _. ftrue) (rest R c x) ftrue ftrue

  abbrev pub handle : Name → Fml
  handle = owners.handle 64 key (counts R c x) (λ _. ftrue) (rest R c x) ftrue ftrue (seen R c x) (λ a. a.0)

  -- of n owners and w blocks
  abbrev lent_out : Name → ℕ → Fml
  lent_out a n = rc.value 64 key (counts R c x) (λ _. ftrue) (rest R c x) ftrue ftrue a true n

  abbrev stands : Name → ℕ → Fml
  stands a w = rc.weaks 64 key (counts R c x) (λ _. ftrue) (rest R c x) ftrue ftrue a w

  module _ {M : Type 1} {𝓤 : Ura M} (𝓛 : Logic 𝓤) where
    pub stays_twice : ent 𝓤 (sem 𝓛 (stays R c x)) (sep 𝓤 (sem 𝓛 (stays R c x)) (sem 𝓛 (stays R c x)))
    stays_twice = contraction 𝓛 (full R c x) full_laws []

  module _ {M : Type 1} {𝓤 : Ura M} (𝓛 : Logic 𝓤) (a : Name) where
    open 𝓛 use {H, A}

    abbrev closes : SProp 𝓤
    closes = rc.Shut 64 key (counts R c x) (λ _. ftrue) (rest R c x) ftrue ftrue 𝓛 a every

    abbrev Among : ℕ → ℕ → Item 𝓤
    Among n w = ‵ (lent_out a n) ⊛ ‵ (stands a w) ⊛ raw closes

    abbrev pub Inside : ℕ → Item 𝓤
    Inside n = some (Among n)

    sealed : (n w : ℕ) → ent 𝓤 (mean 𝓛 (Among n w)) (mean 𝓛 (Inside n))
    sealed n w = ex_i 𝓤 (λ (v : ℕ). mean 𝓛 (Among n v)) w

    there : (n : ℕ) → 0 < n → (y : Bool) → ent 𝓤 (sem 𝓛 (counting R c x n y)) (sem 𝓛 (counting R c x n true))
    there n some_n true = id⊢ 𝓤 _
    there n some_n false = qed 𝓛 (‵ (counting R c x n false) ∷ []) ∵ feq_l ! (λ none. absurd (omega (arith, some_n, none)))

    -- the steps of `types.RcWeak`, at this block
    grows : (n : ℕ) → n + 1 < 2 ^ 64 → ent 𝓤 (sem 𝓛 (lent_out a n)) (sep 𝓤 (sem 𝓛 (lent_out a (n + 1))) (sem 𝓛 (part a)))
    grows = rc.more 64 key (counts R c x) (λ _. ftrue) (rest R c x) ftrue ftrue 𝓛 a

    shrinks : (n : ℕ) → 1 < n → ent 𝓤 (sep 𝓤 (sem 𝓛 (lent_out a n)) (sem 𝓛 (part a))) (sem 𝓛 (lent_out a (n - 1)))
    shrinks = rc.less 64 key (counts R c x) (λ _. ftrue) (rest R c x) ftrue ftrue 𝓛 a

    some_left : (n : ℕ) → ent 𝓤 (sem 𝓛 (lent_out a n)) (guard 𝓤 (0 < n) (sem 𝓛 (lent_out a n)))
    some_left n = rc.strong_some 64 key (counts R c x) (λ _. ftrue) (rest R c x) ftrue ftrue 𝓛 a n

    -- what the invariant holds of the value once no owner is left
    abbrev nobody : Fml
    nobody = rc.value 64 key (counts R c x) (λ _. ftrue) (rest R c x) ftrue ftrue a false 0

    -- the invariant is shut, with a count that says so or that stays
    shut_at : (n : ℕ) (y : Bool) → ent 𝓤 (sep 𝓤 (sem 𝓛 (says R c x n y)) (mean 𝓛 (Inside n))) (H.⇛ (A.tok every))
    shut_at n y = qed 𝓛 (‵ (says R c x n y) ∷ Inside n ∷ []) ∵ fpack ! Bool (says R c x n) y $ fpack ! Bool (counting R c x n) true $
        move ! (1 ∷ []) $ pick ! (λ w. split3 ! $
        -- [the value; the block; what shuts; the count]
        nothing ! $ move ! (4 ∷ []) $ group ! 5 $ by ! (rc.shut 64 key (counts R c x) (λ _. ftrue) (rest R c x) ftrue ftrue 𝓛 a every true n w))

    pub leaves : (n : ℕ) → n < most → ent 𝓤 (sep 𝓤 (sem 𝓛 (count_at c n)) (mean 𝓛 (Inside n))) (H.⇛ (A.tok every))
    leaves n low = qed 𝓛 (‵ (count_at c n) ∷ Inside n ∷ []) ∵ flt_i ! n most low $ move ! (1 ∷ 0 ∷ []) $ fjoin ! $ by ! (shut_at n true)

    one_more : (n : ℕ) → n + 1 < 2 ^ 64 → ent 𝓤 (mean 𝓛 (Inside n)) (mean 𝓛 (Inside (n + 1) ⊛ ‵ (part a)))
    one_more n room = qed 𝓛 (Inside n ∷ []) ∵ pick ! (λ w. split3 ! $ use1 𝓛 (‵ (lent_out a (n + 1)) ⊛ ‵ (part a)) (grows n room) $ split ! $
        -- [the value; the part; the block; what shuts]
        move ! (0 ∷ 2 ∷ 3 ∷ []) $ group ! 3 $ use1 𝓛 (Inside (n + 1)) (sealed (n + 1) w) $ done !)

    pub one_less : (n : ℕ) → 1 < n → ent 𝓤 (sep 𝓤 (mean 𝓛 (Inside n)) (sem 𝓛 (part a))) (mean 𝓛 (Inside (n - 1)))
    one_less n many = qed 𝓛 (Inside n ∷ ‵ (part a) ∷ []) ∵ pick ! (λ w. split3 ! $ move ! (0 ∷ 3 ∷ []) $
        use2 𝓛 (‵ (lent_out a (n - 1))) (shrinks n many) $ group ! 3 $ use1 𝓛 (Inside (n - 1)) (sealed (n - 1) w) $ done !)

    -- the last owner takes all but the count
    pub none_left : ent 𝓤 (sep 𝓤 (mean 𝓛 (Inside 1)) (sem 𝓛 (part a))) (H.⇛ (sep 𝓤 (sem 𝓛 (rest R c x)) (A.tok every)))
    none_left = qed 𝓛 (Inside 1 ∷ ‵ (part a) ∷ []) ∵ updating ! $ pick ! (λ w. split3 ! $ move ! (0 ∷ 3 ∷ []) $
        use2 𝓛 (later (‵ (rest R c x) ⊛ ‵ (rc.part 64 a.1) ⊛ raw (wand 𝓤 (sem 𝓛 ftrue) (sem 𝓛 nobody)))) (rc.last 64 key (counts R c x) (λ _. ftrue)
        (rest R c x) ftrue ftrue 𝓛 a) $ await ! tt $ split3 ! $
        -- [all but the count; the block's part; the wand; the block; what shuts]
        move ! (2 ∷ []) $ nothing ! $ use2 𝓛 (‵ nobody) (apply∗ 𝓤 (sem 𝓛 ftrue) (sem 𝓛 nobody)) $
        nothing ! $ feq_i ! ℕ 0 0 refl $ fpack ! Bool (counting R c x 0) false $ move ! (0 ∷ 1 ∷ 2 ∷ 5 ∷ 6 ∷ []) $ group ! 5 $
        use1 𝓛 (later (‵ (ftok every))) (rc.shut 64 key (counts R c x) (λ _. ftrue) (rest R c x) ftrue ftrue 𝓛 a every false 0 w) $ await ! tt $
        move ! (1 ∷ 0 ∷ []) $ now ! $ keep ! (0 ∷ 1 ∷ []) $ done !)

    -- one part of the owners' lifetime is borrowed for good, so that lifetime never ends
    gives_away : (n : ℕ) → n + 1 < 2 ^ 64 → ent 𝓤 (sep 𝓤 (sem 𝓛 (lent_out a n)) (sem 𝓛 (seen R c x (shared_for a))))
        (H.⇛ (sep 𝓤 (sem 𝓛 (lent_out a (n + 1))) (sem 𝓛 (seen R c x []))))
    gives_away n room = qed 𝓛 (‵ (lent_out a n) ∷ ‵ (seen R c x (shared_for a)) ∷ []) ∵ updating ! $
        use1 𝓛 (‵ (lent_out a (n + 1)) ⊛ ‵ (part a)) (grows n room) $ split ! $ move ! (1 ∷ []) $
        fpick ! (λ e. fpick ! (λ one. bor_new ! tt [] $ bor_fracture ! tt (λ q. flft (shared_for a) q) e $ move ! (0 ∷ 3 ∷ []) $
        use2 𝓛 (‵ (seen R c x [])) (moves_from 𝓛 (seen R c x) sees [] (shared_for a) (shared_for a) (meet_⊑_left (shared_for a) [])) $
        move ! (2 ∷ 0 ∷ []) $ now ! $ keep ! (0 ∷ 1 ∷ []) $ done !))

    -- the count has come to its maximum: it and the value are lent for good, and the invariant is shut
    fills : (n : ℕ) → n + 1 ≡ most → ent 𝓤 (sep 𝓤 (sem 𝓛 (count_at c (n + 1))) (sep 𝓤 (mean 𝓛 (Inside n)) (sem 𝓛 (seen R c x (shared_for a)))))
        (H.⇛ (sep 𝓤 (A.tok every) (sem 𝓛 (stays R c x))))
    fills n full = qed 𝓛 (‵ (count_at c (n + 1)) ∷ Inside n ∷ ‵ (seen R c x (shared_for a)) ∷ []) ∵ updating ! $
        rewrite ! 0 (λ (j : ℕ). ‵ (count_at c j)) full refl $ bor_new ! tt [] $ bor_fracture ! tt (λ q. count_in q c most) full_share $
        move ! (2 ∷ []) $ pick ! (λ w. split3 ! $ move ! (0 ∷ 5 ∷ []) $
        -- [the value; what is seen; the block; what shuts; the count; nothing]
        use2 𝓛 (later (‵ (lent_out a (n + 1)) ⊛ ‵ (seen R c x []))) (gives_away n (omega (arith, full))) $ await ! tt $ split ! $
        move ! (4 ∷ 1 ∷ []) $ fjoin ! $ use1 𝓛 (‵ (stays R c x) ⊛ ‵ (stays R c x)) (stays_twice 𝓛) $ split ! $
        move ! (2 ∷ 3 ∷ 4 ∷ []) $ group ! 3 $ use1 𝓛 (Inside (n + 1)) (sealed (n + 1) w) $ move ! (1 ∷ 0 ∷ []) $
        use2 𝓛 (later (‵ (ftok every))) (shut_at (n + 1) false) $ await ! tt $ now ! $ keep ! (0 ∷ 1 ∷ []) $ done !)

    pub owner_of : ent 𝓤 (sep 𝓤 (sem 𝓛 (part a)) (sep 𝓤 (sem 𝓛 (standing a)) (sem 𝓛 (seen R c x (shared_for a))))) (sem 𝓛 (owner_owns R c x))
    owner_of = qed 𝓛 (‵ (part a) ∷ ‵ (standing a) ∷ ‵ (seen R c x (shared_for a)) ∷ []) ∵ fjoin3 ! $ fpack ! Name handle a $
        fpack ! Bool (owns_by R c x) true $ done !

    abbrev Added : ℕ → SProp 𝓤
    Added n = sep 𝓤 (sem 𝓛 (count_at c (n + 1))) (sep 𝓤 (mean 𝓛 (Inside n)) (sep 𝓤 (sem 𝓛 (standing a)) (sem 𝓛 (seen R c x (shared_for a)))))

    adds_by : (n : ℕ) → n < most → (low : Bool) → ltb (n + 1) most ≡ low → ent 𝓤 (Added n) (H.⇛ (sep 𝓤 (A.tok every) (sem 𝓛 (owner_owns R c x))))
    adds_by n room true low = let fits : n + 1 < most = ltb-true (n + 1) most low in
        qed 𝓛 (‵ (count_at c (n + 1)) ∷ Inside n ∷ ‵ (standing a) ∷ ‵ (seen R c x (shared_for a)) ∷ []) ∵ updating ! $ move ! (1 ∷ []) $
        use1 𝓛 (Inside (n + 1) ⊛ ‵ (part a)) (one_more n (omega (arith, fits))) $ split ! $ move ! (2 ∷ 0 ∷ []) $
        use2 𝓛 (later (‵ (ftok every))) (leaves (n + 1) fits) $ await ! tt $ move ! (1 ∷ 2 ∷ 3 ∷ []) $ use3 𝓛 (‵ (owner_owns R c x)) owner_of $
        move ! (1 ∷ 0 ∷ []) $ now ! $ done !
    adds_by n room false low = let over : most ≤ n + 1 = ltb-false (n + 1) most low in
        qed 𝓛 (‵ (count_at c (n + 1)) ∷ Inside n ∷ ‵ (standing a) ∷ ‵ (seen R c x (shared_for a)) ∷ []) ∵ updating ! $ move ! (0 ∷ 1 ∷ 3 ∷ []) $
        use3 𝓛 (later (‵ (ftok every) ⊛ ‵ (stays R c x))) (fills n (omega (arith, over, room))) $ await ! tt $ split ! $ move ! (1 ∷ []) $
        fpack ! Bool (owns_by R c x) false $ move ! (1 ∷ 0 ∷ []) $ now ! $ keep ! (0 ∷ 1 ∷ []) $ done !

    -- one owner more, where the count says so already
    pub adds : (n : ℕ) → n < most → ent 𝓤 (Added n) (H.⇛ (sep 𝓤 (A.tok every) (sem 𝓛 (owner_owns R c x))))
    adds n room = adds_by n room (ltb (n + 1) most) refl

    -- the invariant, open to its count, and what opened it; or it is shut again, since the count stays
    abbrev pub Entry : Item 𝓤 → Bool → Item 𝓤
    Entry by true = some (λ (n : ℕ). given ((0 < n) × (n < most)) (‵ (count_at c n) ⊛ Inside n ⊛ by))
    Entry by false = ‵ (stays R c x) ⊛ by ⊛ ‵ (ftok every)

    abbrev pub Entered : Item 𝓤 → Item 𝓤
    Entered by = some (Entry by)

    settles : (by : Item 𝓤) (n w : ℕ) → 0 < n → (y : Bool) → ent 𝓤 (sep 𝓤 (sem 𝓛 (says R c x n y)) (mean 𝓛 (Among n w ⊛ by))) (H.⇛ (mean 𝓛 (Entered by)))
    settles by n w some_n true = qed 𝓛 (‵ (says R c x n true) ∷ (Among n w ⊛ by) ∷ []) ∵ updating ! $ fsplit ! $ move ! (1 ∷ []) $ flt_l ! (λ low.
        move ! (1 ∷ []) $ split ! $ use1 𝓛 (Inside n) (sealed n w) $ move ! (2 ∷ 0 ∷ 1 ∷ []) $ group ! 3 $
        now ! $ show ! (λ (y : Bool). mean 𝓛 (Entry by y)) true $
        show ! (λ (j : ℕ). guard 𝓤 ((0 < j) × (j < most)) (mean 𝓛 (‵ (count_at c j) ⊛ Inside j ⊛ by))) n $ check ! (some_n, low) $ done !)
    settles by n w some_n false = qed 𝓛 (‵ (says R c x n false) ∷ (Among n w ⊛ by) ∷ []) ∵ updating ! $
        use1 𝓛 (‵ (stays R c x) ⊛ ‵ (stays R c x)) (stays_twice 𝓛) $ split ! $ move ! (2 ∷ []) $ split ! $ use1 𝓛 (Inside n) (sealed n w) $
        move ! (2 ∷ 0 ∷ []) $ use2 𝓛 (later (‵ (ftok every))) (shut_at n false) $ await ! tt $
        move ! (2 ∷ 1 ∷ 0 ∷ []) $ group ! 3 $ now ! $ show ! (λ (y : Bool). mean 𝓛 (Entry by y)) false $ done !

    opened : (by : Item 𝓤) (s : Share) → ent 𝓤 (A.lft (shared_for a) s) (mean 𝓛 by)
        → ent 𝓤 (sep 𝓤 (sem 𝓛 (standing a)) (sep 𝓤 (A.lft (shared_for a) s) (A.tok every))) (H.⇛ (mean 𝓛 (Entered by)))
    opened by s back = qed 𝓛 (‵ (standing a) ∷ ‵ (flft (shared_for a) s) ∷ ‵ (ftok every) ∷ []) ∵ updating ! $
        use3 𝓛 (later (some (λ (u : ℕ × ℕ). ‵ (counts R c x u.0) ⊛ ‵ ftrue ⊛ ‵ (lent_out a u.0) ⊛ ‵ (stands a u.1) ⊛ ‵ (flft (shared_for a) s) ⊛ raw closes)))
        (rc.open_strong 64 key (counts R c x) (λ _. ftrue) (rest R c x) ftrue ftrue 𝓛 a every refl s) $ await ! tt $ pick ! (λ u. split ! $
        move ! (1 ∷ []) $ split3 ! $ drop ! $
        use1 𝓛 (given (0 < u.0) (‵ (lent_out a u.0))) (some_left u.0) $ learn ! (λ some_n. move ! (1 ∷ []) $ split3 ! $
        -- [the block; the share; what shuts; the value; the count]
        move ! (1 ∷ []) $ use1 𝓛 by back $ move ! (4 ∷ []) $ fpick ! (λ z. use1 𝓛 (‵ (counting R c x u.0 true)) (there u.0 some_n z) $ fpick ! (λ y.
        move ! (4 ∷ 2 ∷ 3 ∷ 1 ∷ 0 ∷ []) $ group ! 3 $ group ! 2 $ move ! (1 ∷ 0 ∷ []) $
        use2 𝓛 (later (Entered by)) (settles by u.0 u.1 some_n y) $ await ! tt $ now ! $ done !))))

    pub enters : (s : Share) → ent 𝓤 (sep 𝓤 (sem 𝓛 (standing a)) (sep 𝓤 (A.lft (shared_for a) s) (A.tok every)))
        (H.⇛ (mean 𝓛 (Entered (‵ (flft (shared_for a) s)))))
    enters s = opened (‵ (flft (shared_for a) s)) s (id⊢ 𝓤 _)

    -- the same, by an owner's own part
    pub owner_enters : ent 𝓤 (sep 𝓤 (sem 𝓛 (part a)) (sep 𝓤 (sem 𝓛 (standing a)) (A.tok every))) (H.⇛ (mean 𝓛 (Entered (‵ (part a)))))
    owner_enters = qed 𝓛 (‵ (part a) ∷ ‵ (standing a) ∷ ‵ (ftok every) ∷ []) ∵ updating ! $ fpick ! (λ s. fpick ! (λ one. move ! (1 ∷ 0 ∷ []) $
        use3 𝓛 (later (Entered (‵ (part a)))) (opened (‵ (part a)) s (rc.part_in 64 𝓛 a.0 s one)) $ await ! tt $ now ! $ done !))

    -- what the value's owners see of it, for as long as its lifetime stands
    shows_all : (μ : Lft) (q : Share) → Incl μ R.lives
        → ent 𝓤 (sep 𝓤 (sem 𝓛 (fbor (shared_for a) (rest R c x))) (sep 𝓤 (sem 𝓛 (part a)) (A.lft μ q)))
        (H.⇛ (sep 𝓤 (sem 𝓛 (part a)) (sep 𝓤 (sem 𝓛 (seen R c x (shared_for a))) (A.lft μ q))))
    shows_all μ q inc = qed 𝓛 (‵ (fbor (shared_for a) (rest R c x)) ∷ ‵ (part a) ∷ ‵ (flft μ q) ∷ []) ∵ updating ! $ move ! (1 ∷ []) $
        fpick ! (λ e. fpick ! (λ one.
        let ν : Lft = shared_for a in let l : Lft = ν ++ μ in let value = lies_at R full_share (c +ₚ value_offset R c x) x in
        let lends : Lends 𝓛 (rest R c x) (seen R c x) l = Lends-first 𝓛 value (fsep (left_at (block_type R c x) (field_types R c x) c)
        (may_free (block_type R c x) c)) (seen R c x) l
        (Lends-lies 𝓛 R l (c +ₚ value_offset R c x) x (Shares-less 𝓛 R R.lives l (Incl-trans (meet_⊑_right ν μ) inc) (L.shares 𝓛) x)) in
        move ! (0 ∷ 2 ∷ []) $ join ! $ move ! (1 ∷ 0 ∷ []) $
        use2 𝓛 (later (‵ (seen R c x ν) ⊛ ‵ (flft ν e) ⊛ ‵ (flft μ q))) (lends ν ((ν, e) ∷ (μ, q) ∷ []) (λ y m. m) (meet_⊑_left ν μ)) $ await ! tt $
        split3 ! $ move ! (1 ∷ []) $
        use1 𝓛 (‵ (part a)) (rc.part_in 64 𝓛 a.0 e one) $ now ! $ done !))

module _ (R : RattleType) (L : Laws R) (c : Ptr) (x : R.Denot) {M : Type 1} {𝓤 : Ura M} (𝓛 : Logic 𝓤) where
  open 𝓛 use {H, A}

  pub standing_twice : (a : Name) → ent 𝓤 (sem 𝓛 (standing R L c x a)) (sep 𝓤 (sem 𝓛 (standing R L c x a)) (sem 𝓛 (standing R L c x a)))
  standing_twice a = na_inv_dup 𝓛 (key R L c x) (rc.Inv 64 (key R L c x) (counts R c x) (λ _. ftrue) (rest R c x) ftrue ftrue a)

  -- a `&` to a counted owner, for as long as a function uses it: what stands, what is seen, and a share of the owners' token with the way back
  abbrev pub Lent : Lft → Share → Name × Share → Item 𝓤
  Lent κ q u = ‵ (standing R L c x u.0) ⊛ ‵ (seen R c x (shared_for u.0)) ⊛ ‵ (flft (shared_for u.0) u.1) ⊛ raw (wand 𝓤 (A.lft (shared_for u.0) u.1)
      (H.⇛ (A.lft κ q)))

  pub looks_in : (κ : Lft) (q : Share) → ent 𝓤 (sep 𝓤 (sem 𝓛 (lends_by R c x true κ)) (A.lft κ q))
      (H.⇛ (ex 𝓤 (λ (u : Name × Share). mean 𝓛 (Lent κ q u))))
  looks_in κ q = qed 𝓛 (‵ (lends_by R c x true κ) ∷ ‵ (flft κ q) ∷ []) ∵ updating ! $ fpick ! (λ a. fsplit3 ! $
      -- [the shares of the owners' token; the invariant; what is seen; the token]
      move ! (0 ∷ 3 ∷ []) $ shr_bor-open ! tt (tokens_halve 𝓛 (shared_for a)) (λ s. move ! (2 ∷ 3 ∷ 1 ∷ 0 ∷ []) $ now ! $
      show ! (λ (u : Name × Share). mean 𝓛 (Lent κ q u)) (a, s) $ frame ! $ frame ! $ frame ! $
      assume ! (‵ (flft (shared_for a) s)) $ updating ! $ move ! (1 ∷ 0 ∷ []) $ obor_close ! tt $ drop ! $ now ! $ done !))

  -- the count of a block with one owner
  one_counted : ent 𝓤 (sem 𝓛 (count_at c 1)) (sem 𝓛 (counts R c x 1))
  one_counted = qed 𝓛 (‵ (count_at c 1) ∷ []) ∵ flt_i ! 1 most (lit< tt) $ move ! (1 ∷ 0 ∷ []) $ fjoin ! $ fpack ! Bool (says R c x 1) true $
      fpack ! Bool (counting R c x 1) true $ done !

  -- what a `&` to an owner shows of the value
  pub owner_sees : (κ : Lft) (y : Bool) → ent 𝓤 (sem 𝓛 (lends_by R c x y κ)) (sem 𝓛 (seen R c x κ))
  owner_sees κ true = rc_sees 64 (key R L c x) (counts R c x) (λ _. ftrue) (rest R c x) ftrue ftrue (seen R c x) 𝓛 (sees R L c x) κ
  owner_sees κ false = qed 𝓛 (‵ (stays R c x) ∷ []) ∵ fsplit ! $ drop ! $ by ! (shortens 𝓛 (seen R c x) (sees R L c x) [] κ (⊑_static κ))

  pub founded : (μ : Lft) (q : Share) → Incl μ R.lives
      → ent 𝓤 (sep 𝓤 (sem 𝓛 (count_at c 1)) (sep 𝓤 (sem 𝓛 (rest R c x)) (A.lft μ q))) (H.⇛ (sep 𝓤 (sem 𝓛 (owner_owns R c x)) (A.lft μ q)))
  founded μ q inc = qed 𝓛 (‵ (count_at c 1) ∷ ‵ (rest R c x) ∷ ‵ (flft μ q) ∷ []) ∵ updating ! $ use1 𝓛 (‵ (counts R c x 1)) one_counted $ nothing ! $
      nothing ! $ move ! (2 ∷ 0 ∷ 3 ∷ 1 ∷ []) $ group ! 4 $
      use1 𝓛 (later (some (λ (a : Name). ‵ (part R L c x a) ⊛ ‵ (standing R L c x a) ⊛ ‵ (fbor (shared_for a) (rest R c x)))))
      (rc.rc_new 64 (key R L c x) (counts R c x) (λ _. ftrue) (rest R c x) ftrue ftrue 𝓛 (lit< tt)) $ await ! tt $ pick ! (λ a. split3 ! $
      -- [the part; the invariant; the borrow; the token]
      move ! (2 ∷ 0 ∷ 3 ∷ []) $ use3 𝓛 (later (‵ (part R L c x a) ⊛ ‵ (seen R c x (shared_for a)) ⊛ ‵ (flft μ q))) (shows_all R L c x 𝓛 a μ q inc) $
      await ! tt $ split3 ! $
      move ! (0 ∷ 3 ∷ 1 ∷ []) $ fjoin3 ! $ fpack ! Name (handle R L c x) a $ fpack ! Bool (owns_by R c x) true $ now ! $ done !)
