-- Which trees end pieces.
use Rattle.std.proofs.Common.{◌≡◌, ◌≢◌, List, [], ◌∷◌, ◌++◌, refl, sym, ap, subst, ◌∙◌, Bool, true, false, inl, inr, if◌then◌else◌}
use Rattle.std.specs.Prelude.{◌⊎◌, All}
use Rattle.std.proofs.lemmas.List.Elements.{All-nil, All-cons, All-head, All-tail}
use Rattle.bridge.specs.Text.{is_punct}
use Rattle.tt_data.specs.Flat.{joined-empty}
use Rattle.tt_data.specs.Forest.{Forest, empty, leaf, group, joined}
use Rattle.tt_data.proofs.ForestLemmas.{joined_assoc}
use Rattle.tt_data.specs.declared.delimiter.Delimiter.{Delimiter}
use Rattle.tt_data.specs.declared.leaf.Leaf.{Leaf}
use Rattle.expander_session.specs.Laws.{IsEnded, is_ender}
use Rattle.expander_model.specs.Pieces.{cut, cut_from, ends_piece, put_together}

-- ---- each piece that another follows

AreEnded : List Forest → Type 0
AreEnded [] = Unit {0}
AreEnded (p ∷ []) = Unit {0}
AreEnded (p ∷ q ∷ ps) = IsEnded p × AreEnded (q ∷ ps)

ended_first : (p : Forest) (ps : List Forest) → IsEnded p → AreEnded ps → AreEnded (p ∷ ps)
unfolding AreEnded
ended_first p [] e h = tt
ended_first p (q ∷ ps) e h = (e, h)

ended_or : (b : Bool) (p : Forest) (ps qs : List Forest) → (b ≡ true → IsEnded p) → AreEnded ps → AreEnded qs → AreEnded (if b then p ∷ ps else qs)
ended_or true p ps qs first more other = ended_first p ps (first refl) more
ended_or false p ps qs first more other = other

all_ended : (f begun : Forest) → AreEnded (cut_from f begun)
unfolding AreEnded
all_ended empty empty = tt
all_ended empty (leaf l begun) = tt
all_ended empty (group d inner begun) = tt
all_ended (leaf l rest) begun =
    ended_or (is_punct ";" l) _ _ _ (λ e. record { begun = begun; last = leaf l empty; is = refl; ends = e })
    (all_ended rest empty) (all_ended rest (joined begun (leaf l empty)))
all_ended (group d inner rest) begun =
    ended_or (ends_piece begun d) _ _ _ (λ e. record { begun = begun; last = group d inner empty; is = refl; ends = e })
    (all_ended rest empty) (all_ended rest (joined begun (group d inner empty)))

ended_in : (front ps behind : List Forest) (p q : Forest) → ps ≡ front ++ p ∷ q ∷ behind → AreEnded ps → IsEnded p
unfolding AreEnded
ended_in [] ps behind p q e h = (subst AreEnded e h).0
ended_in (x ∷ []) ps behind p q e h = (subst AreEnded e h).1.0
ended_in (x ∷ y ∷ front) ps behind p q e h = ended_in (y ∷ front) (y ∷ front ++ p ∷ q ∷ behind) behind p q refl (subst AreEnded e h).1

-- a piece that another follows ends with a tree that ends a piece
pub piece_ended : (f p q : Forest) (front behind : List Forest) → cut f ≡ front ++ p ∷ q ∷ behind → IsEnded p
piece_ended f p q front behind e = ended_in front (cut f) behind p q e (all_ended f empty)

-- ---- one tree behind others

none_behind : (f g : Forest) → joined f g ≡ empty → g ≡ empty
none_behind empty g e = e
none_behind (leaf l f) g e = cc
none_behind (group d inner f) g e = cc

pub record IsOne (one : Forest) : Type 0 where
  pub some : one ≢ empty
  pub alone : (a b : Forest) → one ≡ joined a b → (a ≡ empty) ⊎ (b ≡ empty)

one_leaf : (l : Leaf) → IsOne (leaf l empty)
one_leaf l = record { some = λ e. cc; alone = parts }
  where
    parts : (a b : Forest) → leaf l empty ≡ joined a b → (a ≡ empty) ⊎ (b ≡ empty)
    parts empty b e = inl refl
    parts (leaf m a) b e = let h : joined a b ≡ empty = cc in inr (none_behind a b h)
    parts (group d inner a) b e = cc

pub one_group : (d : Delimiter) (inside : Forest) → IsOne (group d inside empty)
one_group d inside = record { some = λ e. cc; alone = parts }
  where
    parts : (a b : Forest) → group d inside empty ≡ joined a b → (a ≡ empty) ⊎ (b ≡ empty)
    parts empty b e = inl refl
    parts (leaf m a) b e = cc
    parts (group k inner a) b e = let h : joined a b ≡ empty = cc in inr (none_behind a b h)

-- trees and one more, parted: nothing is behind, or the one is the last of what is
pub split_one : (one : Forest) → IsOne one → (begun front behind : Forest) → joined begun one ≡ joined front behind
    → (behind ≡ empty) ⊎ ((more : Forest) × (begun ≡ joined front more))
split_one one is begun empty behind e = inr (begun, refl)
split_one one is empty (leaf l front) behind e = elim (is.alone (leaf l front) behind e) [ inl h ↦ absurd (cc h) | inr h ↦ inl h ]
split_one one is empty (group d inner front) behind e = elim (is.alone (group d inner front) behind e) [ inl h ↦ absurd (cc h) | inr h ↦ inl h ]
split_one one is (leaf k begun) (leaf l front) behind e =
    let first : k ≡ l = cc in
    let h : joined begun one ≡ joined front behind = cc in
    elim (split_one one is begun front behind h) [ inl g ↦ inl g | inr g ↦ inr (g.0, ap (λ f. leaf k f) g.1 ∙ ap (λ m. leaf m (joined front g.0)) first) ]
split_one one is (group c inside begun) (group d inner front) behind e =
    let first : c ≡ d = cc in
    let same : inside ≡ inner = cc in
    let h : joined begun one ≡ joined front behind = cc in
    elim (split_one one is begun front behind h) [
      | inl g ↦ inl g
      | inr g ↦ inr (g.0, ap (λ f. group c inside f) g.1 ∙ ap (λ m. group m inside (joined front g.0)) first ∙ ap (λ f. group d f (joined front g.0)) same)
    ]
split_one one is (leaf k begun) (group d inner front) behind e = cc
split_one one is (group c inside begun) (leaf l front) behind e = cc

pub behind_same : (a f g : Forest) → joined a f ≡ joined a g → f ≡ g
behind_same empty f g e = e
behind_same (leaf l a) f g e = behind_same a f g cc
behind_same (group d inner a) f g e = behind_same a f g cc

lone_leaf : (begun f : Forest) (l : Leaf) → is_ender begun (leaf l f) ≡ true → f ≡ empty
lone_leaf begun empty l e = refl
lone_leaf begun (leaf m f) l e = cc
lone_leaf begun (group d inner f) l e = cc

lone_group : (begun inside f : Forest) (d : Delimiter) → is_ender begun (group d inside f) ≡ true → f ≡ empty
lone_group begun inside empty d e = refl
lone_group begun inside (leaf m f) d e = cc
lone_group begun inside (group k inner f) d e = cc

only_one : (begun f one : Forest) → one ≢ empty → is_ender begun (joined f one) ≡ true → f ≡ empty
only_one begun empty one some e = refl
only_one begun (leaf l f) one some e = absurd (some (none_behind f one (lone_leaf begun (joined f one) l e)))
only_one begun (group d inner f) one some e = absurd (some (none_behind f one (lone_group begun inner (joined f one) d e)))

-- what ends trees and one more is the one
is_last : (one : Forest) → IsOne one → (begun b last : Forest) → joined begun one ≡ joined b last → is_ender b last ≡ true → is_ender begun one ≡ true
is_last one is begun b last e ends = elim (split_one one is begun b last e) [
  | inl h ↦ absurd (nothing (rw h at ends))
  | inr h ↦
      let whole : joined b (joined h.0 one) ≡ joined b last = sym (joined_assoc b h.0 one) ∙ ap (λ f. joined f one) (sym h.1) ∙ e in
      let tail : joined h.0 one ≡ last = behind_same b (joined h.0 one) last whole in
      let none : h.0 ≡ empty = only_one b h.0 one is.some (ap (is_ender b) tail ∙ ends) in
      let same : begun ≡ b = h.1 ∙ ap (joined b) none ∙ joined-empty b in
      let end : one ≡ last = ap (λ f. joined f one) (sym none) ∙ tail in
      ap (λ f. is_ender f one) same ∙ ap (is_ender b) end ∙ ends
]
  where
    nothing : is_ender b empty ≡ true → ⊥
    nothing h = cc

-- ---- within a piece

-- no trees that a list begins with end a piece
abbrev IsUnended : Forest → Type 0
IsUnended begun = (front behind : Forest) → begun ≡ joined front behind → IsEnded front → ⊥

-- where they do they are the whole list
abbrev pub EndsLast : Forest → Type 0
EndsLast p = (front behind : Forest) → p ≡ joined front behind → IsEnded front → behind ≡ empty

nothing_unended : IsUnended empty
nothing_unended empty behind e ended = nothing ended.begun ended.last ended.is ended.ends
  where
    nothing : (b last : Forest) → empty ≡ joined b last → is_ender b last ≡ true → ⊥
    nothing b last is ends = let h : is_ender b empty ≡ true = ap (is_ender b) (sym (none_behind b last (sym is))) ∙ ends in cc
nothing_unended (leaf l front) behind e ended = cc
nothing_unended (group d inner front) behind e ended = cc

false_true : (b : Bool) → b ≡ false → b ≡ true → ⊥
false_true b e h = cc

unended_more : (begun one : Forest) → IsOne one → IsUnended begun → is_ender begun one ≡ false → IsUnended (joined begun one)
unended_more begun one is un goes_on front behind e ended = elim (split_one one is begun front behind e) [
  | inl h ↦ false_true (is_ender begun one) goes_on
      (is_last one is begun ended.begun ended.last (e ∙ ap (joined front) h ∙ joined-empty front ∙ ended.is) ended.ends)
  | inr h ↦ un front h.0 h.1 ended
]

ends_last : (begun one : Forest) → IsOne one → IsUnended begun → EndsLast (joined begun one)
ends_last begun one is un front behind e ended = elim (split_one one is begun front behind e) [ inl h ↦ h | inr h ↦ absurd (un front h.0 h.1 ended) ]

unended_last : (begun : Forest) → IsUnended begun → EndsLast begun
unended_last begun un front behind e ended = absurd (un front behind e ended)

all_or : (b : Bool) (p : Forest) (ps qs : List Forest) → EndsLast p → All EndsLast ps → (b ≡ false → All EndsLast qs) → All EndsLast (if b then p ∷ ps else qs)
all_or true p ps qs first more other = All-cons EndsLast p ps first more
all_or false p ps qs first more other = other refl

all_last : (f begun : Forest) → IsUnended begun → All EndsLast (cut_from f begun)
all_last empty empty un = All-nil EndsLast
all_last empty (leaf l begun) un = All-cons EndsLast (leaf l begun) [] (unended_last (leaf l begun) un) (All-nil EndsLast)
all_last empty (group d inner begun) un = All-cons EndsLast (group d inner begun) [] (unended_last (group d inner begun) un) (All-nil EndsLast)
all_last (leaf l rest) begun un =
    all_or (is_punct ";" l) _ _ _ (ends_last begun (leaf l empty) (one_leaf l) un) (all_last rest empty nothing_unended)
    (λ e. all_last rest (joined begun (leaf l empty)) (unended_more begun (leaf l empty) (one_leaf l) un e))
all_last (group d inner rest) begun un =
    all_or (ends_piece begun d) _ _ _ (ends_last begun (group d inner empty) (one_group d inner) un) (all_last rest empty nothing_unended)
    (λ e. all_last rest (joined begun (group d inner empty)) (unended_more begun (group d inner empty) (one_group d inner) un e))

-- no tree of a piece ends one but its last
pub ends_within : (f : Forest) → All EndsLast (cut f)
ends_within f = all_last f empty nothing_unended

-- ---- no other pieces

-- of a list in parts the first does not end a piece, unless it is all
not_here : (begun one p : Forest) → EndsLast (joined begun (joined one p)) → is_ender begun one ≡ true → p ≡ empty
not_here begun one p h e = h (joined begun one) p (sym (joined_assoc begun one p)) (record { begun = begun; last = one; is = refl; ends = e })

more_last : (begun one p : Forest) → EndsLast (joined begun (joined one p)) → EndsLast (joined (joined begun one) p)
more_last begun one p h = λ front behind e. h front behind (sym (joined_assoc begun one p) ∙ e)

more_ended : (begun one p : Forest) → IsEnded (joined begun (joined one p)) → IsEnded (joined (joined begun one) p)
more_ended begun one p h = record { begun = h.begun; last = h.last; is = joined_assoc begun one p ∙ h.is; ends = h.ends }

-- a tree that ends no piece does not end the list
still_more : (begun one p : Forest) → IsOne one → IsEnded (joined begun (joined one p)) → is_ender begun one ≡ false → p ≢ empty
still_more begun one p is h e none =
    let whole : joined begun one ≡ joined h.begun h.last = ap (joined begun) (sym (joined-empty one) ∙ ap (joined one) (sym none)) ∙ h.is in
    false_true (is_ender begun one) e (is_last one is begun h.begun h.last whole h.ends)

-- one tree and more
in_parts : (begun one p : Forest) → p ≡ empty → joined begun one ≡ joined begun (joined one p)
in_parts begun one p none = ap (joined begun) (sym (ap (joined one) none ∙ joined-empty one))

cut_step : (begun one p rest : Forest) (b : Bool) → IsOne one → EndsLast (joined begun (joined one p)) → IsEnded (joined begun (joined one p)) → is_ender begun one ≡ b
    → (p ≢ empty → cut_from (joined p rest) (joined begun one) ≡ joined (joined begun one) p ∷ cut_from rest empty)
    → (if b then joined begun one ∷ cut_from (joined p rest) empty else cut_from (joined p rest) (joined begun one)) ≡ joined begun (joined one p) ∷ cut_from rest empty
cut_step begun one p rest true is h ended e later =
    let none : p ≡ empty = not_here begun one p h e in
    ap (λ x. joined begun one ∷ cut_from (joined x rest) empty) none ∙ ap (λ x. x ∷ cut_from rest empty) (in_parts begun one p none)
cut_step begun one p rest false is h ended e later =
    later (still_more begun one p is ended e) ∙ ap (λ x. x ∷ cut_from rest empty) (joined_assoc begun one p)

-- a piece that is ended is cut off
cut_off : (p begun rest : Forest) → p ≢ empty → EndsLast (joined begun p) → IsEnded (joined begun p) → cut_from (joined p rest) begun ≡ joined begun p ∷ cut_from rest empty
cut_off empty begun rest some h ended = absurd (some refl)
cut_off (leaf l p) begun rest some h ended =
    cut_step begun (leaf l empty) p rest (is_punct ";" l) (one_leaf l) h ended refl
    (λ more. cut_off p (joined begun (leaf l empty)) rest more (more_last begun (leaf l empty) p h) (more_ended begun (leaf l empty) p ended))
cut_off (group d inner p) begun rest some h ended =
    cut_step begun (group d inner empty) p rest (ends_piece begun d) (one_group d inner) h ended refl
    (λ more. cut_off p (joined begun (group d inner empty)) rest more (more_last begun (group d inner empty) p h) (more_ended begun (group d inner empty) p ended))

left_step : (begun one p : Forest) (b : Bool) → EndsLast (joined begun (joined one p)) → is_ender begun one ≡ b → cut_from p (joined begun one) ≡ joined (joined begun one) p ∷ []
    → (if b then joined begun one ∷ cut_from p empty else cut_from p (joined begun one)) ≡ joined begun (joined one p) ∷ []
left_step begun one p true h e later =
    let none : p ≡ empty = not_here begun one p h e in
    ap (λ x. joined begun one ∷ cut_from x empty) none ∙ ap (λ x. x ∷ []) (in_parts begun one p none)
left_step begun one p false h e later = later ∙ ap (λ x. x ∷ []) (joined_assoc begun one p)

-- what is left at the end is a piece
left_over : (p begun : Forest) → joined begun p ≢ empty → EndsLast (joined begun p) → cut_from p begun ≡ joined begun p ∷ []
left_over empty empty some h = absurd (some refl)
left_over empty (leaf l begun) some h = ap (λ x. x ∷ []) (sym (joined-empty (leaf l begun)))
left_over empty (group d inner begun) some h = ap (λ x. x ∷ []) (sym (joined-empty (group d inner begun)))
left_over (leaf l p) begun some h =
    left_step begun (leaf l empty) p (is_punct ";" l) h refl
    (left_over p (joined begun (leaf l empty)) (λ x. some (sym (joined_assoc begun (leaf l empty) p) ∙ x)) (more_last begun (leaf l empty) p h))
left_over (group d inner p) begun some h =
    left_step begun (group d inner empty) p (ends_piece begun d) h refl
    (left_over p (joined begun (group d inner empty)) (λ x. some (sym (joined_assoc begun (group d inner empty) p) ∙ x)) (more_last begun (group d inner empty) p h))

abbrev pub HasTrees : Forest → Type 0
HasTrees p = p ≢ empty

cut_back : (ps : List Forest) → All HasTrees ps → AreEnded ps → All EndsLast ps → cut (put_together ps) ≡ ps
unfolding AreEnded
cut_back [] some ended last = refl
cut_back (p ∷ []) some ended last =
    ap cut (joined-empty p) ∙ left_over p empty (All-head HasTrees p [] some) (All-head EndsLast p [] last)
cut_back (p ∷ q ∷ ps) some ended last =
    cut_off p empty (put_together (q ∷ ps)) (All-head HasTrees p (q ∷ ps) some) (All-head EndsLast p (q ∷ ps) last) ended.0
    ∙ ap (λ xs. p ∷ xs) (cut_back (q ∷ ps) (All-tail HasTrees p (q ∷ ps) some) ended.1 (All-tail EndsLast p (q ∷ ps) last))

ended_all : (ps : List Forest) → ((front behind : List Forest) (p q : Forest) → ps ≡ front ++ p ∷ q ∷ behind → IsEnded p) → AreEnded ps
unfolding AreEnded
ended_all [] h = tt
ended_all (p ∷ []) h = tt
ended_all (p ∷ q ∷ ps) h = (h [] ps p q refl, ended_all (q ∷ ps) (λ front behind r s e. h (p ∷ front) behind r s (ap (λ xs. p ∷ xs) e)))

-- pieces that end so are those of their list
pub only_pieces : (ps : List Forest) → All HasTrees ps → ((front behind : List Forest) (p q : Forest) → ps ≡ front ++ p ∷ q ∷ behind → IsEnded p)
    → All EndsLast ps → cut (put_together ps) ≡ ps
only_pieces ps some ended last = cut_back ps some (ended_all ps ended) last
