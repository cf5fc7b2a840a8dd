-- A list of trees that is cut into pieces has their calls: no call crosses the end of a piece.
use Rattle.std.proofs.Common.{◌≡◌, ◌⊎◌, inl, inr, refl, sym, ap, ◌∙◌, true, false, true-eqb, Bool, List, [], ◌∷◌, if◌then◌else◌}
use Rattle.std.specs.Prelude.{ℕ, Option, ◌&&◌}
use Rattle.tt_data.specs.Forest.{Forest, empty, leaf, group, joined}
use Rattle.tt_data.specs.Flat.{joined-empty}
use Rattle.tt_data.proofs.ForestLemmas.{joined_assoc}
use Rattle.tt_data.specs.Walk.{at_leaf, walk}
use Rattle.tt_data.specs.declared.delimiter.Delimiter.{Delimiter}
use Rattle.tt_data.specs.declared.leaf.Leaf.{Leaf}
use Rattle.tt_data.specs.declared.leaf.Leaf.TheVariants as as_leaf
use Rattle.tt_data.specs.declared.leaf.Punct.{Punct}
use Rattle.tt_data.specs.declared.span.Span.{Span}
use Rattle.bridge.specs.Text.{is_char, is_punct}
use Rattle.expander_model.specs.Calls.{bare, from_crate, other, Marked, none, token, inside, call, is_colons, is_root, is_bang_group, mark_leaf, marked, unmarked}
use Rattle.expander_model.specs.Expansion.{World, Outcome, Deeper, just, followed_by, grouped, at_call, before_group, whole_call, search_calls}
use Rattle.expander_model.specs.Pieces.{cut, cut_from, ends_piece}
use Rattle.textual_scope.proofs.ResultLemmas.{followed_assoc, followed_by_nothing}

-- marks, one after the other
abbrev pub chain : Marked → Marked → Marked
chain none n = n
chain (token l m) n = token l (chain m n)
chain (inside d a m) n = inside d a (chain m n)
chain (call path name bang d a m) n = call path name bang d a (chain m n)

-- a `;`, a group or a call is among these: what comes behind changes no call in front of it
abbrev pub IsShut : Marked → Type 0
IsShut none = ⊥
IsShut (token l m) = (is_punct ";" l ≡ true) ⊎ IsShut m
IsShut _ = Unit {0}

no_bang : (p : Punct) → is_char ";" p ≡ true → is_char "!" p ≡ false
no_bang p h = let e : p.char ≡ 59 = true-eqb p.char 59 (sym h) in rw e refl

no_colon : (p : Punct) → is_char ";" p ≡ true → is_char ":" p ≡ false
no_colon p h = let e : p.char ≡ 59 = true-eqb p.char 59 (sym h) in rw e refl

no_first_colons : (p q : Punct) → is_char ";" p ≡ true → is_colons p q ≡ false
no_first_colons p q h = rw (no_colon p h) refl

no_second_colons : (p q : Punct) → is_char ";" q ≡ true → is_colons p q ≡ false
no_second_colons p q h = rw (no_colon q h) (never (is_char ":" p))
  where
    never : (b : Bool) → (b && false) ≡ false
    never true = refl
    never false = refl

no_call_group : (p : Punct) (d : Delimiter) → is_char ";" p ≡ true → is_bang_group p d ≡ false
no_call_group p d h = rw (no_bang p h) refl

-- a `;` begins no call
pub end_leaf : (l : Leaf) (m : Marked) → is_punct ";" l ≡ true → mark_leaf l m ≡ token l m
end_leaf (as_leaf.Punct p) (token (as_leaf.Punct q) (call bare name bang b a r)) h = rw (no_first_colons p q h) refl
end_leaf (as_leaf.Punct p) m h = refl
end_leaf (as_leaf.Ident i) m h = absurd (cc h)
end_leaf (as_leaf.Literal i) m h = absurd (cc h)

behind_end : (l : Leaf) (p : Punct) (n : Marked) → is_char ";" p ≡ true → mark_leaf l (token (as_leaf.Punct p) n) ≡ token l (token (as_leaf.Punct p) n)
behind_end (as_leaf.Ident i) p (inside b a r) h = rw (no_call_group p b h) refl
behind_end (as_leaf.Punct q) p (call bare name bang b a r) h = rw (no_second_colons q p h) refl
behind_end l p n h = refl

pub leaf_chain : (l : Leaf) (m n : Marked) → IsShut m → mark_leaf l (chain m n) ≡ chain (mark_leaf l m) n
leaf_chain l none n h = absurd h
leaf_chain l (token (as_leaf.Punct p) none) n (inl h) = behind_end l p n h ∙ ap (λ m. chain m n) (sym (behind_end l p none h))
leaf_chain l (token (as_leaf.Punct p) none) n (inr h) = absurd h
leaf_chain (as_leaf.Ident i) (token (as_leaf.Punct p) (inside b a r)) n h =
    elim (is_bang_group p b) as (λ t. (if t then call bare i p b a (chain r n) else token (as_leaf.Ident i) (token (as_leaf.Punct p) (inside b a (chain r n))))
    ≡ chain (if t then call bare i p b a r else token (as_leaf.Ident i) (token (as_leaf.Punct p) (inside b a r))) n) [ true ↦ refl | false ↦ refl ]
leaf_chain (as_leaf.Punct q) (token (as_leaf.Punct p) (call bare name bang b a r)) n h =
    elim (is_colons q p) as (λ t. (if t then call (other q p) name bang b a (chain r n) else token (as_leaf.Punct q) (token (as_leaf.Punct p) (call bare name bang b a (chain r n))))
    ≡ chain (if t then call (other q p) name bang b a r else token (as_leaf.Punct q) (token (as_leaf.Punct p) (call bare name bang b a r))) n) [ true ↦ refl | false ↦ refl ]
leaf_chain (as_leaf.Ident i) (call (other p q) name bang b a r) n h =
    elim (is_root i) as (λ t. (if t then call (from_crate i p q) name bang b a (chain r n) else token (as_leaf.Ident i) (call (other p q) name bang b a (chain r n)))
    ≡ chain (if t then call (from_crate i p q) name bang b a r else token (as_leaf.Ident i) (call (other p q) name bang b a r)) n) [ true ↦ refl | false ↦ refl ]
leaf_chain (as_leaf.Ident i) m n h = refl
leaf_chain (as_leaf.Punct q) m n h = refl
leaf_chain (as_leaf.Literal t) m n h = refl

pub shut_leaf : (l : Leaf) (m : Marked) → IsShut m → IsShut (mark_leaf l m)
shut_leaf (as_leaf.Ident i) (token (as_leaf.Punct p) (inside b a r)) h =
    elim (is_bang_group p b) as (λ t. IsShut (if t then call bare i p b a r else token (as_leaf.Ident i) (token (as_leaf.Punct p) (inside b a r)))) [ true ↦ tt | false ↦ inr h ]
shut_leaf (as_leaf.Punct q) (token (as_leaf.Punct p) (call bare name bang b a r)) h =
    elim (is_colons q p) as (λ t. IsShut (if t then call (other q p) name bang b a r else token (as_leaf.Punct q) (token (as_leaf.Punct p) (call bare name bang b a r)))) [ true ↦ tt | false ↦ inr h ]
shut_leaf (as_leaf.Ident i) (call (other p q) name bang b a r) h =
    elim (is_root i) as (λ t. IsShut (if t then call (from_crate i p q) name bang b a r else token (as_leaf.Ident i) (call (other p q) name bang b a r))) [ true ↦ tt | false ↦ inr h ]
shut_leaf l m h = inr h

-- trees behind which others are marked by themselves
pub record IsEnd (f : Forest) : Type 0 where
  pub shut : IsShut (marked f)
  pub apart : (rest : Forest) → marked (joined f rest) ≡ chain (marked f) (marked rest)

pub end_at_leaf : (l : Leaf) → is_punct ";" l ≡ true → IsEnd (leaf l empty)
end_at_leaf l h = record {
  shut = let at : Marked → Type 0 = IsShut in rw (end_leaf l none h) (inl h);
  apart = λ rest. end_leaf l (marked rest) h ∙ ap (λ m. chain m (marked rest)) (sym (end_leaf l none h));
}

pub end_at_group : (d : Delimiter) (inner : Forest) → IsEnd (group d inner empty)
end_at_group d inner = record { shut = tt; apart = λ rest. refl }

pub end_behind : (begun f : Forest) → IsEnd f → IsEnd (joined begun f)
end_behind empty f h = h
end_behind (leaf l begun) f h =
    let e : IsEnd (joined begun f) = end_behind begun f h in
    record {
      shut = shut_leaf l (marked (joined begun f)) e.shut;
      apart = λ rest. ap (mark_leaf l) (e.apart rest) ∙ leaf_chain l (marked (joined begun f)) (marked rest) e.shut;
    }
end_behind (group d inner begun) f h =
    let e : IsEnd (joined begun f) = end_behind begun f h in
    record { shut = tt; apart = λ rest. ap (inside d (marked inner)) (e.apart rest) }

module _ {D : Type 0} (world : World D) (scope : List ℕ → Option D) (deeper : Deeper D) (outer : Option Span) where
  abbrev calls : Marked → Outcome D
  calls m = search_calls world scope deeper outer m

  search_chain : (m n : Marked) → calls (chain m n) ≡ followed_by (calls m) (calls n)
  search_chain none n = refl
  search_chain (token l m) n = ap (followed_by (just outer (at_leaf l ∷ []))) (search_chain m n)
  search_chain (inside d a m) n =
      let a_group : Outcome D = grouped outer d (calls a) in
      ap (followed_by a_group) (search_chain m n) ∙ sym (followed_assoc a_group (calls m) (calls n))
  search_chain (call path name bang d a m) n =
      let a_call : Outcome D =
      at_call world scope deeper outer path name
      (record { at = name.span; whole = whole_call path name bang d (unmarked a); argument = unmarked a })
      (followed_by (just outer (walk (before_group path name bang))) (grouped outer d (calls a))) in
      ap (followed_by a_call) (search_chain m n) ∙ sym (followed_assoc a_call (calls m) (calls n))

  -- trees, each expanded by itself, one after another
  abbrev pub each : List Forest → Outcome D
  each [] = just outer []
  each (p ∷ ps) = followed_by (calls (marked p)) (each ps)

  next_piece : (p rest : Forest) → IsEnd p → each (cut rest) ≡ calls (marked rest) → each (p ∷ cut rest) ≡ calls (marked (joined p rest))
  next_piece p rest end rest_is =
      ap (followed_by (calls (marked p))) rest_is ∙ sym (search_chain (marked p) (marked rest)) ∙ ap calls (sym (end.apart rest))

  last_piece : (p : Forest) → followed_by (calls (marked p)) (just outer []) ≡ calls (marked (joined p empty))
  last_piece p = followed_by_nothing (calls (marked p)) outer ∙ ap (λ f. calls (marked f)) (sym (joined-empty p))

  each_or : (b : Bool) (xs ys : List Forest) (m : Marked) → (b ≡ true → each xs ≡ calls m) → (b ≡ false → each ys ≡ calls m) → each (if b then xs else ys) ≡ calls m
  each_or true xs ys m h g = h refl
  each_or false xs ys m h g = g refl

  each_cut : (f begun : Forest) → each (cut_from f begun) ≡ calls (marked (joined begun f))
  each_cut empty empty = refl
  each_cut empty (leaf l begun) = last_piece (leaf l begun)
  each_cut empty (group d inner begun) = last_piece (group d inner begun)
  each_cut (leaf l rest) begun =
      let one : Forest = joined begun (leaf l empty) in
      let is : joined one rest ≡ joined begun (leaf l rest) = joined_assoc begun (leaf l empty) rest in
      each_or (is_punct ";" l) (one ∷ cut rest) (cut_from rest one) (marked (joined begun (leaf l rest)))
      (λ e. next_piece one rest (end_behind begun (leaf l empty) (end_at_leaf l e)) (each_cut rest empty) ∙ ap (λ f. calls (marked f)) is)
      (λ e. each_cut rest one ∙ ap (λ f. calls (marked f)) is)
  each_cut (group d inner rest) begun =
      let one : Forest = joined begun (group d inner empty) in
      let is : joined one rest ≡ joined begun (group d inner rest) = joined_assoc begun (group d inner empty) rest in
      each_or (ends_piece begun d) (one ∷ cut rest) (cut_from rest one) (marked (joined begun (group d inner rest)))
      (λ e. next_piece one rest (end_behind begun (group d inner empty) (end_at_group d inner)) (each_cut rest empty) ∙ ap (λ f. calls (marked f)) is)
      (λ e. each_cut rest one ∙ ap (λ f. calls (marked f)) is)

  -- a list is expanded piece by piece
  pub piece_by_piece : (f : Forest) → each (cut f) ≡ calls (marked f)
  piece_by_piece f = each_cut f empty
