-- A search is the same with any number of steps that is more than the size of its list.
use Rattle.std.proofs.Common.{◌≡◌, ℕ, zero, suc, ◌<◌, ◌≤◌, ◌+◌, Bool, true, false, List, [], ◌∷◌, Option, refl, ap, arith, if◌then◌else◌}
use Rattle.tt_data.specs.Forest.{Forest, empty, leaf, group, joined, size}
use Rattle.tt_data.proofs.ForestLemmas.{size-joined}
use Rattle.tt_data.specs.Walk.{walk}
use Rattle.bridge.specs.Text.{is_punct}
use Rattle.expander_model.specs.Calls.{Marked, none, token, inside, call, marked, unmarked}
use Rattle.expander_model.specs.Definitions.{Definition}
use Rattle.expander_model.specs.Expansion.{World, CallSite, just, followed_by, grouped, before_group}
use Rattle.expander_model.specs.Pieces.{cut, cut_from, ends_piece}
use Rattle.expander_model.specs.PieceStates.{after_call, after_group, after_leaf}
use Rattle.expander_model.specs.declared.begun.Begun.{Begun}
use Rattle.expander_model.specs.declared.begun.Begun.TheVariants.{Nothing}
use Rattle.expander_model.specs.declared.dialect.Dialect.{Dialect}
use Rattle.expander_model.specs.declared.scope_rules.Standing.TheVariants.{Argument}
use Rattle.expander_model.specs.Scoping.{call_site, Around, Scoped, Search, Expander, PieceKind, out_piece, definition_piece, plain_piece, kind_in, in_group, behind, only, in_brackets, at_call, search_leaf, takes_end, search_trees, search_piece, search_pieces, search_list}
use Rattle.textual_scope.proofs.MarkLemmas.{AllInside, IsBelow, inside_marked}
use Rattle.textual_scope.proofs.ResultLemmas.{same_next}

-- none of these has more than k tokens
abbrev pub AreWithin : ℕ → List Forest → Type 0
AreWithin k [] = Unit {0}
AreWithin k (p ∷ ps) = (size p ≤ k) × AreWithin k ps

within_or : (k : ℕ) (b : Bool) (xs ys : List Forest) → AreWithin k xs → AreWithin k ys → AreWithin k (if b then xs else ys)
within_or k true xs ys h g = h
within_or k false xs ys h g = g

within_cut : (k : ℕ) (f begun : Forest) → size begun + size f ≤ k → AreWithin k (cut_from f begun)
within_cut k empty empty h = tt
within_cut k empty (leaf l begun) h = (omega (arith, h), tt)
within_cut k empty (group d inner begun) h = (omega (arith, h), tt)
within_cut k (leaf l rest) begun h =
    let one : Forest = joined begun (leaf l empty) in
    within_or k (is_punct ";" l) (one ∷ cut_from rest empty) (cut_from rest one)
    (omega (arith, h, size-joined begun (leaf l empty)), within_cut k rest empty (omega (arith, h)))
    (within_cut k rest one (omega (arith, h, size-joined begun (leaf l empty))))
within_cut k (group d inner rest) begun h =
    let one : Forest = joined begun (group d inner empty) in
    within_or k (ends_piece begun d) (one ∷ cut_from rest empty) (cut_from rest one)
    (omega (arith, h, size-joined begun (group d inner empty)), within_cut k rest empty (omega (arith, h)))
    (within_cut k rest one (omega (arith, h, size-joined begun (group d inner empty))))

-- the pieces of a list have no more tokens than it
pub within_parts : (f : Forest) → AreWithin (size f) (cut f)
within_parts f = within_cut (size f) f empty (omega arith)

module _ {D : Type 0} (dialect : Dialect) (world : World D) (local : Definition → D) (scope : List ℕ → Option D) (deeper : Option (Expander D)) where
  abbrev pub SameBelow : ℕ → Search D → Search D → Type 0
  SameBelow k one two = (around : Around) (f : Forest) → size f < k → two around f ≡ one around f

  module _ (k : ℕ) (one two : Search D) (same : SameBelow k one two) where
    same_trees : (s : Begun) (around : Around) (m : Marked) → AllInside (IsBelow k) m → search_trees dialect world local scope two deeper s around m ≡ search_trees dialect world local scope one deeper s around m
    same_trees s around none h = refl
    same_trees s around (token l rest) h =
        let a : Scoped D = search_leaf dialect world local scope s around l in
        same_next a a (λ here. search_trees dialect world local scope one deeper (after_leaf s l) here rest) (λ here. search_trees dialect world local scope two deeper (after_leaf s l) here rest)
        around refl (same_trees (after_leaf s l) (behind a.defines around) rest h)
    same_trees s around (inside d a rest) h =
        let inner : Around = record around { standing = in_group s d.kind around.standing } in
        let first : Scoped D = in_brackets around.outer d (one inner (unmarked a)) in
        same_next first (in_brackets around.outer d (two inner (unmarked a)))
        (λ here. search_trees dialect world local scope one deeper (after_group s d.kind) here rest) (λ here. search_trees dialect world local scope two deeper (after_group s d.kind) here rest)
        around (ap (in_brackets around.outer d) (same inner (unmarked a) h.0.less)) (same_trees (after_group s d.kind) (behind first.defines around) rest h.1)
    same_trees s around (call path name bang d a rest) h =
        let site : CallSite = call_site path name bang d (unmarked a) in
        let of : Scoped D → Scoped D = λ x.
        at_call dialect world local scope deeper around path name site
        (only (followed_by (just around.outer (walk (before_group path name bang))) (grouped around.outer d x.outcome))) in
        let inner : Around = record around { standing = Argument } in
        let gone : Bool = takes_end dialect world local scope deeper s around path name d site in
        let first : Scoped D = of (one inner (unmarked a)) in
        same_next first (of (two inner (unmarked a)))
        (λ here. search_trees dialect world local scope one deeper (after_call gone s d.kind) here rest) (λ here. search_trees dialect world local scope two deeper (after_call gone s d.kind) here rest)
        around (ap of (same inner (unmarked a) h.0.less)) (same_trees (after_call gone s d.kind) (behind first.defines around) rest h.1)

    same_part : (around : Around) (p : Forest) (r : PieceKind) → size p ≤ k
        → search_piece dialect world local scope two deeper around p r ≡ search_piece dialect world local scope one deeper around p r
    same_part around p out_piece h = refl
    same_part around p (definition_piece d) h = refl
    same_part around p plain_piece h = same_trees Nothing around (marked p) (inside_marked k p h)

    pub same_parts : (around : Around) (ps : List Forest) → AreWithin k ps
        → search_pieces dialect world local scope two deeper around ps ≡ search_pieces dialect world local scope one deeper around ps
    same_parts around [] h = refl
    same_parts around (p ∷ ps) h =
        let first : Scoped D = search_piece dialect world local scope one deeper around p (kind_in dialect around.standing p) in
        same_next first (search_piece dialect world local scope two deeper around p (kind_in dialect around.standing p))
        (λ here. search_pieces dialect world local scope one deeper here ps) (λ here. search_pieces dialect world local scope two deeper here ps)
        around (same_part around p (kind_in dialect around.standing p) h.0) (same_parts (behind first.defines around) ps h.1)

  pub enough : (n m : ℕ) (around : Around) (f : Forest) → size f < n → size f < m
      → search_list dialect world local scope deeper n around f ≡ search_list dialect world local scope deeper m around f
  enough zero m around f p q = absurd (omega (arith, p))
  enough (suc n) zero around f p q = absurd (omega (arith, q))
  enough (suc n) (suc m) around f p q =
      same_parts (size f) (search_list dialect world local scope deeper m) (search_list dialect world local scope deeper n)
      (λ here g less. enough n m here g (omega (arith, less, p)) (omega (arith, less, q))) around (cut f) (within_parts f)
