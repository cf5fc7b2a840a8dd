-- A list of trees is walked up to its first separator.
--     Passing      the trees passed so far have no separator, and what is asked of all trees is asked of those that are left
--     nothing_passed, passes, is_passed, ends_at, ends_all      at the beginning;  after a tree that is none;  by whatever means they are known;  at a separator;  where no tree is left
use Rattle.std.proofs.Common.{◌≡◌, refl, sym, ap, ◌∙◌, Bool, true, false, Option, Some, None, if◌then◌else◌, ◌<◌, ◌+◌, ℕ, List, [], ◌∷◌, ◌++◌, subst, length, cond, option_map, arith}
use Rattle.std.specs.List.{count_by}
use Rattle.std.proofs.lemmas.Fn.{FoldsTo-push}
use Rattle.std.proofs.lemmas.List.Sums.{sum_by-cons}
use Rattle.std.specs.Option.{unwrap_or}
use Rattle.std.specs.Fn.{Mut, Called, AlwaysReturns}
use Rattle.tt_data.specs.Forest.{Forest, empty, leaf, group, joined, size}
use Rattle.tt_data.specs.Flat.{joined-empty}
use Rattle.tt_data.proofs.ForestLemmas.{joined_assoc, size-joined}
use Rattle.tt.specs.declared.iter.TtElement.{TtElement}
use Rattle.tt.specs.declared.iter.TtElement.TheVariants as element
use Rattle.tt.specs.Elements.{IsNext, elements}
use Rattle.tt.specs.Splitting.{begun, until_separator, behind_separator, pieces_between, IsCut, Judges, Cuts, Refuses}
use Rattle.tt.proofs.Steps.{joined-left}

-- a closure that always answers so answers so now, and always from then on
pub answers_next : {F X R : Type 0} (g : Mut F X R) (P : X → R → Type 0) (f : F) (a : X) (r : R) (f' : F) → Called g f a r f' → AlwaysReturns g P f
    → P a r × AlwaysReturns g P f'
answers_next g P f a r f' c h = ((h.at (a ∷ []) r f' c).0, record { at = λ xs. (h.at (a ∷ xs) r f' c).1 })

-- a tree as a list
abbrev alone : TtElement → Forest
alone (element.Leaf l) = leaf l empty
alone (element.Subtree s inner) = group s.delimiter inner empty

next_is : (t : TtElement) (f g : Forest) → IsNext f (Some t) g → f ≡ joined (alone t) g
next_is (element.Leaf l) f g next = next
next_is (element.Subtree s inner) f g next = next.0

elements_pushed : (piece : Forest) (t : TtElement) (f g : Forest) → IsNext f (Some t) g → elements (joined piece (alone t)) ≡ elements piece ++ t ∷ []
elements_pushed empty (element.Leaf l) f g next = refl
elements_pushed empty (element.Subtree s inner) f g next =
    ap (λ n. element.Subtree (record { delimiter = s.delimiter; len = n }) inner ∷ []) (sym next.1)
elements_pushed (leaf l rest) t f g next = ap (λ ts. element.Leaf l ∷ ts) (elements_pushed rest t f g next)
elements_pushed (group d inner rest) t f g next =
    ap (λ ts. element.Subtree (record { delimiter = d; len = size inner }) inner ∷ ts) (elements_pushed rest t f g next)

module _ (p : TtElement → Bool) where
  -- a tree that is no separator, and one that is
  goes_on : (t : TtElement) (f g : Forest) → IsNext f (Some t) g → p t ≡ false
      → (until_separator p f ≡ joined (alone t) (until_separator p g)) × (behind_separator p f ≡ behind_separator p g)
  goes_on (element.Leaf l) f g next other = (rw (next, other) refl, rw (next, other) refl)
  goes_on (element.Subtree s inner) f g next other =
      let same : p (element.Subtree (record { delimiter = s.delimiter; len = size inner }) inner) ≡ false =
      ap (λ n. p (element.Subtree (record { delimiter = s.delimiter; len = n }) inner)) (sym next.1) ∙ other in
      (rw (next.0, same) refl, rw (next.0, same) refl)

  stops : (t : TtElement) (f g : Forest) → IsNext f (Some t) g → p t ≡ true
      → (until_separator p f ≡ empty) × (behind_separator p f ≡ Some g)
  stops (element.Leaf l) f g next picked = (rw (next, picked) refl, rw (next, picked) refl)
  stops (element.Subtree s inner) f g next picked =
      let same : p (element.Subtree (record { delimiter = s.delimiter; len = size inner }) inner) ≡ true =
      ap (λ n. p (element.Subtree (record { delimiter = s.delimiter; len = n }) inner)) (sym next.1) ∙ picked in
      (rw (next.0, same) refl, rw (next.0, same) refl)

module _ {F : Type 0} (g : Mut F (TtElement × Unit {0}) Bool) where
  pub record Passing (all : Forest) (before : F) (passed rest : Forest) (test : F) : Type 0 where
    pub all_is : all ≡ joined passed rest
    pub asked : Refuses g before passed test
    pub same : (p : TtElement → Bool) → Judges g p before
        → Judges g p test × (until_separator p all ≡ joined passed (until_separator p rest)) × (behind_separator p all ≡ behind_separator p rest)

  pub nothing_passed : (all : Forest) (test : F) → Passing all test empty all test
  nothing_passed all test = record { all_is = refl; asked = refl; same = λ p h. (h, refl, refl) }

  pub is_passed : (all passed piece rest : Forest) (before test : F) → Passing all before passed rest test → all ≡ joined piece rest
      → Passing all before piece rest test
  is_passed all passed piece rest before test so e = rw (joined-left piece passed rest (sym e ∙ so.all_is)) so

  pub passes : (all piece rest new : Forest) (t : TtElement) (before test after : F) (r : Bool) → Passing all before piece rest test
      → IsNext rest (Some t) new → Called g test (t, tt) r after → r ≡ false → Passing all before (joined piece (alone t)) new after
  passes all piece rest new t before test after r so next called other = record {
    all_is = so.all_is ∙ ap (joined piece) (next_is t rest new next) ∙ sym (joined_assoc piece (alone t) new);
    asked = rw (elements_pushed piece t rest new next)
        (FoldsTo-push (λ (q : F) (t : TtElement) (q' : F). Called g q (t, tt) false q') before (elements piece) test t after so.asked
        (subst (λ b. Called g test (t, tt) b after) other called));
    same = λ p h.
        let s = so.same p h in
        let told = answers_next g (λ a r. r ≡ p a.0) test (t, tt) r after called s.0 in
        let on = goes_on p t rest new next (sym told.0 ∙ other) in
        (told.1, s.1 ∙ ap (joined piece) on.0 ∙ sym (joined_assoc piece (alone t) (until_separator p new)), s.2 ∙ on.1);
  }

  pub ends_at : (all piece rest new : Forest) (t : TtElement) (before test after : F) (r : Bool) → Passing all before piece rest test
      → IsNext rest (Some t) new → Called g test (t, tt) r after → r ≡ true → Cuts g all before piece (Some new) after
  ends_at all piece rest new t before test after r so next called picked = (
    (rest, t, so.all_is, next),
    (rest, t, test, so.all_is, next, so.asked, subst (λ b. Called g test (t, tt) b after) picked called),
    λ p h.
        let s = so.same p h in
        let told = answers_next g (λ a r. r ≡ p a.0) test (t, tt) r after called s.0 in
        let at = stops p t rest new next (sym told.0 ∙ picked) in
        (told.1, sym (s.1 ∙ ap (joined piece) at.0 ∙ joined-empty piece), sym (s.2 ∙ at.1)),
  )

  pub ends_all : (all piece rest : Forest) (before test : F) → Passing all before piece rest test → rest ≡ empty → Cuts g all before piece None test
  ends_all all piece rest before test so none =
      let done : Passing all before piece empty test = rw (sym none) so in (
        done.all_is ∙ joined-empty piece,
        (done.all_is ∙ joined-empty piece, done.asked),
        λ p h.
            let s = done.same p h in (s.0, sym (s.1 ∙ joined-empty piece), sym s.2),
      )

-- a cut at a separator leaves fewer tokens
pub fewer : (all piece more : Forest) → IsCut all piece (Some more) → size more < size all
fewer all piece more cut =
    let e = ap size cut.2 in let s = size-joined piece cut.0 in let n = smaller cut.1 cut.0 more cut.3 in omega (arith, e, s, n)
  where
    smaller : (t : TtElement) (f g : Forest) → IsNext f (Some t) g → size g < size f
    smaller (element.Leaf l) f g next = omega (arith, ap size next)
    smaller (element.Subtree s inner) f g next = omega (arith, ap size next.0)

-- and fewer pieces
pub fewer_left : (old : Option Forest) (f piece : Forest) (more : Option Forest) → old ≡ Some f → IsCut f piece more
    → unwrap_or (option_map (λ g. size g + 1) more) 0 < unwrap_or (option_map (λ g. size g + 1) old) 0
fewer_left old f piece None same cut = rw same (omega arith)
fewer_left old f piece (Some g) same cut = rw same (omega (arith, fewer f piece g cut))

-- a tree before pieces of which the first is u
one_more : (b : Bool) (tree : Forest → Forest) (rest u : Forest) (o : Option Forest) (k : Forest → List Forest)
    → k rest ≡ u ∷ unwrap_or (option_map k o) []
    → begun b tree (k rest) ≡ (if b then empty else tree u) ∷ unwrap_or (option_map k (if b then Some rest else o)) []
one_more true tree rest u o k e = refl
one_more false tree rest u o k e = rw e refl

pub pieces_next : (p : TtElement → Bool) (f : Forest)
    → pieces_between p f ≡ until_separator p f ∷ unwrap_or (option_map (pieces_between p) (behind_separator p f)) []
pieces_next p empty = refl
pieces_next p (leaf l rest) =
    one_more (p (element.Leaf l)) (leaf l) rest (until_separator p rest) (behind_separator p rest) (pieces_between p) (pieces_next p rest)
pieces_next p (group d inner rest) =
    one_more (p (element.Subtree (record { delimiter = d; len = size inner }) inner)) (group d inner) rest (until_separator p rest)
    (behind_separator p rest) (pieces_between p) (pieces_next p rest)

-- how often p picks a tree
abbrev picks : (TtElement → Bool) → TtElement → ℕ
picks p t = cond (p t) 1 0

longer : (b : Bool) (tree : Forest → Forest) (ps : List Forest) (n : ℕ) → length ps ≡ n + 1 → length (begun b tree ps) ≡ (cond b 1 0 + n) + 1
longer true tree ps n e = omega (arith, e)
longer false tree [] n e = absurd (omega (arith, e))
longer false tree (q ∷ ps) n e = omega (arith, e)

pub pieces_counted : (p : TtElement → Bool) (f : Forest) → length (pieces_between p f) ≡ count_by p (elements f) + 1
pieces_counted p empty = refl
pieces_counted p (leaf l rest) = rw (sum_by-cons (picks p) (element.Leaf l) (elements rest))
    (longer (p (element.Leaf l)) (leaf l) (pieces_between p rest) (count_by p (elements rest)) (pieces_counted p rest))
pieces_counted p (group d inner rest) = let t = element.Subtree (record { delimiter = d; len = size inner }) inner in
    rw (sum_by-cons (picks p) t (elements rest))
    (longer (p t) (group d inner) (pieces_between p rest) (count_by p (elements rest)) (pieces_counted p rest))
