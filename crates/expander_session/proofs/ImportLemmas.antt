-- The definitions of a prelude, evaluated one after another.
use Rattle.std.proofs.Common.{◌≡◌, ℕ, zero, suc, ◌+◌, ◌<◌, ◌≤◌, ◌^◌, arith, drop, get_or, length, map, take, Bool, true, false, cond, List, [], ◌∷◌, ◌++◌, append_assoc, Option, Some, None, refl, ap, sym, subst, ◌∙◌, if◌then◌else◌}
use Rattle.std.specs.Prelude.{All, is_some, unwrap_or}
use Rattle.std.proofs.lemmas.List.Elements.{All-head, All-tail}
use Rattle.tt.specs.Tops.{Top}
use Rattle.mbe.specs.Grammar.{Grammar}
use Rattle.tt_data.specs.Forest.{Forest}
use Rattle.tt_data.specs.declared.edition.Edition.{Edition}
use Rattle.expander_model.specs.declared.dialect.Dialect.{Dialect}
use Rattle.expander_model.specs.DefinitionTrees.{definition_trees}
use Rattle.expander_model.specs.Definitions.{Definition, definition_of}
use Rattle.expander_model.specs.Expansion.{World}
use Rattle.expander_model.specs.Held.{IsMet, Met, first_place, met_of, mets_after, with_met}
use Rattle.expander_model.specs.Pieces.{relative}
use Rattle.expander_model.specs.World.{world}
use Rattle.expander_scope.specs.DefinitionIds.{number_by, numbered_by}
use Rattle.expander_scope.specs.Interning.{numbers_in}
use Rattle.expander_scope.specs.NewNumbers.{needed}
use Rattle.expander_session.specs.Caches.{trees_of}
use Rattle.expander_session.specs.Evaluating.{Grows, HasImported, HasTaken, Imports, NeedsMore}
use Rattle.expander_session.specs.Layered.{layers}
use Rattle.expander_session.specs.MemoRefs.{LeadTo}
use Rattle.expander_session.specs.declared.memo_ref.MemoRef.{MemoRef}
use Rattle.expander_session.specs.declared.cache.Cache.{Cache}
use Rattle.expander_session.specs.declared.evaluate.Evaluation.{Evaluation}
use Rattle.expander_model.proofs.DefinitionPlaceLemmas.{definition_piece}
use Rattle.expander_session.proofs.PassLemmas.{MoreNumbers}

-- the tree of a definition
pub one_tree : (p : Forest) → is_some (definition_of (relative p)) ≡ true → definition_trees (p ∷ []) ≡ relative p ∷ []
one_tree p e = ap (λ (b : Bool). if b then relative p ∷ [] else []) e

-- the pieces of a list, before and after one of them
pub split_at : {X Y : Type 0} (f : X → Y) (xs : List X) (i : ℕ) (x : X) → i < length xs → x ≡ get_or xs i x
    → map f xs ≡ map f (take i xs) ++ f x ∷ map f (drop (suc i) xs)
split_at f [] i x h is = absurd (omega (arith, h))
split_at f (y ∷ ys) zero x h is = ap (λ z. f z ∷ map f ys) (sym is)
split_at f (y ∷ ys) (suc i) x h is = ap (λ l. f y ∷ l) (split_at f ys i x (omega (arith, h)) is)

-- where nothing refers to a definition, more of them change nothing
pub none_linked : (plains definitions more : List Top) (links : List MemoRef) → LeadTo plains definitions links [] → LeadTo plains more links []
none_linked plains definitions more [] h = h
none_linked plains definitions more (link ∷ links) h = cc

-- trees of one more piece, and of pieces in two parts
pub trees_one : (p : Forest) (ps : List Forest) → definition_trees (p ∷ ps) ≡ definition_trees (p ∷ []) ++ definition_trees ps
trees_one p ps = go (is_some (definition_of (relative p)))
  where
    go : (b : Bool) → cond b (relative p ∷ definition_trees ps) (definition_trees ps) ≡ cond b (relative p ∷ []) [] ++ definition_trees ps
    go true = refl
    go false = refl

pub trees_append : (ps qs : List Forest) → definition_trees (ps ++ qs) ≡ definition_trees ps ++ definition_trees qs
trees_append [] qs = refl
trees_append (p ∷ ps) qs =
    trees_one p (ps ++ qs) ∙ ap (λ (ts : List Forest). definition_trees (p ∷ []) ++ ts) (trees_append ps qs)
    ∙ sym (append_assoc (definition_trees (p ∷ [])) (definition_trees ps) (definition_trees qs))
    ∙ ap (λ (ts : List Forest). ts ++ definition_trees qs) (sym (trees_one p ps))

-- those of one more piece after others that are done
pub trees_next : (all done : List Forest) (p : Forest) (rest : List Forest) → all ≡ done ++ definition_trees (p ∷ rest)
    → all ≡ (done ++ definition_trees (p ∷ [])) ++ definition_trees rest
trees_next all done p rest is =
    is ∙ ap (λ (ts : List Forest). done ++ ts) (trees_one p rest)
    ∙ sym (append_assoc done (definition_trees (p ∷ [])) (definition_trees rest))

module _ (w : World Definition) (depth : ℕ) where
  pub mets_append : (number : Forest → ℕ) (before : List Met) (ps qs : List Forest)
      → mets_after w depth number before (ps ++ qs) ≡ mets_after w depth number (mets_after w depth number before ps) qs
  mets_append number before [] qs = refl
  mets_append number before (p ∷ ps) qs = mets_append number (with_met w depth number p (definition_of (relative p)) before) ps qs

  -- what is so of all definitions is so of those before
  pub all_before : (P : Met → Type 0) (number : Forest → ℕ) (before : List Met) (ps : List Forest) → All P (mets_after w depth number before ps) → All P before
  all_before P number before [] h = h
  all_before P number before (p ∷ ps) h =
      go (definition_of (relative p)) (all_before P number (with_met w depth number p (definition_of (relative p)) before) ps h)
    where
      go : (o : Option Definition) → All P (with_met w depth number p o before) → All P before
      go None k = k
      go (Some d) k = All-tail P (met_of w depth number p d) before k

  module _ (N final : Forest → Option ℕ) (more : MoreNumbers N final) where
    -- a definition keeps its id
    pub same_number : (before : List Met) (p : Forest) (d : Definition) → definition_of (relative p) ≡ Some d
        → All (IsMet (numbered_by N)) (met_of w depth (number_by N) p d ∷ before) → number_by final (relative p) ≡ number_by N (relative p)
    same_number before p d e h =
        let m : Met = met_of w depth (number_by N) p d in
        let here : IsMet (numbered_by N) m = All-head (IsMet (numbered_by N)) m before h in
        let tree_is : here.tree ≡ relative p = sym (definition_piece here.tree d here.definition) ∙ definition_piece (relative p) d e in
        ap (λ (o : Option ℕ). unwrap_or o 0) (more (relative p) (number_by N (relative p)) (ap N (sym tree_is) ∙ here.entry))

    pub same_met : (before : List Met) (p : Forest) → All (IsMet (numbered_by N)) (with_met w depth (number_by N) p (definition_of (relative p)) before)
        → with_met w depth (number_by final) p (definition_of (relative p)) before ≡ with_met w depth (number_by N) p (definition_of (relative p)) before
    same_met before p h = go (definition_of (relative p)) refl h
      where
        go : (o : Option Definition) → definition_of (relative p) ≡ o → All (IsMet (numbered_by N)) (with_met w depth (number_by N) p o before)
            → with_met w depth (number_by final) p o before ≡ with_met w depth (number_by N) p o before
        go None e k = refl
        go (Some d) e k =
            ap (λ (n : ℕ). record { place = first_place p; numbered = record { number = n; definition = d } } ∷ before) (same_number before p d e k)

    -- so do all of them
    pub mets_stay : (before : List Met) (ps : List Forest) → All (IsMet (numbered_by N)) (mets_after w depth (number_by N) before ps)
        → mets_after w depth (number_by final) before ps ≡ mets_after w depth (number_by N) before ps
    mets_stay before [] h = refl
    mets_stay before (p ∷ ps) h =
        let now : List Met = with_met w depth (number_by N) p (definition_of (relative p)) before in
        ap (λ (ms : List Met). mets_after w depth (number_by final) ms ps)
        (same_met before p (all_before (IsMet (numbered_by N)) (number_by N) now ps h))
        ∙ mets_stay now ps h

module _ (grammar : Grammar) (edition : Edition) (dialect : Dialect) (depth : ℕ) (old : Cache) where
  abbrev W : World Definition
  W = world grammar edition dialect

  -- one more definition
  pub one_more : (done : List Forest) (piece : Forest) (now next : Evaluation) → HasImported grammar edition dialect depth old done now
      → Grows now.taken next.taken → Imports grammar edition dialect depth old piece now next → HasImported grammar edition dialect depth old (done ++ piece ∷ []) next
  one_more done piece now next has grows imports =
      let N : Forest → Option ℕ = numbers_in now.taken.numbers.by_tree in
      let M : Forest → Option ℕ = numbers_in next.taken.numbers.by_tree in
      let before : List Met = mets_after W depth (number_by N) [] done in
      let mets : with_met W depth (number_by M) piece (definition_of (relative piece)) before ≡ mets_after W depth (number_by M) [] (done ++ piece ∷ []) =
      ap (with_met W depth (number_by M) piece (definition_of (relative piece))) (sym (mets_stay W depth N M grows [] done has.known))
      ∙ sym (mets_append W depth (number_by M) [] done (piece ∷ [])) in
      subst (λ (ms : List Met). HasTaken W edition depth old (layers grammar edition dialect) ms (definition_trees (done ++ piece ∷ [])) [] next) mets
      (subst (λ (ts : List Forest). HasTaken W edition depth old (layers grammar edition dialect) (with_met W depth (number_by M) piece (definition_of (relative piece)) before) ts [] next)
      (sym (trees_append done (piece ∷ []))) (imports before (definition_trees done) [] has))

  -- too few ids
  pub imports_need : (all done : List Forest) (piece : Forest) (rest : List Forest) → all ≡ done ++ piece ∷ rest
      → 2 ^ 32 ≤ old.given + needed (trees_of old) (definition_trees done ++ definition_trees (piece ∷ [])) → NeedsMore old (definition_trees all)
  imports_need all done piece rest is many = record {
    front = definition_trees done ++ definition_trees (piece ∷ []);
    more = definition_trees rest;
    are = trees_next (definition_trees all) (definition_trees done) piece rest (ap definition_trees is ∙ trees_append done (piece ∷ rest));
    many = many;
  }

-- where those before need too many, all do
pub needs_before : (old : Cache) (before after : List Forest) → NeedsMore old before → NeedsMore old (before ++ after)
needs_before old before after needs = record {
  front = needs.front;
  more = needs.more ++ after;
  are = ap (λ (ts : List Forest). ts ++ after) needs.are ∙ append_assoc needs.front needs.more after;
  many = needs.many;
}
