-- The cache stays right from one text to the next.
use Rattle.std.proofs.Common.{◌≡◌, ◌≢◌, ◌↔◌, ℕ, Bool, true, false, cond, List, [], ◌∷◌, map, Option, Some, None, refl, ap, sym, subst, ◌∙◌}
use Rattle.std.specs.Prelude.{All, ◌||◌, filter, filter_map, is_some, unwrap_or}
use Rattle.std.specs.List.{list_any}
use Rattle.std.proofs.lemmas.List.Elements.{All-cons, All-head, All-nil, All-tail}
use Rattle.mbe.specs.Grammar.{Grammar}
use Rattle.tt_data.specs.Forest.{Forest}
use Rattle.tt_data.specs.declared.edition.Edition.{Edition}
use Rattle.expander_model.specs.declared.dialect.Dialect.{Dialect}
use Rattle.expander_model.specs.EqualTrees.{same_forest}
use Rattle.expander_model.specs.Definitions.{Definition, definition_of}
use Rattle.expander_model.specs.Expansion.{World}
use Rattle.expander_model.specs.Held.{HasNumber, IsNumbered, Kept, Numbered, kept_after}
use Rattle.expander_model.specs.DefinitionTrees.{definition_trees}
use Rattle.expander_scope.specs.Numbers.{AreEntries, Entry, Numbering, number_in, number_of, tree_of, with_trees}
use Rattle.expander_model.specs.Pieces.{pieces, relative}
use Rattle.expander_session.specs.Reuse.{FoundIs, HeldPiece, IsHeld}
use Rattle.expander_session.specs.TextTurn.{InEntries, IsKept, IsNext, IsTurn, StandsInText, held_of, kept_entries, numbering_of, taken_after}
use Rattle.expander_model.specs.World.{world}
use Rattle.expander_session.proofs.NumberLemmas.{all_known, contained, entry_has, have_numbers, numbered_is, numbers_stay, tells_apart, with_trees_are}
use Rattle.expander_session.proofs.ReadPlaceLemmas.{pieces_stand}
use Rattle.expander_session.proofs.TextTurnLemmas.{are_pieces, held_are, kept_are}
use Rattle.expander_session.proofs.WholeTurnLemmas.{TurnLaws, takes_are}

-- ---- where more trees have numbers

abbrev pub More : (Forest → ℕ → Type 0) → (Forest → ℕ → Type 0) → Type 0
More one two = (t : Forest) (k : ℕ) → one t k → two t k

more_finds : (one two : Forest → ℕ → Type 0) → More one two → (finds : List (List ℕ × Option Numbered)) → All (FoundIs (IsNumbered one)) finds → All (FoundIs (IsNumbered two)) finds
more_finds one two more [] h = All-nil (FoundIs (IsNumbered two))
more_finds one two more (x ∷ finds) h =
    All-cons (FoundIs (IsNumbered two)) x finds (here x (All-head (FoundIs (IsNumbered one)) x finds h)) (more_finds one two more finds (All-tail (FoundIs (IsNumbered one)) x finds h))
  where
    here : (y : List ℕ × Option Numbered) → FoundIs (IsNumbered one) y → FoundIs (IsNumbered two) y
    here (name, None) g = tt
    here (name, Some d) g = record { tree = g.tree; entry = more g.tree d.number g.entry; definition = g.definition }

pub more_held : (w : World Definition) (depth : ℕ) (one two : Forest → ℕ → Type 0) → More one two → (held : List HeldPiece) → All (IsHeld w depth one) held → All (IsHeld w depth two) held
more_held w depth one two more [] h = All-nil (IsHeld w depth two)
more_held w depth one two more (q ∷ held) h =
    let here : IsHeld w depth one q = All-head (IsHeld w depth one) q held h in
    All-cons (IsHeld w depth two) q held (record { is = here.is; finds = more_finds one two more q.outcome.finds here.finds })
    (more_held w depth one two more held (All-tail (IsHeld w depth one) q held h))

-- ---- the numbers that are kept

filtered_free : (p : Entry → Bool) (k : ℕ) (es : List Entry) → All (λ (x : Entry). x.number ≢ k) es → All (λ (x : Entry). x.number ≢ k) (filter p es)
filtered_free p k [] h = All-nil (λ (x : Entry). x.number ≢ k)
filtered_free p k (e ∷ es) h = go (p e) (filtered_free p k es (All-tail (λ (x : Entry). x.number ≢ k) e es h))
  where
    go : (b : Bool) → All (λ (x : Entry). x.number ≢ k) (filter p es) → All (λ (x : Entry). x.number ≢ k) (cond b (e ∷ filter p es) (filter p es))
    go true later = All-cons (λ (x : Entry). x.number ≢ k) e (filter p es) (All-head (λ (x : Entry). x.number ≢ k) e es h) later
    go false later = later

filtered_are : (p : Entry → Bool) (given : ℕ) (es : List Entry) → AreEntries given es → AreEntries given (filter p es)
filtered_are p given [] h = tt
filtered_are p given (e ∷ es) h = go (p e) (filtered_are p given es h.3)
  where
    go : (b : Bool) → AreEntries given (filter p es) → AreEntries given (cond b (e ∷ filter p es) (filter p es))
    go true later = (h.0, h.1, filtered_free p e.number es h.2, later)
    go false later = later

module _ (equal : (f g : Forest) → (same_forest f g ≡ true) ↔ (f ≡ g)) where
  is_any : (whole ts : List Forest) → ((u : Forest) → list_any (same_forest u) ts ≡ true → list_any (same_forest u) whole ≡ true) → All (λ u. list_any (same_forest u) whole ≡ true) ts
  is_any whole [] into = All-nil (λ u. list_any (same_forest u) whole ≡ true)
  is_any whole (t ∷ ts) into =
      All-cons (λ u. list_any (same_forest u) whole ≡ true) t ts
      (into t (ap (λ (b : Bool). b || list_any (same_forest t) ts) ((equal t t).1 refl)))
      (is_any whole ts (λ u h. into u (later u (same_forest u t) h)))
    where
      later : (u : Forest) (b : Bool) → list_any (same_forest u) ts ≡ true → (b || list_any (same_forest u) ts) ≡ true
      later u true h = refl
      later u false h = h

  -- a tree that is among these keeps its number
  kept_number : (trees : List Forest) (es : List Entry) (t : Forest) → list_any (same_forest t) trees ≡ true
      → number_in (filter (λ (e : Entry). list_any (same_forest e.tree) trees) es) t ≡ number_in es t
  kept_number trees [] t e = refl
  kept_number trees (x ∷ es) t e = go (same_forest t x.tree) (list_any (same_forest x.tree) trees) refl refl (kept_number trees es t e)
    where
      go : (a b : Bool) → same_forest t x.tree ≡ a → list_any (same_forest x.tree) trees ≡ b
          → number_in (filter (λ (e : Entry). list_any (same_forest e.tree) trees) es) t ≡ number_in es t
          → number_in (cond b (x ∷ filter (λ (e : Entry). list_any (same_forest e.tree) trees) es) (filter (λ (e : Entry). list_any (same_forest e.tree) trees) es)) t
          ≡ cond a (Some x.number) (number_in es t)
      go true true p q later = ap (λ (c : Bool). cond c (Some x.number) (number_in (filter (λ (e : Entry). list_any (same_forest e.tree) trees) es) t)) p
      go false true p q later =
          ap (λ (c : Bool). cond c (Some x.number) (number_in (filter (λ (e : Entry). list_any (same_forest e.tree) trees) es) t)) p ∙ later
      go false false p q later = later
      go true false p q later =
          let there : list_any (same_forest x.tree) trees ≡ true = ap (λ (u : Forest). list_any (same_forest u) trees) (sym ((equal t x.tree).0 p)) ∙ e in
          let both : true ≡ false = sym there ∙ q in
          cc

  -- by the numbers that are given next, what is held is right
  next_more : (n : Numbering) (ts : List Forest) → More (InEntries n.entries) (InEntries (with_trees n ts).entries)
  next_more n ts t k h =
      let one = entry_has equal n.entries t h.0 in
      let then_has : number_in (with_trees n ts).entries t ≡ Some one.0 = numbers_stay equal n ts t one.0 one.1 in (
        contained equal (with_trees n ts).entries t one.0 then_has,
        h.1 ∙ numbered_is equal n.entries t one.0 one.1 ∙ sym (numbered_is equal (with_trees n ts).entries t one.0 then_has),
      )

module _ (laws : TurnLaws) (grammar : Grammar) (edition : Edition) (dialect : Dialect) (depth : ℕ) (n : Numbering) (held : List HeldPiece) (text : List ℕ) (f : Forest)
    (next : IsNext (world grammar edition dialect) depth n held text f) where
  abbrev after : Numbering
  after = numbering_of n f

  pub next_turn : IsTurn (world grammar edition dialect) depth text f (number_of after.entries) (map tree_of after.entries) held
  next_turn = record {
    is_text = next.is_text;
    read = next.read;
    apart = tells_apart laws.equal after (with_trees_are n next.entries (definition_trees (pieces f)));
    known = all_known laws.equal n (definition_trees (pieces f));
    right = more_held (world grammar edition dialect) depth (InEntries n.entries) (InEntries after.entries) (next_more laws.equal n (definition_trees (pieces f))) held next.right;
  }

  -- each definition of the text has its number among those that are kept
  kept_numbered : (trees : List Forest) → All (λ u. list_any (same_forest u) (definition_trees (pieces f)) ≡ true) trees
      → All (λ (t : Forest). (k : ℕ) × (number_in after.entries t ≡ Some k)) trees → All (λ (t : Forest). InEntries (kept_entries n f) t (number_of after.entries t)) trees
  kept_numbered [] h g = All-nil (λ (t : Forest). InEntries (kept_entries n f) t (number_of after.entries t))
  kept_numbered (t ∷ trees) h g =
      let one = All-head (λ (u : Forest). (k : ℕ) × (number_in after.entries u ≡ Some k)) t trees g in
      let same : number_in (kept_entries n f) t ≡ number_in after.entries t =
      kept_number laws.equal (definition_trees (pieces f)) after.entries t (All-head (λ u. list_any (same_forest u) (definition_trees (pieces f)) ≡ true) t trees h) in
      All-cons (λ (u : Forest). InEntries (kept_entries n f) u (number_of after.entries u)) t trees
      (contained laws.equal (kept_entries n f) t one.0 (same ∙ one.1), ap (λ (o : Option ℕ). unwrap_or o 0) (sym same))
      (kept_numbered trees (All-tail (λ u. list_any (same_forest u) (definition_trees (pieces f)) ≡ true) t trees h)
      (All-tail (λ (u : Forest). (k : ℕ) × (number_in after.entries u ≡ Some k)) t trees g))

  pieces_numbered : (ps : List Forest) → All (λ (t : Forest). InEntries (kept_entries n f) t (number_of after.entries t)) (definition_trees ps)
      → All (HasNumber (InEntries (kept_entries n f)) (number_of after.entries)) ps
  pieces_numbered [] h = All-nil (HasNumber (InEntries (kept_entries n f)) (number_of after.entries))
  pieces_numbered (p ∷ ps) h = go (definition_of (relative p)) refl h (λ k. pieces_numbered ps k)
    where
      none_some : (d : Definition) → None ≡ Some d → ⊥
      none_some d q = cc

      go : (o : Option Definition) → definition_of (relative p) ≡ o
          → All (λ (t : Forest). InEntries (kept_entries n f) t (number_of after.entries t)) (cond (is_some o) (relative p ∷ definition_trees ps) (definition_trees ps))
          → (All (λ (t : Forest). InEntries (kept_entries n f) t (number_of after.entries t)) (definition_trees ps) → All (HasNumber (InEntries (kept_entries n f)) (number_of after.entries)) ps)
          → All (HasNumber (InEntries (kept_entries n f)) (number_of after.entries)) (p ∷ ps)
      go None e k later =
          All-cons (HasNumber (InEntries (kept_entries n f)) (number_of after.entries)) p ps (λ d q. absurd (none_some d (sym e ∙ q))) (later k)
      go (Some x) e k later =
          All-cons (HasNumber (InEntries (kept_entries n f)) (number_of after.entries)) p ps
          (λ d q. All-head (λ (t : Forest). InEntries (kept_entries n f) t (number_of after.entries t)) (relative p) (definition_trees ps) k)
          (later (All-tail (λ (t : Forest). InEntries (kept_entries n f) t (number_of after.entries t)) (relative p) (definition_trees ps) k))

  abbrev takes : List Kept
  takes = taken_after (world grammar edition dialect) depth (number_of after.entries) held [] (pieces f)

  pub next_held : All (IsHeld (world grammar edition dialect) depth (InEntries (kept_entries n f))) (filter_map held_of takes)
  next_held =
      let trees : List Forest = definition_trees (pieces f) in
      let news : List Kept = kept_after (world grammar edition dialect) depth (number_of after.entries) [] (pieces f) in
      let numbered : All (HasNumber (InEntries (kept_entries n f)) (number_of after.entries)) (pieces f) =
      pieces_numbered (pieces f) (kept_numbered trees (is_any laws.equal trees trees (λ u h. h)) (have_numbers laws.equal n trees)) in
      let are : All (IsKept (world grammar edition dialect) depth (InEntries (kept_entries n f))) news =
      kept_are laws.equal (world grammar edition dialect) depth (InEntries (kept_entries n f)) (number_of after.entries) [] (All-nil (StandsInText (InEntries (kept_entries n f)))) (pieces f)
      (are_pieces (InEntries (kept_entries n f)) (number_of after.entries) (pieces f) (pieces_stand laws.order text f next.is_text next.read) numbered) in
      subst (λ (ks : List Kept). All (IsHeld (world grammar edition dialect) depth (InEntries (kept_entries n f))) (filter_map held_of ks))
      (sym (takes_are laws grammar edition dialect depth text f (number_of after.entries) (map tree_of after.entries) held next_turn))
      (held_are laws.equal (world grammar edition dialect) depth (InEntries (kept_entries n f)) news are)

  pub next_entries : AreEntries after.given (kept_entries n f)
  next_entries =
      filtered_are (λ (e : Entry). list_any (same_forest e.tree) (definition_trees (pieces f))) after.given after.entries
      (with_trees_are n next.entries (definition_trees (pieces f)))
