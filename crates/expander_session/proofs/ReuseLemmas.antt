-- A memo is reused exactly where a new expansion would give the same.
use Rattle.std.proofs.Common.{◌≡◌, ◌↔◌, ℕ, Bool, true, false, cond, List, [], ◌∷◌, map, Option, Some, None, refl, ap, sym, subst, ◌∙◌, option_map, find}
use Rattle.std.specs.Prelude.{All, ◌&&◌, ◌||◌}
use Rattle.std.specs.List.{list_any}
use Rattle.std.proofs.lemmas.Bool.Decides.{Decides-eqb}
use Rattle.std.proofs.lemmas.List.Elements.{All-cons, All-head, All-nil, All-tail}
use Rattle.std.proofs.lemmas.Slice.Eq.{bytes_eq-Decides}
use Rattle.std.proofs.lemmas.Bool.{and_from, and_parts}
use Rattle.tt_data.specs.Forest.{Forest}
use Rattle.expander_session.specs.Agreement.{FoundIn, scope_of}
use Rattle.expander_session.specs.Count.{Looked, finds_within, is_same, same_found}
use Rattle.expander_model.specs.EqualTrees.{same_forest}
use Rattle.expander_model.specs.Expansion.{World, Outcome}
use Rattle.expander_model.specs.Definitions.{Definition}
use Rattle.expander_model.specs.Held.{IsMet, IsNumbered, Met, Numbered, Tells, nearest_met, numbered_of, numbered_scope, numbered_world, unnumbered}
use Rattle.expander_model.specs.Limits.{expanded}
use Rattle.expander_session.specs.Reuse.{FoundIs, HeldPiece, IsHeld, agrees, looked_at, looked_held, matches, reused_outcome, same_number}
use Rattle.small_grammar.specs.Text.{same_text}
use Rattle.expander_session.proofs.ExpandedLemmas.{expanded_by_finds, found_expanded, same_expanded}
use Rattle.expander_model.proofs.DefinitionPlaceLemmas.{definition_piece}
use Rattle.expander_scope.proofs.HeldLemmas.{found_is, same_definition}
use Rattle.expander_model.specs.declared.dialect.Dialect.{Dialect}

text_is : (a b : List ℕ) → same_text a b ≡ true → a ≡ b
text_is a b = (bytes_eq-Decides a b).0

text_same : (a : List ℕ) → same_text a a ≡ true
text_same a = (bytes_eq-Decides a a).1 refl

-- a find as the count sees it
abbrev pub seen : (List ℕ × Option Numbered) → List ℕ × Option Forest
seen f = (f.0, option_map (λ (d : Numbered). d.definition.piece) f.1)

module _ (equal : (f g : Forest) → (same_forest f g ≡ true) ↔ (f ≡ g)) where
  forest_is : (f g : Forest) → same_forest f g ≡ true → f ≡ g
  forest_is f g = (equal f g).0

  forest_same : (f : Forest) → same_forest f f ≡ true
  forest_same f = (equal f f).1 refl

  abbrev Scope : Type 0
  Scope = List ℕ → Option Numbered

  -- what a scope finds has a number of the table
  abbrev IsScope : (Forest → ℕ → Type 0) → Scope → Type 0
  IsScope table scope = (name : List ℕ) → FoundIs (IsNumbered table) (name, scope name)

  pub met_scope : (dialect : Dialect) (table : Forest → ℕ → Type 0) (before : List Met) → All (IsMet table) before → IsScope table (numbered_scope dialect before)
  met_scope dialect table before h name = go (nearest_met dialect before name) refl
    where
      go : (o : Option Met) → nearest_met dialect before name ≡ o → FoundIs (IsNumbered table) (name, option_map numbered_of o)
      go None e = tt
      go (Some m) e = (found_is dialect (IsMet table) before name m h e).is_so

  -- the finds of an expansion have numbers of the table
  pub found_numbers : (table : Forest → ℕ → Type 0) (scope : Scope) → IsScope table scope → (finds : List (List ℕ × Option Numbered)) → FoundIn scope finds → All (FoundIs (IsNumbered table)) finds
  found_numbers table scope h [] f = All-nil (FoundIs (IsNumbered table))
  found_numbers table scope h (x ∷ finds) f =
      All-cons (FoundIs (IsNumbered table)) x finds (subst (λ (o : Option Numbered). FoundIs (IsNumbered table) (x.0, o)) f.0 (h x.0)) (found_numbers table scope h finds f.1)

  -- a fresh outcome is held
  pub fresh_is_held : (world : World Definition) (depth : ℕ) (table : Forest → ℕ → Type 0) (scope : Scope) → IsScope table scope → (tree : Forest)
      → IsHeld world depth table (record { tree = tree; outcome = expanded (numbered_world world) unnumbered scope depth tree })
  fresh_is_held world depth table scope h tree = record {
    is = sym (expanded_by_finds (numbered_world world) unnumbered scope depth tree);
    finds = found_numbers table scope h _ (found_expanded (numbered_world world) unnumbered scope depth tree);
  }

  numbered_eq : (a b : Numbered) → a.number ≡ b.number → a.definition ≡ b.definition → a ≡ b
  numbered_eq a b p q = λ i. record { number = p i; definition = q i }

  -- the same number, the same definition
  found_by_number : (table : Forest → ℕ → Type 0) → Tells table → (name : List ℕ) (a b : Option Numbered)
      → FoundIs (IsNumbered table) (name, a) → FoundIs (IsNumbered table) (name, b) → same_number a b ≡ true → a ≡ b
  found_by_number table tells name None None h g e = refl
  found_by_number table tells name (Some a) (Some b) h g e =
      let number : a.number ≡ b.number = (Decides-eqb a.number b.number).0 e in
      ap Some (numbered_eq a b number (same_definition table tells a b h g number))
  found_by_number table tells name None (Some b) h g e = cc
  found_by_number table tells name (Some a) None h g e = cc

  pub agreed : (table : Forest → ℕ → Type 0) → Tells table → (scope : Scope) → IsScope table scope → (finds : List (List ℕ × Option Numbered))
      → All (FoundIs (IsNumbered table)) finds → agrees scope finds ≡ true → FoundIn scope finds
  agreed table tells scope h [] g e = tt
  agreed table tells scope h (x ∷ finds) g e =
      let parts = and_parts _ _ e in
      (found_by_number table tells x.0 (scope x.0) x.1 (h x.0) (All-head (FoundIs (IsNumbered table)) x finds g) parts.0, agreed table tells scope h finds (All-tail (FoundIs (IsNumbered table)) x finds g) parts.1)

  -- a match has the outcome that a new expansion would have
  pub match_is : (world : World Definition) (depth : ℕ) (table : Forest → ℕ → Type 0) → Tells table → (scope : Scope) → IsScope table scope
      → (tree : Forest) (q : HeldPiece) → IsHeld world depth table q → matches scope tree q ≡ true
      → q.outcome ≡ expanded (numbered_world world) unnumbered scope depth tree
  match_is world depth table tells scope h tree q held e =
      let parts = and_parts _ _ e in
      let trees : tree ≡ q.tree = forest_is tree q.tree parts.0 in
      let found : FoundIn scope q.outcome.finds = agreed table tells scope h q.outcome.finds held.finds parts.1 in
      let known : FoundIn scope (expanded (numbered_world world) unnumbered (scope_of q.outcome.finds) depth q.tree).finds = subst (λ (o : Outcome Numbered). FoundIn scope o.finds) held.is found in
      held.is ∙ sym (same_expanded (numbered_world world) unnumbered (scope_of q.outcome.finds) scope depth q.tree known)
      ∙ ap (expanded (numbered_world world) unnumbered scope depth) (sym trees)

  -- whatever is held, a piece's outcome is that of a new expansion
  pub reuse_is : (world : World Definition) (depth : ℕ) (table : Forest → ℕ → Type 0) → Tells table → (scope : Scope) → IsScope table scope
      → (tree : Forest) (held : List HeldPiece) → All (IsHeld world depth table) held
      → reused_outcome (find (matches scope tree) held) (expanded (numbered_world world) unnumbered scope depth tree)
      ≡ expanded (numbered_world world) unnumbered scope depth tree
  reuse_is world depth table tells scope h tree [] all = refl
  reuse_is world depth table tells scope h tree (q ∷ held) all =
      go (reuse_is world depth table tells scope h tree held (All-tail (IsHeld world depth table) q held all)) (matches scope tree q) refl
    where
      go : reused_outcome (find (matches scope tree) held) (expanded (numbered_world world) unnumbered scope depth tree) ≡ expanded (numbered_world world) unnumbered scope depth tree
          → (t : Bool) → matches scope tree q ≡ t
          → reused_outcome (cond t (Some q) (find (matches scope tree) held)) (expanded (numbered_world world) unnumbered scope depth tree) ≡ expanded (numbered_world world) unnumbered scope depth tree
      go later true e = match_is world depth table tells scope h tree q (All-head (IsHeld world depth table) q held all) e
      go later false e = later

  -- ---- the count

  -- the tree of a numbered definition is its piece
  piece_is : (table : Forest → ℕ → Type 0) (d : Numbered) (h : IsNumbered table d) → d.definition.piece ≡ h.tree
  piece_is table d h = definition_piece h.tree d.definition h.definition

  pub same_found-same : (o : Option Forest) → same_found o o ≡ true
  same_found-same None = refl
  same_found-same (Some f) = forest_same f

  abbrev FoundList : Type 0
  FoundList = List (List ℕ × Option Forest)

  or_left : (a b : Bool) → a ≡ true → (a || b) ≡ true
  or_left a b e = ap (λ t. t || b) e

  or_right : (a b : Bool) → b ≡ true → (a || b) ≡ true
  or_right true b e = refl
  or_right false b e = e

  or_cases : (a b : Bool) (X : Type 0) → (a || b) ≡ true → (a ≡ true → X) → (b ≡ true → X) → X
  or_cases true b X e f g = f refl
  or_cases false b X e f g = g e

  within_more : (y : List ℕ × Option Forest) (a b : FoundList) → finds_within a b ≡ true → finds_within a (y ∷ b) ≡ true
  within_more y [] b e = refl
  within_more y (x ∷ a) b e =
      let parts = and_parts _ _ e in
      and_from _ _ (or_right (same_text x.0 y.0 && same_found x.1 y.1) _ parts.0) (within_more y a b parts.1)

  within_same : (a : FoundList) → finds_within a a ≡ true
  within_same [] = refl
  within_same (x ∷ a) =
      and_from _ _ (or_left (same_text x.0 x.0 && same_found x.1 x.1) _ (and_from _ _ (text_same x.0) (same_found-same x.1))) (within_more x a a (within_same a))

  pub looked_same : (l : Looked) → is_same l l ≡ true
  looked_same l = and_from _ _ (forest_same l.tree) (and_from _ _ (within_same l.finds) (within_same l.finds))

  -- equal trees, the same number
  pub number_by_tree : (table : Forest → ℕ → Type 0) → Tells table → (name : List ℕ) (a b : Option Numbered)
      → FoundIs (IsNumbered table) (name, a) → FoundIs (IsNumbered table) (name, b)
      → same_found (option_map (λ (d : Numbered). d.definition.piece) a) (option_map (λ (d : Numbered). d.definition.piece) b) ≡ true → same_number b a ≡ true
  number_by_tree table tells name None None h g e = refl
  number_by_tree table tells name (Some a) (Some b) h g e =
      let one : a.definition.piece ≡ h.tree = piece_is table a h in
      let two : b.definition.piece ≡ g.tree = piece_is table b g in
      let trees : g.tree ≡ h.tree = sym two ∙ sym (forest_is a.definition.piece b.definition.piece e) ∙ one in
      let number : b.number ≡ a.number = tells.one h.tree b.number a.number (subst (λ (t : Forest). table t b.number) trees g.entry) h.entry in
      (Decides-eqb b.number a.number).1 number
  number_by_tree table tells name None (Some b) h g e = cc
  number_by_tree table tells name (Some a) None h g e = cc

  -- a name that is among finds of the scope, with an equal definition, is found so by number
  found_among : (table : Forest → ℕ → Type 0) → Tells table → (scope : Scope) → IsScope table scope → (now : List (List ℕ × Option Numbered)) → FoundIn scope now
      → (x : List ℕ × Option Numbered) → FoundIs (IsNumbered table) x
      → list_any (λ g. same_text x.0 g.0 && same_found (option_map (λ (d : Numbered). d.definition.piece) x.1) g.1) (map seen now) ≡ true
      → same_number (scope x.0) x.1 ≡ true
  found_among table tells scope h [] f (name, o) g e = cc
  found_among table tells scope h (y ∷ now) f (name, o) g e =
      or_cases _ _ _ e
      (λ here.
      let parts = and_parts _ _ here in
      let found : scope name ≡ y.1 = ap scope (text_is name y.0 parts.0) ∙ f.0 in
      number_by_tree table tells name o (scope name) g (h name)
      (ap (λ (r : Option Numbered). same_found (option_map (λ (d : Numbered). d.definition.piece) o) (option_map (λ (d : Numbered). d.definition.piece) r)) found ∙ parts.1))
      (λ later. found_among table tells scope h now f.1 (name, o) g later)

  agrees_within : (table : Forest → ℕ → Type 0) → Tells table → (scope : Scope) → IsScope table scope → (now : List (List ℕ × Option Numbered)) → FoundIn scope now
      → (finds : List (List ℕ × Option Numbered)) → All (FoundIs (IsNumbered table)) finds → finds_within (map seen finds) (map seen now) ≡ true → agrees scope finds ≡ true
  agrees_within table tells scope h now f [] g e = refl
  agrees_within table tells scope h now f (x ∷ finds) g e =
      let parts = and_parts _ _ e in
      and_from _ _ (found_among table tells scope h now f x (All-head (FoundIs (IsNumbered table)) x finds g) parts.0) (agrees_within table tells scope h now f finds (All-tail (FoundIs (IsNumbered table)) x finds g) parts.1)

  bool_eq : (a b : Bool) → (a ≡ true → b ≡ true) → (b ≡ true → a ≡ true) → a ≡ b
  bool_eq true b f g = sym (f refl)
  bool_eq false true f g = g refl
  bool_eq false false f g = refl

  -- a held piece matches exactly where the count sees the same piece
  pub match_is_same : (world : World Definition) (depth : ℕ) (table : Forest → ℕ → Type 0) → Tells table → (scope : Scope) → IsScope table scope
      → (tree : Forest) (q : HeldPiece) → IsHeld world depth table q
      → is_same (looked_at tree (expanded (numbered_world world) unnumbered scope depth tree)) (looked_held q) ≡ matches scope tree q
  match_is_same world depth table tells scope h tree q held =
      bool_eq _ _ forth back
    where
      forth : is_same (looked_at tree (expanded (numbered_world world) unnumbered scope depth tree)) (looked_held q) ≡ true → matches scope tree q ≡ true
      forth e =
          let parts = and_parts _ _ e in
          let finds = and_parts _ _ parts.1 in
          and_from _ _ parts.0
          (agrees_within table tells scope h _ (found_expanded (numbered_world world) unnumbered scope depth tree) q.outcome.finds held.finds finds.1)

      back : matches scope tree q ≡ true → is_same (looked_at tree (expanded (numbered_world world) unnumbered scope depth tree)) (looked_held q) ≡ true
      back e =
          let parts = and_parts _ _ e in
          let trees : tree ≡ q.tree = forest_is tree q.tree parts.0 in
          let outcome = match_is world depth table tells scope h tree q held e in
          let one : looked_at tree (expanded (numbered_world world) unnumbered scope depth tree) ≡ looked_held q =
          ap (λ (t : Forest). looked_at t (expanded (numbered_world world) unnumbered scope depth tree)) trees ∙ ap (looked_at q.tree) (sym outcome) in
          ap (λ (l : Looked). is_same l (looked_held q)) one ∙ looked_same (looked_held q)

  pub matches_are_same : (world : World Definition) (depth : ℕ) (table : Forest → ℕ → Type 0) → Tells table → (scope : Scope) → IsScope table scope
      → (tree : Forest) (held : List HeldPiece) → All (IsHeld world depth table) held
      → list_any (is_same (looked_at tree (expanded (numbered_world world) unnumbered scope depth tree))) (map looked_held held) ≡ list_any (matches scope tree) held
  matches_are_same world depth table tells scope h tree [] all = refl
  matches_are_same world depth table tells scope h tree (q ∷ held) all =
      ap (λ (b : Bool). b || list_any (is_same (looked_at tree (expanded (numbered_world world) unnumbered scope depth tree))) (map looked_held held)) (match_is_same world depth table tells scope h tree q (All-head (IsHeld world depth table) q held all))
      ∙ ap (λ (b : Bool). matches scope tree q || b) (matches_are_same world depth table tells scope h tree held (All-tail (IsHeld world depth table) q held all))
