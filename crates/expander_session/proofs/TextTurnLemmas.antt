-- A text evaluated over a cache: its output, and the cache afterwards.
use Rattle.std.proofs.Common.{◌≡◌, ◌↔◌, ℕ, suc, Bool, true, false, cond, List, [], ◌∷◌, map, Option, Some, None, refl, ap, sym, subst, ◌∙◌, option_map, length}
use Rattle.std.specs.Prelude.{All, not, filter, filter_map}
use Rattle.std.specs.List.{list_any, cons_option}
use Rattle.std.proofs.lemmas.List.Elements.{All-cons, All-head, All-nil, All-tail}
use Rattle.bridge.specs.RelativeSpans.{moved_to}
use Rattle.bridge.specs.declared.printing.relative_spans.Place.{Place}
use Rattle.tt_data.specs.Forest.{Forest, map_spans}
use Rattle.expander_session.specs.Agreement.{FoundIn}
use Rattle.expander_model.specs.Changes.{find_with}
use Rattle.expander_session.specs.Count.{Looked, expanded_count, found_piece, is_same, looked, looked_of}
use Rattle.expander_model.specs.EqualTrees.{same_forest}
use Rattle.expander_model.specs.Definitions.{Definition, definition_of}
use Rattle.expander_model.specs.Expansion.{World, Outcome}
use Rattle.expander_model.specs.Held.{HasNumber, IsMet, Kept, Met, Numbered, StandFromFirst, Stands, Tells, kept, kept_after, kept_of, met, met_of, mets_after, nearest_met, numbered_of, numbered_scope, numbered_world, present, resolve, resolve_definition, unnumbered, with_met}
use Rattle.expander_model.specs.Pieces.{first_start, relative}
use Rattle.expander_session.specs.Reuse.{HeldPiece, IsHeld, looked_at, looked_held, matches}
use Rattle.expander_session.specs.TextTurn.{IsKept, IsPlain, StandsInText, held_of, is_unmatched, taken_after, taken_of}
use Rattle.expander_model.proofs.DefinitionPlaceLemmas.{definition_piece}
use Rattle.expander_session.proofs.ExpandedLemmas.{found_expanded}
use Rattle.expander_scope.proofs.HeldLemmas.{found_is, resolved_definition}
use Rattle.expander_model.proofs.PlaceLemmas.{own_stands, piece_and_back, resolved_piece}
use Rattle.expander_session.proofs.ReuseLemmas.{fresh_is_held, matches_are_same, met_scope, reuse_is, seen}
use Rattle.expander_model.specs.declared.dialect.Dialect.{Dialect}

-- a piece of a text: no token is before its first; and where it is a definition, its tree has its number
pub record IsPiece (table : Forest → ℕ → Type 0) (number_of : Forest → ℕ) (p : Forest) : Type 0 where
  pub from : StandFromFirst p
  pub numbered : HasNumber table number_of p

pub are_pieces : (table : Forest → ℕ → Type 0) (number_of : Forest → ℕ) (ps : List Forest) → All StandFromFirst ps → All (HasNumber table number_of) ps
    → All (IsPiece table number_of) ps
are_pieces table number_of [] h g = All-nil (IsPiece table number_of)
are_pieces table number_of (p ∷ ps) h g =
    All-cons (IsPiece table number_of) p ps (record { from = All-head StandFromFirst p ps h; numbered = All-head (HasNumber table number_of) p ps g })
    (are_pieces table number_of ps (All-tail StandFromFirst p ps h) (All-tail (HasNumber table number_of) p ps g))

pub mets : (table : Forest → ℕ → Type 0) (before : List Met) → All (StandsInText table) before → All (IsMet table) before
mets table [] h = All-nil (IsMet table)
mets table (m ∷ before) h =
    All-cons (IsMet table) m before (All-head (StandsInText table) m before h).numbered (mets table before (All-tail (StandsInText table) m before h))

module _ (equal : (f g : Forest) → (same_forest f g ≡ true) ↔ (f ≡ g)) where
  -- ---- what is held decides nothing but where an outcome comes from

  pub met_there : (world : World Definition) (depth : ℕ) (table : Forest → ℕ → Type 0) (number_of : Forest → ℕ) (p : Forest) (d : Definition)
      → Stands p → HasNumber table number_of p → definition_of (relative p) ≡ Some d → StandsInText table (met_of world depth number_of p d)
  met_there world depth table number_of p d stands numbered e = record {
    numbered = record { tree = relative p; entry = numbered d e; definition = e };
    piece = p;
    from = stands;
    start = refl;
    tree = refl;
  }

  -- definitions stand in their texts, whichever these are
  pub mets_stand : (world : World Definition) (depth : ℕ) (table : Forest → ℕ → Type 0) (number_of : Forest → ℕ) (before : List Met)
      → All (StandsInText table) before → (ps : List Forest) → All Stands ps → All (HasNumber table number_of) ps
      → All (StandsInText table) (mets_after world depth number_of before ps)
  mets_stand world depth table number_of before h [] s n = h
  mets_stand world depth table number_of before h (p ∷ ps) s n =
      go (definition_of (relative p)) refl
      (λ now are. mets_stand world depth table number_of now are ps (All-tail Stands p ps s) (All-tail (HasNumber table number_of) p ps n))
    where
      go : (o : Option Definition) → definition_of (relative p) ≡ o
          → ((now : List Met) → All (StandsInText table) now → All (StandsInText table) (mets_after world depth number_of now ps))
          → All (StandsInText table) (mets_after world depth number_of (with_met world depth number_of p o before) ps)
      go None e later = later before h
      go (Some d) e later =
          let m : Met = met_of world depth number_of p d in
          later (m ∷ before)
          (All-cons (StandsInText table) m before
          (met_there world depth table number_of p d (All-head Stands p ps s) (All-head (HasNumber table number_of) p ps n) e) h)

  pub taken_is : (world : World Definition) (depth : ℕ) (table : Forest → ℕ → Type 0) → Tells table → (number_of : Forest → ℕ)
      → (held : List HeldPiece) → All (IsHeld world depth table) held → (before : List Met) → All (StandsInText table) before → (ps : List Forest) → All (IsPiece table number_of) ps
      → taken_after world depth number_of held before ps ≡ kept_after world depth number_of before ps
  taken_is world depth table tells number_of held all before h [] g = refl
  taken_is world depth table tells number_of held all before h (p ∷ ps) g =
      go (All-head (IsPiece table number_of) p ps g) (λ now are. taken_is world depth table tells number_of held all now are ps (All-tail (IsPiece table number_of) p ps g)) (definition_of (relative p)) refl
    where
      go : IsPiece table number_of p → ((now : List Met) → All (StandsInText table) now → taken_after world depth number_of held now ps ≡ kept_after world depth number_of now ps)
          → (o : Option Definition) → definition_of (relative p) ≡ o
          → taken_of world depth number_of held before p o ∷ taken_after world depth number_of held (with_met world depth number_of p o before) ps
          ≡ kept_of world depth number_of before p o ∷ kept_after world depth number_of (with_met world depth number_of p o before) ps
      go here later (Some d) e =
          ap (λ (ks : List Kept). met (met_of world depth number_of p d) ∷ ks)
          (later (met_of world depth number_of p d ∷ before)
          (All-cons (StandsInText table) (met_of world depth number_of p d) before (met_there world depth table number_of p d (own_stands p here.from) here.numbered e) h))
      go here later None e =
          ap (λ (o : Outcome Numbered). kept (first_start p) before (relative p) o ∷ taken_after world depth number_of held before ps)
          (reuse_is equal world depth table tells (numbered_scope world.dialect before) (met_scope equal world.dialect table before (mets table before h)) (relative p) held all)
          ∙ ap (λ (ks : List Kept). kept_of world depth number_of before p None ∷ ks) (later before h)

  -- each piece stands as it should
  pub kept_are : (world : World Definition) (depth : ℕ) (table : Forest → ℕ → Type 0) (number_of : Forest → ℕ)
      → (before : List Met) → All (StandsInText table) before → (ps : List Forest) → All (IsPiece table number_of) ps
      → All (IsKept world depth table) (kept_after world depth number_of before ps)
  kept_are world depth table number_of before h [] g = All-nil (IsKept world depth table)
  kept_are world depth table number_of before h (p ∷ ps) g =
      go (All-head (IsPiece table number_of) p ps g) (λ now are. kept_are world depth table number_of now are ps (All-tail (IsPiece table number_of) p ps g)) (definition_of (relative p)) refl
    where
      go : IsPiece table number_of p → ((now : List Met) → All (StandsInText table) now → All (IsKept world depth table) (kept_after world depth number_of now ps))
          → (o : Option Definition) → definition_of (relative p) ≡ o
          → All (IsKept world depth table) (kept_of world depth number_of before p o ∷ kept_after world depth number_of (with_met world depth number_of p o before) ps)
      go piece later (Some d) e =
          let m : Met = met_of world depth number_of p d in
          let here = met_there world depth table number_of p d (own_stands p piece.from) piece.numbered e in
          All-cons (IsKept world depth table) (met m) (kept_after world depth number_of (m ∷ before) ps) here
          (later (m ∷ before) (All-cons (StandsInText table) m before here h))
      go piece later None e =
          All-cons (IsKept world depth table) (kept_of world depth number_of before p None) (kept_after world depth number_of before ps)
          (record { met = h; piece = p; from = piece.from; start = refl; tree = refl; outcome = refl }) (later before h)

  -- what is held afterwards is as it should be
  pub held_are : (world : World Definition) (depth : ℕ) (table : Forest → ℕ → Type 0) (ks : List Kept) → All (IsKept world depth table) ks
      → All (IsHeld world depth table) (filter_map held_of ks)
  held_are world depth table [] h = All-nil (IsHeld world depth table)
  held_are world depth table (met m ∷ ks) h = held_are world depth table ks (All-tail (IsKept world depth table) (met m) ks h)
  held_are world depth table (kept start before tree outcome ∷ ks) h =
      let here : IsPlain world depth table start before tree outcome = All-head (IsKept world depth table) (kept start before tree outcome) ks h in
      All-cons (IsHeld world depth table) (record { tree = tree; outcome = outcome }) (filter_map held_of ks)
      (subst (λ (o : Outcome Numbered). IsHeld world depth table (record { tree = tree; outcome = o })) (sym here.outcome)
      (fresh_is_held equal world depth table (numbered_scope world.dialect before) (met_scope equal world.dialect table before (mets table before here.met)) tree))
      (held_are world depth table ks (All-tail (IsKept world depth table) (kept start before tree outcome) ks h))

  -- ---- the count

  -- a definition that was found, as the count sees it
  pub found_seen : (dialect : Dialect) (table : Forest → ℕ → Type 0) → Tells table → (start : ℕ) (before : List Met) → All (StandsInText table) before → (name : List ℕ) (o : Option Met) → nearest_met dialect before name ≡ o
      → found_piece (option_map (resolve_definition start before) (option_map numbered_of o)) ≡ option_map (λ (d : Numbered). d.definition.piece) (option_map numbered_of o)
  found_seen dialect table tells start before h name None e = refl
  found_seen dialect table tells start before h name (Some m) e =
      let is_met : StandsInText table m = (found_is dialect (StandsInText table) before name m h e).is_so in
      let piece : m.numbered.definition.piece ≡ relative is_met.piece = definition_piece is_met.numbered.tree m.numbered.definition is_met.numbered.definition ∙ is_met.tree in
      let first : Place = record { text = m.place.text; start = first_start is_met.piece } in
      let there : map_spans (moved_to m.place) m.numbered.definition.piece ≡ is_met.piece =
      ap (λ (n : ℕ). map_spans (moved_to (record { text = m.place.text; start = n })) m.numbered.definition.piece) is_met.start
      ∙ ap (map_spans (moved_to first)) piece ∙ piece_and_back first is_met.piece is_met.from in
      ap (λ (d : Definition). Some (relative d.piece)) (sym (resolved_definition dialect table tells start before name m (mets table before h) e))
      ∙ ap (λ (p : Forest). Some (relative p)) there ∙ ap Some (sym piece)

  finds_seen : (dialect : Dialect) (table : Forest → ℕ → Type 0) → Tells table → (start : ℕ) (before : List Met) → All (StandsInText table) before → (finds : List (List ℕ × Option Numbered))
      → FoundIn (numbered_scope dialect before) finds
      → map (λ (f : List ℕ × Option Definition). (f.0, found_piece f.1)) (map (find_with (resolve_definition start before)) finds) ≡ map seen finds
  finds_seen dialect table tells start before h [] g = refl
  finds_seen dialect table tells start before h (x ∷ finds) g =
      let one : found_piece (option_map (resolve_definition start before) x.1) ≡ option_map (λ (d : Numbered). d.definition.piece) x.1 =
      ap (λ (o : Option Numbered). found_piece (option_map (resolve_definition start before) o)) (sym g.0)
      ∙ found_seen dialect table tells start before h x.0 (nearest_met dialect before x.0) refl
      ∙ ap (option_map (λ (d : Numbered). d.definition.piece)) g.0 in
      ap (λ (o : Option Forest). (x.0, o) ∷ map (λ (f : List ℕ × Option Definition). (f.0, found_piece f.1)) (map (find_with (resolve_definition start before)) finds)) one
      ∙ ap (λ (fs : List (List ℕ × Option Forest)). seen x ∷ fs) (finds_seen dialect table tells start before h finds g.1)

  -- a plain piece of a text, as the count sees it, is what is held of it
  pub looked_present : (world : World Definition) (depth : ℕ) (table : Forest → ℕ → Type 0) → Tells table → (start : ℕ) (before : List Met) (tree : Forest) (outcome : Outcome Numbered)
      → IsPlain world depth table start before tree outcome → looked (present (kept start before tree outcome)) ≡ Some (looked_at tree outcome)
  looked_present world depth table tells start before tree outcome h =
      let there : map_spans (resolve start before) tree ≡ h.piece =
      ap (λ (n : ℕ). map_spans (resolve n before) tree) h.start ∙ ap (map_spans (resolve (first_start h.piece) before)) h.tree ∙ resolved_piece (first_start h.piece) before h.piece h.from in
      let found : FoundIn (numbered_scope world.dialect before) outcome.finds =
      subst (λ (o : Outcome Numbered). FoundIn (numbered_scope world.dialect before) o.finds) (sym h.outcome) (found_expanded (numbered_world world) unnumbered (numbered_scope world.dialect before) depth tree) in
      let finds = finds_seen world.dialect table tells start before h.met outcome.finds found in
      let trees : relative (map_spans (resolve start before) tree) ≡ tree = ap relative there ∙ sym h.tree in
      λ i. Some (record { tree = trees i; finds = finds i })

  -- what the count sees of a text is what is held of it afterwards
  pub looked_are_held : (world : World Definition) (depth : ℕ) (table : Forest → ℕ → Type 0) → Tells table → (ks : List Kept) → All (IsKept world depth table) ks
      → looked_of (map present ks) ≡ map looked_held (filter_map held_of ks)
  looked_are_held world depth table tells [] h = refl
  looked_are_held world depth table tells (met m ∷ ks) h = looked_are_held world depth table tells ks (All-tail (IsKept world depth table) (met m) ks h)
  looked_are_held world depth table tells (kept start before tree outcome ∷ ks) h =
      ap (λ (o : Option Looked). cons_option o (looked_of (map present ks))) (looked_present world depth table tells start before tree outcome (All-head (IsKept world depth table) (kept start before tree outcome) ks h))
      ∙ ap (λ (ls : List Looked). looked_at tree outcome ∷ ls) (looked_are_held world depth table tells ks (All-tail (IsKept world depth table) (kept start before tree outcome) ks h))

  unmatched_one : (world : World Definition) (depth : ℕ) (table : Forest → ℕ → Type 0) → Tells table → (held : List HeldPiece) → All (IsHeld world depth table) held
      → (start : ℕ) (before : List Met) (tree : Forest) (outcome : Outcome Numbered) → IsPlain world depth table start before tree outcome
      → list_any (is_same (looked_at tree outcome)) (map looked_held held) ≡ list_any (matches (numbered_scope world.dialect before) tree) held
  unmatched_one world depth table tells held all start before tree outcome h =
      ap (λ (o : Outcome Numbered). list_any (is_same (looked_at tree o)) (map looked_held held)) h.outcome
      ∙ matches_are_same equal world depth table tells (numbered_scope world.dialect before) (met_scope equal world.dialect table before (mets table before h.met)) tree held all

  -- the count is the number of plain pieces that nothing held matches
  pub count_is : (world : World Definition) (depth : ℕ) (table : Forest → ℕ → Type 0) → Tells table → (held : List HeldPiece) → All (IsHeld world depth table) held
      → (ks : List Kept) → All (IsKept world depth table) ks
      → expanded_count (Some (map looked_held held)) (looked_of (map present ks)) ≡ length (filter (is_unmatched world.dialect held) ks)
  count_is world depth table tells held all ks h =
      ap (λ (ls : List Looked). expanded_count (Some (map looked_held held)) ls) (looked_are_held world depth table tells ks h) ∙ counts ks h
    where
      counts : (xs : List Kept) → All (IsKept world depth table) xs
          → expanded_count (Some (map looked_held held)) (map looked_held (filter_map held_of xs)) ≡ length (filter (is_unmatched world.dialect held) xs)
      counts [] g = refl
      counts (met m ∷ xs) g = counts xs (All-tail (IsKept world depth table) (met m) xs g)
      counts (kept start before tree outcome ∷ xs) g =
          step (list_any (is_same (looked_at tree outcome)) (map looked_held held)) (list_any (matches (numbered_scope world.dialect before) tree) held)
          (unmatched_one world depth table tells held all start before tree outcome (All-head (IsKept world depth table) (kept start before tree outcome) xs g))
          (counts xs (All-tail (IsKept world depth table) (kept start before tree outcome) xs g))
        where
          step : (a b : Bool) → a ≡ b
              → length (filter (λ l. not (list_any (is_same l) (map looked_held held))) (map looked_held (filter_map held_of xs))) ≡ length (filter (is_unmatched world.dialect held) xs)
              → length (cond (not a) (looked_at tree outcome ∷ filter (λ l. not (list_any (is_same l) (map looked_held held))) (map looked_held (filter_map held_of xs)))
              (filter (λ l. not (list_any (is_same l) (map looked_held held))) (map looked_held (filter_map held_of xs))))
              ≡ length (cond (not b) (kept start before tree outcome ∷ filter (is_unmatched world.dialect held) xs) (filter (is_unmatched world.dialect held) xs))
          step true true e later = later
          step false false e later = ap suc later
          step true false e later = cc
          step false true e later = cc
