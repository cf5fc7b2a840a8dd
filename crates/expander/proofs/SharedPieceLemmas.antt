-- How cache misses are counted for texts that share pieces with equal piece-relative spans.
use Rattle.std.proofs.Common.{◌≡◌, ℕ, Bool, true, false, cond, List, [], ◌∷◌, ◌++◌, map, Option, Some, None, refl, ap, sym, subst, ◌∙◌, option_map}
use Rattle.std.specs.Prelude.{All, Contains, IsUtf8, Ok, Result, filter_map, find, is_some, ◌||◌}
use Rattle.std.specs.List.{cons_option, list_any}
use Rattle.std.proofs.lemmas.List.Elements.{All-cons, All-head, All-nil, All-tail, filter_map-append}
use Rattle.bridge.specs.TokenSteps.{text_reading}
use Rattle.bridge.specs.declared.reading.outcome.ReadFault.{ReadFault}
use Rattle.mbe.specs.Grammar.{Grammar}
use Rattle.tt_data.specs.Forest.{Forest}
use Rattle.tt_data.specs.declared.edition.Edition.{Edition}
use Rattle.expander_session.specs.Count.{Looked, expanded_count, is_same, looked_of}
use Rattle.expander_model.specs.declared.dialect.Dialect.{Dialect}
use Rattle.expander_model.specs.Definitions.{Definition, definition_of}
use Rattle.expander_model.specs.Expansion.{World}
use Rattle.expander_model.specs.Scoping.{is_found}
use Rattle.expander_model.specs.Limits.{expanded}
use Rattle.expander_model.specs.Held.{HasNumber, IsMet, Known, Met, Numbered, StandFromFirst, Tells, kept_after, kept_of, met_of, nearest_met, numbered_of, numbered_scope, numbered_world, with_met, unnumbered}
use Rattle.expander_model.specs.DefinitionTrees.{definition_trees}
use Rattle.expander_session.specs.Laws.{ExpandsNothing}
use Rattle.expander_session.specs.Layered.{layers}
use Rattle.expander_model.specs.Meaning.{Layers, Member, definitions_after, member, members, members_after, meaning_from, with_definition}
use Rattle.expander_scope.specs.Numbers.{Numbering, number_of, tree_of, with_trees}
use Rattle.expander_model.specs.Pieces.{pieces, relative}
use Rattle.expander_session.specs.Replies.{IsMeant, IsReplyTo}
use Rattle.expander_session.specs.Reuse.{HeldPiece, looked_held}
use Rattle.expander_session.specs.TextTurn.{StandsInText, held_of}
use Rattle.expander_model.specs.World.{world}
use Rattle.expander_session.specs.declared.session.Reply.{Reply}
use Rattle.expander_session.specs.declared.session.Reply.TheVariants.{Read, Unread}
use Rattle.expander_scope.proofs.HeldLemmas.{members_present}
use Rattle.expander_session.proofs.NumberLemmas.{all_known, tells_apart, with_trees_are}
use Rattle.expander_session.proofs.ReadPlaceLemmas.{pieces_stand}
use Rattle.expander.proofs.ReplyLawLemmas.{behind_counts}
use Rattle.expander.proofs.SelfMatchLemmas.{AllMatch, all_match, no_new_piece, none_counts}
use Rattle.expander_session.proofs.TextPlaceLemmas.{all_numbered, tells}
use Rattle.expander_session.proofs.TextTurnLemmas.{are_pieces, kept_are, looked_are_held}
use Rattle.expander_session.proofs.WholeTurnLemmas.{TurnLaws}
use Rattle.expander_session.proofs.WorldLemmas.{world_at_other_places}

-- ---- of pieces in places of their own only the trees decide what is held

-- what a name finds among these, given nearest first
abbrev nearest_of : Dialect → List Numbered → List ℕ → Option Numbered
nearest_of dialect before name = find (λ (d : Numbered). is_found dialect d.definition name) before

scope_at : (dialect : Dialect) (before : List Met) (name : List ℕ) → numbered_scope dialect before name ≡ nearest_of dialect (map numbered_of before) name
scope_at dialect [] name = refl
scope_at dialect (m ∷ before) name = go (is_found dialect m.numbered.definition name) (scope_at dialect before name)
  where
    go : (b : Bool) → numbered_scope dialect before name ≡ nearest_of dialect (map numbered_of before) name
        → option_map numbered_of (cond b (Some m) (nearest_met dialect before name)) ≡ cond b (Some m.numbered) (nearest_of dialect (map numbered_of before) name)
    go true later = refl
    go false later = later

scope_is : (dialect : Dialect) (before : List Met) → numbered_scope dialect before ≡ nearest_of dialect (map numbered_of before)
scope_is dialect before = λ i name. scope_at dialect before name i

module _ (w : World Definition) (depth : ℕ) (number : Forest → ℕ) where
  -- the definitions with that of a tree, if it is one
  abbrev with_tree : Forest → Option Definition → List Numbered → List Numbered
  with_tree t None before = before
  with_tree t (Some d) before = record { number = number t; definition = d } ∷ before

  -- what is held of a tree
  abbrev tree_held : List Numbered → Forest → Option Definition → Option HeldPiece
  tree_held before t None = Some (record { tree = t; outcome = expanded (numbered_world w) unnumbered (nearest_of w.dialect before) depth t })
  tree_held before t (Some d) = None

  -- what is held of trees in order
  abbrev trees_held : List Numbered → List Forest → List HeldPiece
  trees_held before [] = []
  trees_held before (t ∷ ts) =
      let d : Option Definition = definition_of t in
      cons_option (tree_held before t d) (trees_held (with_tree t d before) ts)

  held_by_trees : (before : List Met) (ps : List Forest) → filter_map held_of (kept_after w depth number before ps) ≡ trees_held (map numbered_of before) (map relative ps)
  held_by_trees before [] = refl
  held_by_trees before (p ∷ ps) = go (definition_of (relative p)) (λ now. held_by_trees now ps)
    where
      go : (o : Option Definition) → ((now : List Met) → filter_map held_of (kept_after w depth number now ps) ≡ trees_held (map numbered_of now) (map relative ps))
          → cons_option (held_of (kept_of w depth number before p o)) (filter_map held_of (kept_after w depth number (with_met w depth number p o before) ps))
          ≡ cons_option (tree_held (map numbered_of before) (relative p) o) (trees_held (with_tree (relative p) o (map numbered_of before)) (map relative ps))
      go (Some d) later = later (met_of w depth number p d ∷ before)
      go None later =
          ap (λ (scope : List ℕ → Option Numbered). record { tree = relative p; outcome = expanded (numbered_world w) unnumbered scope depth (relative p) } ∷ filter_map held_of (kept_after w depth number before ps))
          (scope_is w.dialect before)
          ∙ ap (λ (hs : List HeldPiece). record { tree = relative p; outcome = expanded (numbered_world w) unnumbered (nearest_of w.dialect (map numbered_of before)) depth (relative p) } ∷ hs)
          (later before)

-- ---- pieces one after another

members_more : (l : Layers) (depth : ℕ) (before : List Definition) (ps qs : List Forest)
    → members_after l depth before (ps ++ qs) ≡ members_after l depth before ps ++ members_after l depth (definitions_after before ps) qs
members_more l depth before [] qs = refl
members_more l depth before (p ∷ ps) qs =
    ap (λ (ms : List Member). member l depth before p (definition_of p) ∷ ms) (members_more l depth (with_definition (definition_of p) before) ps qs)

pub looked_more : (l : Layers) (depth : ℕ) (ps qs : List Forest)
    → looked_of (members_after l depth [] (ps ++ qs)) ≡ looked_of (members_after l depth [] ps) ++ looked_of (members_after l depth (definitions_after [] ps) qs)
looked_more l depth ps qs =
    ap looked_of (members_more l depth [] ps qs) ∙ filter_map-append _ (members_after l depth [] ps) (members_after l depth (definitions_after [] ps) qs)

pub all_front : {X : Type 0} → (P : X → Type 0) (xs ys : List X) → All P (xs ++ ys) → All P xs
all_front P [] ys h = All-nil P
all_front P (x ∷ xs) ys h = All-cons P x xs (All-head P x (xs ++ ys) h) (all_front P xs ys (All-tail P x (xs ++ ys) h))

pub any_front : (test : Looked → Bool) (ls more : List Looked) → list_any test ls ≡ true → list_any test (ls ++ more) ≡ true
any_front test [] more h = cc
any_front test (l ∷ ls) more h = go (test l) h (any_front test ls more)
  where
    go : (b : Bool) → (b || list_any test ls) ≡ true → (list_any test ls ≡ true → list_any test (ls ++ more) ≡ true) → (b || list_any test (ls ++ more)) ≡ true
    go true h later = refl
    go false h later = later h

-- the definitions among pieces, by their trees
abbrev defining_trees : List Forest → List Forest
defining_trees [] = []
defining_trees (t ∷ ts) = cons_option (option_map (λ (d : Definition). t) (definition_of t)) (defining_trees ts)

trees_by_trees : (ps : List Forest) → definition_trees ps ≡ defining_trees (map relative ps)
trees_by_trees [] = refl
trees_by_trees (p ∷ ps) = go (definition_of (relative p)) (trees_by_trees ps)
  where
    go : (o : Option Definition) → definition_trees ps ≡ defining_trees (map relative ps)
        → cond (is_some o) (relative p ∷ definition_trees ps) (definition_trees ps) ≡ cons_option (option_map (λ (d : Definition). relative p) o) (defining_trees (map relative ps))
    go None later = later
    go (Some d) later = ap (λ (ts : List Forest). relative p ∷ ts) later

module _ (laws : TurnLaws) (grammar : Grammar) (edition : Edition) (dialect : Dialect) (depth : ℕ) where
  abbrev here : Layers
  here = layers grammar edition dialect

  -- what the count sees of pieces whose definitions have numbers
  looked_by_trees : (number : Forest → ℕ) (table : Forest → ℕ → Type 0) → Tells table → (ps : List Forest) → All StandFromFirst ps → All (HasNumber table number) ps
      → looked_of (members_after here depth [] ps) ≡ map looked_held (trees_held (world grammar edition dialect) depth number [] (map relative ps))
  looked_by_trees number table tell ps stand numbered =
      ap looked_of (members_present here (world_at_other_places laws.rules grammar edition dialect) table tell number depth [] (All-nil (IsMet table)) ps stand numbered)
      ∙ looked_are_held laws.equal (world grammar edition dialect) depth table tell (kept_after (world grammar edition dialect) depth number [] ps)
      (kept_are laws.equal (world grammar edition dialect) depth table number [] (All-nil (StandsInText table)) ps (are_pieces table number ps stand numbered))
      ∙ ap (map looked_held) (held_by_trees (world grammar edition dialect) depth number [] ps)

  -- it is the same for the same trees
  same_looked : (ps qs : List Forest) → All StandFromFirst ps → All StandFromFirst qs → map relative ps ≡ map relative qs
      → looked_of (members_after here depth [] ps) ≡ looked_of (members_after here depth [] qs)
  same_looked ps qs one two same =
      let none : Numbering = record { given = 0; entries = [] } in
      let all : Numbering = with_trees none (definition_trees ps) in
      let trees : List Forest = map tree_of all.entries in
      let number : Forest → ℕ = number_of all.entries in
      let tell : Tells (Known number trees) = tells number trees (tells_apart laws.equal all (with_trees_are none tt (definition_trees ps))) in
      let known : All (Contains trees) (definition_trees ps) = all_known laws.equal none (definition_trees ps) in
      let known_too : All (Contains trees) (definition_trees qs) =
      subst (All (Contains trees)) (trees_by_trees ps ∙ ap defining_trees same ∙ sym (trees_by_trees qs)) known in
      looked_by_trees number (Known number trees) tell ps one (all_numbered number trees ps known)
      ∙ ap (λ (ts : List Forest). map looked_held (trees_held (world grammar edition dialect) depth number [] ts)) same
      ∙ sym (looked_by_trees number (Known number trees) tell qs two (all_numbered number trees qs known_too))

  module _ (text other : List ℕ) (f g : Forest) where
    pub same_pieces_looked : IsUtf8 text → IsUtf8 other → text_reading text ≡ Ok f → text_reading other ≡ Ok g → map relative (pieces f) ≡ map relative (pieces g)
        → looked_of (members here depth f) ≡ looked_of (members here depth g)
    same_pieces_looked one two read read_too same =
        same_looked (pieces f) (pieces g) (pieces_stand laws.order text f one read) (pieces_stand laws.order other g two read_too) same

    pub same_pieces_counted : IsUtf8 text → IsUtf8 other → text_reading text ≡ Ok f → text_reading other ≡ Ok g → map relative (pieces f) ≡ map relative (pieces g)
        → expanded_count (Some (looked_of (members here depth f))) (looked_of (members here depth g)) ≡ 0
    same_pieces_counted one two read read_too same =
        subst (λ (ls : List Looked). expanded_count (Some (looked_of (members here depth f))) ls ≡ 0) (same_pieces_looked one two read read_too same)
        (no_new_piece laws.equal (looked_of (members here depth f)))

    pub same_pieces_replied : (reply : Reply) → IsUtf8 text → IsUtf8 other → text_reading text ≡ Ok f → text_reading other ≡ Ok g → map relative (pieces f) ≡ map relative (pieces g)
        → IsReplyTo here depth other (Some (looked_of (members here depth f))) reply → ExpandsNothing reply
    same_pieces_replied reply one two read read_too same h =
        go reply (subst (λ (r : Result Forest ReadFault). IsMeant (meaning_from here depth r) (Some (looked_of (members here depth f))) reply) read_too h)
      where
        go : (r : Reply) → IsMeant (meaning_from here depth (Ok g)) (Some (looked_of (members here depth f))) r → ExpandsNothing r
        go (Read e) k = k.expanded ∙ same_pieces_counted one two read read_too same
        go (Unread fault) k = absurd k

    module _ (ones twos more_ones more_twos : List Forest) (one : IsUtf8 text) (two : IsUtf8 other) (read : text_reading text ≡ Ok f) (read_too : text_reading other ≡ Ok g)
        (first : pieces f ≡ ones ++ more_ones) (second : pieces g ≡ twos ++ more_twos) (same : map relative ones ≡ map relative twos) where
      -- the pieces at the beginning are all among the earlier ones
      fronts_match : AllMatch (looked_of (members here depth f)) (looked_of (members_after here depth [] twos))
      fronts_match =
          let stand : All StandFromFirst ones = all_front StandFromFirst ones more_ones (subst (All StandFromFirst) first (pieces_stand laws.order text f one read)) in
          let stand_too : All StandFromFirst twos = all_front StandFromFirst twos more_twos (subst (All StandFromFirst) second (pieces_stand laws.order other g two read_too)) in
          let begins : looked_of (members here depth f) ≡ looked_of (members_after here depth [] twos) ++ looked_of (members_after here depth (definitions_after [] ones) more_ones) =
          ap (λ (ps : List Forest). looked_of (members_after here depth [] ps)) first ∙ looked_more here depth ones more_ones
          ∙ ap (λ (ls : List Looked). ls ++ looked_of (members_after here depth (definitions_after [] ones) more_ones)) (same_looked ones twos stand stand_too same) in
          subst (λ (ls : List Looked). AllMatch ls (looked_of (members_after here depth [] twos))) (sym begins)
          (all_match laws.equal (looked_of (members_after here depth [] twos) ++ looked_of (members_after here depth (definitions_after [] ones) more_ones)) (looked_of (members_after here depth [] twos))
          (λ l h. any_front (is_same l) (looked_of (members_after here depth [] twos)) (looked_of (members_after here depth (definitions_after [] ones) more_ones)) h))

      pub fronts_do_not_count : expanded_count (Some (looked_of (members here depth f))) (looked_of (members_after here depth [] twos)) ≡ 0
      fronts_do_not_count = none_counts (looked_of (members here depth f)) (looked_of (members_after here depth [] twos)) fronts_match

      pub all_is_behind : expanded_count (Some (looked_of (members here depth f))) (looked_of (members here depth g))
          ≡ expanded_count (Some (looked_of (members here depth f))) (looked_of (members_after here depth (definitions_after [] twos) more_twos))
      all_is_behind =
          ap (λ (ps : List Forest). expanded_count (Some (looked_of (members here depth f))) (looked_of (members_after here depth [] ps))) second
          ∙ ap (λ (ls : List Looked). expanded_count (Some (looked_of (members here depth f))) ls) (looked_more here depth twos more_twos)
          ∙ behind_counts (looked_of (members here depth f)) (looked_of (members_after here depth [] twos)) (looked_of (members_after here depth (definitions_after [] twos) more_twos)) fronts_match
