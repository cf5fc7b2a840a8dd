-- A piece whose earlier look-ups find equal definitions, or still none, is not expanded again.
use Rattle.std.proofs.Common.{◌≡◌, ℕ, ◌+◌, Bool, true, false, List, [], ◌∷◌, ◌++◌, map, Option, Some, None, refl, ap, sym, subst, ◌∙◌, option_map, arith, append_assoc, length, length-append}
use Rattle.std.specs.Prelude.{All, IsUtf8, Ok, Result, filter, filter_map, not, ◌||◌}
use Rattle.std.specs.List.{list_any}
use Rattle.std.proofs.lemmas.Bool.{and_from}
use Rattle.std.proofs.lemmas.List.Elements.{All-cons, All-head, All-nil, All-tail, All-weaker, filter-append}
use Rattle.bridge.specs.RelativeSpans.{moved_to}
use Rattle.bridge.specs.TokenSteps.{text_reading}
use Rattle.bridge.specs.declared.reading.outcome.ReadFault.{ReadFault}
use Rattle.mbe.specs.Grammar.{Grammar}
use Rattle.tt_data.specs.Forest.{Forest}
use Rattle.tt_data.specs.declared.edition.Edition.{Edition}
use Rattle.expander_session.specs.Agreement.{FoundIn}
use Rattle.expander_model.specs.declared.dialect.Dialect.{Dialect}
use Rattle.expander_model.specs.Changes.{find_with, outcome_with}
use Rattle.expander_session.specs.Count.{Looked, expanded_count, found_piece, is_same, looked_of, same_found}
use Rattle.expander_model.specs.Definitions.{Definition, definition_of}
use Rattle.expander_session.specs.Expanded.{Expanded}
use Rattle.expander_model.specs.Expansion.{World, Outcome}
use Rattle.expander_model.specs.Scoping.{found_in}
use Rattle.expander_model.specs.Limits.{expanded}
use Rattle.expander_model.specs.Held.{HasNumber, IsNumbered, Known, Met, Numbered, StandFromFirst, Stands, Tells, first_place, kept_after, kept_of, mets_after, nearest_met, numbered_scope, numbered_world, present_definition, resolve, resolve_definition, unnumbered}
use Rattle.expander_model.specs.DefinitionTrees.{definition_trees}
use Rattle.expander_session.specs.Laws.{FindsAsBefore, IsFoundAgain}
use Rattle.expander_session.specs.Layered.{layers}
use Rattle.expander_model.specs.Meaning.{Layers, definitions_after, meaning_from, member, members, members_after}
use Rattle.expander_scope.specs.Numbers.{Numbering, number_of, tree_of, with_trees}
use Rattle.expander_model.specs.OtherPlaces.{definition_with}
use Rattle.expander_model.specs.Pieces.{first_start, pieces, relative}
use Rattle.expander_session.specs.Replies.{IsMeant, IsReplyTo}
use Rattle.expander_session.specs.Reuse.{FoundIs, IsHeld, agrees, looked_at, looked_held, same_number}
use Rattle.expander_session.specs.TextTurn.{StandsInText, held_of}
use Rattle.expander_model.specs.World.{world}
use Rattle.expander_session.specs.declared.session.Reply.TheVariants.{Read}
use Rattle.expander_session.proofs.ExpandedLemmas.{found_expanded}
use Rattle.expander_scope.proofs.HeldLemmas.{definition_there, definitions_present, members_present, present_scope, resolved_expansion}
use Rattle.expander_session.proofs.NumberLemmas.{all_known, tells_apart, with_trees_are}
use Rattle.expander_model.proofs.PlaceLemmas.{all_stand, own_stands, resolved_piece}
use Rattle.expander_session.proofs.ReadPlaceLemmas.{pieces_stand}
use Rattle.expander_session.proofs.ReuseLemmas.{fresh_is_held, match_is_same, met_scope, number_by_tree, same_found-same}
use Rattle.expander.proofs.SelfMatchLemmas.{AllMatch, none_counts}
use Rattle.expander.proofs.SharedPieceLemmas.{all_front, any_front, looked_more}
use Rattle.expander_session.proofs.TextPlaceLemmas.{all_numbered, tells}
use Rattle.expander_session.proofs.TextTurnLemmas.{IsPiece, are_pieces, found_seen, kept_are, looked_are_held, mets, mets_stand}
use Rattle.expander_session.proofs.WholeTurnLemmas.{TurnLaws}
use Rattle.expander_session.proofs.WorldLemmas.{world_at_other_places}

-- ---- lists

all_back : {X : Type 0} → (P : X → Type 0) (xs ys : List X) → All P (xs ++ ys) → All P ys
all_back P [] ys h = h
all_back P (x ∷ xs) ys h = all_back P xs ys (All-tail P x (xs ++ ys) h)

any_behind : (test : Looked → Bool) (before ls : List Looked) → list_any test ls ≡ true → list_any test (before ++ ls) ≡ true
any_behind test [] ls h = h
any_behind test (l ∷ before) ls h = or_later (test l) (list_any test (before ++ ls)) (any_behind test before ls h)
  where
    or_later : (a b : Bool) → b ≡ true → (a || b) ≡ true
    or_later true b e = refl
    or_later false b e = e

-- what has a match among some has one among more
wider : (before earlier more ls : List Looked) → AllMatch earlier ls → AllMatch (before ++ (earlier ++ more)) ls
wider before earlier more [] h = All-nil (λ p. list_any (is_same p) (before ++ (earlier ++ more)) ≡ true)
wider before earlier more (l ∷ ls) h =
    All-cons (λ p. list_any (is_same p) (before ++ (earlier ++ more)) ≡ true) l ls
    (any_behind (is_same l) before (earlier ++ more) (any_front (is_same l) earlier more (All-head (λ p. list_any (is_same p) earlier ≡ true) l ls h)))
    (wider before earlier more ls (All-tail (λ p. list_any (is_same p) earlier ≡ true) l ls h))

-- the count of two lists, one behind the other
counts_more : (earlier one two : List Looked) → expanded_count (Some earlier) (one ++ two) ≡ expanded_count (Some earlier) one + expanded_count (Some earlier) two
counts_more earlier one two =
    let test : Looked → Bool = λ p. not (list_any (is_same p) earlier) in
    ap length (filter-append test one two) ∙ length-append (filter test one) (filter test two)

-- ---- the definitions before a piece

module _ (laws : TurnLaws) (grammar : Grammar) (edition : Edition) (dialect : Dialect) (depth : ℕ) (number : Forest → ℕ) (table : Forest → ℕ → Type 0) (tell : Tells table) where
  abbrev here : Layers
  here = layers grammar edition dialect

  abbrev w : World Definition
  w = world grammar edition dialect

  definitions_stand : (ps : List Forest) → All (IsPiece table number) ps → All (StandsInText table) (mets_after w depth number [] ps)
  definitions_stand ps are =
      mets_stand laws.equal w depth table number [] (All-nil (StandsInText table)) ps
      (All-weaker (IsPiece table number) Stands (λ p is. own_stands p is.from) ps are)
      (All-weaker (IsPiece table number) (HasNumber table number) (λ p is. is.numbered) ps are)

  -- ---- one piece

  -- the count sees of a plain piece what is held of it
  one_looked : (before : List Met) → All (StandsInText table) before → (p : Forest) → IsPiece table number p → definition_of (relative p) ≡ None
      → looked_of (members_after here depth (map present_definition before) (p ∷ []))
      ≡ looked_at (relative p) (expanded (numbered_world w) unnumbered (numbered_scope w.dialect before) depth (relative p)) ∷ []
  one_looked before met p is plain =
      let stand : All StandFromFirst (p ∷ []) = All-cons StandFromFirst p [] is.from (All-nil StandFromFirst) in
      let numbered : All (HasNumber table number) (p ∷ []) = All-cons (HasNumber table number) p [] is.numbered (All-nil (HasNumber table number)) in
      ap looked_of (members_present here (world_at_other_places laws.rules grammar edition dialect) table tell number depth before (mets table before met) (p ∷ []) stand numbered)
      ∙ looked_are_held laws.equal w depth table tell (kept_after w depth number before (p ∷ []))
      (kept_are laws.equal w depth table number before met (p ∷ []) (are_pieces table number (p ∷ []) stand numbered))
      ∙ ap (λ (o : Option Definition). map looked_held (filter_map held_of (kept_of w depth number before p o ∷ []))) plain

  -- of a definition it sees nothing
  none_looked : (before : List Definition) (p : Forest) (d : Definition) → StandFromFirst p → definition_of (relative p) ≡ Some d
      → looked_of (members_after here depth before (p ∷ [])) ≡ []
  none_looked before p d from e =
      ap (λ (o : Option Definition). looked_of (member here depth before p o ∷ [])) (definition_there p (own_stands p from) ∙ ap (option_map (definition_with (moved_to (first_place p)))) e)

  module _ (before now : List Met) (met : All (StandsInText table) before) (met_now : All (StandsInText table) now) where
    abbrev piece_in : Numbered → Forest
    piece_in d = d.definition.piece

    -- a name that was found here
    again : (start : ℕ) (x : List ℕ × Option Numbered) → numbered_scope w.dialect before x.0 ≡ x.1 → FoundIs (IsNumbered table) x
        → IsFoundAgain (found_in w.dialect (map present_definition now)) (find_with (resolve_definition start before) x) → same_number (numbered_scope w.dialect now x.0) x.1 ≡ true
    again start x found numbered same =
        let old : found_piece (option_map (resolve_definition start before) x.1) ≡ option_map piece_in x.1 =
        ap (λ (o : Option Numbered). found_piece (option_map (resolve_definition start before) o)) (sym found)
        ∙ found_seen laws.equal w.dialect table tell start before met x.0 (nearest_met w.dialect before x.0) refl
        ∙ ap (option_map piece_in) found in
        let new : found_piece (found_in w.dialect (map present_definition now) x.0) ≡ option_map piece_in (numbered_scope w.dialect now x.0) =
        ap found_piece (present_scope w.dialect table tell 0 now (mets table now met_now) x.0)
        ∙ found_seen laws.equal w.dialect table tell 0 now met_now x.0 (nearest_met w.dialect now x.0) refl in
        number_by_tree laws.equal table tell x.0 x.1 (numbered_scope w.dialect now x.0) numbered (met_scope laws.equal w.dialect table now (mets table now met_now) x.0)
        (subst (λ (o : Option Forest). same_found (option_map piece_in x.1) o ≡ true) (sym old ∙ sym same ∙ new) (same_found-same laws.equal (option_map piece_in x.1)))

    agrees_now : (start : ℕ) (finds : List (List ℕ × Option Numbered)) → FoundIn (numbered_scope w.dialect before) finds → All (FoundIs (IsNumbered table)) finds
        → FindsAsBefore (found_in w.dialect (map present_definition now)) (map (find_with (resolve_definition start before)) finds)
        → agrees (numbered_scope w.dialect now) finds ≡ true
    agrees_now start [] f g h = refl
    agrees_now start (x ∷ finds) f g h =
        let find : List ℕ × Option Definition = find_with (resolve_definition start before) x in
        let finds_there : List (List ℕ × Option Definition) = map (find_with (resolve_definition start before)) finds in
        and_from _ _
        (again start x f.0 (All-head (FoundIs (IsNumbered table)) x finds g) (All-head (IsFoundAgain (found_in w.dialect (map present_definition now))) find finds_there h))
        (agrees_now start finds f.1 (All-tail (FoundIs (IsNumbered table)) x finds g) (All-tail (IsFoundAgain (found_in w.dialect (map present_definition now))) find finds_there h))

    -- a plain piece with the tree of an earlier one
    same_looked_now : (p q : Forest) → StandFromFirst p → relative p ≡ relative q
        → FindsAsBefore (found_in w.dialect (map present_definition now)) (expanded w (λ d. d) (found_in w.dialect (map present_definition before)) depth p).finds
        → is_same (looked_at (relative q) (expanded (numbered_world w) unnumbered (numbered_scope w.dialect now) depth (relative q)))
        (looked_at (relative p) (expanded (numbered_world w) unnumbered (numbered_scope w.dialect before) depth (relative p))) ≡ true
    same_looked_now p q from same finds =
        let start : ℕ = first_start p in
        let was : Outcome Numbered = expanded (numbered_world w) unnumbered (numbered_scope w.dialect before) depth (relative p) in
        let scope = met_scope laws.equal w.dialect table before (mets table before met) in
        let there : expanded w (λ d. d) (found_in w.dialect (map present_definition before)) depth p ≡ outcome_with (resolve start before) (resolve_definition start before) was =
        ap (expanded w (λ d. d) (found_in w.dialect (map present_definition before)) depth) (sym (resolved_piece start before p from))
        ∙ resolved_expansion w (world_at_other_places laws.rules grammar edition dialect) table tell start before (mets table before met) depth (relative p) in
        let held : IsHeld w depth table (record { tree = relative p; outcome = was }) = fresh_is_held laws.equal w depth table (numbered_scope w.dialect before) scope (relative p) in
        let found : FoundIn (numbered_scope w.dialect before) was.finds = found_expanded (numbered_world w) unnumbered (numbered_scope w.dialect before) depth (relative p) in
        let agree : agrees (numbered_scope w.dialect now) was.finds ≡ true =
        agrees_now start was.finds found held.finds (subst (λ (o : Outcome Definition). FindsAsBefore (found_in w.dialect (map present_definition now)) o.finds) there finds) in
        match_is_same laws.equal w depth table tell (numbered_scope w.dialect now) (met_scope laws.equal w.dialect table now (mets table now met_now)) (relative q) (record { tree = relative p; outcome = was }) held
        ∙ and_from _ _ ((laws.equal (relative q) (relative p)).1 (sym same)) agree

    -- a piece with the tree of an earlier one, plain or a definition
    matched_met : (p q : Forest) → IsPiece table number p → IsPiece table number q → relative p ≡ relative q
        → FindsAsBefore (found_in w.dialect (map present_definition now)) (expanded w (λ d. d) (found_in w.dialect (map present_definition before)) depth p).finds
        → AllMatch (looked_of (members_after here depth (map present_definition before) (p ∷ []))) (looked_of (members_after here depth (map present_definition now) (q ∷ [])))
    matched_met p q one two same finds = go (definition_of (relative q)) refl
      where
        go : (o : Option Definition) → definition_of (relative q) ≡ o
            → AllMatch (looked_of (members_after here depth (map present_definition before) (p ∷ []))) (looked_of (members_after here depth (map present_definition now) (q ∷ [])))
        go (Some d) e =
            let earlier : List Looked = looked_of (members_after here depth (map present_definition before) (p ∷ [])) in
            subst (AllMatch earlier) (sym (none_looked (map present_definition now) q d two.from e)) (All-nil (λ l. list_any (is_same l) earlier ≡ true))
        go None e =
            let was : Looked = looked_at (relative p) (expanded (numbered_world w) unnumbered (numbered_scope w.dialect before) depth (relative p)) in
            let is : Looked = looked_at (relative q) (expanded (numbered_world w) unnumbered (numbered_scope w.dialect now) depth (relative q)) in
            let matches : list_any (is_same is) (was ∷ []) ≡ true = ap (λ (b : Bool). b || false) (same_looked_now p q one.from same finds) in
            subst (λ (ls : List Looked). AllMatch ls (looked_of (members_after here depth (map present_definition now) (q ∷ []))))
            (sym (one_looked before met p one (ap definition_of same ∙ e)))
            (subst (AllMatch (was ∷ [])) (sym (one_looked now met_now q two e))
            (All-cons (λ l. list_any (is_same l) (was ∷ []) ≡ true) is [] matches (All-nil (λ l. list_any (is_same l) (was ∷ []) ≡ true))))

  matched : (ones twos : List Forest) (p q : Forest) → All StandFromFirst ones → All StandFromFirst twos → All (IsPiece table number) ones → All (IsPiece table number) twos
      → IsPiece table number p → IsPiece table number q → relative p ≡ relative q
      → FindsAsBefore (found_in w.dialect (definitions_after [] twos)) (expanded w (λ d. d) (found_in w.dialect (definitions_after [] ones)) depth p).finds
      → AllMatch (looked_of (members_after here depth (definitions_after [] ones) (p ∷ []))) (looked_of (members_after here depth (definitions_after [] twos) (q ∷ [])))
  matched ones twos p q stand stand_too are are_too one two same =
      let before : List Met = mets_after w depth number [] ones in
      let now : List Met = mets_after w depth number [] twos in
      subst (λ (ds : List Definition). FindsAsBefore (found_in w.dialect (definitions_after [] twos)) (expanded w (λ d. d) (found_in w.dialect ds) depth p).finds
      → AllMatch (looked_of (members_after here depth ds (p ∷ []))) (looked_of (members_after here depth (definitions_after [] twos) (q ∷ []))))
      (sym (definitions_present w depth number [] ones (all_stand ones stand)))
      (subst (λ (ds : List Definition). FindsAsBefore (found_in w.dialect ds) (expanded w (λ d. d) (found_in w.dialect (map present_definition before)) depth p).finds
      → AllMatch (looked_of (members_after here depth (map present_definition before) (p ∷ []))) (looked_of (members_after here depth ds (q ∷ []))))
      (sym (definitions_present w depth number [] twos (all_stand twos stand_too)))
      (matched_met before now (definitions_stand ones are) (definitions_stand twos are_too) p q one two same))

-- ---- a piece of a text

module _ (laws : TurnLaws) (grammar : Grammar) (edition : Edition) (dialect : Dialect) (depth : ℕ) (text other : List ℕ) (f g p q : Forest) (ones twos more_ones more_twos : List Forest)
    (one : IsUtf8 text) (two : IsUtf8 other) (read : text_reading text ≡ Ok f) (read_too : text_reading other ≡ Ok g)
    (first : pieces f ≡ ones ++ p ∷ more_ones) (second : pieces g ≡ twos ++ q ∷ more_twos) (same : relative p ≡ relative q)
    (finds : FindsAsBefore (found_in dialect (definitions_after [] twos)) (expanded (world grammar edition dialect) (λ d. d) (found_in dialect (definitions_after [] ones)) depth p).finds) where
  abbrev all_here : Layers
  all_here = layers grammar edition dialect

  abbrev earlier : List Looked
  earlier = looked_of (members all_here depth f)

  -- numbers for the definitions of both texts
  abbrev numbers : Numbering
  numbers = with_trees (record { given = 0; entries = [] }) (definition_trees (pieces f ++ pieces g))

  abbrev number : Forest → ℕ
  number = number_of numbers.entries

  abbrev trees : List Forest
  trees = map tree_of numbers.entries

  tell : Tells (Known number trees)
  tell = tells number trees (tells_apart laws.equal numbers (with_trees_are (record { given = 0; entries = [] }) tt (definition_trees (pieces f ++ pieces g))))

  numbered : All (HasNumber (Known number trees) number) (pieces f ++ pieces g)
  numbered = all_numbered number trees (pieces f ++ pieces g) (all_known laws.equal (record { given = 0; entries = [] }) (definition_trees (pieces f ++ pieces g)))

  -- the piece is among the earlier ones
  is_among : AllMatch earlier (looked_of (members_after all_here depth (definitions_after [] twos) (q ∷ [])))
  is_among =
      let Numbered : Forest → Type 0 = HasNumber (Known number trees) number in
      let stand : All StandFromFirst (ones ++ p ∷ more_ones) = subst (All StandFromFirst) first (pieces_stand laws.order text f one read) in
      let stand_too : All StandFromFirst (twos ++ q ∷ more_twos) = subst (All StandFromFirst) second (pieces_stand laws.order other g two read_too) in
      let have : All Numbered (ones ++ p ∷ more_ones) = subst (All Numbered) first (all_front Numbered (pieces f) (pieces g) numbered) in
      let have_too : All Numbered (twos ++ q ∷ more_twos) = subst (All Numbered) second (all_back Numbered (pieces f) (pieces g) numbered) in
      let are : All (IsPiece (Known number trees) number) (ones ++ p ∷ more_ones) = are_pieces (Known number trees) number (ones ++ p ∷ more_ones) stand have in
      let are_too : All (IsPiece (Known number trees) number) (twos ++ q ∷ more_twos) = are_pieces (Known number trees) number (twos ++ q ∷ more_twos) stand_too have_too in
      let match = matched laws grammar edition dialect depth number (Known number trees) tell ones twos p q
      (all_front StandFromFirst ones (p ∷ more_ones) stand) (all_front StandFromFirst twos (q ∷ more_twos) stand_too)
      (all_front (IsPiece (Known number trees) number) ones (p ∷ more_ones) are) (all_front (IsPiece (Known number trees) number) twos (q ∷ more_twos) are_too)
      (All-head (IsPiece (Known number trees) number) p more_ones (all_back (IsPiece (Known number trees) number) ones (p ∷ more_ones) are))
      (All-head (IsPiece (Known number trees) number) q more_twos (all_back (IsPiece (Known number trees) number) twos (q ∷ more_twos) are_too)) same finds in
      let begun : List Looked = looked_of (members_after all_here depth [] ones) in
      let its : List Looked = looked_of (members_after all_here depth (definitions_after [] ones) (p ∷ [])) in
      let others : List Looked = looked_of (members_after all_here depth (definitions_after [] (ones ++ p ∷ [])) more_ones) in
      let is : earlier ≡ begun ++ (its ++ others) =
      ap (λ (ps : List Forest). looked_of (members_after all_here depth [] ps)) (first ∙ sym (append_assoc ones (p ∷ []) more_ones))
      ∙ looked_more all_here depth (ones ++ p ∷ []) more_ones
      ∙ ap (λ (ls : List Looked). ls ++ others) (looked_more all_here depth ones (p ∷ []))
      ∙ append_assoc begun its others in
      subst (λ (ls : List Looked). AllMatch ls (looked_of (members_after all_here depth (definitions_after [] twos) (q ∷ [])))) (sym is)
      (wider begun its others (looked_of (members_after all_here depth (definitions_after [] twos) (q ∷ []))) match)

  pub piece_does_not_count : expanded_count (Some earlier) (looked_of (members_after all_here depth (definitions_after [] twos) (q ∷ []))) ≡ 0
  piece_does_not_count = none_counts earlier (looked_of (members_after all_here depth (definitions_after [] twos) (q ∷ []))) is_among

  pub others_count : expanded_count (Some earlier) (looked_of (members all_here depth g))
      ≡ expanded_count (Some earlier) (looked_of (members_after all_here depth [] twos))
      + expanded_count (Some earlier) (looked_of (members_after all_here depth (definitions_after [] (twos ++ q ∷ [])) more_twos))
  others_count =
      let begun : List Looked = looked_of (members_after all_here depth [] twos) in
      let its : List Looked = looked_of (members_after all_here depth (definitions_after [] twos) (q ∷ [])) in
      let others : List Looked = looked_of (members_after all_here depth (definitions_after [] (twos ++ q ∷ [])) more_twos) in
      let is : looked_of (members all_here depth g) ≡ begun ++ (its ++ others) =
      ap (λ (ps : List Forest). looked_of (members_after all_here depth [] ps)) (second ∙ sym (append_assoc twos (q ∷ []) more_twos))
      ∙ looked_more all_here depth (twos ++ q ∷ []) more_twos
      ∙ ap (λ (ls : List Looked). ls ++ others) (looked_more all_here depth twos (q ∷ []))
      ∙ append_assoc begun its others in
      ap (expanded_count (Some earlier)) is ∙ counts_more earlier begun (its ++ others)
      ∙ ap (λ (n : ℕ). expanded_count (Some earlier) begun + n) (counts_more earlier its others)
      ∙ ap (λ (n : ℕ). expanded_count (Some earlier) begun + (n + expanded_count (Some earlier) others)) piece_does_not_count
      ∙ ap (λ (n : ℕ). expanded_count (Some earlier) begun + n) (omega arith)

  -- so does a session that last read the earlier text
  pub others_replied : (e : Expanded) → IsReplyTo all_here depth other (Some earlier) (Read e)
      → e.expanded ≡ expanded_count (Some earlier) (looked_of (members_after all_here depth [] twos))
      + expanded_count (Some earlier) (looked_of (members_after all_here depth (definitions_after [] (twos ++ q ∷ [])) more_twos))
  others_replied e h =
      (subst (λ (r : Result Forest ReadFault). IsMeant (meaning_from all_here depth r) (Some earlier) (Read e)) read_too h).expanded ∙ others_count
