-- Without definitions of other texts each printed token comes from the text that is expanded.
use Rattle.std.proofs.Common.{◌≡◌, ℕ, zero, suc, Bool, true, false, List, [], ◌∷◌, ◌++◌, map, refl, ap, sym, subst, ◌∙◌, if◌then◌else◌, nat_eq}
use Rattle.std.specs.Prelude.{◌↔◌, All, IsUtf8, Option, Some, None, Result, Ok, Err, flat_map}
use Rattle.std.proofs.lemmas.List.Elements.{All-cons, All-head, All-nil, All-tail}
use Rattle.bridge.specs.Printing.{is_visible_step, step_span}
use Rattle.bridge.specs.TokenSteps.{text_reading}
use Rattle.bridge.specs.declared.reading.outcome.ReadFault.{ReadFault}
use Rattle.mbe.specs.Grammar.{Grammar}
use Rattle.tt_data.specs.Forest.{Forest, empty, leaf, group}
use Rattle.tt_data.specs.Walk.{Step, at_leaf, opens, closes, step_with}
use Rattle.tt_data.specs.declared.edition.Edition.{Edition}
use Rattle.tt_data.specs.declared.leaf.Leaf.TheVariants as as_leaf
use Rattle.tt_data.specs.declared.span.Span.{Span}
use Rattle.expander_model.specs.declared.dialect.Dialect.{Dialect}
use Rattle.expander_model.specs.Changes.{placed_with}
use Rattle.expander_model.specs.DefinitionTrees.{definition_trees}
use Rattle.expander_model.specs.Definitions.{Definition, definition_of}
use Rattle.expander_model.specs.EqualTrees.{same_forest}
use Rattle.expander_model.specs.Expansion.{PlacedStep, World}
use Rattle.expander_model.specs.Held.{IsMet, Known, Met, StandFromFirst, base_of, first_text, kept_after, kept_of, met_of, place_of, present, resolve, with_met}
use Rattle.expander_model.specs.Meaning.{Layers, Member, ReadMeaning, meaning, meaning_from, members, output, output_of, tokens_of}
use Rattle.expander_model.specs.Pieces.{pieces, relative}
use Rattle.expander_model.specs.Printing.{PrintedToken, printed, spelled, visible}
use Rattle.expander_model.specs.World.{world}
use Rattle.expander_scope.proofs.HeldLemmas.{members_present}
use Rattle.expander_scope.specs.Numbers.{Numbering, number_of, tree_of, with_trees}
use Rattle.expander_session.specs.Expanded.{origin_text}
use Rattle.expander_session.specs.Layered.{layers}
use Rattle.expander_session.proofs.NumberLemmas.{all_known, tells_apart, with_trees_are}
use Rattle.expander_session.proofs.ReadPlaceLemmas.{OrderLaws, pieces_stand}
use Rattle.expander_session.proofs.TextPlaceLemmas.{all_numbered, tells}
use Rattle.expander_session.proofs.WorldLemmas.{RuleLaws, world_at_other_places}

-- ---- events of the text that is expanded

abbrev pub IsOwnStep : PlacedStep → Type 0
IsOwnStep s = (step_span s.step).anchor ≡ 0

abbrev pub IsOwnMet : Met → Type 0
IsOwnMet m = m.place.text ≡ 0

all_append : {X : Type 0} (P : X → Type 0) (xs ys : List X) → All P xs → All P ys → All P (xs ++ ys)
all_append P [] ys h k = k
all_append P (x ∷ xs) ys h k = All-cons P x (xs ++ ys) (All-head P x xs h) (all_append P xs ys (All-tail P x xs h) k)

-- ---- places

place_own : (before : List Met) → All IsOwnMet before → (n : ℕ) → (place_of before n).text ≡ 0
place_own [] h n = refl
place_own (m ∷ before) h n = go (place_own before (All-tail IsOwnMet m before h) n) (nat_eq m.numbered.number n)
  where
    go : (place_of before n).text ≡ 0 → (b : Bool) → (if b then m.place else place_of before n).text ≡ 0
    go later true = All-head IsOwnMet m before h
    go later false = later

base_own : (start : ℕ) (before : List Met) → All IsOwnMet before → (n : ℕ) → (base_of start before n).text ≡ 0
base_own start before h zero = refl
base_own start before h (suc n) = place_own before h (suc n)

first_own : (p : Forest) → StandFromFirst p → first_text p ≡ 0
first_own empty h = refl
first_own (leaf l rest) h = h.0.anchor
first_own (group d inner rest) h = h.0.anchor

-- ---- events of pieces

span_with : (f : Span → Span) (s : Step) → step_span (step_with f s) ≡ f (step_span s)
span_with f (at_leaf (as_leaf.Ident i)) = refl
span_with f (at_leaf (as_leaf.Punct p)) = refl
span_with f (at_leaf (as_leaf.Literal l)) = refl
span_with f (opens kind span) = refl
span_with f (closes kind span) = refl

resolved_own : (start : ℕ) (before : List Met) → All IsOwnMet before → (steps : List PlacedStep)
    → All IsOwnStep (map (placed_with (resolve start before)) steps)
resolved_own start before h [] = All-nil IsOwnStep
resolved_own start before h (s ∷ steps) =
    All-cons IsOwnStep (placed_with (resolve start before) s) (map (placed_with (resolve start before)) steps)
    (ap (λ (x : Span). x.anchor) (span_with (resolve start before) s.step) ∙ base_own start before h (step_span s.step).anchor)
    (resolved_own start before h steps)

module _ (w : World Definition) (depth : ℕ) (number : Forest → ℕ) where
  piece_own : (before : List Met) (p : Forest) (o : Option Definition) → All IsOwnMet before
      → All IsOwnStep (output_of (present (kept_of w depth number before p o)))
  piece_own before p (Some d) h = All-nil IsOwnStep
  piece_own before p None h = resolved_own _ before h _

  with_own : (before : List Met) (p : Forest) (o : Option Definition) → StandFromFirst p → All IsOwnMet before
      → All IsOwnMet (with_met w depth number p o before)
  with_own before p None from h = h
  with_own before p (Some d) from h = All-cons IsOwnMet (met_of w depth number p d) before (first_own p from) h

  pub pieces_own : (before : List Met) (ps : List Forest) → All StandFromFirst ps → All IsOwnMet before
      → All IsOwnStep (flat_map output_of (map present (kept_after w depth number before ps)))
  pieces_own before [] from h = All-nil IsOwnStep
  pieces_own before (p ∷ ps) from h =
      let o : Option Definition = definition_of (relative p) in
      all_append IsOwnStep (output_of (present (kept_of w depth number before p o))) _ (piece_own before p o h)
      (pieces_own (with_met w depth number p o before) ps (All-tail StandFromFirst p ps from)
      (with_own before p o (All-head StandFromFirst p ps from) h))

-- ---- printed tokens

visible_own : (steps : List PlacedStep) → All IsOwnStep steps → All IsOwnStep (visible steps)
visible_own [] h = All-nil IsOwnStep
visible_own (s ∷ more) h = go (visible_own more (All-tail IsOwnStep s more h)) (is_visible_step s.step)
  where
    go : All IsOwnStep (visible more) → (b : Bool) → All IsOwnStep (if b then s ∷ visible more else visible more)
    go later true = All-cons IsOwnStep s (visible more) (All-head IsOwnStep s more h) later
    go later false = later

abbrev IsOwnText : ℕ → Type 0
IsOwnText n = n ≡ 0

module _ (spelling : Step → List PlacedStep → Option (List ℕ)) where
  printed_own : (steps : List PlacedStep) → All IsOwnStep steps → All IsOwnText (map origin_text (printed spelling steps))
  printed_own [] h = All-nil IsOwnText
  printed_own (s ∷ more) h = go (printed_own more (All-tail IsOwnStep s more h)) (spelling s.step more)
    where
      go : All IsOwnText (map origin_text (printed spelling more)) → (o : Option (List ℕ))
          → All IsOwnText (map origin_text (spelled spelling s o ++ printed spelling more))
      go later None = later
      go later (Some text) =
          All-cons IsOwnText (step_span s.step).anchor (map origin_text (printed spelling more)) (All-head IsOwnStep s more h) later

-- ---- the tokens of a text

module _ (rules : RuleLaws) (order : OrderLaws) (equal : (a b : Forest) → (same_forest a b ≡ true) ↔ (a ≡ b)) (grammar : Grammar) (edition : Edition) (dialect : Dialect) (depth : ℕ) where
  abbrev W : World Definition
  W = world grammar edition dialect

  abbrev L : Layers
  L = layers grammar edition dialect

  -- ids for these trees
  abbrev ids : List Forest → Numbering
  ids ts = with_trees (record { given = 0; entries = [] }) ts

  members_own : (text : List ℕ) (f : Forest) → IsUtf8 text → text_reading text ≡ Ok f → All IsOwnStep (flat_map output_of (members L depth f))
  members_own text f is_text read =
      let trees : List Forest = definition_trees (pieces f) in
      let n : Numbering = ids trees in
      let all : List Forest = map tree_of n.entries in
      let number : Forest → ℕ = number_of n.entries in
      let from : All StandFromFirst (pieces f) = pieces_stand order text f is_text read in
      let apart = tells_apart equal n (with_trees_are (record { given = 0; entries = [] }) tt trees) in
      let same =
      members_present L (world_at_other_places rules grammar edition dialect) (Known number all) (tells number all apart) number depth []
      (All-nil (IsMet (Known number all))) (pieces f) from
      (all_numbered number all (pieces f) (all_known equal (record { given = 0; entries = [] }) trees)) in
      subst (λ (ms : List Member). All IsOwnStep (flat_map output_of ms)) (sym same)
      (pieces_own W depth number [] (pieces f) from (All-nil IsOwnMet))

  pub tokens_own : (text : List ℕ) (m : ReadMeaning) → IsUtf8 text → meaning L depth text ≡ Ok m → All (λ n. n ≡ 0) (map origin_text m.tokens)
  tokens_own text m is_text means = go (text_reading text) refl means
    where
      go : (r : Result Forest ReadFault) → text_reading text ≡ r → meaning_from L depth r ≡ Ok m → All (λ n. n ≡ 0) (map origin_text m.tokens)
      go (Err fault) read e = absurd (cc)
      go (Ok f) read e =
          let is : tokens_of L (members L depth f) ≡ m.tokens = ap (λ (r : Result ReadMeaning ReadFault). tokens_in r) e in
          subst (λ (ts : List PrintedToken). All (λ n. n ≡ 0) (map origin_text ts)) is
          (printed_own L.spelling (output (members L depth f)) (visible_own (flat_map output_of (members L depth f)) (members_own text f is_text read)))
        where
          tokens_in : Result ReadMeaning ReadFault → List PrintedToken
          tokens_in (Ok k) = k.tokens
          tokens_in (Err fault) = []
