-- A session's reply to a text that was read, and its cache afterwards.
use Rattle.std.proofs.Common.{◌≡◌, ◌↔◌, ℕ, ◌+◌, ◌≤◌, ◌^◌, Bool, true, false, if◌then◌else◌, List, [], ◌++◌, map, Option, Some, None, refl, ap, sym, subst, ◌∙◌, length, inr, Global}
use Rattle.std.specs.Prelude.{All, IsUtf8, Ok, filter, flat_map, unwrap_or}
use Rattle.std.specs.List.{list_any}
use Rattle.std.specs.Rc.{rc_value}
use Rattle.std.specs.declared.vec.Vec.{Vec}
use Rattle.std.proofs.lemmas.List.Elements.{All-nil}
use Rattle.bridge.specs.TokenSteps.{text_reading}
use Rattle.mbe.specs.Grammar.{Grammar}
use Rattle.tt_data.specs.Forest.{Forest}
use Rattle.tt_data.specs.declared.edition.Edition.{Edition}
use Rattle.expander_model.specs.declared.dialect.Dialect.{Dialect}
use Rattle.expander_scope.specs.Interning.{definition_tops, numbers_in}
use Rattle.expander_model.specs.EqualTrees.{same_forest}
use Rattle.expander_session.specs.Expanded.{Expanded}
use Rattle.expander_model.specs.Expansion.{PlacedStep}
use Rattle.expander_model.specs.Faults.{in_order}
use Rattle.expander_model.specs.Held.{Kept, Stands, present}
use Rattle.expander_model.specs.DefinitionTrees.{definition_trees}
use Rattle.expander_session.specs.Layered.{layers}
use Rattle.expander_session.specs.MemoRefs.{AreLinked, plain_tops}
use Rattle.expander_model.specs.Meaning.{Layers, Member, meaning_of, members_after, members_in, output_of}
use Rattle.expander_session.specs.Caches.{IsCache, held_in, looked_plain, piece_of, trees_of}
use Rattle.expander_scope.specs.DefinitionIds.{HaveNumbers, numbered_by}
use Rattle.expander_scope.specs.NewNumbers.{needed}
use Rattle.expander_session.specs.Emitting.{HasOutput, faults_in}
use Rattle.expander_reparse.specs.RelativePieces.{IsOwnPiece, piece_at}
use Rattle.expander_model.specs.Pieces.{pieces}
use Rattle.expander_reparse.specs.ParsedTexts.{IsReadInPieces}
use Rattle.expander_session.specs.Replies.{HasCause, Replies}
use Rattle.expander_session.specs.Reuse.{HeldPiece, IsHeld, looked_held}
use Rattle.expander_session.specs.Shown.{ShowsMeaning, ShowsOutput}
use Rattle.expander_session.specs.State.{State, definitions_of, layers_of}
use Rattle.expander_reparse.specs.Segments.{AreSegments, all_in}
use Rattle.expander_session.specs.EvaluatedTexts.{EvaluatesText, kept_in}
use Rattle.expander_session.specs.Evaluating.{IsEvaluated, NeedsMore}
use Rattle.expander_session.specs.TextTurn.{is_unmatched}
use Rattle.expander_session.specs.TooMany.{HasTooManyIn, bursts}
use Rattle.expander_model.specs.World.{world}
use Rattle.expander_model.specs.declared.fault.Fault.{Fault}
use Rattle.expander_session.specs.declared.cache.Cache as code
use Rattle.expander_reparse.specs.declared.piece.Piece.{Piece}
use Rattle.expander_reparse.specs.declared.parse.Parsed.TheVariants.{Pieces}
use Rattle.expander_scope.specs.declared.refusal.Refusal.{Refusal}
use Rattle.expander_scope.specs.declared.refusal.Refusal.TheVariants as refusal
use Rattle.expander_session.specs.declared.session.Reply.TheVariants.{Read}
use Rattle.expander_reparse.specs.declared.segment.Segments.{Segments}
use Rattle.expander_session.specs.declared.evaluate.Evaluated.{Evaluated}
use Rattle.expander_session.proofs.CacheLemmas.{all_held, all_looked}
use Rattle.expander_scope.proofs.DefinitionIdLemmas.{numbers_now}
use Rattle.expander_reparse.proofs.RelativePieceLemmas.{own_back}
use Rattle.expander_session.proofs.ReadPlaceLemmas.{OrderLaws, pieces_stand}
use Rattle.expander_session.proofs.EvaluatedLemmas.{taken_members}
use Rattle.expander_session.proofs.EvaluatedReplyLemmas.{Had, ShowsText, taken_reply, too_many_numbers}
use Rattle.expander_session.proofs.WholeTurnLemmas.{TurnLaws}

-- ---- what is taken of pieces, shown and held

-- what the pass put together, as it is held
abbrev pub memory_of : Evaluated → Segments → code.Cache
memory_of now sources = record {
  was_read = true;
  plains = now.plains;
  hashes = now.hashes;
  definitions = now.numbers.definitions;
  by_tree = now.numbers.by_tree;
  given = now.numbers.given;
  sources = sources;
  links = now.links;
}

module _ (equal : (f g : Forest) → (same_forest f g ≡ true) ↔ (f ≡ g)) (grammar : Grammar) (edition : Edition) (dialect : Dialect) (depth : ℕ) (old : code.Cache) (prelude ps : List Forest) where
  abbrev trees : List Forest
  trees = definition_trees prelude ++ definition_trees ps

  abbrev news : Evaluated → List Kept
  news now = kept_in grammar edition dialect depth (numbers_in now.numbers.by_tree) prelude ps

  -- it is held rightly
  taken_right : (now : Evaluated) → IsEvaluated (world grammar edition dialect) edition depth old (layers grammar edition dialect) trees (news now) now
      → (sources : Segments) → AreSegments sources → AreLinked (plain_tops now.plains.items) (definition_tops now.numbers.definitions.items) (all_in sources) now.links.items → IsCache (world grammar edition dialect) depth edition (memory_of now sources)
  taken_right now t sources are links = record {
    unread = λ e. absurd (cc e);
    numbers = numbers_now equal old.given (numbers_in old.by_tree) (trees_of old) trees now.numbers.given (numbers_in now.numbers.by_tree) t.numbers.numbers;
    have = subst (HaveNumbers (numbers_in now.numbers.by_tree)) (sym t.numbers.trees_are) t.numbers.numbers.have;
    table = t.numbers.table;
    listed = t.numbers.listed;
    read = t.table_read;
    right = t.right;
    hashes = t.hashes;
    sources = are;
    linked = links;
  }

  pub takes_text : (now : Evaluated) (e : Expanded) → IsEvaluated (world grammar edition dialect) edition depth old (layers grammar edition dialect) trees (news now) now
      → ((steps : List PlacedStep) → HasOutput now.steps steps → ShowsOutput now.faults.items now.expanded steps e)
      → (sources : Segments) → AreSegments sources → AreLinked (plain_tops now.plains.items) (definition_tops now.numbers.definitions.items) (all_in sources) now.links.items → EvaluatesText grammar edition dialect depth old prelude ps e (memory_of now sources)
  takes_text now e t shown sources are links =
      let shows : ShowsOutput now.faults.items now.expanded (flat_map output_of (map present (news now))) e = shown (flat_map output_of (map present (news now))) t.steps in
      record {
        right = taken_right now t sources are links;
        was_read = refl;
        numbers = t.numbers.numbers;
        trees = t.numbers.trees_are;
        plains = t.plains;
        shows = record {
          printed = shows.printed;
          faults = shows.faults ∙ ap (λ (fs : List Fault). in_order (fs ++ faults_in (flat_map output_of (map present (news now))))) t.faults;
          origins = shows.origins;
          texts = shows.texts;
          ranges = shows.ranges;
          expanded = shows.expanded ∙ t.expanded;
        };
      }

-- ---- the reply

shows_text : (L : Layers) (all ms : List Member) → all ≡ ms → (count other : ℕ) → count ≡ other → (e : Expanded)
    → ShowsMeaning (meaning_of L ms) count e → ShowsText L all other e
shows_text L all ms same count other counts e shows =
    let back : ShowsMeaning (meaning_of L all) count e = subst (λ (xs : List Member). ShowsMeaning (meaning_of L xs) count e) (sym same) shows in
    record { printed = back.printed; faults = back.faults; origins = back.origins; texts = back.texts; ranges = back.ranges; expanded = back.expanded ∙ counts }

-- a session that holds this
abbrev pub session_with : {G : Type 0} → List ℕ → G → Edition → Dialect → ℕ → List Forest → code.Cache → State G
session_with text grammar edition dialect depth prelude m = record {
  text = text;
  grammar = grammar;
  edition = edition;
  dialect = dialect;
  depth = depth;
  prelude = prelude;
  held = held_in m;
  trees = trees_of m;
  given = m.given;
}

module _ (laws : TurnLaws) {G : Type 0} (given : G) (grammar : Grammar) (edition : Edition) (dialect : Dialect) (depth : ℕ) (prelude : List Forest) (stands : All Stands prelude)
    (text : List ℕ) (f : Forest) (is_text : IsUtf8 text) (read : text_reading text ≡ Ok f)
    (old : code.Cache) (right : IsCache (world grammar edition dialect) depth edition old) where
  abbrev before : State G
  before = session_with text given edition dialect depth prelude old

  abbrev held_pieces : code.Cache → List HeldPiece
  held_pieces m = map (λ q. piece_of (world grammar edition dialect) depth (rc_value q)) m.plains.items

  -- the pieces that are held, if a text was read
  abbrev hold : Bool → Option (List HeldPiece)
  hold b = if b then Some (held_pieces old) else None

  none_held : (b : Bool) → old.was_read ≡ b → unwrap_or (hold b) [] ≡ held_pieces old
  none_held true e = refl
  none_held false e = ap (λ qs. map (λ q. piece_of (world grammar edition dialect) depth (rc_value q)) qs) (sym (right.unread e))

  had : (b : Bool) → old.was_read ≡ b → Had grammar edition dialect before (numbers_in old.by_tree) (hold b)
  had true e = record {
    view = ap (λ b. if b then Some (map (λ q. looked_plain (rc_value q)) old.plains.items) else None) e
        ∙ ap Some (sym (all_looked (world grammar edition dialect) depth (numbers_in old.by_tree) old.plains.items right.right));
    right = all_held (world grammar edition dialect) depth (numbers_in old.by_tree) old.plains.items right.right;
  }
  had false e = record {
    view = ap (λ b. if b then Some (map (λ q. looked_plain (rc_value q)) old.plains.items) else None) e;
    right = All-nil (IsHeld (world grammar edition dialect) depth (numbered_by (numbers_in old.by_tree)));
  }

  pub replies_read : (e : Expanded) (m : code.Cache) → EvaluatesText grammar edition dialect depth old prelude (pieces f) e m
      → Replies (layers grammar edition dialect) before (session_with text given edition dialect depth prelude m) (Read e)
  replies_read e m takes = go old.was_read refl
    where
      go : (b : Bool) → old.was_read ≡ b → Replies (layers grammar edition dialect) before (session_with text given edition dialect depth prelude m) (Read e)
      go b is =
          let h : Had grammar edition dialect before (numbers_in old.by_tree) (hold b) = had b is in
          let news : List Kept = kept_in grammar edition dialect depth (numbers_in m.by_tree) prelude (pieces f) in
          let all : List Member = members_in (layers grammar edition dialect) depth (definitions_of prelude) f in
          let same : all ≡ map present news =
          taken_members laws grammar edition dialect depth prelude stands text f is_text read old.given (numbers_in old.by_tree) (trees_of old) m.given (numbers_in m.by_tree) takes.numbers (unwrap_or (hold b) []) h.right in
          taken_reply grammar edition dialect before f read laws stands is_text (numbers_in old.by_tree) m.given (numbers_in m.by_tree) takes.numbers (hold b) h
          (session_with text given edition dialect depth prelude m) e
          (shows_text (layers grammar edition dialect) all (map present news) same
          (length (filter (is_unmatched dialect (held_pieces old)) news)) (length (filter (is_unmatched dialect (unwrap_or (hold b) [])) news))
          (ap (λ qs. length (filter (is_unmatched dialect qs) news)) (sym (none_held b is))) e takes.shows)
          (record { text = refl; grammar = refl; edition = refl; dialect = refl; depth = refl; prelude = refl })
          (ap (λ b. if b then Some (map (λ q. looked_plain (rc_value q)) m.plains.items) else None) takes.was_read
          ∙ ap Some (sym (all_looked (world grammar edition dialect) depth (numbers_in m.by_tree) m.plains.items takes.right.right))
          ∙ ap (λ qs. Some (map looked_held qs)) takes.plains)
          takes.trees refl

-- ---- refusals

-- the pieces are refused
pub pieces_cause : {G : Type 0} → ((a b : Forest) → (same_forest a b ≡ true) ↔ (a ≡ b)) → (grammar : Grammar) (edition : Edition) (dialect : Dialect) (s : State G) (m : code.Cache) (f : Forest)
    → text_reading s.text ≡ Ok f → s.trees ≡ trees_of m → s.given ≡ m.given → (why : Refusal)
    → (why ≡ refusal.Tokens → list_any bursts (members_after (layers grammar edition dialect) s.depth (definitions_of s.prelude) (pieces f)) ≡ true)
    → (why ≡ refusal.Numbers → NeedsMore m (definition_trees s.prelude ++ definition_trees (pieces f))) → HasCause (layers grammar edition dialect) s why
pieces_cause equal grammar edition dialect s m f read trees gives refusal.Memory tokens numbers = tt
pieces_cause equal grammar edition dialect s m f read trees gives refusal.Tokens tokens numbers =
    inr (subst (HasTooManyIn (layers grammar edition dialect) s.depth (definitions_of s.prelude)) (sym read) (tokens refl))
pieces_cause equal grammar edition dialect s m f read trees gives refusal.Numbers tokens numbers =
    let more : NeedsMore m (definition_trees s.prelude ++ definition_trees (pieces f)) = numbers refl in
    too_many_numbers grammar edition dialect s f read equal more.front more.more more.are
    (subst (λ (n : ℕ). 2 ^ 32 ≤ n + needed s.trees more.front) (sym gives)
    (subst (λ (ts : List Forest). 2 ^ 32 ≤ m.given + needed ts more.front) (sym trees) more.many))

-- ---- over a text that was read

module _ (text : List ℕ) (own : Vec Piece Global) (sources : Segments) (is_read : IsReadInPieces text (Pieces own sources)) (order : OrderLaws) (is_text : IsUtf8 text) where
  own_is : (map piece_at own.items ≡ pieces is_read.0) × All IsOwnPiece own.items
  own_is = own_back (pieces is_read.0) own.items is_read.2 (pieces_stand order text is_read.0 is_text is_read.1)

  module _ (list : List Piece) (same : list ≡ own.items) where
    are_pieces : map piece_at list ≡ pieces is_read.0
    are_pieces = ap (map piece_at) same ∙ own_is.0

    pub list_are : All IsOwnPiece list
    list_are = subst (All IsOwnPiece) (sym same) own_is.1

    pub replies_in_pieces : TurnLaws → {G : Type 0} → (answer : G → Grammar) (s : State G) (here : List ℕ) (grammar : G) (edition : Edition) (dialect : Dialect) (depth : ℕ)
        (prelude : List Forest) → All Stands prelude → (old : code.Cache)
        → session_with here grammar edition dialect depth prelude old ≡ s → text ≡ here → IsCache (world (answer grammar) edition dialect) depth edition old
        → (e : Expanded) (m : code.Cache) → EvaluatesText (answer grammar) edition dialect depth old prelude (map piece_at list) e m
        → Replies (layers_of answer s) s (session_with here grammar edition dialect depth prelude m) (Read e)
    replies_in_pieces laws {G} answer s here grammar edition dialect depth prelude stands old is shown right e m takes =
        subst (λ (z : State G). Replies (layers_of answer z) z (session_with here grammar edition dialect depth prelude m) (Read e)) is
        (subst (λ (bytes : List ℕ). Replies (layers (answer grammar) edition dialect) (session_with bytes grammar edition dialect depth prelude old) (session_with bytes grammar edition dialect depth prelude m) (Read e)) shown
        (replies_read laws grammar (answer grammar) edition dialect depth prelude stands text is_read.0 is_text is_read.1 old right e m
        (subst (λ (ps : List Forest). EvaluatesText (answer grammar) edition dialect depth old prelude ps e m) are_pieces takes)))

    pub cause_in_pieces : ((a b : Forest) → (same_forest a b ≡ true) ↔ (a ≡ b)) → {G : Type 0} → (answer : G → Grammar) (s : State G) (here : List ℕ) (grammar : G) (edition : Edition) (dialect : Dialect) (depth : ℕ)
        (prelude : List Forest) (m : code.Cache) → session_with here grammar edition dialect depth prelude m ≡ s → text ≡ here → (why : Refusal)
        → (why ≡ refusal.Tokens → list_any bursts (members_after (layers (answer grammar) edition dialect) depth (definitions_of prelude) (map piece_at list)) ≡ true)
        → (why ≡ refusal.Numbers → NeedsMore m (definition_trees prelude ++ definition_trees (map piece_at list))) → HasCause (layers_of answer s) s why
    cause_in_pieces equal {G} answer s here grammar edition dialect depth prelude m is shown why tokens numbers =
        subst (λ (z : State G). HasCause (layers_of answer z) z why) is
        (pieces_cause equal (answer grammar) edition dialect (session_with here grammar edition dialect depth prelude m) m is_read.0 (subst (λ (bytes : List ℕ). text_reading bytes ≡ Ok is_read.0) shown is_read.1) refl refl why
        (λ e. subst (λ (ps : List Forest). list_any bursts (members_after (layers (answer grammar) edition dialect) depth (definitions_of prelude) ps) ≡ true) are_pieces (tokens e))
        (λ e. subst (λ (ps : List Forest). NeedsMore m (definition_trees prelude ++ definition_trees ps)) are_pieces (numbers e)))
