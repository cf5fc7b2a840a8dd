-- Tokens that spell a text's pieces, with trivia between them.
use Rattle.std.proofs.Common.{◌≡◌, ℕ, ◌+◌, ◌-◌, true, false, List, [], ◌∷◌, ◌++◌, append-nil, map, refl, sym, ap, subst, ◌∙◌, arith, inl, inr}
use Rattle.std.specs.Prelude.{All, IsUtf8, Result, Ok, Err}
use Rattle.std.proofs.lemmas.List.Elements.{All-head, All-tail}
use Rattle.std.proofs.lemmas.List.{map-append}
use Rattle.tt_data.proofs.ForestLemmas.{map_spans-map_spans, walk-joined, walk-map_spans}
use Rattle.tt_data.specs.Flat.{joined-empty}
use Rattle.tt_data.specs.Forest.{Forest, empty, leaf, group, joined, map_spans}
use Rattle.tt_data.specs.Spans.{span_of}
use Rattle.tt_data.specs.Walk.{walk}
use Rattle.tt_data.specs.declared.leaf.Spacing.TheVariants.{Alone}
use Rattle.tt_data.specs.declared.span.Span.{Span}
use Rattle.bridge.specs.Parts.{placed_on, steps_before}
use Rattle.bridge.specs.Reading.{PlacedToken, TextStep, step}
use Rattle.bridge.specs.TokenSteps.{spacing_before, steps_of, text_reading, text_steps}
use Rattle.bridge.specs.declared.reading.outcome.ReadFault.{ReadFault}
use Rattle.expander.specs.PieceTokens.{AreBlank, AreWords, BeginsWith, counted_on, is_blank_kind, placed_tokens, written_in}
use Rattle.expander_model.specs.Pieces.{cut, first_start, moved_back, pieces, put_together, relative, separated}
use Rattle.expander_model.proofs.ApartLemmas.{separated-joined}
use Rattle.expander_model.proofs.SplittingLemmas.{put_together-cut}
use Rattle.expander.proofs.PieceTokenLemmas.{IsRead, IsReadBefore, TokenLaws, pieces_read, word_in}
use Rattle.expander.proofs.PieceTreeLemmas.{AreShaped, IsShaped, cut_shapes, is_ended}
use Rattle.expander_reparse.proofs.PieceReadingLemmas.{separated_with, span_with}
use Rattle.expander.proofs.TokenFormLemmas.{blank_is_nothing}
use Rattle.expander.proofs.TokenRowLemmas.{all_on, shifted_step, steps_shifted, walk_shifted}
use Rattle.expander.proofs.TokenStepLemmas.{no_mark}
use Rattle.expander_model.proofs.WholeLemmas.{none_begun}

-- ---- blank tokens

behind_blanks : (blanks ts : List PlacedToken) → AreBlank blanks → steps_of (blanks ++ ts) ≡ steps_of ts
behind_blanks [] ts h = refl
behind_blanks (t ∷ blanks) ts h =
    ap (λ (l : List TextStep). l ++ steps_of (blanks ++ ts)) (blank_is_nothing t.kind t (blanks ++ ts) (All-head (λ (u : PlacedToken). is_blank_kind u.kind ≡ true) t blanks h))
    ∙ behind_blanks blanks ts (All-tail (λ (u : PlacedToken). is_blank_kind u.kind ≡ true) t blanks h)

all_blank : (ts : List PlacedToken) → AreBlank ts → steps_of ts ≡ []
all_blank ts h = ap steps_of (sym (append-nil ts)) ∙ behind_blanks ts [] h

-- ---- a piece in places of its own

minus_itself : (n : ℕ) → n - n ≡ 0
minus_itself n = omega arith

first_relative : (p : Forest) → first_start (relative p) ≡ 0
first_relative empty = refl
first_relative (leaf l rest) =
    ap (λ (s : Span). s.range.start) (span_with (moved_back (span_of l).range.start) l) ∙ minus_itself (span_of l).range.start
first_relative (group d inner rest) = minus_itself d.open_span.range.start

read_as : (r : Result Forest ReadFault) (f g : Forest) → r ≡ Ok f → r ≡ Ok g → f ≡ g
read_as (Ok h) f g e k = cc
read_as (Err fault) f g e k = cc

-- ---- the pieces of words

-- what the layer below says of parts
pub record WordLaws : Type 0 where
  pub token : TokenLaws
  pub tokens : (a b : List PlacedToken) → steps_of (a ++ b) ≡ steps_before a b ++ steps_of b
  pub same_tree : (at : ℕ) (f : Forest) → relative (map_spans (placed_on at) f) ≡ relative f
  pub at_first : (f : Forest) → first_start f ≡ 0 → relative f ≡ f

-- tokens are read as trees, whose pieces in places of their own are these
record HasPieces (ts : List PlacedToken) (ps : List Forest) : Type 0 where
  trees : Forest
  read : steps_of ts ≡ map step (walk trees)
  same : map relative (cut (separated trees)) ≡ map relative ps

module _ (laws : WordLaws) where
  -- a piece at another place, in places of its own
  same_there : (n : ℕ) (p : Forest) → relative (map_spans (placed_on n) (relative p)) ≡ relative p
  same_there n p = laws.same_tree n (relative p) ∙ laws.at_first (relative p) (first_relative p)

  -- its trees before others are cut off, or nothing stands behind it
  cut_there : (n : ℕ) (p behind : Forest) (ps : List Forest) → IsShaped p ps → map relative (cut behind) ≡ map relative ps
      → map relative (cut (joined (map_spans (placed_on n) (relative p)) behind)) ≡ map relative (p ∷ ps)
  cut_there n p behind ps (inl whole) same =
      let there : Span → Span = λ s. placed_on n (moved_back (first_start p) s) in
      let trees : map_spans (placed_on n) (relative p) ≡ map_spans there p = map_spans-map_spans (placed_on n) (moved_back (first_start p)) p in
      ap (λ (f : Forest). map relative (cut (joined f behind))) trees
      ∙ ap (map relative) (whole.0 there behind)
      ∙ ap (λ (f : Forest). relative f ∷ map relative (cut behind)) (sym trees)
      ∙ ap (λ (f : Forest). f ∷ map relative (cut behind)) (same_there n p)
      ∙ ap (λ (l : List Forest). relative p ∷ l) same
  cut_there n p behind ps (inr opens) same =
      let there : Span → Span = λ s. placed_on n (moved_back (first_start p) s) in
      let trees : map_spans (placed_on n) (relative p) ≡ map_spans there p = map_spans-map_spans (placed_on n) (moved_back (first_start p)) p in
      let none : behind ≡ empty = sym (put_together-cut behind) ∙ ap put_together (no_pieces (cut behind) (same ∙ ap (map relative) opens.1)) in
      ap (λ (f : Forest). map relative (cut (joined (map_spans (placed_on n) (relative p)) f))) none
      ∙ ap (λ (f : Forest). map relative (cut f)) (joined-empty (map_spans (placed_on n) (relative p)) ∙ trees)
      ∙ ap (map relative) (opens.0 there)
      ∙ ap (λ (f : Forest). relative f ∷ []) (sym trees)
      ∙ ap (λ (f : Forest). f ∷ []) (same_there n p)
      ∙ ap (λ (l : List Forest). relative p ∷ map relative l) (sym opens.1)
    where
      no_pieces : (qs : List Forest) → map relative qs ≡ [] → qs ≡ []
      no_pieces [] e = refl
      no_pieces (q ∷ qs) e = cc

  -- no punct follows the last piece where nothing ends it
  follows_alone : (all : List PlacedToken) (p : Forest) (ps : List Forest) (rest : List PlacedToken) → IsShaped p ps → AreWords (map (word_in all) ps) rest
      → is_ended p ≡ false → spacing_before rest ≡ Alone
  follows_alone all p ps rest (inl whole) words e = absurd (let h : true ≡ false = sym whole.1 ∙ e in cc)
  follows_alone all p ps rest (inr opens) words e =
      no_mark rest (all_blank rest (subst (λ (qs : List Forest). AreWords (map (word_in all) qs) rest) opens.1 words))

  one_word : (ts rest word : List PlacedToken) (p : Forest) (ps : List Forest) → IsShaped p ps → IsReadBefore word rest p → BeginsWith word ts rest → HasPieces rest ps → HasPieces ts (p ∷ ps)
  one_word ts rest word p ps shape r begins later =
      let n : ℕ = begins.from in
      let here : Forest = map_spans (placed_on n) r.trees in
      let its : steps_before (map (counted_on n) word) rest ≡ map step (walk here) =
      steps_shifted (λ k. n + k) word rest (all_on n word)
      ∙ ap (map (shifted_step (λ k. n + k))) r.read
      ∙ walk_shifted (λ k. n + k) (walk r.trees)
      ∙ ap (map step) (sym (walk-map_spans (placed_on n) r.trees)) in
      let apart : separated (joined here later.trees) ≡ joined (map_spans (placed_on n) (relative p)) (separated later.trees) =
      separated-joined here later.trees
      ∙ ap (λ (f : Forest). joined f (separated later.trees)) (separated_with (placed_on n) r.trees ∙ ap (map_spans (placed_on n)) (sym r.is)) in
      record {
        trees = joined here later.trees;
        read = ap steps_of begins.is
            ∙ behind_blanks begins.blanks (map (counted_on n) word ++ rest) begins.are_blank
            ∙ laws.tokens (map (counted_on n) word) rest
            ∙ ap (λ (l : List TextStep). l ++ steps_of rest) its
            ∙ ap (λ (l : List TextStep). map step (walk here) ++ l) later.read
            ∙ sym (map-append step (walk here) (walk later.trees))
            ∙ ap (map step) (sym (walk-joined here later.trees));
        same = ap (λ (f : Forest). map relative (cut f)) apart ∙ cut_there n p (separated later.trees) ps shape later.same;
      }

  words_read : (all : List PlacedToken) (ps : List Forest) → AreShaped ps → All (IsRead all) ps → (ts : List PlacedToken) → AreWords (map (word_in all) ps) ts → HasPieces ts ps
  words_read all [] shapes reads ts words = record { trees = empty; read = all_blank ts words; same = refl }
  words_read all (p ∷ ps) shapes reads ts words =
      let read : IsReadBefore (word_in all p) words.0 p =
      All-head (IsRead all) p ps reads words.0 (follows_alone all p ps words.0 shapes.0 words.2) in
      one_word ts words.0 (word_in all p) p ps shapes.0 read words.1 (words_read all ps shapes.1 (All-tail (IsRead all) p ps reads) words.0 words.2)

  -- a text of the same words is read, with the same pieces
  pub other_is_read : (text other : List ℕ) (f : Forest) → IsUtf8 text → text_reading text ≡ Ok f → AreWords (map (written_in text) (pieces f)) (placed_tokens other)
      → (g : Forest) × (text_reading other ≡ Ok g) × (map relative (pieces f) ≡ map relative (pieces g))
  other_is_read text other f is_text read words =
      let h : HasPieces (placed_tokens other) (pieces f) =
      words_read (placed_tokens text) (pieces f) (cut_shapes (separated f) empty (none_begun empty)) (pieces_read laws.token text f is_text read) (placed_tokens other) words in
      (h.trees, laws.token.read_walk (text_steps other) h.trees h.read, sym h.same)

  -- or with the pieces that it is known to have
  pub same_words : (text other : List ℕ) (f g : Forest) → IsUtf8 text → text_reading text ≡ Ok f → text_reading other ≡ Ok g → AreWords (map (written_in text) (pieces f)) (placed_tokens other)
      → map relative (pieces f) ≡ map relative (pieces g)
  same_words text other f g is_text read read_too words =
      let is = other_is_read text other f is_text read words in
      is.2 ∙ ap (λ (h : Forest). map relative (pieces h)) (read_as (text_reading other) is.0 g is.1 read_too)
