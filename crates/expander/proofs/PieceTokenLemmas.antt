-- A piece of a text is what its own tokens are read as.
use Rattle.std.proofs.Common.{◌≡◌, ◌≢◌, ℕ, ◌-◌, ◌≤◌, false, List, [], ◌∷◌, ◌++◌, append_assoc, append-nil, length, map, refl, sym, ap, subst, ◌∙◌, arith}
use Rattle.std.specs.Prelude.{All, IsUtf8, Result, Ok, Err, filter, chars}
use Rattle.std.proofs.lemmas.List.Elements.{All-cons, All-head, All-nil, All-tail}
use Rattle.rustc_lexer.specs.Lexing.{tokens_of}
use Rattle.rustc_lexer.specs.declared.token.Token.{Token}
use Rattle.tt_data.proofs.ForestLemmas.{walk-joined, walk-map_spans}
use Rattle.tt_data.specs.Forest.{Forest, empty, leaf, group, joined, map_spans}
use Rattle.tt_data.specs.Walk.{Step, walk}
use Rattle.tt_data.specs.declared.leaf.Spacing.{Spacing}
use Rattle.tt_data.specs.declared.leaf.Spacing.TheVariants.{Alone}
use Rattle.bridge.specs.Parts.{steps_before}
use Rattle.bridge.specs.Reading.{IsReading, PlacedToken, TextStep, reading, step}
use Rattle.bridge.specs.TokenSteps.{class_of, spacing_before, steps_of, steps_of_class, text_reading, text_steps}
use Rattle.bridge.specs.declared.reading.outcome.ReadFault.{ReadFault}
use Rattle.expander.specs.PieceTokens.{AreBlank, AreWords, counted_from, counted_on, is_between, last_end, placed_tokens, written_in}
use Rattle.expander_model.specs.Pieces.{first_start, moved_back, pieces, put_together, relative, separated}
use Rattle.expander_reparse.specs.Segments.{bytes_of}
use Rattle.expander_model.proofs.SplittingLemmas.{put_together-cut}
use Rattle.expander.proofs.PieceTreeLemmas.{ArePieces, HasFirst, HasLast, Unjoined, cut_pieces, end_separated, ended_separated, first_separated, first_step, is_ended, last_step, spaced_separated, spaced_trees, unjoin}
use Rattle.expander_reparse.proofs.PieceReadingLemmas.{separated_with}
use Rattle.expander.proofs.TokenRowLemmas.{InRow, all_back, end_append, end_from, in_row, on_again, part_between, row_behind, row_front, shifted_step, steps_shifted, walk_shifted}
use Rattle.expander.proofs.TokenStepLemmas.{HasBlanks, HasPart, is_end, none_are_blank, spaced, take_blanks, take_part}

-- ---- each piece by its own tokens

-- a piece in places of its own is what these of all tokens are read as
abbrev pub word_in : List PlacedToken → Forest → List PlacedToken
word_in all p = map (counted_from (first_start p)) (filter (is_between (first_start p) (last_end p)) all)

-- before others its tokens are read as its trees, but for the spacing of a `;` at their end
pub record IsReadBefore (word others : List PlacedToken) (p : Forest) : Type 0 where
  pub trees : Forest
  pub read : steps_before word others ≡ map step (walk trees)
  pub is : relative p ≡ separated trees

abbrev pub IsRead : List PlacedToken → Forest → Type 0
IsRead all p = (others : List PlacedToken) → (is_ended p ≡ false → spacing_before others ≡ Alone) → IsReadBefore (word_in all p) others p

no_trees : (f : Forest) → separated f ≡ empty → walk f ≡ []
no_trees empty e = refl
no_trees (leaf l f) e = absurd (cc e)
no_trees (group d inner f) e = absurd (cc e)

-- before nothing tokens are read as by themselves
before_none : (ts : List PlacedToken) → steps_before ts [] ≡ steps_of ts
before_none [] = refl
before_none (t ∷ ts) =
    ap (λ after. steps_of_class (class_of t.kind) t after ++ steps_before ts []) (append-nil ts)
    ∙ ap (λ l. steps_of_class (class_of t.kind) t ts ++ l) (before_none ts)

-- the first piece of those that are left, which these trees are
record TakesPiece (all before ts : List PlacedToken) (p behind : Forest) : Type 0 where
  read : IsRead all p
  blanks : List PlacedToken
  are_blank : AreBlank blanks
  part : List PlacedToken
  rest : List PlacedToken
  split : ts ≡ blanks ++ (part ++ rest)
  word : map (counted_on (first_start p)) (word_in all p) ≡ part
  left : steps_of rest ≡ map step (walk behind)

-- the trees of a piece from its tokens, which stand in a row from here on and are these of all
piece_read : (all part : List PlacedToken) (from : ℕ) (a : Forest) (xs : List Step) (x : Step) → InRow from part → from ≡ first_start (separated a)
    → filter (is_between (first_start (separated a)) (last_end (separated a))) all ≡ part
    → ((others : List PlacedToken) → (is_end x ≡ false → spacing_before others ≡ Alone) → steps_before part others ≡ map step (xs ++ spaced (spacing_before others) x ∷ []))
    → ((spacing : Spacing) → walk (spaced_trees spacing a) ≡ xs ++ spaced spacing x ∷ []) → is_end x ≡ is_ended a → IsRead all (separated a)
piece_read all part from a xs x row start between before again ends others follows =
    let m : ℕ = first_start (separated a) in
    let trees : Forest = spaced_trees (spacing_before others) a in
    record {
      trees = map_spans (moved_back m) trees;
      read = ap (λ l. steps_before (map (counted_from m) l) others) between
          ∙ steps_shifted (λ k. k - m) part others (all_back m from part (omega (arith, start)) row)
          ∙ ap (map (shifted_step (λ k. k - m))) (before others (λ h. follows (ended_separated a ∙ sym ends ∙ h)) ∙ ap (map step) (sym (again (spacing_before others))))
          ∙ walk_shifted (λ k. k - m) (walk trees)
          ∙ ap (map step) (sym (walk-map_spans (moved_back m) trees));
      is = sym (separated_with (moved_back m) trees ∙ ap (map_spans (moved_back m)) (spaced_separated (spacing_before others) a));
    }

-- from the first step of a piece and its last, the blank tokens before it and its own
piece_from : (all before ts : List PlacedToken) (a behind : Forest) → InRow 0 all → all ≡ before ++ ts → (first : HasFirst a) (last : HasLast a)
    → (b : HasBlanks (end_from 0 before) ts first.first) → HasPart (end_from (end_from 0 before) b.blanks) b.rest last.front last.last (walk behind)
    → TakesPiece all before ts (separated a) behind
piece_from all before ts a behind row are first last b p =
    let from : ℕ = end_from (end_from 0 before) b.blanks in
    let part : List PlacedToken = p.first ∷ p.more in
    let start : from ≡ first_start (separated a) = b.starts ∙ first.starts ∙ sym (first_separated a) in
    let stop : end_from from part ≡ last_end (separated a) = p.stops ∙ last.stops ∙ sym (end_separated a) in
    let split : ts ≡ b.blanks ++ (part ++ p.rest) = b.split ∙ ap (λ l. b.blanks ++ l) p.split in
    let all_is : all ≡ (before ++ b.blanks) ++ (part ++ p.rest) = are ∙ ap (λ l. before ++ l) split ∙ sym (append_assoc before b.blanks (part ++ p.rest)) in
    let row_all : InRow 0 ((before ++ b.blanks) ++ (part ++ p.rest)) = subst (InRow 0) all_is row in
    let row_part : InRow from part =
    row_front from part p.rest (subst (λ k. InRow k (part ++ p.rest)) (end_append 0 before b.blanks) (row_behind 0 (before ++ b.blanks) (part ++ p.rest) row_all)) in
    let between : filter (is_between (first_start (separated a)) (last_end (separated a))) all ≡ part =
    ap (filter (is_between (first_start (separated a)) (last_end (separated a)))) all_is
    ∙ part_between 0 (first_start (separated a)) (last_end (separated a)) (before ++ b.blanks) part p.rest row_all
    (end_append 0 before b.blanks ∙ start) (ap (λ k. end_from k part) (sym start) ∙ stop) in
    let m : ℕ = first_start (separated a) in
    record {
      read = piece_read all part from a last.front last.last row_part start between p.before last.again last.ends;
      blanks = b.blanks;
      are_blank = b.are_blank;
      part = part;
      rest = p.rest;
      split = split;
      word = ap (λ l. map (counted_on m) (map (counted_from m) l)) between ∙ on_again m from part (omega (arith, start)) row_part;
      left = p.left;
    }

evaluate_piece : (all before ts : List PlacedToken) (a behind : Forest) → InRow 0 all → all ≡ before ++ ts → a ≢ empty → (is_ended a ≡ false → walk behind ≡ [])
    → steps_of ts ≡ map step (walk (joined a behind)) → TakesPiece all before ts (separated a) behind
evaluate_piece all before ts a behind row are some ends read =
    let first : HasFirst a = first_step a some in
    let last : HasLast a = last_step a some in
    let n : ℕ = end_from 0 before in
    let both : steps_of ts ≡ map step (walk a ++ walk behind) = read ∙ ap (map step) (walk-joined a behind) in
    let row_here : InRow n ts = row_behind 0 before ts (subst (InRow 0) are row) in
    let b : HasBlanks n ts first.first =
    take_blanks n ts first.first (first.more ++ walk behind) row_here (both ∙ ap (λ (w : List Step). map step (w ++ walk behind)) first.is) in
    let row_part : InRow (end_from n b.blanks) b.rest = row_behind n b.blanks b.rest (subst (InRow n) b.split row_here) in
    let whole : steps_of b.rest ≡ map step (last.front ++ last.last ∷ walk behind) =
    b.left ∙ both ∙ ap (λ (w : List Step). map step (w ++ walk behind)) last.is ∙ ap (map step) (append_assoc last.front (last.last ∷ []) (walk behind)) in
    piece_from all before ts a behind row are first last b
    (take_part (end_from n b.blanks) b.rest last.front last.last (walk behind) row_part whole (λ h. ends (sym last.ends ∙ h)))

first_piece : (all before ts : List PlacedToken) (f p : Forest) (ps : List Forest) → InRow 0 all → all ≡ before ++ ts → steps_of ts ≡ map step (walk f) → ArePieces (p ∷ ps)
    → (u : Unjoined f p (put_together ps)) → TakesPiece all before ts p u.behind
first_piece all before ts f p ps row are read pieces_are u =
    let some : u.first ≢ empty = λ e. pieces_are.0 (sym u.one ∙ ap separated e) in
    let ends : is_ended u.first ≡ false → walk u.behind ≡ [] =
    λ h. no_trees u.behind (u.two ∙ ap put_together (pieces_are.1 (ap is_ended (sym u.one) ∙ ended_separated u.first ∙ h))) in
    subst (λ q. TakesPiece all before ts q u.behind) u.one
    (evaluate_piece all before ts u.first u.behind row are some ends (read ∙ ap (λ g. map step (walk g)) u.is))

-- all tokens that are left are read as pieces, with blank ones between them
abbrev AllRead : List PlacedToken → List Forest → List PlacedToken → Type 0
AllRead all ps ts = All (IsRead all) ps × AreWords (map (word_in all) ps) ts

with_piece : (all before ts : List PlacedToken) (p behind : Forest) (ps : List Forest) (t : TakesPiece all before ts p behind) → AllRead all ps t.rest → AllRead all (p ∷ ps) ts
with_piece all before ts p behind ps t later = (
  All-cons (IsRead all) p ps t.read later.0,
  (
    t.rest,
    record { blanks = t.blanks; are_blank = t.are_blank; from = first_start p; is = t.split ∙ ap (λ l. t.blanks ++ (l ++ t.rest)) (sym t.word) },
    later.1,
  ),
)

all_read : (all before ts : List PlacedToken) (f : Forest) (ps : List Forest) → InRow 0 all → all ≡ before ++ ts → steps_of ts ≡ map step (walk f) → separated f ≡ put_together ps → ArePieces ps
    → AllRead all ps ts
all_read all before ts f [] row are read is pieces_are = (All-nil (IsRead all), none_are_blank ts (read ∙ ap (map step) (no_trees f is)))
all_read all before ts f (p ∷ ps) row are read is pieces_are =
    let u : Unjoined f p (put_together ps) = unjoin f p (put_together ps) is in
    let t : TakesPiece all before ts p u.behind = first_piece all before ts f p ps row are read pieces_are u in
    let passed : List PlacedToken = t.blanks ++ t.part in
    with_piece all before ts p u.behind ps t
    (all_read all (before ++ passed) t.rest u.behind ps row
    (are ∙ ap (λ l. before ++ l) (t.split ∙ sym (append_assoc t.blanks t.part t.rest)) ∙ sym (append_assoc before passed t.rest)) t.left u.two pieces_are.2)

-- ---- the pieces of a text

-- what the layers below say of tokens and of reading
pub record TokenLaws : Type 0 where
  pub walk_read : (steps : List TextStep) (f : Forest) → reading steps ≡ Ok f → IsReading steps f
  pub read_walk : (steps : List TextStep) (f : Forest) → IsReading steps f → reading steps ≡ Ok f
  pub positive : (text : List ℕ) → IsUtf8 text → All (λ (t : Token). 1 ≤ t.len) (tokens_of (chars text))
  pub whole : (text : List ℕ) → IsUtf8 text → bytes_of (tokens_of (chars text)) ≡ length text

-- the tree that tokens are read as, with each `;` of its list alone
tree_from : Result Forest ReadFault → Forest
tree_from (Ok k) = separated k
tree_from (Err fault) = empty

module _ (laws : TokenLaws) where
  all_tokens : (text : List ℕ) (f : Forest) → IsUtf8 text → text_reading text ≡ Ok f → AllRead (placed_tokens text) (pieces f) (placed_tokens text)
  all_tokens text f is_text read =
      all_read (placed_tokens text) [] (placed_tokens text) f (pieces f)
      (in_row 0 text (tokens_of (chars text)) (laws.positive text is_text) (omega (arith, laws.whole text is_text))) refl
      (laws.walk_read (text_steps text) f read) (sym (put_together-cut (separated f))) (cut_pieces (separated f) empty)

  pub pieces_read : (text : List ℕ) (f : Forest) → IsUtf8 text → text_reading text ≡ Ok f → All (IsRead (placed_tokens text)) (pieces f)
  pieces_read text f is_text read = (all_tokens text f is_text read).0

  -- the tokens of a text are those of its pieces, with blank ones between them
  pub words_are_own : (text : List ℕ) (f : Forest) → IsUtf8 text → text_reading text ≡ Ok f → AreWords (map (written_in text) (pieces f)) (placed_tokens text)
  words_are_own text f is_text read = (all_tokens text f is_text read).1

  abbrev pub IsItsOwn : List ℕ → Forest → Type 0
  IsItsOwn text p = (k : Forest) × (reading (steps_of (written_in text p)) ≡ Ok k) × (relative p ≡ separated k)

  pub pieces_are_own : (text : List ℕ) (f : Forest) → IsUtf8 text → text_reading text ≡ Ok f → All (IsItsOwn text) (pieces f)
  pieces_are_own text f is_text read = go (pieces f) (pieces_read text f is_text read)
    where
      go : (ps : List Forest) → All (IsRead (placed_tokens text)) ps → All (IsItsOwn text) ps
      go [] h = All-nil (IsItsOwn text)
      go (p ∷ ps) h =
          let r : IsReadBefore (written_in text p) [] p = All-head (IsRead (placed_tokens text)) p ps h [] (λ e. refl) in
          All-cons (IsItsOwn text) p ps (r.trees, laws.read_walk (steps_of (written_in text p)) r.trees (sym (before_none (written_in text p)) ∙ r.read), r.is) (go ps (All-tail (IsRead (placed_tokens text)) p ps h))

  trees_are : (text : List ℕ) (ps : List Forest) → All (IsItsOwn text) ps → map relative ps ≡ map (λ ts. tree_from (reading (steps_of ts))) (map (written_in text) ps)
  unfolding tree_from
  trees_are text [] h = refl
  trees_are text (p ∷ ps) h =
      let own : IsItsOwn text p = All-head (IsItsOwn text) p ps h in
      let tree : relative p ≡ tree_from (reading (steps_of (written_in text p))) = own.2 ∙ ap tree_from (sym own.1) in
      λ i. tree i ∷ trees_are text ps (All-tail (IsItsOwn text) p ps h) i

  pub same_pieces_by_tokens : (text other : List ℕ) (f g : Forest) → IsUtf8 text → IsUtf8 other → text_reading text ≡ Ok f → text_reading other ≡ Ok g
      → map (written_in text) (pieces f) ≡ map (written_in other) (pieces g) → map relative (pieces f) ≡ map relative (pieces g)
  same_pieces_by_tokens text other f g one two read read_too same =
      trees_are text (pieces f) (pieces_are_own text f one read)
      ∙ ap (map (λ ts. tree_from (reading (steps_of ts)))) same
      ∙ sym (trees_are other (pieces g) (pieces_are_own other g two read_too))
