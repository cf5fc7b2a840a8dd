-- Pieces that are read by themselves, and the text that they are part of.
use Rattle.std.proofs.Common.{◌≡◌, ◌≢◌, ℕ, ◌+◌, ◌-◌, ◌<◌, ◌≤◌, Bool, true, false, List, [], ◌∷◌, ◌++◌, append_assoc, append-nil, length, map, take, drop, refl, ap, sym, subst, ◌∙◌, arith, if◌then◌else◌}
use Rattle.std.specs.Prelude.{IsUtf8, Result, Ok, Err, chars}
use Rattle.std.specs.Rc.{rc_value}
use Rattle.std.proofs.lemmas.List.Sums.{sum_by-cons}
use Rattle.std.proofs.lemmas.List.{drop-append-le, drop-drop, length-append, length-drop, length-take-le, map-append, take-append-drop, take-append-le, take_all}
use Rattle.std.proofs.Math.Seq.{drop-length}
use Rattle.tt_data.proofs.ForestLemmas.{joined_assoc}
use Rattle.rustc_lexer.specs.Lexing.{run_on, tokens_of}
use Rattle.rustc_lexer.specs.TokensAt.{AreTokensFrom}
use Rattle.rustc_lexer.specs.declared.token.Token.{Token}
use Rattle.tt.specs.Tops.{Top}
use Rattle.tt_data.specs.Forest.{Forest, empty, leaf, group, joined, map_spans}
use Rattle.tt_data.specs.Spans.{delimiter_with, leaf_with, span_of}
use Rattle.tt_data.specs.Walk.{walk}
use Rattle.tt_data.specs.declared.leaf.Leaf.{Leaf}
use Rattle.tt_data.specs.declared.leaf.Leaf.TheVariants as as_leaf
use Rattle.tt_data.specs.declared.span.Span.{Span}
use Rattle.tt.specs.Building.{alone}
use Rattle.bridge.specs.ReadText.{text_top}
use Rattle.bridge.specs.Reading.{IsReading, PlacedToken, TextStep, placed_from, reading, step, with_front}
use Rattle.bridge.specs.Text.{is_punct}
use Rattle.bridge.specs.TokenSteps.{steps_of, text_reading}
use Rattle.bridge.specs.declared.reading.outcome.ReadFault.{ReadFault}
use Rattle.expander_model.specs.HashedTrees.{own_top}
use Rattle.expander_reparse.specs.RelativePieces.{AreOwn, own_of, own_shown, tree_at}
use Rattle.bridge.specs.Parts.{begins_with_mark, part_steps, placed_on, starts_with_mark, steps_before}
use Rattle.expander_reparse.specs.Reparsing.{AddsPieces, IsBlank, IsLastPiece, IsReadPiece, IsCachedHere, KeepsCached, Passed}
use Rattle.expander_model.specs.Pieces.{cut, first_start, pieces, relative, separated}
use Rattle.expander_reparse.specs.Segments.{AreReadAs, IsTokenRun, OccursHere, bytes_of, chars_ahead}
use Rattle.expander_model.specs.Splitting.{IsOpen, IsWhole}
use Rattle.expander_reparse.specs.declared.piece.Piece.{Piece}
use Rattle.expander_model.specs.declared.split.Shape.TheVariants.{Whole}
use Rattle.expander_reparse.specs.declared.segment.TokenRun.{TokenRun}
use Rattle.expander_reparse.specs.declared.segment.CachedPiece.{CachedPiece}
use Rattle.expander_model.proofs.ApartLemmas.{separated-joined}

-- ---- trees elsewhere

pub span_with : (f : Span → Span) (l : Leaf) → span_of (leaf_with f l) ≡ f (span_of l)
span_with f (as_leaf.Literal l) = refl
span_with f (as_leaf.Punct p) = refl
span_with f (as_leaf.Ident i) = refl

-- a piece has trees
none_whole : IsWhole empty → ⊥
none_whole whole = absurd (cc (whole (λ s. s) empty))

none_open : IsOpen empty → ⊥
none_open opens = absurd (cc (opens (λ s. s)))

some_whole : (p : Forest) → IsWhole p → p ≢ empty
some_whole p whole e = none_whole (subst IsWhole e whole)

some_open : (p : Forest) → IsOpen p → p ≢ empty
some_open p opens e = none_open (subst IsOpen e opens)

-- where the first token starts, elsewhere
first_placed : (n : ℕ) (p : Forest) → p ≢ empty → first_start p ≡ 0 → first_start (map_spans (placed_on n) p) ≡ n
first_placed n empty some z = absurd (some refl)
first_placed n (leaf l rest) some z =
    ap (λ (s : Span). s.range.start) (span_with (placed_on n) l) ∙ omega (arith, z)
first_placed n (group d inner rest) some z = omega (arith, z)

alone_or : (f : Span → Span) (b : Bool) (l : Leaf) → (if b then alone (leaf_with f l) else leaf_with f l) ≡ leaf_with f (if b then alone l else l)
alone_or f false l = refl
alone_or f true (as_leaf.Literal l) = refl
alone_or f true (as_leaf.Punct p) = refl
alone_or f true (as_leaf.Ident i) = refl

is_punct_with : (f : Span → Span) (l : Leaf) → is_punct ";" (leaf_with f l) ≡ is_punct ";" l
is_punct_with f (as_leaf.Literal l) = refl
is_punct_with f (as_leaf.Punct p) = refl
is_punct_with f (as_leaf.Ident i) = refl

pub separated_with : (f : Span → Span) (g : Forest) → separated (map_spans f g) ≡ map_spans f (separated g)
separated_with f empty = refl
separated_with f (leaf l rest) =
    ap (λ (b : Bool). leaf (if b then alone (leaf_with f l) else leaf_with f l) (separated (map_spans f rest))) (is_punct_with f l)
    ∙ ap (λ (m : Leaf). leaf m (separated (map_spans f rest))) (alone_or f (is_punct ";" l) l)
    ∙ ap (leaf (leaf_with f (if is_punct ";" l then alone l else l))) (separated_with f rest)
separated_with f (group d inner rest) = ap (group (delimiter_with f d) (map_spans f inner)) (separated_with f rest)

-- the pieces of a text that begins with one whole piece
pieces_behind : (f : Span → Span) (p g : Forest) → IsWhole (separated p) → pieces (joined (map_spans f p) g) ≡ map_spans f (separated p) ∷ pieces g
pieces_behind f p g whole =
    ap cut (separated-joined (map_spans f p) g ∙ ap (λ (h : Forest). joined h (separated g)) (separated_with f p)) ∙ whole f (separated g)

-- ---- tokens one after another

with_front-empty : (r : Result Forest ReadFault) → with_front empty r ≡ r
with_front-empty (Ok f) = refl
with_front-empty (Err e) = refl

with_front-joined : (f g : Forest) (r : Result Forest ReadFault) → with_front f (with_front g r) ≡ with_front (joined f g) r
with_front-joined f g (Ok h) = ap Ok (sym (joined_assoc f g h))
with_front-joined f g (Err e) = refl

pub placed_append : (at : ℕ) (bytes rest : List ℕ) (tokens left : List Token) → bytes_of tokens ≡ length bytes
    → placed_from at (bytes ++ rest) (tokens ++ left) ≡ placed_from at bytes tokens ++ placed_from (at + length bytes) rest left
placed_append at [] rest [] left e = ap (λ (n : ℕ). placed_from n rest left) (omega arith)
placed_append at (b ∷ bytes) rest [] left e = absurd (omega (arith, e))
placed_append at bytes rest (t ∷ tokens) left e =
    let sum : bytes_of (t ∷ tokens) ≡ t.len + bytes_of tokens = sum_by-cons (λ (u : Token). u.len) t tokens in
    let fits : t.len ≤ length bytes = omega (arith, e, sum) in
    let n : length (drop t.len bytes) ≡ length bytes - t.len = length-drop t.len bytes in
    let later : bytes_of tokens ≡ length (drop t.len bytes) = omega (arith, e, n, sum) in
    let same : at + t.len + length (drop t.len bytes) ≡ at + length bytes = omega (arith, n, fits) in
    ap (λ (text : List ℕ). record { kind = t.kind; start = at; text = text } ∷ placed_from (at + t.len) (drop t.len (bytes ++ rest)) (tokens ++ left)) (take-append-le t.len bytes rest fits)
    ∙ ap (λ (text : List ℕ). record { kind = t.kind; start = at; text = take t.len bytes } ∷ placed_from (at + t.len) text (tokens ++ left)) (drop-append-le t.len bytes rest fits)
    ∙ ap (λ (ts : List PlacedToken). record { kind = t.kind; start = at; text = take t.len bytes } ∷ ts) (
    placed_append (at + t.len) (drop t.len bytes) rest tokens left later
    ∙ ap (λ (m : ℕ). placed_from (at + t.len) (drop t.len bytes) tokens ++ placed_from m rest left) same)

first_mark : (at : ℕ) (text : List ℕ) (tokens : List Token) → starts_with_mark (placed_from at text tokens) ≡ begins_with_mark tokens
first_mark at text [] = refl
first_mark at text (t ∷ tokens) = refl

-- ---- a text of which pieces were passed

pub none_passed : (text : List ℕ) → AreTokensFrom text 0 (tokens_of (chars text)) → Passed text 0 (tokens_of (chars text)) []
none_passed text here = record {
  front = empty;
  ps = [];
  here = here;
  reads = sym (with_front-empty _);
  cuts = λ g. refl;
  are_own = refl;
}

-- the tokens behind some stand behind them
abbrev pub NextLaw : Type 0
NextLaw = (text : List ℕ) (at : ℕ) (left : List Token) (t : Token) (ts : List Token)
    → IsUtf8 text → AreTokensFrom text at left → left ≡ t ∷ ts → AreTokensFrom text (at + t.len) ts

pub stand_behind : NextLaw → (text : List ℕ) → IsUtf8 text → (at : ℕ) (tokens left : List Token) → AreTokensFrom text at (tokens ++ left)
    → AreTokensFrom text (at + bytes_of tokens) left
stand_behind next text utf8 at [] left here = subst (λ (n : ℕ). AreTokensFrom text n left) (omega arith) here
stand_behind next text utf8 at (t ∷ tokens) left here =
    let sum : bytes_of (t ∷ tokens) ≡ t.len + bytes_of tokens = sum_by-cons (λ (u : Token). u.len) t tokens in
    let same : at + t.len + bytes_of tokens ≡ at + bytes_of (t ∷ tokens) = omega (arith, sum) in
    subst (λ (n : ℕ). AreTokensFrom text n left) same
    (stand_behind next text utf8 (at + t.len) tokens left (next text at (t ∷ (tokens ++ left)) t (tokens ++ left) utf8 here refl))

-- where all tokens were passed the pieces are all
pub all_passed : (text : List ℕ) (at : ℕ) (left : List Token) (own : List Piece) → left ≡ [] → Passed text at left own
    → (f : Forest) × ((text_reading text ≡ Ok f) × AreOwn (pieces f) own)
all_passed text at left own none p = (
  joined p.front empty,
  (
    p.reads ∙ ap (λ (ts : List Token). with_front p.front (reading (steps_of (placed_from at (drop at text) ts)))) none,
    subst (λ (ps : List Forest). AreOwn ps own) (sym (p.cuts empty ∙ append-nil p.ps)) p.are_own,
  ),
)

-- the first tokens of a text hang on their own bytes and the two characters behind them, where no run of hashes goes on
abbrev pub FirstLaw : Type 0
FirstLaw = (k n : ℕ) (text other : List ℕ) → IsUtf8 text → bytes_of (take k (tokens_of (chars text))) ≡ n
    → take n text ≡ take n other → run_on (take n text) (drop n text) ≡ 0 → take 2 (chars (drop n text)) ≡ take 2 (chars (drop n other))
    → take k (tokens_of (chars other)) ≡ take k (tokens_of (chars text))

-- ---- what is known of parts of a text
pub record PartLaws : Type 0 where
  pub tokens : (a b : List PlacedToken) → steps_of (a ++ b) ≡ steps_before a b ++ steps_of b
  pub elsewhere : (at count : ℕ) (text : List ℕ) (tokens : List Token) (f : Forest)
      → IsReading (part_steps 0 count text tokens) f → IsReading (part_steps at count text tokens) (map_spans (placed_on at) f)
  pub same_tree : (at : ℕ) (f : Forest) → relative (map_spans (placed_on at) f) ≡ relative f
  pub at_first : (f : Forest) → first_start f ≡ 0 → relative f ≡ f
  pub equal : (at : ℕ) (text s rest : List ℕ) (tokens ts more : List Token) (after : List PlacedToken)
      → text ≡ s ++ rest → tokens ≡ ts ++ more → bytes_of ts ≡ length s → starts_with_mark after ≡ begins_with_mark more
      → part_steps at (length ts) text tokens ≡ steps_before (placed_from at s ts) after
  pub first : FirstLaw

-- trees in places of their own are no other elsewhere
abbrev pub SameTreeLaw : Type 0
SameTreeLaw = (at : ℕ) (f : Forest) → relative (map_spans (placed_on at) f) ≡ relative f

abbrev pub AtFirstLaw : Type 0
AtFirstLaw = (f : Forest) → first_start f ≡ 0 → relative f ≡ f

-- a piece in the text, whose tree is in places of its own
own_is : SameTreeLaw → AtFirstLaw → (p : Forest) (at : ℕ) (t : Top) → p ≢ empty → first_start p ≡ 0 → t ≡ own_top p
    → own_of (map_spans (placed_on at) p) ≡ (at, t)
own_is same_tree at_first p at t some first tree =
    let tree_is : own_top (relative (map_spans (placed_on at) p)) ≡ t = ap own_top (same_tree at p ∙ at_first p first) ∙ sym tree in
    let start_is : first_start (map_spans (placed_on at) p) ≡ at = first_placed at p some first in
    λ i. (start_is i, tree_is i)

-- where tokens stand first in a text they are its first
pub stands_tokens : (c : TokenRun) (tokens : List Token) → IsTokenRun c tokens → (text : List ℕ) (left : List Token) → left ≡ tokens_of (chars text) → OccursHere c text
    → left ≡ tokens ++ drop c.count left
stands_tokens c tokens is text left are here =
    sym (take-append-drop c.count left) ∙ ap (λ (ts : List Token). ts ++ drop c.count left) (ap (take c.count) are ∙ is.same text here)

-- a token that is read as nothing
pub blank_reads : (t : Token) (bytes : List ℕ) (mark : Bool) → IsBlank t.kind → AreReadAs bytes (t ∷ []) mark (λ at. [])
blank_reads t bytes mark blank = record {
  forest = λ at. empty;
  ps = λ at. [];
  reads = λ at after follows.
      let first : PlacedToken = record { kind = t.kind; start = at; text = take t.len bytes } in
      ap (λ (ss : List TextStep). ss ++ steps_of after) (blank first after);
  cuts = λ at g. refl;
  are = λ at. refl;
}

-- what is passed of a text is read behind what was
pub passed_on : ((f : Forest) (more : List TextStep) → reading (map step (walk f) ++ more) ≡ with_front f (reading more)) → NextLaw → (text : List ℕ) → IsUtf8 text
    → (at : ℕ) (bytes : List ℕ) (tokens : List Token) (mark : Bool) (shown : ℕ → List (ℕ × Top)) (left more : List Token) (own now : List Piece)
    → AreReadAs bytes tokens mark shown → left ≡ tokens ++ more → drop at text ≡ bytes ++ drop (length bytes) (drop at text) → bytes_of tokens ≡ length bytes
    → begins_with_mark more ≡ mark → AddsPieces (shown at) own now → Passed text at left own → Passed text (at + length bytes) more now
passed_on behind next text utf8 at bytes tokens mark shown left more own now are left_is bytes_are long mark_is adds p =
    let n : ℕ = length bytes in
    let f : Forest = are.forest at in
    let later : List PlacedToken = placed_from (at + n) (drop n (drop at text)) more in
    let placed : placed_from at (drop at text) left ≡ placed_from at bytes tokens ++ later =
    ap (λ (bs : List ℕ). placed_from at bs left) bytes_are
    ∙ ap (placed_from at (bytes ++ drop n (drop at text))) left_is
    ∙ placed_append at bytes (drop n (drop at text)) tokens more long in
    let steps : steps_of (placed_from at (drop at text) left) ≡ map step (walk f) ++ steps_of later =
    ap steps_of placed ∙ are.reads at later (first_mark (at + n) (drop n (drop at text)) more ∙ mark_is) in
    record {
      front = joined p.front f;
      ps = p.ps ++ are.ps at;
      here = subst (λ (m : ℕ). AreTokensFrom text (at + m) more) long (stand_behind next text utf8 at tokens more (subst (AreTokensFrom text at) left_is p.here));
      reads = p.reads
          ∙ ap (λ (ss : List TextStep). with_front p.front (reading ss)) steps
          ∙ ap (with_front p.front) (behind f (steps_of later))
          ∙ with_front-joined p.front f (reading (steps_of later))
          ∙ ap (λ (bs : List ℕ). with_front (joined p.front f) (reading (steps_of (placed_from (at + n) bs more)))) (drop-drop n at text);
      cuts = λ g.
          ap pieces (joined_assoc p.front f g)
          ∙ p.cuts (joined f g)
          ∙ ap (λ (ps : List Forest). p.ps ++ ps) (are.cuts at g)
          ∙ sym (append_assoc p.ps (are.ps at) (pieces g));
      are_own = ap (map own_shown) adds.items
          ∙ map-append own_shown own adds.more
          ∙ ap (λ (xs : List (ℕ × Top)). xs ++ map own_shown adds.more) p.are_own
          ∙ ap (λ (xs : List (ℕ × Top)). map own_of p.ps ++ xs) (adds.are ∙ sym (are.are at))
          ∙ sym (map-append own_of p.ps (are.ps at));
    }

-- ---- a piece that was read by itself

-- a text that begins with the same bytes, before the same characters, has the same first tokens
pub same_tokens : FirstLaw → (c : TokenRun) (bytes : List ℕ) (left : List Token) (n : ℕ) → IsUtf8 bytes → left ≡ tokens_of (chars bytes)
    → n ≡ bytes_of (take c.count left) → c.bytes ≡ take n bytes → length c.bytes ≡ n → run_on (take n bytes) (drop n bytes) ≡ 0 → chars_ahead c.ahead ≡ take 2 (chars (drop n bytes))
    → (text : List ℕ) → OccursHere c text → take c.count (tokens_of (chars text)) ≡ take c.count left
same_tokens first c bytes left n utf8 are n_is bytes_are size apart ahead text here =
    let sum : bytes_of (take c.count (tokens_of (chars bytes))) ≡ n = ap (λ (ts : List Token). bytes_of (take c.count ts)) (sym are) ∙ sym n_is in
    let begins : take n text ≡ c.bytes =
    ap (take n) here.bytes ∙ take-append-le n c.bytes (drop (length c.bytes) text) (omega (arith, size)) ∙ take_all n c.bytes (omega (arith, size)) in
    let two : take 2 (chars (drop n bytes)) ≡ take 2 (chars (drop n text)) =
    sym ahead ∙ sym here.ahead ∙ ap (λ (m : ℕ). take 2 (chars (drop m text))) size in
    first c.count n bytes text utf8 sum (sym bytes_are ∙ sym begins) apart two ∙ ap (take c.count) (sym are)

-- the first tokens of a text, which were cut out of it, stand first in it
pub is_cutout : FirstLaw → (c : TokenRun) (bytes : List ℕ) (left : List Token) (n : ℕ) → IsUtf8 bytes → left ≡ tokens_of (chars bytes)
    → c.count ≤ length left → 1 ≤ c.count → n ≤ length bytes → n ≡ bytes_of (take c.count left) → c.bytes ≡ take n bytes
    → run_on (take n bytes) (drop n bytes) ≡ 0 → chars_ahead c.ahead ≡ take 2 (chars (drop n bytes)) → IsTokenRun c (take c.count left) × OccursHere c bytes
is_cutout first c bytes left n utf8 are within some fits n_is bytes_are apart ahead =
    let m : length c.bytes ≡ n = ap length bytes_are ∙ length-take-le n bytes fits in
    let stands_bytes : bytes ≡ c.bytes ++ drop (length c.bytes) bytes =
    sym (take-append-drop n bytes) ∙ ap (λ (bs : List ℕ). bs ++ drop n bytes) (sym bytes_are) ∙ ap (λ (i : ℕ). c.bytes ++ drop i bytes) (sym m) in (
      record {
        count = length-take-le c.count left within;
        some = some;
        long = sym n_is ∙ sym m;
        same = same_tokens first c bytes left n utf8 are n_is bytes_are m apart ahead;
      },
      record { bytes = stands_bytes; ahead = ap (λ (i : ℕ). take 2 (chars (drop i bytes))) m ∙ sym ahead },
    )

-- what tokens of one piece are read as
piece_reads : (laws : PartLaws) (s : CachedPiece) (bytes : List ℕ) (left : List Token) (f : Forest) (t : Top)
    → IsTokenRun s.cutout (take s.cutout.count left) → OccursHere s.cutout bytes → s.cutout.mark ≡ begins_with_mark (drop s.cutout.count left)
    → rc_value s.tree ≡ t → t.delimiter ≡ text_top → t.inner ≡ separated f → IsReading (part_steps 0 s.cutout.count bytes left) f → IsWhole t.inner → first_start t.inner ≡ 0
    → AreReadAs s.cutout.bytes (take s.cutout.count left) s.cutout.mark (λ at. (at, rc_value s.tree) ∷ [])
piece_reads laws s bytes left f t is here mark_is tree top inner read whole first =
    let k : ℕ = s.cutout.count in
    let tokens : List Token = take k left in
    let left_is : left ≡ tokens ++ drop k left = sym (take-append-drop k left) in
    let equal_steps : (at : ℕ) (after : List PlacedToken) → starts_with_mark after ≡ s.cutout.mark → part_steps at k bytes left ≡ steps_before (placed_from at s.cutout.bytes tokens) after =
    λ at after follows. ap (λ (i : ℕ). part_steps at i bytes left) (sym is.count)
    ∙ laws.equal at bytes s.cutout.bytes (drop (length s.cutout.bytes) bytes) left tokens (drop k left) after here.bytes left_is is.long (follows ∙ mark_is) in
    let is_whole : IsWhole (separated f) = subst IsWhole inner whole in
    let tree_is : rc_value s.tree ≡ own_top (separated f) = tree ∙ (λ i. record { delimiter = top i; inner = inner i }) in
    record {
      forest = λ at. map_spans (placed_on at) f;
      ps = λ at. map_spans (placed_on at) (separated f) ∷ [];
      reads = λ at after follows.
          laws.tokens (placed_from at s.cutout.bytes tokens) after
          ∙ ap (λ (ss : List TextStep). ss ++ steps_of after) (sym (equal_steps at after follows) ∙ laws.elsewhere at k bytes left f read);
      cuts = λ at g. pieces_behind (placed_on at) f g is_whole;
      are = λ at. ap (λ (x : ℕ × Top). x ∷ []) (own_is laws.same_tree laws.at_first (separated f) at (rc_value s.tree) (some_whole (separated f) is_whole) (ap first_start (sym inner) ∙ first) tree_is);
    }

-- what was read, with what it was read from
pub source_here : (laws : PartLaws) (bytes word : List ℕ) (left first after : List Token) (count n : ℕ) (t : Top) (s : CachedPiece)
    → IsUtf8 bytes → left ≡ tokens_of (chars bytes) → count ≤ length left → 1 ≤ count → n ≤ length bytes → n ≡ bytes_of first
    → word ≡ take n bytes → first ≡ take count left → after ≡ drop count left → run_on (take n bytes) (drop n bytes) ≡ 0
    → KeepsCached word (drop n bytes) count after t s → IsReadPiece (part_steps 0 count bytes left) Whole t → IsCachedHere bytes left s
source_here laws bytes word left first after count n t s utf8 are within some fits n_is word_is first_is after_is apart kept read =
    let c : s.cutout.count ≡ count = kept.count_is in
    let is = is_cutout laws.first s.cutout bytes left n utf8 are (rw c within) (rw c some) fits (n_is ∙ ap bytes_of first_is ∙ ap (λ (i : ℕ). bytes_of (take i left)) (sym c))
    (kept.bytes ∙ word_is) apart kept.ahead in
    let mark_is : s.cutout.mark ≡ begins_with_mark (drop s.cutout.count left) =
    kept.mark ∙ ap begins_with_mark after_is ∙ ap (λ (i : ℕ). begins_with_mark (drop i left)) (sym c) in
    let reads = piece_reads laws s bytes left read.forest t is.0 is.1 mark_is kept.tree read.top read.apart
    (subst (λ (i : ℕ). IsReading (part_steps 0 i bytes left) read.forest) (sym c) read.read) read.shaped read.at_first in
    record {
      right = record { tokens = take s.cutout.count left; cutout = is.0; reads = reads };
      stands = record { here = is.1; mark = sym mark_is };
    }

-- one more token of a list
pub one_more : (left more : List Token) (t : Token) → left ≡ t ∷ more → (drop 1 left ≡ more) × (length (drop 1 left) < length left)
one_more left more t e =
    let is : drop 1 left ≡ more = ap (drop 1) e in
    (is, omega (arith, ap length is, ap length e))

-- fewer tokens are left behind those that stand first
pub fewer_left : (c : TokenRun) (tokens : List Token) → IsTokenRun c tokens → (text : List ℕ) (left : List Token) → left ≡ tokens_of (chars text) → OccursHere c text
    → length (drop c.count left) < length left
fewer_left c tokens is text left are here =
    let whole = stands_tokens c tokens is text left are here in
    omega (arith, is.some, is.count, ap length whole, length-append tokens (drop c.count left))

-- ---- the last piece, which nothing ends
pub record LastLaws : Type 0 where
  pub text : (at count : ℕ) (text : List ℕ) (tokens : List Token) → steps_of (placed_from at text tokens)
      ≡ part_steps at count text tokens ++ steps_of (placed_from (at + bytes_of (take count tokens)) (drop (bytes_of (take count tokens)) text) (drop count tokens))
  pub elsewhere : (at count : ℕ) (text : List ℕ) (tokens : List Token) (f : Forest)
      → IsReading (part_steps 0 count text tokens) f → IsReading (part_steps at count text tokens) (map_spans (placed_on at) f)
  pub read : (steps : List TextStep) (f : Forest) → IsReading steps f → reading steps ≡ Ok f
  pub same_tree : SameTreeLaw
  pub at_first : AtFirstLaw

no_steps : (at : ℕ) (text : List ℕ) (tokens : List Token) → tokens ≡ [] → steps_of (placed_from at text tokens) ≡ []
no_steps at text tokens none = ap (λ (ts : List Token). steps_of (placed_from at text ts)) none

-- a text of which it was left is read, and these are its pieces
pub last_read : LastLaws → (text : List ℕ) (at : ℕ) (left : List Token) (own : List Piece) (o : Piece) (now : List Piece)
    → now ≡ own ++ o ∷ [] → IsLastPiece text at left o → Passed text at left own
    → (f : Forest) × (text_reading text ≡ Ok f) × AreOwn (pieces f) now
last_read laws text at left own o now grown is p =
    let f : Forest = map_spans (placed_on at) is.forest in
    let later : List Token = drop (length left) left in
    let none : later ≡ [] = drop-length left in
    let n : ℕ = bytes_of (take (length left) left) in
    let steps : steps_of (placed_from at (drop at text) left) ≡ part_steps at (length left) (drop at text) left =
    laws.text at (length left) (drop at text) left
    ∙ ap (λ (ss : List TextStep). part_steps at (length left) (drop at text) left ++ ss) (no_steps (at + n) (drop n (drop at text)) later none)
    ∙ append-nil (part_steps at (length left) (drop at text) left) in
    let read : reading (part_steps at (length left) (drop at text) left) ≡ Ok f =
    laws.read (part_steps at (length left) (drop at text) left) f (laws.elsewhere at (length left) (drop at text) left is.forest is.read) in
    let whole : text_reading text ≡ Ok (joined p.front f) =
    p.reads ∙ ap (λ (ss : List TextStep). with_front p.front (reading ss)) steps ∙ ap (with_front p.front) read in
    let last : pieces f ≡ map_spans (placed_on at) (separated is.forest) ∷ [] = ap cut (separated_with (placed_on at) is.forest) ∙ is.opens (placed_on at) in
    let are : pieces (joined p.front f) ≡ p.ps ++ map_spans (placed_on at) (separated is.forest) ∷ [] =
    p.cuts f ∙ ap (λ (ps : List Forest). p.ps ++ ps) last in
    let its_own : own_shown o ≡ own_of (map_spans (placed_on at) (separated is.forest)) =
    (λ i. (is.start i, tree_at o))
    ∙ sym (own_is laws.same_tree laws.at_first (separated is.forest) at (tree_at o) (some_open (separated is.forest) is.opens) is.at_first is.tree) in (
      joined p.front f,
      whole,
      ap (map own_shown) grown
          ∙ map-append own_shown own (o ∷ [])
          ∙ ap (λ (xs : List (ℕ × Top)). xs ++ own_shown o ∷ []) p.are_own
          ∙ ap (λ (x : ℕ × Top). map own_of p.ps ++ x ∷ []) its_own
          ∙ sym (map-append own_of p.ps (map_spans (placed_on at) (separated is.forest) ∷ []))
          ∙ ap (map own_of) (sym are),
    )
