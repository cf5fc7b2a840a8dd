-- A text that is read segment by segment and piece by piece.
use Rattle.std.proofs.Common.{◌≡◌, ℕ, ◌+◌, ◌-◌, ◌<◌, ◌≤◌, zero, suc, List, [], ◌∷◌, ◌++◌, Option, None, Some, append_assoc, append-nil, length, map, take, drop, refl, ap, sym, subst, ◌∙◌, arith, Global}
use Rattle.std.specs.Prelude.{All, IfSome, IsUtf8, chars, flat_map, slice_get}
use Rattle.std.specs.Rc.{rc_value}
use Rattle.std.specs.declared.rc.Rc.{Rc}
use Rattle.std.proofs.lemmas.List.Elements.{All-append, All-cons, All-head, All-nil, All-tail}
use Rattle.std.specs.declared.vec.Vec.{Vec}
use Rattle.std.proofs.lemmas.List.Sums.{sum_by-cons}
use Rattle.std.proofs.lemmas.List.{length-append, length-drop, length-map, length-take-le, map-append, take-append-drop}
use Rattle.tt.specs.Tops.{Top}
use Rattle.tt_data.specs.Forest.{Forest}
use Rattle.tt_data.specs.Walk.{walk}
use Rattle.rustc_lexer.specs.Lexing.{tokens_of}
use Rattle.rustc_lexer.specs.TokensAt.{AreTokensFrom}
use Rattle.rustc_lexer.specs.declared.token.Token.{Token}
use Rattle.bridge.specs.Parts.{begins_with_mark}
use Rattle.bridge.specs.Reading.{TextStep, reading, step, with_front}
use Rattle.expander_reparse.specs.RelativePieces.{own_shown, tree_at, tree_in}
use Rattle.expander_reparse.specs.SegmentTrees.{part_tree}
use Rattle.expander_reparse.specs.Reparsing.{AddsPieces, AddsSegment, AreMade, AreMet, IsBegun, IsBlank, IsMet, IsReparse, IsCachedHere, Passed, TakesPart}
use Rattle.expander_reparse.specs.Segments.{AreCounted, AreListed, AreParts, AreReadAs, AreSegments, IsCachedSegment, IsCachedPiece, IsSegment, OccursFirst, all_in, bytes_of, part_shown, part_top, pieces_of, sources_of}
use Rattle.expander_reparse.specs.declared.piece.Piece.{Piece}
use Rattle.expander_reparse.specs.declared.piece.PieceTree.TheVariants as as_tree
use Rattle.expander_reparse.specs.declared.segment_builder.Reparse.{Reparse}
use Rattle.expander_reparse.specs.declared.segment_piece.SegmentPiece.{SegmentPiece}
use Rattle.expander_reparse.specs.declared.resync.Resync.{Resync}
use Rattle.expander_reparse.specs.declared.segment.CachedSegment.{CachedSegment}
use Rattle.expander_reparse.specs.declared.segment.SegmentPart.{SegmentPart}
use Rattle.expander_reparse.specs.declared.segment.CachedPiece.{CachedPiece}
use Rattle.expander_reparse.specs.declared.segment.Segments.{Segments}
use Rattle.expander_reparse.specs.declared.segment.Segment.{Segment}
use Rattle.expander_reparse.proofs.ListLemmas.{get_front}
use Rattle.expander_reparse.proofs.MadeLemmas.{mapped_at}
use Rattle.expander_reparse.proofs.PieceReadingLemmas.{NextLaw, blank_reads, none_passed, passed_on, stands_tokens}
use Rattle.expander_reparse.proofs.SegmentLemmas.{begun_more, parts_longer}

-- ---- pieces of stretches

flat-append : {X Y : Type 0} (f : X → List Y) (xs ys : List X) → flat_map f (xs ++ ys) ≡ flat_map f xs ++ flat_map f ys
flat-append f [] ys = refl
flat-append f (x ∷ xs) ys = ap (λ zs. f x ++ zs) (flat-append f xs ys) ∙ sym (append_assoc (f x) (flat_map f xs) (flat_map f ys))

-- the parts of a segment that is held
abbrev pub parts_in : CachedSegment → List SegmentPart
parts_in h = (rc_value h.segment).parts.items

one_more : (list : List CachedSegment) (h : CachedSegment) → pieces_of (list ++ h ∷ []) ≡ pieces_of list ++ sources_of (parts_in h)
one_more list h =
    flat-append (λ (h : CachedSegment). sources_of (parts_in h)) list (h ∷ [])
    ∙ ap (λ ss. pieces_of list ++ ss) (append-nil (sources_of (parts_in h)))

counted_more : (n : ℕ) (list : List CachedSegment) (h : CachedSegment) → AreCounted n list → h.first ≡ n + length (pieces_of list) → AreCounted n (list ++ h ∷ [])
counted_more n [] h are first = (omega (arith, first), cc)
counted_more n (x ∷ list) h are first = (
  are.0,
  counted_more (n + length (parts_in x)) list h are.1
      (omega (arith, first, length-append (sources_of (parts_in x)) (pieces_of list), length-map (parts_in x) (λ (p : SegmentPart). p.source))),
)

pub listed_more : (list : List CachedSegment) (h : CachedSegment) → AreListed list → IsSegment (rc_value h.segment) → h.first ≡ length (pieces_of list) → AreListed (list ++ h ∷ [])
listed_more list h are is first = record {
  right = All-append (λ (h : CachedSegment). IsSegment (rc_value h.segment)) list (h ∷ []) are.right
      (All-cons (λ (h : CachedSegment). IsSegment (rc_value h.segment)) h [] is (All-nil (λ (h : CachedSegment). IsSegment (rc_value h.segment))));
  counted = counted_more 0 list h are.counted (omega (arith, first));
}

pub none_listed : (list : List CachedSegment) → list ≡ [] → AreListed list
none_listed list none = rw none (record { right = All-nil (λ (h : CachedSegment). IsSegment (rc_value h.segment)); counted = cc })

not_before : (n : ℕ) (list : List CachedSegment) (k : ℕ) (h : CachedSegment) → AreCounted n list → slice_get list k ≡ Some h → n ≤ h.first
not_before n [] k h are e = cc
not_before n (x ∷ list) zero h are e =
    let same : x ≡ h = cc in
    omega (arith, are.0, ap (λ (y : CachedSegment). y.first) same)
not_before n (x ∷ list) (suc k) h are e =
    let later = not_before (n + length (parts_in x)) list k h are.1 e in
    omega (arith, later)

behind : {X : Type 0} (xs ys : List X) (i : ℕ) → slice_get (xs ++ ys) (length xs + i) ≡ slice_get ys i
behind [] ys i = ap (slice_get ys) (omega arith)
behind (x ∷ xs) ys i =
    let on : length (x ∷ xs) + i ≡ suc (length xs + i) = omega arith in
    ap (slice_get (x ∷ xs ++ ys)) on ∙ behind xs ys i

within : {X : Type 0} (xs : List X) (i : ℕ) (x : X) → slice_get xs i ≡ Some x → i < length xs
within [] i x e = cc
within (y ∷ xs) zero x e = omega arith
within (y ∷ xs) (suc i) x e = let h = within xs i x e in omega (arith, h)

among : (n : ℕ) (list : List CachedSegment) (k : ℕ) (h : CachedSegment) → AreCounted n list → slice_get list k ≡ Some h
    → (i : ℕ) (p : SegmentPart) → slice_get (parts_in h) i ≡ Some p → (j : ℕ) → n + j ≡ h.first + i → slice_get (pieces_of list) j ≡ Some p.source
among n [] k h are e i p at j place = cc
among n (x ∷ list) zero h are e i p at j place =
    let same : x ≡ h = cc in
    let here : j ≡ i = omega (arith, place, are.0, ap (λ (y : CachedSegment). y.first) same) in
    let its : slice_get (sources_of (parts_in x)) i ≡ Some p.source =
    ap (λ (y : CachedSegment). slice_get (sources_of (parts_in y)) i) same ∙ mapped_at (λ (p : SegmentPart). p.source) (parts_in h) i p at in
    ap (slice_get (sources_of (parts_in x) ++ pieces_of list)) here
    ∙ get_front (sources_of (parts_in x)) (pieces_of list) i (within (sources_of (parts_in x)) i p.source its) ∙ its
among n (x ∷ list) (suc k) h are e i p at j place =
    let later = not_before (n + length (parts_in x)) list k h are.1 e in
    let size : length (sources_of (parts_in x)) ≡ length (parts_in x) = length-map (parts_in x) (λ (p : SegmentPart). p.source) in
    let rest = among (n + length (parts_in x)) list k h are.1 e i p at (h.first + i - (n + length (parts_in x))) (omega (arith, later)) in
    let on : j ≡ length (sources_of (parts_in x)) + (h.first + i - (n + length (parts_in x))) = omega (arith, size, place, later) in
    ap (slice_get (sources_of (parts_in x) ++ pieces_of list)) on
    ∙ behind (sources_of (parts_in x)) (pieces_of list) (h.first + i - (n + length (parts_in x))) ∙ rest

all_at : {X : Type 0} (P : X → Type 0) (xs : List X) (i : ℕ) (x : X) → All P xs → slice_get xs i ≡ Some x → P x
all_at P [] i x all e = cc
all_at P (y ∷ xs) zero x all e = let same : y ≡ x = cc in subst P same (All-head P y xs all)
all_at P (y ∷ xs) (suc i) x all e = all_at P xs i x (All-tail P y xs all) e

-- a segment of those that are held
pub held_stretch : (sources : Segments) (k : ℕ) (h : CachedSegment) → AreSegments sources → slice_get sources.list.items k ≡ Some h → IsCachedSegment sources h
held_stretch sources k h are e = record {
  right = all_at (λ (h : CachedSegment). IsSegment (rc_value h.segment)) sources.list.items k h are.right e;
  among = λ i p at. among 0 sources.list.items k h are.counted e i p at (h.first + i) (omega arith);
}

-- a part of one
pub held_part : (sources : Segments) (h : CachedSegment) (i : ℕ) (p : SegmentPart) → IsCachedSegment sources h → slice_get (parts_in h) i ≡ Some p → IsCachedPiece (rc_value p.source)
held_part sources h i p is e =
    (all_at (λ (p : SegmentPart). (p.before ≤ length (rc_value h.segment).cutout.bytes) × IsCachedPiece (rc_value p.source)) (parts_in h) i p is.right.parts e).1

-- ---- a segment ends

-- the trees of what is held of pieces are theirs
abbrev pub tops_of : List (Rc CachedPiece Global) → List Top
tops_of sources = map (λ (s : Rc CachedPiece Global). rc_value (rc_value s).tree) sources

made_of : (own : List Piece) (a b : List (Rc CachedPiece Global)) → a ≡ b → AreMade own a → AreMade own b
made_of own a b e made = ap tops_of (sym e) ∙ made

as_many : (own : List Piece) (sources : List (Rc CachedPiece Global)) → AreMade own sources → length own ≡ length sources
as_many own sources made =
    sym (length-map own tree_at) ∙ ap length (sym made) ∙ length-map sources (λ (s : Rc CachedPiece Global). rc_value (rc_value s).tree)

pub no_item : {X : Type 0} (xs : List X) → length xs ≡ 0 → xs ≡ []
no_item [] e = refl
no_item (x ∷ xs) e = absurd (omega (arith, e))

-- where it has no piece
pub ended_empty : (held : Segments) (text : List ℕ) (at : ℕ) (left : List Token) (old new : Reparse) → IsReparse held text at left old
    → new.own.items ≡ old.own.items → new.list.items ≡ old.list.items → old.begun.parts.items ≡ [] → IsBegun text at left new.begun
    → new.begun.first ≡ length old.own.items → new.begun.parts.items ≡ [] → IsReparse held text at left new
ended_empty held text at left old new p own list none begun first parts =
    let made : AreMade old.own.items (pieces_of old.list.items) =
    made_of old.own.items _ _ (ap (λ ps. pieces_of old.list.items ++ sources_of ps) none ∙ append-nil (pieces_of old.list.items)) p.made in
    record {
      passed = rw own p.passed;
      met = rw own p.met;
      begun = begun;
      listed = rw list p.listed;
      first = rw list (first ∙ as_many old.own.items (pieces_of old.list.items) made);
      made = rw (own, list, parts, append-nil (pieces_of old.list.items)) made;
    }

-- where it is held
pub ended_held : (held : Segments) (text : List ℕ) (at : ℕ) (left : List Token) (old new : Reparse) (h : CachedSegment) → IsReparse held text at left old
    → new.own.items ≡ old.own.items → new.list.items ≡ old.list.items ++ h ∷ [] → IsSegment (rc_value h.segment) → (rc_value h.segment).parts.items ≡ old.begun.parts.items
    → h.first ≡ old.begun.first → IsBegun text at left new.begun → new.begun.first ≡ length old.own.items → new.begun.parts.items ≡ [] → IsReparse held text at left new
ended_held held text at left old new h p own list is its first_is begun first parts =
    let more : pieces_of (old.list.items ++ h ∷ []) ≡ pieces_of old.list.items ++ sources_of old.begun.parts.items =
    one_more old.list.items h ∙ ap (λ ps. pieces_of old.list.items ++ sources_of ps) its in
    let made : AreMade old.own.items (pieces_of (old.list.items ++ h ∷ [])) = made_of old.own.items _ _ (sym more) p.made in
    record {
      passed = rw own p.passed;
      met = rw own p.met;
      begun = begun;
      listed = rw list (listed_more old.list.items h p.listed is (first_is ∙ p.first));
      first = rw list (first ∙ as_many old.own.items (pieces_of (old.list.items ++ h ∷ [])) made);
      made = rw (own, list, parts, append-nil (pieces_of (old.list.items ++ h ∷ []))) made;
    }

-- where nothing is begun all is held
pub made_all : (held : Segments) (text : List ℕ) (at : ℕ) (left : List Token) (now : Reparse) → IsReparse held text at left now → now.begun.parts.items ≡ []
    → AreMade now.own.items (pieces_of now.list.items)
made_all held text at left now p none =
    made_of now.own.items _ _ (ap (λ ps. pieces_of now.list.items ++ sources_of ps) none ∙ append-nil (pieces_of now.list.items)) p.made

-- ---- pieces are added

abbrev pub shown_top : ℕ × Top → Top
shown_top x = x.1

tops_shown : (own : List Piece) → map shown_top (map own_shown own) ≡ map tree_at own
tops_shown [] = refl
tops_shown (o ∷ own) = ap (λ (ts : List Top). tree_at o ∷ ts) (tops_shown own)

tops_parts : (at : ℕ) (parts : List SegmentPart) → map shown_top (map (part_shown at) parts) ≡ tops_of (sources_of parts)
tops_parts at [] = refl
tops_parts at (p ∷ parts) = ap (λ (ts : List Top). part_top p ∷ ts) (tops_parts at parts)

-- what is held of pieces more
made_more : (own now : List Piece) (sources more : List (Rc CachedPiece Global)) (shown : List (ℕ × Top)) → AreMade own sources → AddsPieces shown own now
    → map shown_top shown ≡ tops_of more → AreMade now (sources ++ more)
made_more own now sources more shown made adds tops =
    map-append (λ (s : Rc CachedPiece Global). rc_value (rc_value s).tree) sources more
    ∙ ap (λ (ts : List Top). ts ++ tops_of more) made
    ∙ ap (λ (ts : List Top). map tree_at own ++ ts) (sym tops ∙ ap (map shown_top) (sym adds.are) ∙ tops_shown adds.more)
    ∙ sym (map-append tree_at own adds.more) ∙ ap (map tree_at) (sym adds.items)

-- one more part of a held segment is added
pub adds_part : (at : ℕ) (parts more : List SegmentPart) (p : SegmentPart) (old now next : List Piece) (o : Piece) → AddsPieces (map (part_shown at) parts) old now
    → next ≡ now ++ o ∷ [] → own_shown o ≡ part_shown at p → more ≡ parts ++ p ∷ [] → AddsPieces (map (part_shown at) more) old next
adds_part at parts more p old now next o adds grown shown more_is = record {
  more = adds.more ++ o ∷ [];
  items = grown ∙ ap (λ (os : List Piece). os ++ o ∷ []) adds.items ∙ append_assoc old adds.more (o ∷ []);
  are = map-append own_shown adds.more (o ∷ []) ∙ ap (λ xs. xs ++ own_shown o ∷ []) adds.are ∙ ap (λ (x : ℕ × Top). map (part_shown at) parts ++ x ∷ []) shown
      ∙ sym (map-append (part_shown at) parts (p ∷ [])) ∙ ap (map (part_shown at)) (sym more_is);
}

-- one more of those so far
pub taken_more : {X : Type 0} (xs : List X) (i : ℕ) (x : X) → slice_get xs i ≡ Some x → take (i + 1) xs ≡ take i xs ++ x ∷ []
taken_more [] i x e = cc
taken_more (y ∷ xs) zero x e = let same : y ≡ x = cc in ap (λ z. z ∷ []) same
taken_more (y ∷ xs) (suc i) x e =
    let on : suc i + 1 ≡ suc (i + 1) = omega arith in
    ap (λ n. take n (y ∷ xs)) on ∙ ap (λ zs. y ∷ zs) (taken_more xs i x e)

-- the tree of a part
pub part_tree_is : (parts : List SegmentPart) (i : ℕ) (p : SegmentPart) → slice_get parts i ≡ Some p → part_tree parts i ≡ part_top p
part_tree_is [] i p e = cc
part_tree_is (q ∷ parts) zero p e = let same : q ≡ p = cc in ap part_top same
part_tree_is (q ∷ parts) (suc i) p e = part_tree_is parts i p e

-- where a part of a segment stands, as a piece
pub part_placed : (at : ℕ) (h : CachedSegment) (i : ℕ) (p : SegmentPart) (o : Piece) (placed : SegmentPiece) → slice_get (parts_in h) i ≡ Some p
    → o.start ≡ at + p.before → o.tree ≡ as_tree.Part placed → rc_value placed.segment ≡ rc_value h.segment → placed.at ≡ i → own_shown o ≡ part_shown at p
part_placed at h i p o placed e start tree segment place =
    let its : tree_at o ≡ part_top p =
    ap tree_in tree ∙ ap (λ (s : Segment). part_tree s.parts.items placed.at) segment ∙ ap (part_tree (parts_in h)) place ∙ part_tree_is (parts_in h) i p e in
    λ j. (start j, its j)

-- it is the held one of this number, if there is such a number
pub part_met : (sources : Segments) (h : CachedSegment) (i : ℕ) (p : SegmentPart) (m : Option ℕ) (t : Top) → IsCachedSegment sources h → slice_get (parts_in h) i ≡ Some p
    → IfSome m (λ k. k ≡ h.first + i) → t ≡ part_top p → IsMet sources m t
part_met sources h i p None t is e number tree = cc
part_met sources h i p (Some k) t is e number tree =
    (rc_value p.source, (p.source, ap (slice_get (all_in sources)) number ∙ is.among i p e, refl), sym tree)

-- one more piece is added, which is the held one that it names
pub adds_met : (held : Segments) (own now : List Piece) (o : Piece) → now ≡ own ++ o ∷ [] → IsMet held o.met (tree_at o) → AreMet held own → AreMet held now
adds_met held own now o grown is all =
    rw grown (All-append (λ (o : Piece). IsMet held o.met (tree_at o)) own (o ∷ []) all
    (All-cons (λ (o : Piece). IsMet held o.met (tree_at o)) o [] is (All-nil (λ (o : Piece). IsMet held o.met (tree_at o)))))

-- ---- what is passed

-- what is known of tokens and parts
pub record PassLaws : Type 0 where
  pub behind : (f : Forest) (more : List TextStep) → reading (map step (walk f) ++ more) ≡ with_front f (reading more)
  pub next : NextLaw

-- a token that is read as nothing
pub blank_is_passed : PassLaws → (held : Segments) (text : List ℕ) → IsUtf8 text → (at : ℕ) (t : Token) (left more : List Token) (now : Reparse)
    → left ≡ t ∷ more → IsBlank t.kind → IsReparse held text at left now → IsReparse held text (at + t.len) more now
blank_is_passed laws held text utf8 at t left more now left_is blank p =
    let word : List ℕ = take t.len (drop at text) in
    let after : AreTokensFrom text (at + t.len) more = laws.next text at left t more utf8 p.passed.here left_is in
    let far : length (drop at text) ≡ length text - at = length-drop at text in
    let size : length word ≡ t.len = length-take-le t.len (drop at text) (omega (arith, far, after.boundary.0)) in
    let whole : drop at text ≡ word ++ drop (length word) (drop at text) =
    sym (take-append-drop t.len (drop at text)) ∙ ap (λ (n : ℕ). word ++ drop n (drop at text)) (sym size) in
    let long : bytes_of (t ∷ []) ≡ length word = sum_by-cons (λ (u : Token). u.len) t [] ∙ omega (arith, size) in
    let reads : AreReadAs word (t ∷ []) (begins_with_mark more) (λ n. []) = blank_reads t word (begins_with_mark more) blank in
    let begun : IsBegun text (at + length word) more now.begun =
    begun_more text at left more now.begun now.begun word (t ∷ []) (begins_with_mark more) (λ n. []) p.begun p.passed.here.boundary.0 reads left_is whole long (omega arith) refl refl refl
    (λ n. sym (append-nil (map (part_shown n) now.begun.parts.items)))
    (parts_longer (bytes_of p.begun.tokens) (bytes_of p.begun.tokens + length word) (omega arith) now.begun.parts.items p.begun.parts) in
    record {
      passed = subst (λ (n : ℕ). Passed text (at + n) more now.own.items) size
          (passed_on laws.behind laws.next text utf8 at word (t ∷ []) (begins_with_mark more) (λ n. []) left more now.own.items now.own.items reads left_is whole long refl
          (record { more = []; items = sym (append-nil now.own.items); are = refl }) p.passed);
      met = p.met;
      begun = subst (λ (n : ℕ). IsBegun text (at + n) more now.begun) size begun;
      listed = p.listed;
      first = p.first;
      made = p.made;
    }

-- a piece
pub piece_is_passed : PassLaws → (held : Segments) (text : List ℕ) → IsUtf8 text → (at : ℕ) (left : List Token) (old new : Reparse) (source : Rc CachedPiece Global)
    → IsCachedHere (drop at text) left (rc_value source)
    → AddsPieces ((at, rc_value (rc_value source).tree) ∷ []) old.own.items new.own.items → AreMet held new.own.items → TakesPart at source old.begun new.begun → new.list ≡ old.list
    → IsReparse held text at left old → IsReparse held text (at + length (rc_value source).cutout.bytes) (drop (rc_value source).cutout.count left) new
piece_is_passed laws held text utf8 at left old new source is adds met takes list p =
    let s : CachedPiece = rc_value source in
    let c = s.cutout in
    let more : List Token = drop c.count left in
    let tokens : left ≡ is.right.tokens ++ more = stands_tokens c is.right.tokens is.right.cutout (drop at text) left p.passed.here.tokens is.stands.here in
    let n : ℕ = bytes_of p.begun.tokens in
    let from : at ≡ old.begun.from + n = p.begun.ends in
    let before : takes.part.before ≡ n = omega (arith, from, takes.before) in
    let shown : (m : ℕ) → map (part_shown m) new.begun.parts.items ≡ map (part_shown m) old.begun.parts.items ++ (m + n, rc_value s.tree) ∷ [] =
    λ m. ap (map (part_shown m)) takes.parts ∙ map-append (part_shown m) old.begun.parts.items (takes.part ∷ [])
    ∙ ap (λ (k : ℕ). map (part_shown m) old.begun.parts.items ++ (m + k, part_top takes.part) ∷ []) before
    ∙ ap (λ (q : Rc CachedPiece Global). map (part_shown m) old.begun.parts.items ++ (m + n, rc_value (rc_value q).tree) ∷ []) takes.source_is in
    let its : AreParts (n + length c.bytes) (takes.part ∷ []) =
    All-cons (λ (p : SegmentPart). (p.before ≤ n + length c.bytes) × IsCachedPiece (rc_value p.source)) takes.part []
    (omega (arith, before), rw takes.source_is is.right) (All-nil (λ (p : SegmentPart). (p.before ≤ n + length c.bytes) × IsCachedPiece (rc_value p.source))) in
    let parts : AreParts (n + length c.bytes) new.begun.parts.items =
    rw takes.parts (All-append (λ (p : SegmentPart). (p.before ≤ n + length c.bytes) × IsCachedPiece (rc_value p.source)) old.begun.parts.items (takes.part ∷ [])
    (parts_longer n (n + length c.bytes) (omega arith) old.begun.parts.items p.begun.parts) its) in
    record {
      passed = passed_on laws.behind laws.next text utf8 at c.bytes is.right.tokens c.mark (λ m. (m, rc_value s.tree) ∷ []) left more old.own.items new.own.items
          is.right.reads tokens is.stands.here.bytes is.right.cutout.long is.stands.mark adds p.passed;
      met = met;
      begun = begun_more text at left more old.begun new.begun c.bytes is.right.tokens c.mark (λ m. (m, rc_value s.tree) ∷ []) p.begun p.passed.here.boundary.0 is.right.reads
          tokens is.stands.here.bytes is.right.cutout.long (omega (arith, is.right.cutout.some, is.right.cutout.count)) is.stands.mark takes.from takes.tokens shown parts;
      listed = rw list p.listed;
      first = rw (takes.first, list) p.first;
      made = made_of new.own.items _ _
          (append_assoc (pieces_of old.list.items) (sources_of old.begun.parts.items) (source ∷ [])
          ∙ ap (λ (q : Rc CachedPiece Global). pieces_of old.list.items ++ (sources_of old.begun.parts.items ++ q ∷ [])) (sym takes.source_is)
          ∙ ap (λ ss. pieces_of old.list.items ++ ss) (sym (ap sources_of takes.parts ∙ map-append (λ (p : SegmentPart). p.source) old.begun.parts.items (takes.part ∷ [])))
          ∙ ap (λ (l : Vec CachedSegment Global). pieces_of l.items ++ sources_of new.begun.parts.items) (sym list))
          (made_more old.own.items new.own.items (pieces_of old.list.items ++ sources_of old.begun.parts.items) (source ∷ []) ((at, rc_value s.tree) ∷ []) p.made adds refl);
    }

-- a held segment
pub stretch_is_passed : PassLaws → (held : Segments) (text : List ℕ) → IsUtf8 text → (at : ℕ) (left : List Token) (old new : Reparse) (h : CachedSegment)
    → IsSegment (rc_value h.segment) → OccursFirst (rc_value h.segment).cutout (drop at text) left
    → AddsPieces (map (part_shown at) (parts_in h)) old.own.items new.own.items → AreMet held new.own.items
    → AddsSegment (length old.own.items) (rc_value h.segment) old.list.items new.list.items → old.begun.parts.items ≡ []
    → (AreTokensFrom text (at + length (rc_value h.segment).cutout.bytes) (drop (rc_value h.segment).cutout.count left)
    → IsBegun text (at + length (rc_value h.segment).cutout.bytes) (drop (rc_value h.segment).cutout.count left) new.begun)
    → new.begun.first ≡ length new.own.items → new.begun.parts.items ≡ []
    → IsReparse held text at left old → IsReparse held text (at + length (rc_value h.segment).cutout.bytes) (drop (rc_value h.segment).cutout.count left) new
stretch_is_passed laws held text utf8 at left old new h is stands adds met listed none begun first parts p =
    let k : CachedSegment = listed.held in
    let list : new.list.items ≡ old.list.items ++ k ∷ [] = listed.items in
    let c = (rc_value h.segment).cutout in
    let more : List Token = drop c.count left in
    let tokens : left ≡ is.tokens ++ more = stands_tokens c is.tokens is.cutout (drop at text) left p.passed.here.tokens stands.here in
    let passed = passed_on laws.behind laws.next text utf8 at c.bytes is.tokens c.mark (λ m. map (part_shown m) (parts_in h)) left more old.own.items new.own.items
    is.reads tokens stands.here.bytes is.cutout.long stands.mark adds p.passed in
    let before : AreMade old.own.items (pieces_of old.list.items) =
    made_of old.own.items _ _ (ap (λ ps. pieces_of old.list.items ++ sources_of ps) none ∙ append-nil (pieces_of old.list.items)) p.made in
    let k_first_is : k.first ≡ length (pieces_of old.list.items) = listed.first_is ∙ as_many old.own.items (pieces_of old.list.items) before in
    let all : pieces_of (old.list.items ++ k ∷ []) ≡ pieces_of old.list.items ++ sources_of (parts_in h) =
    one_more old.list.items k ∙ ap (λ (s : Segment). pieces_of old.list.items ++ sources_of s.parts.items) listed.is in
    let made : AreMade new.own.items (pieces_of (old.list.items ++ k ∷ [])) =
    made_of new.own.items _ _ (sym all)
    (made_more old.own.items new.own.items (pieces_of old.list.items) (sources_of (parts_in h)) (map (part_shown at) (parts_in h)) before adds (tops_parts at (parts_in h))) in
    record {
      passed = passed;
      met = met;
      begun = begun passed.here;
      listed = rw list (listed_more old.list.items k p.listed (rw listed.is is) k_first_is);
      first = rw list (first ∙ as_many new.own.items (pieces_of (old.list.items ++ k ∷ [])) made);
      made = rw (list, parts, append-nil (pieces_of (old.list.items ++ k ∷ []))) made;
    }

-- where pieces are looked for does not matter
pub sought : (held : Segments) (text : List ℕ) (at : ℕ) (left : List Token) (old : Reparse) (seeker : Resync) → IsReparse held text at left old
    → IsReparse held text at left (record old { seeker = seeker })
sought held text at left old seeker p = record { passed = p.passed; met = p.met; begun = p.begun; listed = p.listed; first = p.first; made = p.made }

-- at first nothing was passed
pub nothing_passed : (held : Segments) (text : List ℕ) (now : Reparse) → AreTokensFrom text 0 (tokens_of (chars text)) → now.own.items ≡ [] → now.list.items ≡ []
    → IsBegun text 0 (tokens_of (chars text)) now.begun → now.begun.first ≡ 0 → now.begun.parts.items ≡ [] → IsReparse held text 0 (tokens_of (chars text)) now
nothing_passed held text now here own list begun first parts = record {
  passed = rw own (none_passed text here);
  met = rw own (All-nil (λ (o : Piece). IsMet held o.met (tree_at o)));
  begun = begun;
  listed = none_listed now.list.items list;
  first = rw list first;
  made = rw (own, list, parts) refl;
}
