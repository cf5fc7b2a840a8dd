-- Segments: runs of pieces, with the trivia around them.
use Rattle.std.proofs.Common.{◌≡◌, ℕ, ◌+◌, ◌-◌, ◌≤◌, zero, suc, Bool, List, [], ◌∷◌, ◌++◌, append_assoc, length, map, take, drop, refl, ap, sym, subst, ◌∙◌, arith}
use Rattle.std.specs.Prelude.{IsUtf8, chars}
use Rattle.std.specs.Rc.{rc_value}
use Rattle.std.proofs.lemmas.List.Elements.{All-nil, All-weaker}
use Rattle.std.proofs.lemmas.Str.{IsUtf8-drop}
use Rattle.std.proofs.lemmas.List.{drop-drop, length-append, length-drop, length-take-le, map-append, take-append-le, take_all}
use Rattle.std.proofs.lemmas.List.Sums.{sum_by-append}
use Rattle.tt.specs.Tops.{Top}
use Rattle.tt_data.proofs.ForestLemmas.{joined_assoc, walk-joined}
use Rattle.tt_data.specs.Forest.{Forest, empty, joined}
use Rattle.tt_data.specs.Walk.{walk}
use Rattle.rustc_lexer.specs.Lexing.{run_on}
use Rattle.rustc_lexer.specs.TokensAt.{AreTokensFrom}
use Rattle.rustc_lexer.specs.declared.token.Token.{Token}
use Rattle.bridge.specs.Parts.{begins_with_mark, starts_with_mark}
use Rattle.bridge.specs.Reading.{PlacedToken, TextStep, placed_from, step}
use Rattle.bridge.specs.TokenSteps.{steps_of}
use Rattle.expander_reparse.specs.RelativePieces.{own_of}
use Rattle.expander_reparse.specs.Reparsing.{IsBegun}
use Rattle.expander_model.specs.Pieces.{pieces}
use Rattle.expander_reparse.specs.Segments.{AreParts, AreReadAs, IsTokenRun, IsCachedPiece, IsSegment, bytes_of, chars_ahead, part_shown}
use Rattle.expander_reparse.specs.declared.segment_builder.OpenSegment.{OpenSegment}
use Rattle.expander_reparse.specs.declared.segment.SegmentPart.{SegmentPart}
use Rattle.expander_reparse.specs.declared.segment.Segment.{Segment}
use Rattle.expander_reparse.proofs.PieceReadingLemmas.{FirstLaw, is_cutout, placed_append}
use Rattle.expander_reparse.proofs.ApartLemmas.{apart_later}

take_split : (n m : ℕ) (xs : List ℕ) → take (n + m) xs ≡ take n xs ++ take m (drop n xs)
take_split zero m xs = ap (λ (k : ℕ). take k xs) (omega arith)
take_split (suc n) m [] =
    let on : suc n + m ≡ suc (n + m) = omega arith in
    ap (λ (k : ℕ). take k []) on ∙ sym (take_all m [] (omega arith))
take_split (suc n) m (x ∷ xs) =
    let on : suc n + m ≡ suc (n + m) = omega arith in
    ap (λ (k : ℕ). take k (x ∷ xs)) on ∙ ap (λ (ys : List ℕ). x ∷ ys) (take_split n m xs)

-- the first of some tokens decides whether a punct begins them
first_of : (at : ℕ) (bytes : List ℕ) (tokens : List Token) (after : List PlacedToken) → 1 ≤ length tokens
    → starts_with_mark (placed_from at bytes tokens ++ after) ≡ begins_with_mark tokens
first_of at bytes [] after some = absurd (omega (arith, some))
first_of at bytes (t ∷ tokens) after some = refl

-- no token is read as nothing
no_reads : (bytes : List ℕ) (mark : Bool) → AreReadAs bytes [] mark (λ at. [])
no_reads bytes mark = record { forest = λ at. empty; ps = λ at. []; reads = λ at after follows. refl; cuts = λ at g. refl; are = λ at. refl }

-- tokens behind others are read as what they are read as behind what those are
reads_on : (b c : List ℕ) (ts us : List Token) (m n : Bool) (shown more : ℕ → List (ℕ × Top)) → AreReadAs b ts m shown → AreReadAs c us n more
    → bytes_of ts ≡ length b → 1 ≤ length us → begins_with_mark us ≡ m → AreReadAs (b ++ c) (ts ++ us) n (λ at. shown at ++ more (at + length b))
reads_on b c ts us m n shown more first second long some mark = record {
  forest = λ at. joined (first.forest at) (second.forest (at + length b));
  ps = λ at. first.ps at ++ second.ps (at + length b);
  reads = λ at after follows.
      let later : List PlacedToken = placed_from (at + length b) c us ++ after in
      let f : Forest = first.forest at in
      let g : Forest = second.forest (at + length b) in
      ap (λ (ps : List PlacedToken). steps_of (ps ++ after)) (placed_append at b c ts us long)
      ∙ ap steps_of (append_assoc (placed_from at b ts) (placed_from (at + length b) c us) after)
      ∙ first.reads at later (first_of (at + length b) c us after some ∙ mark)
      ∙ ap (λ (ss : List TextStep). map step (walk f) ++ ss) (second.reads (at + length b) after follows)
      ∙ sym (append_assoc (map step (walk f)) (map step (walk g)) (steps_of after))
      ∙ ap (λ (ss : List TextStep). ss ++ steps_of after) (sym (map-append step (walk f) (walk g)) ∙ ap (map step) (sym (walk-joined f g)));
  cuts = λ at h.
      ap pieces (joined_assoc (first.forest at) (second.forest (at + length b)) h)
      ∙ first.cuts at (joined (second.forest (at + length b)) h)
      ∙ ap (λ (ps : List Forest). first.ps at ++ ps) (second.cuts (at + length b) h)
      ∙ sym (append_assoc (first.ps at) (second.ps (at + length b)) (pieces h));
  are = λ at. map-append own_of (first.ps at) (second.ps (at + length b))
      ∙ ap (λ (xs : List (ℕ × Top)). xs ++ map own_of (second.ps (at + length b))) (first.are at)
      ∙ ap (λ (xs : List (ℕ × Top)). shown at ++ xs) (second.are (at + length b));
}

-- nothing was passed since a segment was begun
pub just_begun : (text : List ℕ) (at : ℕ) (left : List Token) (b : OpenSegment) → b.from ≡ at → b.tokens ≡ length left → b.parts.items ≡ [] → AreTokensFrom text at left
    → IsBegun text at left b
just_begun text at left b from tokens parts here = record {
  tokens = [];
  here = rw from here;
  count = tokens;
  ends = omega (arith, from);
  some = λ h. absurd (omega (arith, h, ap length parts));
  reads = rw parts (no_reads (take 0 (drop b.from text)) (begins_with_mark left));
  parts = rw parts (All-nil (λ (p : SegmentPart). (p.before ≤ 0) × IsCachedPiece (rc_value p.source)));
}

-- what stands there may be told otherwise
shown_as : (b : List ℕ) (ts : List Token) (m : Bool) (shown other : ℕ → List (ℕ × Top)) → ((at : ℕ) → shown at ≡ other at) → AreReadAs b ts m shown → AreReadAs b ts m other
shown_as b ts m shown other same r = record { forest = r.forest; ps = r.ps; reads = r.reads; cuts = r.cuts; are = λ at. r.are at ∙ same at }

-- parts of a segment are parts of a longer one
pub parts_longer : (n m : ℕ) → n ≤ m → (parts : List SegmentPart) → AreParts n parts → AreParts m parts
parts_longer n m h parts are =
    All-weaker (λ (p : SegmentPart). (p.before ≤ n) × IsCachedPiece (rc_value p.source)) (λ (p : SegmentPart). (p.before ≤ m) × IsCachedPiece (rc_value p.source))
    (λ p is. (omega (arith, h, is.0), is.1)) parts are

marks_same : (left us more : List Token) → left ≡ us ++ more → 1 ≤ length us → begins_with_mark us ≡ begins_with_mark left
marks_same left [] more e some = absurd (omega (arith, some))
marks_same left (u ∷ us) more e some = sym (ap begins_with_mark e)

-- more tokens were passed, and what they are read as was added
pub begun_more : (text : List ℕ) (at : ℕ) (left more : List Token) (b next : OpenSegment) (c : List ℕ) (us : List Token) (mark : Bool) (shown : ℕ → List (ℕ × Top))
    → (is : IsBegun text at left b) → at ≤ length text → AreReadAs c us mark shown → left ≡ us ++ more → drop at text ≡ c ++ drop (length c) (drop at text)
    → bytes_of us ≡ length c → 1 ≤ length us → begins_with_mark more ≡ mark → next.from ≡ b.from → next.tokens ≡ b.tokens
    → ((m : ℕ) → map (part_shown m) next.parts.items ≡ map (part_shown m) b.parts.items ++ shown (m + bytes_of is.tokens))
    → AreParts (bytes_of is.tokens + length c) next.parts.items → IsBegun text (at + length c) more next
begun_more text at left more b next c us mark shown is within reads left_is bytes_are long some mark_is from tokens grown parts =
    let n : ℕ = bytes_of is.tokens in
    let sum : bytes_of (is.tokens ++ us) ≡ n + length c = sum_by-append (λ (t : Token). t.len) is.tokens us ∙ ap (λ (k : ℕ). n + k) long in
    let far : length (drop b.from text) ≡ length text - b.from = length-drop b.from text in
    let front : length (take n (drop b.from text)) ≡ n = length-take-le n (drop b.from text) (omega (arith, far, is.ends, within)) in
    let back : drop n (drop b.from text) ≡ drop at text = drop-drop n b.from text ∙ ap (λ (k : ℕ). drop k text) (sym is.ends) in
    let word : take (length c) (drop n (drop b.from text)) ≡ c =
    ap (take (length c)) (back ∙ bytes_are) ∙ take-append-le (length c) c (drop (length c) (drop at text)) (omega arith) ∙ take_all (length c) c (omega arith) in
    let bytes : take (bytes_of (is.tokens ++ us)) (drop b.from text) ≡ take n (drop b.from text) ++ c =
    ap (λ (k : ℕ). take k (drop b.from text)) sum ∙ take_split n (length c) (drop b.from text) ∙ ap (λ (bs : List ℕ). take n (drop b.from text) ++ bs) word in
    let behind : AreReadAs (take n (drop b.from text) ++ c) (is.tokens ++ us) mark (λ m. map (part_shown m) b.parts.items ++ shown (m + length (take n (drop b.from text)))) =
    reads_on (take n (drop b.from text)) c is.tokens us (begins_with_mark left) mark (λ m. map (part_shown m) b.parts.items) shown is.reads reads
    (sym front) some (marks_same left us more left_is some) in
    let same : (m : ℕ) → map (part_shown m) b.parts.items ++ shown (m + length (take n (drop b.from text))) ≡ map (part_shown m) next.parts.items =
    λ m. ap (λ (k : ℕ). map (part_shown m) b.parts.items ++ shown (m + k)) front ∙ sym (grown m) in
    let all : AreReadAs (take n (drop b.from text) ++ c) (is.tokens ++ us) mark (λ m. map (part_shown m) next.parts.items) =
    shown_as (take n (drop b.from text) ++ c) (is.tokens ++ us) mark _ _ same behind in
    record {
      tokens = is.tokens ++ us;
      here = rw (from, append_assoc is.tokens us more, sym left_is) is.here;
      count = tokens ∙ is.count ∙ ap (λ (ts : List Token). length (is.tokens ++ ts)) left_is ∙ ap length (sym (append_assoc is.tokens us more));
      ends = omega (arith, sum, is.ends, from);
      some = λ h. omega (arith, some, length-append is.tokens us);
      reads = rw (from, bytes, mark_is) all;
      parts = rw sum parts;
    }

-- the segment that was begun, where it ends
pub is_stretch : FirstLaw → (text : List ℕ) → IsUtf8 text → (at : ℕ) (left : List Token) (b : OpenSegment) (s : Segment) → IsBegun text at left b → at ≤ length text
    → s.cutout.bytes ≡ take (at - b.from) (drop b.from text) → chars_ahead s.cutout.ahead ≡ take 2 (chars (drop at text)) → s.cutout.count ≡ b.tokens - length left
    → s.cutout.mark ≡ begins_with_mark left → s.parts.items ≡ b.parts.items → 1 ≤ length b.parts.items → run_on (take at text) (drop at text) ≡ 0 → IsSegment s
is_stretch first text utf8 at left b s is within bytes ahead count mark parts some none =
    let n : ℕ = bytes_of is.tokens in
    let n_is : at - b.from ≡ n = omega (arith, is.ends) in
    let all : List Token = is.tokens ++ left in
    let k : s.cutout.count ≡ length is.tokens = omega (arith, count, is.count, length-append is.tokens left) in
    let front : take s.cutout.count all ≡ is.tokens =
    ap (λ (i : ℕ). take i all) k ∙ take-append-le (length is.tokens) is.tokens left (omega arith) ∙ take_all (length is.tokens) is.tokens (omega arith) in
    let back : drop n (drop b.from text) ≡ drop at text = drop-drop n b.from text ∙ ap (λ (i : ℕ). drop i text) (sym is.ends) in
    let far : length (drop b.from text) ≡ length text - b.from = length-drop b.from text in
    let cut = is_cutout first s.cutout (drop b.from text) all n (IsUtf8-drop text b.from utf8 is.here.boundary) is.here.tokens
    (omega (arith, k, length-append is.tokens left)) (omega (arith, k, is.some some)) (omega (arith, far, is.ends, within)) (ap bytes_of (sym front))
    (bytes ∙ ap (λ (i : ℕ). take i (drop b.from text)) n_is) (apart_later text b.from n at is.ends none) (ahead ∙ ap (λ (bs : List ℕ). take 2 (chars bs)) (sym back)) in
    let size : length s.cutout.bytes ≡ n = ap length (bytes ∙ ap (λ (i : ℕ). take i (drop b.from text)) n_is) ∙ length-take-le n (drop b.from text) (omega (arith, far, is.ends, within)) in
    record {
      tokens = is.tokens;
      cutout = subst (IsTokenRun s.cutout) front cut.0;
      reads = rw (bytes, n_is, mark, parts) is.reads;
      parts = rw (size, parts) is.parts;
    }
