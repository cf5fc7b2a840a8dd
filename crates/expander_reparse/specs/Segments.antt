-- What is cached of the text that was read last, to read the next one.
use Rattle.std.specs.Prelude.{◌≡◌, ℕ, ◌+◌, ◌≤◌, All, Bool, List, [], ◌∷◌, ◌++◌, Option, None, Some}
use Rattle.std.specs.Prelude.{chars, drop, flat_map, length, map, slice_get, take, ⊤}
use Rattle.std.specs.Global.{Global}
use Rattle.std.specs.List.{sum_by}
use Rattle.std.specs.Rc.{rc_value}
use Rattle.std.specs.declared.rc.Rc.{Rc}
use Rattle.bridge.specs.Reading.{PlacedToken, placed_from, step}
use Rattle.bridge.specs.TokenSteps.{steps_of}
use Rattle.rustc_lexer.specs.Lexing.{tokens_of}
use Rattle.rustc_lexer.specs.declared.token.Token.{Token}
use Rattle.tt_data.specs.Forest.{Forest, joined}
use Rattle.tt_data.specs.Walk.{walk}
use Rattle.tt.specs.Tops.{Top}
use Rattle.bridge.specs.Parts.{begins_with_mark, starts_with_mark}
use Rattle.expander_reparse.specs.RelativePieces.{own_of}
use Rattle.expander_model.specs.Pieces.{pieces}
use Rattle.expander_reparse.specs.declared.segment.Lookahead.{Lookahead}
use Rattle.expander_reparse.specs.declared.segment.TokenRun.{TokenRun}
use Rattle.expander_reparse.specs.declared.segment.CachedSegment.{CachedSegment}
use Rattle.expander_reparse.specs.declared.segment.SegmentPart.{SegmentPart}
use Rattle.expander_reparse.specs.declared.segment.CachedPiece.{CachedPiece}
use Rattle.expander_reparse.specs.declared.segment.Segments.{Segments}
use Rattle.expander_reparse.specs.declared.segment.Segment.{Segment}

-- how many bytes tokens have
abbrev pub bytes_of : List Token → ℕ
bytes_of tokens = sum_by (λ (t : Token). t.len) tokens

-- a character, if there is one, and then others
abbrev pub one_ahead : Option ℕ → List ℕ → List ℕ
one_ahead None more = []
one_ahead (Some c) more = c ∷ more

-- the characters that followed: two, or those that were left
abbrev pub chars_ahead : Lookahead → List ℕ
chars_ahead a = one_ahead a.first (one_ahead a.second [])

-- these tokens occur first in a text, by their bytes and the characters that followed
pub record OccursHere (c : TokenRun) (text : List ℕ) : Type 0 where
  pub bytes : text ≡ c.bytes ++ drop (length c.bytes) text
  pub ahead : take 2 (chars (drop (length c.bytes) text)) ≡ chars_ahead c.ahead

-- where they occur first in a text, its first tokens are these
pub record IsTokenRun (c : TokenRun) (tokens : List Token) : Type 0 where
  pub count : length tokens ≡ c.count
  pub some : 1 ≤ c.count
  pub long : bytes_of tokens ≡ length c.bytes
  pub same : (text : List ℕ) → OccursHere c text → take c.count (tokens_of (chars text)) ≡ tokens

-- wherever tokens with these bytes occur, with a punct after them as `mark` says, they are read
-- as pieces that start at these offsets and have these piece-relative trees
pub record AreReadAs (bytes : List ℕ) (tokens : List Token) (mark : Bool)
    (shown : ℕ → List (ℕ × Top)) : Type 0 where
  pub forest : ℕ → Forest
  pub ps : ℕ → List Forest
  pub reads : (at : ℕ) (after : List PlacedToken) → starts_with_mark after ≡ mark
      → steps_of (placed_from at bytes tokens ++ after)
      ≡ map step (walk (forest at)) ++ steps_of after
  pub cuts : (at : ℕ) (g : Forest) → pieces (joined (forest at) g) ≡ ps at ++ pieces g
  pub are : (at : ℕ) → map own_of (ps at) ≡ shown at

-- the tokens of a piece are read as that piece, wherever they occur
pub record IsCachedPiece (s : CachedPiece) : Type 0 where
  pub tokens : List Token
  pub cutout : IsTokenRun s.cutout tokens
  pub reads : AreReadAs s.cutout.bytes tokens s.cutout.mark (λ at. (at, rc_value s.tree) ∷ [])

-- the tree of a part
abbrev pub part_top : SegmentPart → Top
part_top p = rc_value (rc_value p.source).tree

-- where a part starts if its segment starts here, and its tree
abbrev pub part_shown : ℕ → SegmentPart → ℕ × Top
part_shown at p = (at + p.before, part_top p)

-- each part begins in its segment, and is right by itself
abbrev pub AreParts : ℕ → List SegmentPart → Type 0
AreParts bytes parts =
    All (λ (p : SegmentPart). (p.before ≤ bytes) × IsCachedPiece (rc_value p.source)) parts

-- the tokens of a segment are read as its parts, wherever they occur
pub record IsSegment (s : Segment) : Type 0 where
  pub tokens : List Token
  pub cutout : IsTokenRun s.cutout tokens
  pub reads : AreReadAs s.cutout.bytes tokens s.cutout.mark
      (λ at. map (part_shown at) s.parts.items)
  pub parts : AreParts (length s.cutout.bytes) s.parts.items

-- tokens occur first in a text with these tokens, and a punct follows as it did
pub record OccursFirst (c : TokenRun) (text : List ℕ) (left : List Token) : Type 0 where
  pub here : OccursHere c text
  pub mark : begins_with_mark (drop c.count left) ≡ c.mark

-- the pieces of parts
abbrev pub sources_of : List SegmentPart → List (Rc CachedPiece Global)
sources_of parts = map (λ (p : SegmentPart). p.source) parts

-- the pieces of segments, in order
abbrev pub pieces_of : List CachedSegment → List (Rc CachedPiece Global)
pieces_of list = flat_map (λ (h : CachedSegment). sources_of (rc_value h.segment).parts.items) list

-- each segment has the number of pieces cached before it, which for the first is this one
abbrev pub AreCounted : ℕ → List CachedSegment → Type 0
AreCounted n [] = ⊤
AreCounted n (h ∷ more) = (h.first ≡ n) × AreCounted
    (n + length (rc_value h.segment).parts.items) more

-- segments are right by themselves, and have the number of pieces cached before them
pub record AreListed (list : List CachedSegment) : Type 0 where
  pub right : All (λ (h : CachedSegment). IsSegment (rc_value h.segment)) list
  pub counted : AreCounted 0 list

-- all pieces that are cached
abbrev pub all_in : Segments → List (Rc CachedPiece Global)
all_in sources = pieces_of sources.list.items

-- the cached piece of this index
abbrev pub IsHeldAt : Segments → ℕ → CachedPiece → Type 0
IsHeldAt sources i s = (q : Rc CachedPiece Global) × (slice_get (all_in sources) i ≡ Some q)
    × (rc_value q ≡ s)

-- a cached segment, and its pieces among all that are cached
pub record IsCachedSegment (sources : Segments) (h : CachedSegment) : Type 0 where
  pub right : IsSegment (rc_value h.segment)
  pub among : (i : ℕ) (p : SegmentPart) → slice_get (rc_value h.segment).parts.items i ≡ Some p
      → slice_get (all_in sources) (h.first + i) ≡ Some p.source

-- all that is cached is right
abbrev pub AreSegments : Segments → Type 0
AreSegments sources = AreListed sources.list.items
