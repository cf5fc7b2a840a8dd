-- The tokens in which a piece of a text is written.
use Rattle.std.specs.Prelude.{◌≡◌, ℕ, ◌+◌, ◌-◌, All, Bool, true, false, ◌&&◌, nat_le, List, []}
use Rattle.std.specs.Prelude.{◌∷◌, ◌++◌, None, chars, filter, length, map}
use Rattle.bridge.specs.Reading.{PlacedToken, placed_from}
use Rattle.rustc_lexer.specs.Lexing.{tokens_of}
use Rattle.rustc_lexer.specs.declared.token.TokenKind.{TokenKind}
use Rattle.rustc_lexer.specs.declared.token.TokenKind.TheVariants as kind
use Rattle.tt_data.specs.Forest.{Forest, empty, leaf, group}
use Rattle.tt_data.specs.Spans.{span_of}
use Rattle.expander_model.specs.Pieces.{first_start}

-- the offset at which the last token of trees ends
abbrev pub last_end : Forest → ℕ
last_end empty = 0
last_end (leaf l empty) = (span_of l).range.«end»
last_end (leaf l rest) = last_end rest
last_end (group d inner empty) = d.close_span.range.«end»
last_end (group d inner rest) = last_end rest

-- a token is wholly between two offsets
abbrev pub is_between : ℕ → ℕ → PlacedToken → Bool
is_between from to t = nat_le from t.start && nat_le (t.start + length t.text) to

-- a token with its offset counted from n
abbrev pub counted_from : ℕ → PlacedToken → PlacedToken
counted_from n t = record t { start = t.start - n }

-- the tokens of a text, each with its kind, its offset and its bytes
abbrev pub placed_tokens : List ℕ → List PlacedToken
placed_tokens text = placed_from 0 text (tokens_of (chars text))

-- the tokens from a piece's first to its last, trivia too, with piece-relative offsets
abbrev pub written_in : List ℕ → Forest → List PlacedToken
written_in text p = map (counted_from (first_start p))
    (filter (is_between (first_start p) (last_end p)) (placed_tokens text))

-- white space, and a whole comment that is no doc comment
abbrev pub is_blank_kind : TokenKind → Bool
is_blank_kind kind.Whitespace = true
is_blank_kind (kind.LineComment None) = true
is_blank_kind (kind.BlockComment None true) = true
is_blank_kind _ = false

-- all these tokens are such trivia
abbrev pub AreBlank : List PlacedToken → Type 0
AreBlank ts = All (λ (t : PlacedToken). is_blank_kind t.kind ≡ true) ts

-- a token whose offset was counted from n, counted from the start of the text
abbrev pub counted_on : ℕ → PlacedToken → PlacedToken
counted_on n t = record t { start = n + t.start }

-- trivia, then the tokens of a word, all counted from one offset, and then the rest
pub record BeginsWith (word ts rest : List PlacedToken) : Type 0 where
  pub blanks : List PlacedToken
  pub are_blank : AreBlank blanks
  pub from : ℕ
  pub is : ts ≡ blanks ++ (map (counted_on from) word ++ rest)

-- the tokens of these words in order, with only trivia before, between and after them
abbrev pub AreWords : List (List PlacedToken) → List PlacedToken → Type 0
AreWords [] ts = AreBlank ts
AreWords (word ∷ words) ts = (rest : List PlacedToken) × BeginsWith word ts rest
    × AreWords words rest
