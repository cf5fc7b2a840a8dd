-- An expansion on a page: its tokens with the numbers of their origins. What is between two tokens
-- is white space and the ends of folds.
use Rattle.std.specs.Prelude.{◌≡◌, ℕ, zero, suc, ◌-◌, List, [], ◌∷◌, ◌++◌, Bool, true, false, Option, Some, None, ◌&&◌, codes, decimal, nat_eq, nat_lt, min, if◌then◌else◌, take, drop, chars}
use Rattle.rustc_lexer.specs.Lexing.{tokens_of}
use Rattle.rustc_lexer.specs.declared.token.Token.{Token}
use Rattle.rustc_lexer.specs.declared.token.TokenKind.{TokenKind}
use Rattle.rustc_lexer.specs.declared.token.TokenKind.TheVariants.{Whitespace, Lifetime}
use Rattle.html_code.specs.Origins.{title_of}
use Rattle.html_code.specs.Parts.{Part, tag, html_of}
use Rattle.html_code.specs.Tokens.{token_part, ends_word}
use Rattle.html_code.specs.declared.layout.Gap.{Gap}
use Rattle.html_code.specs.declared.layout.Gap.TheVariants.{Nothing, Blank, Line, Cut, Top}
use Rattle.html_code.specs.declared.origin.Origin.{Origin}
use Rattle.html_code.specs.declared.origin.Origin.TheVariants.{Own}

-- ---- what is between two tokens

abbrev pub blanks : ℕ → List ℕ
blanks zero = []
blanks (suc n) = codes "    " ++ blanks n

-- the end of a line, or of the first line of a fold; the next line is in so many blocks of code, of
-- which at most 32 are shown
abbrev pub line_end : List ℕ → Bool → ℕ → List ℕ
line_end end in_summary blocks = (if in_summary then codes "</summary><div>" else end)
    ++ blanks (min blocks 32)

abbrev pub fold_end : Bool → List ℕ
fold_end in_summary = if in_summary then codes "</summary></details>" else codes "</div></details>"

abbrev pub gap_tag : List ℕ → Gap → Bool → List ℕ
gap_tag fold Nothing in_summary = []
gap_tag fold Blank in_summary = codes " "
gap_tag fold (Line blocks) in_summary = line_end (codes "\n") in_summary blocks
gap_tag fold (Cut blocks) in_summary = line_end (codes "\n</div><div>") in_summary blocks
gap_tag fold Top in_summary = fold_end in_summary ++ fold

-- whether the line behind a gap is the first of its fold
abbrev pub is_in_summary : Gap → Bool → Bool
is_in_summary Nothing in_summary = in_summary
is_in_summary Blank in_summary = in_summary
is_in_summary (Line blocks) in_summary = false
is_in_summary (Cut blocks) in_summary = false
is_in_summary Top in_summary = true

-- whether a word that is shown as it is ends behind a gap
abbrev pub is_behind : Gap → Bool → Bool
is_behind Nothing behind = behind
is_behind _ behind = false

-- ---- tokens

abbrev pub is_white : TokenKind → Bool
is_white Whitespace = true
is_white _ = false

-- how many printed tokens a token of a printed text is: a lifetime is a quote and a name
abbrev pub printed_tokens_in : TokenKind → ℕ
printed_tokens_in (Lifetime false) = 2
printed_tokens_in _ = 1

-- the first of the numbers, or 0
abbrev pub number_here : List ℕ → ℕ
number_here [] = 0
number_here (n ∷ ns) = n

-- the first of the origins, or the beginning of the text
abbrev pub origin_here : List Origin → Origin
origin_here [] = Own 0
origin_here (o ∷ os) = o

-- the attributes of a token by its origin's number, that of the token before, and the title of its
-- origin
abbrev pub origin_attributes : (number last : ℕ) → List ℕ → Option (List ℕ)
origin_attributes number last title =
    if nat_lt 0 number && nat_eq (number - 1) last then None
    else Some (codes " o=" ++ (decimal number ++ title))

-- how far an expansion is: the last origin's number, the numbers and origins to come, whether the
-- line is the first of its fold, and whether a word that is shown as it is ends here
pub record Place : Type 0 where
  pub in_summary : Bool
  pub last : ℕ
  pub numbers : List ℕ
  pub origins : List Origin
  pub behind : Bool

-- where an expansion begins
abbrev pub beginning : List ℕ → List Origin → Place
beginning numbers origins =
    record { in_summary = true; last = 0; numbers = numbers; origins = origins; behind = false }

-- the attributes of the token at a place, where the other texts have these names
abbrev pub attributes_at : List (List ℕ) → Place → Option (List ℕ)
attributes_at names place = origin_attributes (number_here place.numbers) place.last
    (title_of names (origin_here place.origins))

module _ (fold : List ℕ) (names : List (List ℕ)) where
  -- the parts of a token behind a gap
  abbrev pub word_parts : Gap → Place → TokenKind → List ℕ → List Part
  word_parts gap place kind word =
      if is_white kind then []
      else tag (gap_tag fold gap place.in_summary)
      ∷ token_part (is_behind gap place.behind) (attributes_at names place) word ∷ []

  abbrev pub place_after : Gap → Place → TokenKind → List ℕ → Place
  place_after gap place kind word =
      if is_white kind then place
      else record {
        in_summary = is_in_summary gap place.in_summary;
        last = number_here place.numbers;
        numbers = drop (printed_tokens_in kind) place.numbers;
        origins = drop (printed_tokens_in kind) place.origins;
        behind = ends_word (is_behind gap place.behind) (attributes_at names place) word;
      }

  abbrev pub first_gap : List Gap → Gap
  first_gap [] = Nothing
  first_gap (g ∷ gs) = g

  abbrev pub other_gaps : List Gap → List Gap
  other_gaps [] = []
  other_gaps (g ∷ gs) = gs

  -- the parts from a place on, of these tokens with these gaps before them
  abbrev pub expansion_from : List Gap → Place → List ℕ → List Token → List Part
  expansion_from gaps place rest [] = tag (fold_end place.in_summary) ∷ []
  expansion_from gaps place rest (t ∷ ts) =
      word_parts (first_gap gaps) place t.kind (take t.len rest)
      ++ expansion_from (other_gaps gaps)
      (place_after (first_gap gaps) place t.kind (take t.len rest)) (drop t.len rest) ts

  -- the parts of a printed text with these gaps, and these origins of its tokens, of these numbers
  abbrev pub expansion_parts : List Gap → (numbers : List ℕ) → List Origin → (printed : List ℕ)
      → List Part
  expansion_parts gaps numbers origins printed =
      tag fold ∷ expansion_from gaps (beginning numbers origins) printed (tokens_of (chars printed))

  -- a token is added behind some gap
  pub record AddsWord (old new : List ℕ) (from to : Place) (kind : TokenKind)
      (word : List ℕ) : Type 0 where
    pub gap : Gap
    pub html : new ≡ old ++ html_of (word_parts gap from kind word)
    pub place : to ≡ place_after gap from kind word

-- the text of the tokens of a printed text, without the white space between them
abbrev pub words_from : List ℕ → List Token → List ℕ
words_from rest [] = []
words_from rest (t ∷ ts) = (if is_white t.kind then [] else take t.len rest)
    ++ words_from (drop t.len rest) ts

abbrev pub words_of : List ℕ → List ℕ
words_of printed = words_from printed (tokens_of (chars printed))
