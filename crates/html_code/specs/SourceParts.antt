-- The text on a page: its tokens and comments, and its faults marked.
use Rattle.std.specs.Prelude.{◌≡◌, ℕ, ◌+◌, List, [], ◌∷◌, ◌++◌, Bool, true, false, Option, Some, None, codes, decimal, nat_lt, if◌then◌else◌, take, drop, chars}
use Rattle.rustc_lexer.specs.Lexing.{tokens_of}
use Rattle.rustc_lexer.specs.declared.token.Token.{Token}
use Rattle.rustc_lexer.specs.declared.token.TokenKind.{TokenKind}
use Rattle.rustc_lexer.specs.declared.token.TokenKind.TheVariants.{Whitespace, LineComment, BlockComment}
use Rattle.html_code.specs.Escaping.{escaped}
use Rattle.html_code.specs.Parts.{Part, tag, html_of}
use Rattle.html_code.specs.Tokens.{token_part, ends_word, blank_part, comment_part}
use Rattle.html_code.specs.declared.source.Mark.{Mark}
use Rattle.html_code.specs.declared.source.Class.{Class}
use Rattle.html_code.specs.declared.source.Class.TheVariants.{Blank, Comment, Code}

-- white space, a comment that is no doc comment, or a token with a number
abbrev pub class_of : TokenKind → Class
class_of Whitespace = Blank
class_of (LineComment None) = Comment
class_of (BlockComment None true) = Comment
class_of _ = Code

-- the faults that are left of those in order, without those that begin before a byte
abbrev pub faults_from : List Mark → ℕ → List Mark
faults_from [] stop = []
faults_from (f ∷ fs) stop = if nat_lt f.start stop then faults_from fs stop else f ∷ fs

abbrev pub number_attributes : ℕ → List ℕ
number_attributes number = codes " class=f id=s" ++ (decimal number ++ codes " title=\"")

-- the attributes of a token with a fault: its number, and what the fault is
abbrev pub fault_attributes : Mark → ℕ → List ℕ
fault_attributes f number = number_attributes number ++ (escaped f.told.now ++ codes "\"")

-- those of the token of this number, which ends before byte `stop`
abbrev pub attributes_of : List Mark → (number stop : ℕ) → Option (List ℕ)
attributes_of [] number stop = None
attributes_of (f ∷ fs) number stop = if nat_lt f.start stop then Some (fault_attributes f number)
    else None

-- what came before a token: the faults that are left, and whether a word that is shown as it is
-- ends here
pub record Point : Type 0 where
  pub faults : List Mark
  pub behind : Bool

-- white space, in which a block may end before some byte
abbrev pub blank_parts : Option ℕ → List ℕ → List Part
blank_parts None word = blank_part word ∷ []
blank_parts (Some at) word = blank_part (take at word) ∷ tag (codes "</div><div>")
    ∷ blank_part (drop at word) ∷ []

abbrev pub parts_of : Class → Option ℕ → Point → (number stop : ℕ) → List ℕ → List Part
parts_of Blank cut at number stop word = blank_parts cut word
parts_of Comment cut at number stop word = comment_part word ∷ []
parts_of Code cut at number stop word = token_part at.behind
    (attributes_of at.faults number stop) word ∷ []

abbrev pub point_after : Class → Point → (number stop : ℕ) → List ℕ → Point
point_after Code at number stop word =
    record {
      faults = faults_from at.faults stop;
      behind = ends_word at.behind (attributes_of at.faults number stop) word;
    }
point_after _ at number stop word = record { faults = at.faults; behind = false }

abbrev pub count_after : Class → ℕ → ℕ
count_after Code count = count + 1
count_after _ count = count

abbrev pub first_cut : List (Option ℕ) → Option ℕ
first_cut [] = None
first_cut (c ∷ cs) = c

-- the parts of a text from byte `start` on, with these tokens, where `count` tokens with a number
-- came before, and a block ends in some of them
abbrev pub source_from : List (Option ℕ) → Point → (count start : ℕ) → List ℕ → List Token
    → List Part
source_from cuts at count start rest [] = []
source_from cuts at count start rest (t ∷ ts) =
    parts_of (class_of t.kind) (first_cut cuts) at (count + 1) (start + t.len) (take t.len rest)
    ++ source_from (drop 1 cuts)
    (point_after (class_of t.kind) at (count + 1) (start + t.len) (take t.len rest))
    (count_after (class_of t.kind) count) (start + t.len) (drop t.len rest) ts

-- the parts of a text with these faults
abbrev pub source_parts : List (Option ℕ) → List Mark → List ℕ → List Part
source_parts cuts faults text = source_from cuts
    (record { faults = faults; behind = false }) 0 0 text (tokens_of (chars text))

-- a token is added, in which a block may end
pub record AddsToken (old new : List ℕ) (from to : Point) (class : Class) (number stop : ℕ)
    (word : List ℕ) : Type 0 where
  pub cut : Option ℕ
  pub html : new ≡ old ++ html_of (parts_of class cut from number stop word)
  pub point : to ≡ point_after class from number stop word

abbrev pub start_of : Class → ℕ → List ℕ
start_of Code start = start ∷ []
start_of _ start = []

abbrev pub starts_from : ℕ → List Token → List ℕ
starts_from start [] = []
starts_from start (t ∷ ts) = start_of (class_of t.kind) start ++ starts_from (start + t.len) ts

-- where the tokens with a number begin, in order
abbrev pub token_starts : List ℕ → List ℕ
token_starts text = starts_from 0 (tokens_of (chars text))
