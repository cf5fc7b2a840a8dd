-- Worked rows: a text with each kind of line end, a surrogate pair and a character of two bytes.
use Rattle.std.proofs.Common.{◌≡◌, ℕ, List, [], ◌∷◌, refl}
use Rattle.line_index.specs.Lines.{column_of, line_of, offset_of}

-- `a\r\n`, `𝕏ü\r`, `b\n`
abbrev text : List ℕ
text = 97 ∷ 13 ∷ 10 ∷ 240 ∷ 157 ∷ 149 ∷ 143 ∷ 195 ∷ 188 ∷ 13 ∷ 98 ∷ 10 ∷ []

pub second_line : offset_of text 1 0 ≡ 3
second_line = refl

-- before the pair
pub within_pair : offset_of text 1 1 ≡ 3
within_pair = refl

pub behind_pair : offset_of text 1 2 ≡ 7
behind_pair = refl

pub behind_line : offset_of text 1 99 ≡ 9
behind_line = refl

pub before_crlf : offset_of text 0 7 ≡ 1
before_crlf = refl

-- the line behind the last line end has no bytes
pub last_line : offset_of text 3 0 ≡ 12
last_line = refl

pub behind_last : offset_of text 7 2 ≡ 12
behind_last = refl

pub line_of_return : line_of text 9 ≡ 1
line_of_return = refl

pub column_of_return : column_of text 9 ≡ 3
column_of_return = refl

-- between the bytes of `\r\n` is the line that they end
pub within_crlf : line_of text 2 ≡ 0
within_crlf = refl
