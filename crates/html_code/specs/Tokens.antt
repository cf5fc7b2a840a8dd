-- A token on a page: as it is where its characters show where it begins and ends, else in an
-- element of its own.
use Rattle.std.specs.Prelude.{◌≡◌, ℕ, List, [], ◌∷◌, Bool, true, false, Option, Some, None, not, ◌&&◌, ◌||◌, ◌==◌, codes, if◌then◌else◌}
use Rattle.std.specs.List.{list_all}
use Rattle.hidden_marks.specs.Marks.{is_within}
use Rattle.html_code.specs.Parts.{Part, tag, shown, isolated}

-- ---- characters of ASCII; each byte of another character is above them

-- a letter, a digit or `_`
abbrev pub is_word_byte : ℕ → Bool
is_word_byte b = is_within 48 57 b || is_within 65 90 b || is_within 97 122 b || b == 95

-- another one that is printed
abbrev pub is_sign_byte : ℕ → Bool
is_sign_byte b = is_within 33 126 b && not (is_word_byte b)

-- one that is printed, a space, a tab, a line feed or a carriage return: none of them is written
-- from right to left
abbrev pub is_plain_byte : ℕ → Bool
is_plain_byte b = is_within 32 126 b || b == 9 || b == 10 || b == 13

abbrev pub is_plain : List ℕ → Bool
is_plain text = list_all is_plain_byte text

abbrev pub is_word : List ℕ → Bool
is_word text = list_all is_word_byte text

abbrev pub is_sign : List ℕ → Bool
is_sign [] = false
is_sign (b ∷ []) = is_sign_byte b
is_sign (b ∷ c ∷ bs) = false

-- ---- tokens

-- whether a token may be shown as it is: a sign, or a word where no word that is shown so ends
abbrev pub is_bare : Bool → List ℕ → Bool
is_bare behind text = is_sign text || (not behind && is_word text)

-- a token; with attributes, if any, it has its own element
abbrev pub token_part : Bool → Option (List ℕ) → List ℕ → Part
token_part behind None text = if is_bare behind text then shown text else isolated [] text
token_part behind (Some attributes) text = isolated attributes text

-- whether a word that is shown as it is ends behind the token
abbrev pub ends_word : Bool → Option (List ℕ) → List ℕ → Bool
ends_word behind None text = not behind && is_word text
ends_word behind (Some attributes) text = false

-- a comment, which is no token
abbrev pub comment_part : List ℕ → Part
comment_part text = isolated (codes " class=c") text

-- white space
abbrev pub blank_part : List ℕ → Part
blank_part text = if is_plain text then shown text else comment_part text

-- a part that shows text shows plain text, or isolates it
abbrev pub IsIsolated : Part → Type 0
IsIsolated (tag t) = Unit {0}
IsIsolated (shown text) = is_plain text ≡ true
IsIsolated (isolated attributes text) = Unit {0}
