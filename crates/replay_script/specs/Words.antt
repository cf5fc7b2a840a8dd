-- What the words of a line mean: escapes, numbers, lists and homes. (Of this project.)
use Rattle.std.specs.Prelude.{◌≡◌, ◌≢◌, ◌<◌, ◌^◌, ℕ, Bool, true, false, List, [], ◌∷◌, ◌++◌}
use Rattle.std.specs.Prelude.{Option, Some, None, option_map, option_and_then, get_or, length}
use Rattle.std.specs.Prelude.{nat_eq, if◌then◌else◌}
use Rattle.std.specs.Str.Parse.{IsNumeral, digits_value, without_leading_plus}
use Rattle.expander_sources.specs.Homes.{Home, home_named}
use Rattle.crate_picks.specs.Editions.{edition_name}

-- none of these bytes is this one
abbrev pub Lacks : ℕ → List ℕ → Type 0
Lacks mark bytes = (i : ℕ) → i < length bytes → get_or bytes i 0 ≢ mark

-- ---- replacements

-- what a byte after a backslash means: `n`, `r` or a backslash
abbrev pub escape_of : ℕ → Option ℕ
escape_of byte =
    if nat_eq byte 110 then Some 10
    else if nat_eq byte 114 then Some 13
    else if nat_eq byte 92 then Some 92
    else None

abbrev pub is_backslash : ℕ → Bool
is_backslash byte = nat_eq byte 92

-- the rest of a replacement, after a backslash or not, as the bytes that it means
abbrev pub unescaped_behind : Bool → List ℕ → Option (List ℕ)
unescaped_behind false [] = Some []
unescaped_behind true [] = None
unescaped_behind false (b ∷ more) =
    if is_backslash b then unescaped_behind true more
    else option_map (λ bytes. b ∷ bytes) (unescaped_behind false more)
unescaped_behind true (b ∷ more) =
    option_and_then (λ byte. option_map (λ bytes. byte ∷ bytes) (unescaped_behind false more))
    (escape_of b)

abbrev pub unescaped : List ℕ → Option (List ℕ)
unescaped = unescaped_behind false

-- ---- numbers

-- a word is a decimal number that fits 64 bits; a plus may come before it
pub record IsNumber (word : List ℕ) (n : ℕ) : Type 0 where
  pub numeral : IsNumeral 10 (without_leading_plus word)
  pub value : n ≡ digits_value 10 (without_leading_plus word)
  pub fits : n < 2 ^ 64

-- a text begins with a number and a space, and this follows
abbrev pub HasNumber : List ℕ → ℕ → List ℕ → Type 0
HasNumber text n rest = (word : List ℕ) × (text ≡ word ++ 32 ∷ rest) × IsNumber word n

-- a text does not begin with a number and a space
abbrev pub LacksNumber : List ℕ → Type 0
LacksNumber text = (n : ℕ) (rest : List ℕ) → HasNumber text n rest → ⊥

-- ---- lists

-- a text has one part for each of these, at least one, with a mark between two parts and in none
abbrev pub Lists : {A : Type 0} → ℕ → (List ℕ → A → Type 0) → List ℕ → List A → Type 0
Lists mark Is text [] = ⊥
Lists mark Is text (x ∷ []) = Lacks mark text × Is text x
Lists mark Is text (x ∷ y ∷ more) =
    (part : List ℕ) × (rest : List ℕ) × (text ≡ part ++ mark ∷ rest) × Lacks mark part × Is part x
    × Lists mark Is rest (y ∷ more)

-- ---- homes

-- a word is `-`, for no home, or `ROOT@EDITION`
abbrev pub IsHome : List ℕ → Option Home → Type 0
IsHome word None = word ≡ 45 ∷ []
IsHome word (Some home) =
    (root : List ℕ) × (word ≡ root ++ 64 ∷ edition_name home.edition) × Lacks 64 root
    × (home_named root home.edition ≡ Some home)

-- a text begins with such a word and a space, and this follows
abbrev pub HasHome : List ℕ → Option Home → List ℕ → Type 0
HasHome text home rest =
    (word : List ℕ) × (text ≡ word ++ 32 ∷ rest) × Lacks 32 word × IsHome word home
