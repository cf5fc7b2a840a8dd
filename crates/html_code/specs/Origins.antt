-- Where printed tokens come from: the text on the page, or another one.
use Rattle.std.specs.Prelude.{◌≡◌, ℕ, ◌-◌, ◌<◌, List, [], ◌++◌, codes, decimal, get_or, length, slice_get, slice_index, Option, Some, None}
use Rattle.html_code.specs.Escaping.{escaped}
use Rattle.html_code.specs.Numbers.{IsNumberAt}
use Rattle.html_code.specs.declared.origin.Origin.{Origin}
use Rattle.html_code.specs.declared.origin.Origin.TheVariants.{Own, Other}

-- ---- numbers

-- the number of an origin's token, where the tokens of the text on the page begin at these bytes; 0
-- of another text, so that no token here is linked
abbrev pub IsOriginNumber : List ℕ → Origin → ℕ → Type 0
IsOriginNumber starts (Own at) number = IsNumberAt starts at number
IsOriginNumber starts (Other text start stop) number = number ≡ 0

-- one for each origin
pub record AreOriginNumbers (starts : List ℕ) (origins : List Origin)
    (numbers : List ℕ) : Type 0 where
  pub as_many : length numbers ≡ length origins
  pub each : (k : ℕ) → k < length origins
      → IsOriginNumber starts (get_or origins k (Own 0)) (slice_index numbers k)

-- ---- titles

-- a text by its name, or by its number
abbrev pub name_or_number : Option (List ℕ) → ℕ → List ℕ
name_or_number (Some name) text = escaped name
name_or_number None text = codes "source " ++ decimal text

-- what a text is called, where those from number 1 on have these names
abbrev pub name_told : List (List ℕ) → ℕ → List ℕ
name_told names text = name_or_number (slice_get names (text - 1)) text

abbrev pub bytes_told : (start stop : ℕ) → List ℕ
bytes_told start stop = codes ", bytes " ++ (decimal start ++ (codes " to " ++ decimal stop))

-- the attribute that says which text a token comes from, and which bytes; none of the text on the
-- page
abbrev pub title_of : List (List ℕ) → Origin → List ℕ
title_of names (Own at) = []
title_of names (Other text start stop) =
    codes " title=\"" ++ (name_told names text ++ (bytes_told start stop ++ codes "\""))
