-- What the functions inside promise each other: how the number of a text is found.
use Rattle.std.specs.Prelude.{◌≡◌, ℕ, suc, ◌%◌, ◌<◌, ⊤, List, [], ◌∷◌, ◌++◌, length, Option, Some, None, option_map, nat_eq, get_or, if◌then◌else◌}
use Rattle.std.specs.Cmp.Lexicographic.{pointwise}
use Rattle.std.specs.Hash.FoldHasher.{initial, write}
use Rattle.token_bytes.specs.declared.text_chains.TextChains.{TextChains}
use Rattle.token_bytes.specs.declared.text_table.TextTable.{TextTable}

-- a number of a text, by the fast hasher of the standard library
unfoldable pub mix_of : List ℕ → ℕ
mix_of text = (write initial text).state

-- the class of a text, of so many
abbrev pub class_of : ℕ → List ℕ → ℕ
class_of size text = mix_of text % size

-- the class of a table's text with a number
abbrev pub class_at : ℕ → List (List ℕ) → ℕ → ℕ
class_at size table i = class_of size (get_or table i [])

-- the number of a text that is in a table
abbrev pub known_number : List ℕ → List (List ℕ) → Option ℕ
known_number text [] = None
known_number text (s ∷ more) =
    if pointwise nat_eq text s then Some 0 else option_map suc (known_number text more)

-- each of some texts is new to those before it
abbrev pub AreNew : List (List ℕ) → List (List ℕ) → Type 0
AreNew before [] = ⊤
AreNew before (text ∷ more) = (known_number text before ≡ None) × AreNew (before ++ text ∷ []) more

abbrev pub AreDistinct : List (List ℕ) → Type 0
AreDistinct table = AreNew [] table

-- numbers below n are chained by their classes: `ends` has the last of each class, `links` the one
-- before each number. Both count: they say how many numbers there are up to it.
pub record AreChained (n : ℕ) (class links ends : ℕ → ℕ) : Type 0 where
  pub last : (i : ℕ) → i < n → i < ends (class i)
  pub last_is : (c i : ℕ) → ends c ≡ suc i → (i < n) × (class i ≡ c)
  pub before : (i j : ℕ) → i < j → j < n → class i ≡ class j → i < links j
  pub before_is : (j i : ℕ) → j < n → links j ≡ suc i → (i < j) × (class i ≡ class j)

-- the texts of a table are chained
pub record AreLinked (chains : TextChains) (table : List (List ℕ)) : Type 0 where
  pub count : length chains.before.items ≡ length table
  pub chained : AreChained (length table) (class_at (length chains.last.items) table)
      (λ i. get_or chains.before.items i 0) (λ c. get_or chains.last.items c 0)

-- they are, where there are chains
abbrev pub AreLinkedIn : TextChains → List (List ℕ) → Type 0
AreLinkedIn chains table = 0 < length chains.last.items → AreLinked chains table

-- each text of a table was met
abbrev pub AreMet : List ℕ → List (List ℕ) → Type 0
AreMet recent table = (i : ℕ) → i < length table → 0 < get_or recent (class_at 64 table i) 0

-- the texts of a table are found by what it has beside them
pub record IsNumbered (t : TextTable) : Type 0 where
  pub distinct : AreDistinct t.texts.items
  pub room : length t.recent ≡ 64
  pub met : AreMet t.recent t.texts.items
  pub linked : AreLinkedIn t.chains t.texts.items
