-- The tokens of a list as bytes: their records one after the other, and a table that has each text
-- once, in the order of first use.
use Rattle.std.specs.Prelude.{ℕ, zero, suc, List, [], ◌∷◌, ◌++◌, drop, Option, Some, None, nat_eq, if◌then◌else◌}
use Rattle.std.specs.Cmp.Lexicographic.{pointwise}
use Rattle.tt_data.specs.declared.tree.TokenTree.{TokenTree}
use Rattle.token_bytes.specs.Records.{first_size, first_token, text_of, token_bytes}

-- the number of a text's entry; of a text that is not in the table, the number that its entry
-- would get
abbrev pub number_of : List ℕ → List (List ℕ) → ℕ
number_of text [] = 0
number_of text (s ∷ more) = if pointwise nat_eq text s then 0 else suc (number_of text more)

-- a table with a text: a new one comes last
abbrev pub with_text : List ℕ → List (List ℕ) → List (List ℕ)
with_text text [] = text ∷ []
with_text text (s ∷ more) = s ∷ (if pointwise nat_eq text s then more else with_text text more)

-- a table with the text of a token, if it has one, and the number of that
abbrev pub with_token : Option (List ℕ) → List (List ℕ) → List (List ℕ)
with_token None table = table
with_token (Some text) table = with_text text table

abbrev pub number_in : Option (List ℕ) → List (List ℕ) → ℕ
number_in None table = 0
number_in (Some text) table = number_of text table

-- the record of a token that comes after what a table is of
abbrev pub record_of : List (List ℕ) → TokenTree → List ℕ
record_of table t = token_bytes (number_in (text_of t) table) t

-- the records of a list, and the table after them
abbrev pub records : List (List ℕ) → List TokenTree → List ℕ
records table [] = []
records table (t ∷ more) = record_of table t ++ records (with_token (text_of t) table) more

abbrev pub table_after : List (List ℕ) → List TokenTree → List (List ℕ)
table_after table [] = table
table_after table (t ∷ more) = table_after (with_token (text_of t) table) more

-- the tokens of so many records
abbrev pub tokens_in : ℕ → List (List ℕ) → List ℕ → List TokenTree
tokens_in zero table bytes = []
tokens_in (suc n) table bytes =
    first_token table bytes ∷ tokens_in n table (drop (first_size bytes) bytes)
