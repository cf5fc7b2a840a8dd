-- The tokens of a run.
use Rattle.std.specs.Prelude.{ℕ, List, option_map}
use Rattle.tt_data.specs.declared.tree.TokenTree.{TokenTree}
use Rattle.token_bytes.specs.Packing.{tokens_in}
use Rattle.token_bytes.specs.Runs.{bytes_from, table_in}
use Rattle.token_bytes.specs.declared.tokens.Tokens.{Tokens}

-- its records, and what comes after them
abbrev pub records_in : Tokens → List ℕ
records_in t = bytes_from t.at (option_map (λ s. s.now) t.stored)

-- the table of its texts
abbrev pub texts_in : Tokens → List (List ℕ)
texts_in t = table_in (option_map (λ s. s.now) t.stored)

-- the tokens, one after the other
unfoldable pub items : Tokens → List TokenTree
items t = tokens_in t.count (texts_in t) (records_in t)
