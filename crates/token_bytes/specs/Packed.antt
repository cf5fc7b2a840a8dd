-- What is true of stored tokens: their records and their table.
use Rattle.std.specs.Prelude.{◌≡◌, ℕ, ⊤, List, [], ◌++◌, length, All}
use Rattle.std.specs.Char.{IsScalar}
use Rattle.std.specs.Str.{IsCharBoundary}
use Rattle.tt_data.specs.declared.leaf.Leaf.TheVariants as as_leaf
use Rattle.tt_data.specs.declared.tree.TokenTree.{TokenTree}
use Rattle.tt_data.specs.declared.tree.TokenTree.TheVariants as token
use Rattle.token_bytes.specs.Packing.{records, table_after}

-- what is true of every token of a program: a punct's character is one, and a literal's suffix
-- begins at a character
abbrev pub IsToken : TokenTree → Type 0
IsToken (token.Subtree s) = ⊤
IsToken (token.Leaf (as_leaf.Ident i)) = ⊤
IsToken (token.Leaf (as_leaf.Punct p)) = IsScalar p.char
IsToken (token.Leaf (as_leaf.Literal l)) = IsCharBoundary (l.text ++ l.suffix) (length l.text)

-- bytes and a table are the packed form of a list of tokens
pub record ArePacked (ts : List TokenTree) (bytes : List ℕ) (table : List (List ℕ)) : Type 0 where
  pub tokens : All IsToken ts
  pub bytes_are : bytes ≡ records [] ts
  pub table_is : table ≡ table_after [] ts
