-- What the functions inside promise each other: records whose anchors are replaced.
use Rattle.std.specs.Prelude.{◌≡◌, ℕ, ◌+◌, List, ◌++◌, length, take, drop}
use Rattle.tt_data.specs.declared.tree.TokenTree.{TokenTree}
use Rattle.tt_data.specs.Spans.{anchor_with, token_with}
use Rattle.token_bytes.specs.Records.{span_bytes, span_in, token_bytes}

-- a record begins at a byte
pub record RecordAt (at : ℕ) (bytes : List ℕ) : Type 0 where
  pub before : List ℕ
  pub token : TokenTree
  pub n : ℕ
  pub more : List ℕ
  pub at_is : at ≡ length before
  pub bytes_are : bytes ≡ before ++ (token_bytes n token ++ more)

-- bytes with the anchor of the span replaced that begins at a byte
abbrev pub renamed_span : (ℕ → ℕ) → ℕ → List ℕ → List ℕ
renamed_span h at bytes = take at bytes
    ++ (span_bytes (anchor_with h (span_in (drop at bytes))) ++ drop (at + 13) bytes)

-- a token with its anchors replaced
abbrev pub renamed_token : (ℕ → ℕ) → TokenTree → TokenTree
renamed_token h t = token_with (anchor_with h) t
