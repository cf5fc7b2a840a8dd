-- The result of a scan at the front of a text.
use Rattle.std.specs.Prelude.{◌≡◌, ℕ, ◌+◌, List, drop, chars, IsUtf8}

-- something that was scanned at the front of a text: what it is, and its number of characters
pub record Scanned (A : Type 0) : Type 0 where
  pub value : A
  pub size : ℕ

-- a scan with n more characters before it
abbrev pub further : {A : Type 0} → ℕ → Scanned A → Scanned A
further n s = record { value = s.value; size = n + s.size }

-- the scan of the text gives this value, and leaves this text
pub record IsRead {A : Type 0} (s : Scanned A) (text : List ℕ) (told : A) (left : List ℕ) : Type 0 where
  pub value : told ≡ s.value
  pub rest : chars left ≡ drop s.size (chars text)
  pub utf8 : IsUtf8 left
