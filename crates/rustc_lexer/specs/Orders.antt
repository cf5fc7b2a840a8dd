-- The order of kinds of literals, of strings between hashes, and of errors of raw strings: variants as they are declared,
-- then fields as they are declared. Each value is told by a list of numbers, and values are in the order of their lists.
use Rattle.std.specs.Prelude.{ℕ, Bool, true, false, List, [], ◌∷◌, Option, Some, None}
use Rattle.std.specs.Cmp.Lexicographic.{slice_cmp}
use Rattle.std.specs.Ordering.{nat_cmp}
use Rattle.std.specs.declared.cmp.Ordering.{Ordering}
use Rattle.rustc_lexer.specs.declared.raw_str.RawStrError.{RawStrError}
use Rattle.rustc_lexer.specs.declared.raw_str.RawStrError.TheVariants.{InvalidStarter, NoTerminator, TooManyDelimiters}
use Rattle.rustc_lexer.specs.declared.token.Base.{Base}
use Rattle.rustc_lexer.specs.declared.token.Base.TheVariants.{Binary, Octal, Decimal, Hexadecimal}
use Rattle.rustc_lexer.specs.declared.token.GuardedStr.{GuardedStr}
use Rattle.rustc_lexer.specs.declared.token.LiteralKind.{LiteralKind}
use Rattle.rustc_lexer.specs.declared.token.LiteralKind.TheVariants.{Int, Float, Char, Byte, Str, ByteStr, CStr, RawStr, RawByteStr, RawCStr, GuardedStr as GuardedLiteral}

-- the number of a base
abbrev pub base_number : Base → ℕ
base_number Binary = 2
base_number Octal = 8
base_number Decimal = 10
base_number Hexadecimal = 16

-- the first numbers that differ decide, and else the lengths do
abbrev pub in_order : List ℕ → List ℕ → Ordering
in_order = slice_cmp nat_cmp

-- false comes before true
abbrev pub bool_rank : Bool → ℕ
bool_rank false = 0
bool_rank true = 1

-- nothing comes before a number
abbrev pub option_ranks : Option ℕ → List ℕ
option_ranks None = 0 ∷ []
option_ranks (Some n) = 1 ∷ n ∷ []

abbrev pub kind_ranks : LiteralKind → List ℕ
kind_ranks (Int base empty_int) = 0 ∷ base_number base ∷ bool_rank empty_int ∷ []
kind_ranks (Float base empty_exponent) = 1 ∷ base_number base ∷ bool_rank empty_exponent ∷ []
kind_ranks (Char terminated) = 2 ∷ bool_rank terminated ∷ []
kind_ranks (Byte terminated) = 3 ∷ bool_rank terminated ∷ []
kind_ranks (Str terminated) = 4 ∷ bool_rank terminated ∷ []
kind_ranks (ByteStr terminated) = 5 ∷ bool_rank terminated ∷ []
kind_ranks (CStr terminated) = 6 ∷ bool_rank terminated ∷ []
kind_ranks (RawStr n_hashes) = 7 ∷ option_ranks n_hashes
kind_ranks (RawByteStr n_hashes) = 8 ∷ option_ranks n_hashes
kind_ranks (RawCStr n_hashes) = 9 ∷ option_ranks n_hashes
kind_ranks (GuardedLiteral n_hashes) = 10 ∷ option_ranks n_hashes

abbrev pub guarded_ranks : GuardedStr → List ℕ
guarded_ranks g = g.n_hashes ∷ bool_rank g.terminated ∷ g.token_len ∷ []

abbrev pub error_ranks : RawStrError → List ℕ
error_ranks (InvalidStarter bad_char) = 0 ∷ bad_char ∷ []
error_ranks (NoTerminator expected found possible_terminator_offset) = 1 ∷ expected ∷ found ∷ option_ranks possible_terminator_offset
error_ranks (TooManyDelimiters found) = 2 ∷ found ∷ []
