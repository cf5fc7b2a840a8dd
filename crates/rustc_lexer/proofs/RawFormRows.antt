-- Worked examples, by computation: what is wrong with a raw string.
use Rattle.std.specs.Prelude.{◌≡◌, ℕ, ⊤, Some, None, Result, Ok, Err, codes, replicate, ◌++◌, refl}
use Prim.Native.String.{String}
use Rattle.rustc_lexer.specs.RawForms.{validity}
use Rattle.rustc_lexer.specs.declared.raw_str.RawStrError.{RawStrError}
use Rattle.rustc_lexer.specs.declared.raw_str.RawStrError.TheVariants.{InvalidStarter, NoTerminator, TooManyDelimiters}

-- the answer for the text that is written, behind a prefix of p characters
abbrev of : ℕ → String → Result ⊤ RawStrError
of p w = validity p (codes w)

no_hash : of 1 "r\"a\"" ≡ Ok tt
no_hash = refl

one_hash : of 2 "br#\"a\"#" ≡ Ok tt
one_hash = refl

-- what follows the end may be anything, a hash too
hash_behind : of 1 "r#\"a\"##b" ≡ Ok tt
hash_behind = refl

quote_inside : of 1 "r##\"a\"#\"##" ≡ Ok tt
quote_inside = refl

letter_first : of 1 "rx" ≡ Err (InvalidStarter 0x78)
letter_first = refl

letter_behind_hashes : of 1 "r##é\"" ≡ Err (InvalidStarter 0xe9)
letter_behind_hashes = refl

nothing_first : of 1 "r" ≡ Err (InvalidStarter 0)
nothing_first = refl

nothing_behind_hashes : of 1 "r##" ≡ Err (InvalidStarter 0)
nothing_behind_hashes = refl

no_quote : of 1 "r\"a" ≡ Err (NoTerminator 0 0 None)
no_quote = refl

no_hash_behind : of 1 "r#\"a\"" ≡ Err (NoTerminator 1 0 None)
no_hash_behind = refl

too_few : of 1 "r##\"a\"#" ≡ Err (NoTerminator 2 1 (Some 6))
too_few = refl

longer_prefix : of 2 "br##\"a\"#" ≡ Err (NoTerminator 2 1 (Some 7))
longer_prefix = refl

-- the second quote has the most hashes
second_quote : of 1 "r###\"a\"#b\"##c\"##" ≡ Err (NoTerminator 3 2 (Some 10))
second_quote = refl

-- the first of two with as many
first_of_two : of 1 "r##\"a\"#b\"#" ≡ Err (NoTerminator 2 1 (Some 6))
first_of_two = refl

-- a letter of two bytes
two_bytes : of 1 "r##\"é\"#" ≡ Err (NoTerminator 2 1 (Some 7))
two_bytes = refl

most_of_all : validity 1 (codes "r" ++ replicate 255 0x23 ++ codes "\"\"" ++ replicate 255 0x23) ≡ Ok tt
most_of_all = refl

too_many : validity 1 (codes "r" ++ replicate 256 0x23 ++ codes "\"\"" ++ replicate 256 0x23) ≡ Err (TooManyDelimiters 256)
too_many = refl
