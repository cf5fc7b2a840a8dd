-- A first line is no longer than its text.
use Rattle.std.proofs.Common.{◌≡◌, ℕ, ◌+◌, ◌-◌, ◌≤◌, refl, List, [], ◌∷◌, length, Bool, true, false, arith, take, length-take, slice_get}
use Rattle.std.specs.Prelude.{cond, ◌==◌, ◌&&◌, not, if◌then◌else◌, Some, None, chars, slice_index}
use Rattle.std.specs.List.{slice_split, onto_first}
use Rattle.std.specs.Option.{unwrap_or}
use Rattle.std.specs.Str.Lines.{lines_of_parts}
use Rattle.rustc_lexer.specs.Character.{begins}
use Rattle.rustc_lexer.specs.Lexing.{tokens_of}
use Rattle.rustc_lexer.specs.Shebang.{begins_with_bracket, first_line}
use Rattle.program_files.specs.Sources.{line_length}

abbrev first : List (List ℕ) → List ℕ
first [] = []
first (x ∷ xs) = x

-- the first part of a list is no longer than the list
first_part : (p : ℕ → Bool) (xs : List ℕ) → length (first (slice_split p xs)) ≤ length xs
first_part p [] = omega (arith, nothing)
  where
    nothing : length (first (slice_split p [])) ≡ 0
    nothing = refl
first_part p (x ∷ xs) = go (p x) (slice_split p xs) (first_part p xs)
  where
    go : (b : Bool) (parts : List (List ℕ)) → length (first parts) ≤ length xs → length (first (cond b ([] ∷ parts) (onto_first x parts))) ≤ length (x ∷ xs)
    go true parts h = omega arith
    go false [] h = omega arith
    go false (part ∷ parts) h = omega (arith, h)

stripped : (l : List ℕ) (b : Bool) → length (if b then take (length l - 1) l else l) ≤ length l
stripped l true = omega (arith, length-take (length l - 1) l)
stripped l false = omega arith

-- the first line is no longer than the first part
first_of_lines : (parts : List (List ℕ)) → length (unwrap_or (slice_get (lines_of_parts parts) 0) []) ≤ length (first parts)
first_of_lines [] = omega arith
first_of_lines (x ∷ []) = go (length x == 0)
  where
    go : (b : Bool) → length (unwrap_or (slice_get (if b then [] else x ∷ []) 0) []) ≤ length x
    go true = omega arith
    go false = omega arith
first_of_lines (x ∷ y ∷ more) = stripped x (slice_index x (length x - 1) == 13)

line_within : (text : List ℕ) → length (first_line text) ≤ length text
line_within text = omega (arith, first_of_lines (slice_split (λ b. b == 10) text), first_part (λ b. b == 10) text)

-- a `#!` line is no longer than its text
pub within : (text : List ℕ) → line_length text ≤ length text
within [] = omega arith
within (a ∷ []) = go (a == 35)
  where
    go : (b : Bool) → unwrap_or (if (b && false) && not (begins_with_bracket (tokens_of (chars []))) then Some (2 + length (first_line [])) else None) 0 ≤ 1
    go true = omega arith
    go false = omega arith
within (a ∷ b ∷ rest) = go (begins "#!" (a ∷ b ∷ rest) && not (begins_with_bracket (tokens_of (chars rest))))
  where
    go : (c : Bool) → unwrap_or (if c then Some (2 + length (first_line rest)) else None) 0 ≤ length (a ∷ b ∷ rest)
    go true = omega (arith, line_within rest)
    go false = omega arith
