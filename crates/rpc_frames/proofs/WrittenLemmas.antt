-- What is written reads back. (For the law `frames_read_back`.)
use Rattle.std.proofs.Common.{◌≡◌, ◌∙◌, ℕ, ◌+◌, ◌-◌, ◌*◌, ◌<◌, ◌≤◌, Bool, true, false, if◌then◌else◌, List, [], ◌∷◌, ◌++◌, codes, length, nat_eq, nat_le, refl, ap, arith, append_assoc, length-append, Option, Some, None}
use Rattle.std.specs.Prelude.{decimal}
use Rattle.std.specs.Char.{digit_value, is_ascii_digit}
use Rattle.std.specs.Str.Parse.{AllDigits, IsNumeral, digits_value, digits_value_after}
use Rattle.std.proofs.lemmas.Fmt.{decimal_is_IsNumeral}
use Rattle.std.proofs.lemmas.Str.{digit_value_digit}
use Rattle.std.proofs.lemmas.Str.Parse.{digit_from_value}
use Rattle.rpc_frames.specs.Frames.{Frame, IsFrame, bytes_of, empty_line, framed, head_end, max_body, number_from, number_in}

-- a digit: its code, which is none of a line's end or a blank
record IsDigitCode (d : ℕ) : Type 0 where
  pub low : 48 ≤ d
  pub high : d ≤ 57
  pub value : digit_value d + 48 ≡ d

digit_code : (d : ℕ) → digit_value d < 10 → IsDigitCode d
digit_code d small =
    let range = digit_from_value d small in
    let value : digit_value d + 48 ≡ d = digit_value_digit d range in
    record { low = omega (arith, value); high = omega (arith, value, small); value = value }

-- more digits write no smaller number
grows : (n : ℕ) (ds : List ℕ) → n ≤ digits_value_after 10 n ds
grows n [] = omega arith
grows n (d ∷ ds) = omega (arith, grows (n * 10 + digit_value d) ds)

-- digits up to a line's end are read as their number
number_of_digits : (n : ℕ) (ds rest : List ℕ) → AllDigits 10 ds
    → digits_value_after 10 n ds ≤ max_body
    → number_from n (ds ++ (13 ∷ rest)) ≡ Some (digits_value_after 10 n ds)
number_of_digits n [] rest digits small = refl
number_of_digits n (d ∷ ds) rest digits small =
    let code = digit_code d digits.0 in
    let same : n * 10 + (d - 48) ≡ n * 10 + digit_value d = omega (arith, code.value) in
    let more : number_from (n * 10 + digit_value d) (ds ++ (13 ∷ rest))
    ≡ Some (digits_value_after 10 (n * 10 + digit_value d) ds) =
    number_of_digits (n * 10 + digit_value d) ds rest digits.1 small in
    let other : nat_eq d 13 ≡ false = grind (arith, code.low) in
    let digit : is_ascii_digit d ≡ true = grind (arith, code.low, code.high) in
    let fits : nat_le (n * 10 + digit_value d) max_body ≡ true =
    grind (arith, grows (n * 10 + digit_value d) ds, small) in
    rw (other, digit, same, fits) more

-- no empty line begins within digits
end_of_digits : (at : ℕ) (ds : List ℕ) → AllDigits 10 ds
    → head_end at (ds ++ empty_line) ≡ Some (at + length ds + 4)
end_of_digits at [] digits = ap (λ (n : ℕ). Some n) (omega arith)
end_of_digits at (d ∷ ds) digits =
    let code = digit_code d digits.0 in
    let other : nat_eq 13 d ≡ false = grind (arith, code.low) in
    rw other (end_of_digits (at + 1) ds digits.1 ∙ ap (λ (n : ℕ). Some n) (omega arith))

-- a number is read where a digit comes first
chosen : (b : Bool) (n m : Option ℕ) → b ≡ true → (if b then n else m) ≡ n
chosen b n m is = rw is refl

-- the number of a field whose digits are these
number_of_field : (ds : List ℕ) → IsNumeral 10 ds → digits_value 10 ds ≤ max_body
    → number_in (32 ∷ (ds ++ empty_line)) ≡ Some (digits_value 10 ds)
number_of_field [] numeral small = absurd (omega (arith, numeral.0))
number_of_field (d ∷ ds) numeral small =
    let code = digit_code d numeral.1.0 in
    let other : nat_eq d 32 ≡ false = grind (arith, code.low) in
    let digit : is_ascii_digit d ≡ true = grind (arith, code.low, code.high) in
    rw other (chosen (is_ascii_digit d) (number_from 0 ((d ∷ ds) ++ empty_line)) None digit
    ∙ number_of_digits 0 (d ∷ ds) (10 ∷ 13 ∷ 10 ∷ []) numeral.1 small)

-- a body of at most 256 MB is framed so that it is read
pub frame_written : (body : List ℕ) → length body ≤ max_body
    → (f : Frame) × IsFrame f × (f.body ≡ body) × (bytes_of f ≡ framed body)
frame_written body small =
    let numeral = decimal_is_IsNumeral (length body) (omega (arith, small)) in
    let ds : List ℕ = decimal (length body) in
    let ends : head_end 16 (ds ++ empty_line) ≡ Some (16 + length (ds ++ empty_line)) =
    end_of_digits 16 ds numeral.0.1
    ∙ ap (λ (n : ℕ). Some n) (rw length-append omega arith) in
    let says : number_in (32 ∷ (ds ++ empty_line)) ≡ Some (length body) =
    number_of_field ds numeral.0 (omega (arith, numeral.1, small))
    ∙ ap (λ (n : ℕ). Some n) numeral.1 in (
      record { head = codes "Content-Length: " ++ (ds ++ empty_line); body = body },
      record { ends = ends ∙ ap (λ (n : ℕ). Some n) (omega arith); says = says },
      refl,
      ap (λ (rest : List ℕ). codes "Content-Length: " ++ rest) (append_assoc ds empty_line body),
    )
