-- Numbers, after the Rust Reference's chapter "Tokens". Texts are lists of characters.
use Rattle.std.specs.Prelude.{ℕ, ◌+◌, Bool, true, false, not, ◌||◌, ◌&&◌, List, take, drop, if◌then◌else◌}
use Rattle.std.specs.List.{prefix_len, list_any}
use Rattle.rustc_lexer.specs.Character.{char_at, begins, is, is_digit, is_hex_digit, is_id_start}
use Rattle.rustc_lexer.specs.Scanned.{Scanned, further}
use Rattle.rustc_lexer.specs.declared.token.Base.{Base}
use Rattle.rustc_lexer.specs.declared.token.Base.TheVariants.{Binary, Octal, Decimal, Hexadecimal}
use Rattle.rustc_lexer.specs.declared.token.LiteralKind.{LiteralKind}
use Rattle.rustc_lexer.specs.declared.token.LiteralKind.TheVariants.{Int, Float}

-- a run of digits and `_`, and whether it has a digit
abbrev pub run : (ℕ → Bool) → List ℕ → Scanned Bool
run digit cs =
    let n : ℕ = prefix_len (λ c. digit c || is "_" c) cs in
    record { value = list_any digit (take n cs); size = n }

-- the length of a sign, if there is one
abbrev pub sign_len : List ℕ → ℕ
sign_len cs = if is "+" (char_at cs 0) || is "-" (char_at cs 0) then 1 else 0

-- an exponent begins with the character
abbrev pub is_exponent_mark : ℕ → Bool
is_exponent_mark c = is "e" c || is "E" c

-- what follows the `e` of an exponent: a sign and a run
abbrev pub exponent : Base → List ℕ → Scanned LiteralKind
exponent base cs =
    let digits : Scanned Bool = run is_digit (drop (sign_len cs) cs) in
    record { value = Float base (not digits.value); size = sign_len cs + digits.size }

-- what follows the digits behind a point
abbrev pub after_fraction : Base → List ℕ → Scanned LiteralKind
after_fraction base cs =
    if is_exponent_mark (char_at cs 0) then further 1 (exponent base (drop 1 cs))
    else record { value = Float base false; size = 0 }

-- what follows a point: digits, if there is one
abbrev pub fraction : Base → List ℕ → Scanned LiteralKind
fraction base cs =
    let digits : ℕ = (run is_digit cs).size in
    if is_digit (char_at cs 0) then further digits (after_fraction base (drop digits cs))
    else record { value = Float base false; size = 0 }

-- a point that belongs to the number comes first: no second point and no identifier follows it
abbrev pub begins_fraction : List ℕ → Bool
begins_fraction cs = begins "." cs && not (is "." (char_at cs 1) || is_id_start (char_at cs 1))

-- what follows the first run of a number
abbrev pub after_run : Base → List ℕ → Scanned LiteralKind
after_run base cs =
    if begins_fraction cs then further 1 (fraction base (drop 1 cs))
    else if is_exponent_mark (char_at cs 0) then further 1 (exponent base (drop 1 cs))
    else record { value = Int base false; size = 0 }

-- a digit after a base's prefix: any decimal one, or a hexadecimal one after that base's
abbrev pub digit_of : Base → ℕ → Bool
digit_of Hexadecimal = is_hex_digit
digit_of base = is_digit

-- what follows the prefix of a base: a run, after which the number ends if it has no digit
abbrev pub based : Base → (ℕ → Bool) → List ℕ → Scanned LiteralKind
based base digit cs =
    let digits : Scanned Bool = run digit cs in
    if digits.value then further digits.size (after_run base (drop digits.size cs))
    else record { value = Int base true; size = digits.size }

-- a number without a prefix
abbrev pub decimal : List ℕ → Scanned LiteralKind
decimal cs =
    let digits : ℕ = (run is_digit cs).size in
    further digits (after_run Decimal (drop digits cs))

-- a number, without its suffix
abbrev pub number : List ℕ → Scanned LiteralKind
number cs =
    if begins "0b" cs then further 2 (based Binary is_digit (drop 2 cs))
    else if begins "0o" cs then further 2 (based Octal is_digit (drop 2 cs))
    else if begins "0x" cs then further 2 (based Hexadecimal is_hex_digit (drop 2 cs))
    else decimal cs
