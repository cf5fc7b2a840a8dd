-- The faults of a raw string, after the Reference's chapter "Tokens". Texts are lists of characters
use Rattle.std.specs.Prelude.{ℕ, ◌+◌, max, ◌&&◌, ◌==◌, nat_le, ⊤, List, [], ◌∷◌, drop, Option, Some, None, Result, Ok, Err, if◌then◌else◌}
use Rattle.std.specs.List.{prefix_len}
use Rattle.rustc_lexer.specs.Character.{char_at, is, utf8_len}
use Rattle.rustc_lexer.specs.Literals.{hashes, raw_body}
use Rattle.rustc_lexer.specs.declared.raw_str.RawStrError.{RawStrError}
use Rattle.rustc_lexer.specs.declared.raw_str.RawStrError.TheVariants.{InvalidStarter, NoTerminator, TooManyDelimiters}

-- the most hashes that follow a `"`
abbrev pub most_hashes : List ℕ → ℕ
most_hashes [] = 0
most_hashes (c ∷ cs) = if is "\"" c then max (prefix_len (is "#") cs) (most_hashes cs) else most_hashes cs

-- the characters up to and with the first `"` that k hashes follow, no more and no fewer
abbrev pub up_to_quote : ℕ → List ℕ → List ℕ
up_to_quote k [] = []
up_to_quote k (c ∷ cs) = if is "\"" c && (prefix_len (is "#") cs == k) then c ∷ [] else c ∷ up_to_quote k cs

-- where the end may have been meant: right after the first `"` that `found` hashes follow, in
-- bytes, after `start` bytes; nowhere, if no hash follows a `"`
abbrev pub possible_end : ℕ → ℕ → List ℕ → Option ℕ
possible_end start found cs = if found == 0 then None else Some (start + utf8_len (up_to_quote found cs))

-- a body that a `"` and n hashes have to end, after `start` bytes: it is terminated, or the most
-- hashes that follow a `"` are too few
abbrev pub body_validity : ℕ → ℕ → List ℕ → Result ⊤ RawStrError
body_validity start n cs =
    let found : ℕ = most_hashes cs in
    if (raw_body n cs).value then Ok tt else Err (NoTerminator n found (possible_end start found cs))

-- a terminated form has at most 255 hashes
abbrev pub hashes_validity : ℕ → Result ⊤ RawStrError
hashes_validity n = if nat_le n 255 then Ok tt else Err (TooManyDelimiters n)

-- the first fault, if there is one, else the second
abbrev pub first_fault : Result ⊤ RawStrError → Result ⊤ RawStrError → Result ⊤ RawStrError
first_fault (Err e) other = Err e
first_fault (Ok _) other = other

-- a raw string after its prefix of p characters, the last of which is the `r`: n hashes, a `"`,
-- and a body that a `"` and n hashes end; the prefix counts p bytes
abbrev pub validity : ℕ → List ℕ → Result ⊤ RawStrError
validity p cs =
    let form : List ℕ = drop p cs in
    let n : ℕ = (hashes form).size in
    if is "\"" (char_at form n) then first_fault (body_validity (p + n + 1) n (drop 1 (drop n form))) (hashes_validity n)
    else Err (InvalidStarter (char_at form n))
