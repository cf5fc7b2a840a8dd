-- Bodies and suffixes of literals, after the Reference's "Tokens". Texts are lists of characters.
use Rattle.std.specs.Prelude.{ℕ, ◌+◌, Bool, true, false, not, ◌||◌, ◌&&◌, ◌==◌, nat_le, List, [], ◌∷◌, length, take, drop, min, Option, Some, None, if◌then◌else◌}
use Rattle.std.specs.List.{prefix_len}
use Rattle.rustc_lexer.specs.Character.{char_at, begins, is, utf8_len, identifier_len}
use Rattle.rustc_lexer.specs.Scanned.{Scanned, further}
use Rattle.rustc_lexer.specs.declared.token.LiteralKind.{LiteralKind}
use Rattle.rustc_lexer.specs.declared.token.TokenKind.{TokenKind}
use Rattle.rustc_lexer.specs.declared.token.TokenKind.TheVariants.{Literal}

-- the first n characters are a literal of the kind, and an identifier that follows is its suffix
abbrev pub with_suffix : LiteralKind → ℕ → List ℕ → Scanned TokenKind
with_suffix kind n cs = record { value = Literal kind (utf8_len (take n cs)); size = n + identifier_len (drop n cs) }

-- the first n characters are a literal of the kind, without a suffix
abbrev pub bare : LiteralKind → ℕ → List ℕ → Scanned TokenKind
bare kind n cs = record { value = Literal kind (utf8_len (take n cs)); size = n }

-- only a whole literal has a suffix
abbrev pub literal : Bool → LiteralKind → ℕ → List ℕ → Scanned TokenKind
literal whole kind n cs = if whole then with_suffix kind n cs else bare kind n cs

-- the rest of a character literal, up to and with the next `'`, where `\` takes the next
-- character along; it isn't terminated if the text ends first, or before a `/`, or before a line
-- feed without a `'` after it: no rule of the Reference, but rustc's recovery from a missing
-- quote
abbrev pub quoted_rest : List ℕ → Scanned Bool
quoted_rest [] = record { value = false; size = 0 }
quoted_rest (c ∷ []) =
    if is "'" c then record { value = true; size = 1 }
    else if is "/" c || c == 10 then record { value = false; size = 0 }
    else record { value = false; size = 1 }
quoted_rest (c ∷ d ∷ cs) =
    if is "'" c then record { value = true; size = 1 }
    else if is "/" c || (c == 10 && not (is "'" d)) then record { value = false; size = 0 }
    else if is "\\" c then further 2 (quoted_rest cs)
    else further 1 (quoted_rest (d ∷ cs))

-- what follows the first `'`: one character but `\` and then a `'`, or what `quoted_rest` has
abbrev pub quoted_body : List ℕ → Scanned Bool
quoted_body cs =
    if is "'" (char_at cs 1) && not (begins "\\" cs) then record { value = true; size = 2 } else quoted_rest cs

-- what follows the first `"` of a string: up to and with the next `"`, where `\` takes the next
-- character along; or the whole text, if it isn't terminated
abbrev pub string_body : List ℕ → Scanned Bool
string_body [] = record { value = false; size = 0 }
string_body (c ∷ []) = record { value = is "\"" c; size = 1 }
string_body (c ∷ d ∷ cs) =
    if is "\"" c then record { value = true; size = 1 }
    else if is "\\" c then further 2 (string_body cs)
    else further 1 (string_body (d ∷ cs))

-- a character of a string that is neither a `"` nor a `\`
abbrev pub stands_for_itself : ℕ → Bool
stands_for_itself c = not (is "\"" c) && not (is "\\" c)

-- the characters of a string that mean these: each `"` and each `\` has a `\` before it
abbrev pub with_escapes : List ℕ → List ℕ
with_escapes [] = []
with_escapes (c ∷ cs) = if stands_for_itself c then c ∷ with_escapes cs else 92 ∷ (c ∷ with_escapes cs)

-- what follows the first `"` of a raw string: up to and with the first `"` that n hashes follow,
-- and these; or the whole text, if it isn't terminated
abbrev pub raw_body : ℕ → List ℕ → Scanned Bool
raw_body n [] = record { value = false; size = 0 }
raw_body n (c ∷ cs) =
    if is "\"" c && nat_le n (prefix_len (is "#") cs) then record { value = true; size = 1 + n } else further 1 (raw_body n cs)

-- the hashes at the front, and their number
abbrev pub hashes : List ℕ → Scanned ℕ
hashes cs = record { value = prefix_len (is "#") cs; size = prefix_len (is "#") cs }

-- the number of hashes, if a raw string is whole: terminated, with at most 255
abbrev pub hashes_of : Bool → ℕ → Option ℕ
hashes_of terminated n = if terminated && nat_le n 255 then Some n else None

-- what follows the `r` of a raw string: hashes, and a body in quotes; if no quote follows the
-- hashes, the next character ends it
abbrev pub raw_form : List ℕ → Scanned (Option ℕ)
raw_form cs =
    let n : ℕ = (hashes cs).size in
    let body : Scanned Bool = further 1 (raw_body n (drop 1 (drop n cs))) in
    if is "\"" (char_at cs n) then further n (record { value = hashes_of body.value n; size = body.size })
    else further n (record { value = None; size = length (take 1 (drop n cs)) })

-- a string after n hashes, from its quote on, with at most n hashes after its body: n, if it is
-- whole: terminated, with n hashes after it and no more than 255
abbrev pub guarded_form : ℕ → List ℕ → Scanned (Option ℕ)
guarded_form n cs =
    let body : Scanned Bool = further 1 (string_body (drop 1 cs)) in
    let closing : ℕ = min n (hashes (drop body.size cs)).size in
    record { value = hashes_of (body.value && (closing == n)) n; size = body.size + closing }

-- what follows the body of a string after n hashes: at most n hashes, and a suffix
abbrev pub guard_end : ℕ → List ℕ → ℕ
guard_end n cs =
    let closing : ℕ = min n (hashes cs).size in closing + identifier_len (drop closing cs)

-- a string after n hashes, from its quote on: whether it is terminated, and its length
abbrev pub guarded_body : ℕ → List ℕ → Scanned Bool
guarded_body n cs =
    let body : Scanned Bool = further 1 (string_body (drop 1 cs)) in
    record {
      value = body.value;
      size = if body.value then body.size + guard_end n (drop body.size cs) else body.size;
    }

-- what a cursor takes for a guarded string: all hashes at the front and the string after them,
-- or the hashes alone
abbrev pub guarded_string : List ℕ → Scanned (Option Bool)
guarded_string cs =
    let n : ℕ = (hashes cs).size in
    let body : Scanned Bool = further n (guarded_body n (drop n cs)) in
    if is "\"" (char_at cs n) then record { value = Some body.value; size = body.size }
    else record { value = None; size = n }
