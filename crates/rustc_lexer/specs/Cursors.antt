-- What a cursor over a text has left, and how its calls change that. Texts are lists of bytes.
use Rattle.std.specs.Prelude.{ℕ, ◌+◌, Bool, ◌==◌, List, take, drop, length, chars, Option, Some, None, if◌then◌else◌}
use Rattle.rustc_lexer.specs.Character.{utf8_len}
use Rattle.rustc_lexer.specs.Lexeme.{Lexeme, lexeme}
use Rattle.rustc_lexer.specs.Literals.{hashes, guarded_string}
use Rattle.rustc_lexer.specs.Scanned.{Scanned}
use Rattle.rustc_lexer.specs.declared.token.Token.{Token}
use Rattle.rustc_lexer.specs.declared.token.TokenKind.{TokenKind}
use Rattle.rustc_lexer.specs.declared.token.TokenKind.TheVariants.{Literal, Eof}
use Rattle.rustc_lexer.specs.declared.token.GuardedStr.{GuardedStr}

-- the text that a cursor has left, and how many bytes before it count in the next token
pub record Unread : Type 0 where
  pub rest : List ℕ
  pub pending : ℕ

-- the offset of a literal's suffix, and 0 for any other kind
abbrev pub suffix_of : TokenKind → ℕ
suffix_of (Literal kind suffix_start) = suffix_start
suffix_of kind = 0

-- a token's kind, so many bytes before its lexeme: a literal's suffix starts that much later
abbrev pub later_suffix : ℕ → TokenKind → TokenKind
later_suffix pending (Literal kind suffix_start) = Literal kind (pending + suffix_start)
later_suffix pending kind = kind

-- how many bytes the first n characters of the text have
abbrev pub bytes_of : ℕ → List ℕ → ℕ
bytes_of n text = utf8_len (take n (chars text))

-- the next token: the first lexeme left with the bytes that count in it; or the end, of length 0
abbrev pub next_token : Unread → Token
next_token u =
    if length u.rest == 0 then record { kind = Eof; len = 0 }
    else
    (let w : Lexeme = lexeme (chars u.rest) in
    record { kind = later_suffix u.pending w.value; len = u.pending + bytes_of w.size u.rest })

-- what is left after the next token
abbrev pub past_token : Unread → Unread
past_token u =
    if length u.rest == 0 then u
    else record { rest = drop (bytes_of (lexeme (chars u.rest)).size u.rest) u.rest; pending = 0 }

-- the answer for a guarded string: its hashes, whether it is terminated, and its length in bytes
abbrev pub guarded_of : ℕ → ℕ → ℕ → Option Bool → Option GuardedStr
guarded_of n pending len None = None
guarded_of n pending len (Some terminated) = Some (record { n_hashes = n; terminated = terminated; token_len = pending + len })

abbrev pub next_guarded : Unread → Option GuardedStr
next_guarded u =
    let s : Scanned (Option Bool) = guarded_string (chars u.rest) in
    guarded_of (hashes (chars u.rest)).size u.pending (bytes_of s.size u.rest) s.value

-- the bytes that count in the next token after it: the hashes, if there was no guarded string
abbrev pub pending_past : ℕ → Option Bool → ℕ
pending_past taken None = taken
pending_past taken (Some terminated) = 0

abbrev pub past_guarded : Unread → Unread
past_guarded u =
    let s : Scanned (Option Bool) = guarded_string (chars u.rest) in
    record {
      rest = drop (bytes_of s.size u.rest) u.rest;
      pending = pending_past (u.pending + bytes_of s.size u.rest) s.value;
    }
