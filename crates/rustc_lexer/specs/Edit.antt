-- What an edit of a text keeps of its tokens. Texts are lists of bytes, and offsets are in bytes.
use Rattle.std.specs.Prelude.{ℕ, ◌+◌, ◌-◌, Bool, ◌&&◌, ◌==◌, nat_le, List, [], ◌∷◌, ◌++◌, length, take, drop, get_or, chars}
use Rattle.std.specs.List.{prefix_len, position_or_len, list_any}
use Rattle.rustc_lexer.specs.Lexing.{look_ahead, tokens_of}
use Rattle.rustc_lexer.specs.declared.relex.Kept.{Kept}
use Rattle.rustc_lexer.specs.declared.token.Token.{Token}

-- the text, with the replacement in place of its bytes from `start` to `stop`
abbrev pub edited : List ℕ → ℕ → ℕ → List ℕ → List ℕ
edited text start stop replacement = take start text ++ (replacement ++ drop stop text)

-- the offsets at which the tokens end, the first of which begins at `at`
abbrev pub ends_from : ℕ → List Token → List ℕ
ends_from at [] = []
ends_from at (t ∷ ts) = (at + t.len) ∷ ends_from (at + t.len) ts

-- the boundaries of these tokens: where they begin, and where they end
abbrev pub boundaries_from : ℕ → List Token → List ℕ
boundaries_from at ts = at ∷ ends_from at ts

-- the boundaries of a text: 0, and the offsets at which its tokens end
abbrev pub boundaries : List ℕ → List ℕ
boundaries text = boundaries_from 0 (tokens_of (chars text))

-- the tokens up to `at` depend on nothing from `start` on: the text has at least two characters
-- from `at` to `start`, besides the hashes that go on with a run at `at`
abbrev pub is_clear_of : List ℕ → ℕ → ℕ → Bool
is_clear_of text start at =
    let between : List ℕ = chars (take (start - at) (drop at text)) in
    nat_le (look_ahead (chars (take at text)) between) (length between)

-- how many tokens end clear of `start`
abbrev pub front_of : List ℕ → ℕ → ℕ
front_of text start = prefix_len (is_clear_of text start) (ends_from 0 (tokens_of (chars text)))

-- an edit moves offset `at` to this one: `at` is not before `stop`, which is moved to `moved`
abbrev pub moves_to : ℕ → ℕ → ℕ → ℕ → Bool
moves_to stop moved place at = nat_le stop at && (at - stop + moved == place)

-- an edit moves a boundary of the text to this offset
abbrev pub is_moved_boundary : List ℕ → ℕ → ℕ → ℕ → Bool
is_moved_boundary text stop moved place = list_any (moves_to stop moved place) (boundaries text)

-- what an edit keeps: the tokens that end clear of `start`; then lexing
-- goes on, up to the first boundary of the new text that is a moved boundary of the old; and the
-- old tokens after this one
abbrev pub kept : List ℕ → ℕ → ℕ → List ℕ → Kept
kept text start stop replacement =
    let new : List ℕ = boundaries (edited text start stop replacement) in
    let moved : ℕ = start + length replacement in
    let front : ℕ = front_of text start in
    let lexed : ℕ = position_or_len (is_moved_boundary text stop moved) (drop front new) in
    let met : ℕ = position_or_len (moves_to stop moved (get_or new (front + lexed) 0)) (boundaries text) in
    record { front = front; lexed = lexed; back = length (drop met (tokens_of (chars text))) }
