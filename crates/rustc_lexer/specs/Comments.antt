-- Comments, after the Rust Reference's chapter "Comments". Texts are lists of characters.
use Rattle.std.specs.Prelude.{ℕ, zero, suc, Bool, true, false, not, ◌||◌, ◌&&◌, ◌==◌, List, [], ◌∷◌, drop, Option, Some, None, if◌then◌else◌}
use Rattle.std.specs.List.{position_or_len}
use Rattle.rustc_lexer.specs.Character.{begins, is}
use Rattle.rustc_lexer.specs.Scanned.{Scanned, further}
use Rattle.rustc_lexer.specs.declared.token.DocStyle.{DocStyle}
use Rattle.rustc_lexer.specs.declared.token.DocStyle.TheVariants.{Outer, Inner}
use Rattle.rustc_lexer.specs.declared.token.TokenKind.{TokenKind}
use Rattle.rustc_lexer.specs.declared.token.TokenKind.TheVariants.{LineComment, BlockComment}

-- the doc style of a line comment: `//!` is inner, and `///` without a fourth slash is outer
abbrev pub line_style : List ℕ → Option DocStyle
line_style cs =
    if begins "//!" cs then Some Inner
    else if begins "///" cs && not (begins "////" cs) then Some Outer else None

-- a line comment extends up to the end of its line
abbrev pub line_comment : List ℕ → Scanned TokenKind
line_comment cs = record { value = LineComment (line_style cs); size = position_or_len (λ c. c == 10) cs }

-- a block comment's doc style: `/*!` is inner, `/**` outer, but `/***` and `/**/` are none
abbrev pub block_style : List ℕ → Option DocStyle
block_style cs =
    if begins "/*!" cs then Some Inner
    else if begins "/**" cs && not (begins "/***" cs || begins "/**/" cs) then Some Outer else None

-- the rest of a block comment in which so many others are open, up to and with its own `*/`: each
-- `/*` opens one more and each `*/` ends the innermost; or the whole text, if it isn't terminated
abbrev pub block_body : ℕ → List ℕ → Scanned Bool
block_body depth [] = record { value = false; size = 0 }
block_body depth (c ∷ []) = record { value = false; size = 1 }
block_body depth (c ∷ d ∷ cs) =
    elim (is "/" c && is "*" d) [
      | true ↦ further 2 (block_body (suc depth) cs)
      | false ↦ elim (is "*" c && is "/" d) [
        | true ↦ elim depth [ zero ↦ record { value = true; size = 2 } | suc outer ↦ further 2 (block_body outer cs) ]
        | false ↦ further 1 (block_body depth (d ∷ cs))
      ]
    ]

-- a block comment: `/*` and the rest
abbrev pub block_comment : List ℕ → Scanned TokenKind
block_comment cs =
    let body : Scanned Bool = further 2 (block_body 0 (drop 2 cs)) in
    record { value = BlockComment (block_style cs) body.value; size = body.size }
