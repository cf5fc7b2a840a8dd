-- All tokens of the text are left, from its first byte on.
use Rattle.std.proofs.Common.{◌≡◌, ◌≤◌, ap, chars, length, subst, sym, ◌∙◌, arith}
use Rattle.std.specs.Prelude.{All}
use Rattle.rustc_lexer.specs.Lexing.{tokens_of}
use Rattle.rustc_lexer.specs.Remaining.{tokens_left}
use Rattle.rustc_lexer.specs.declared.token.Token.{Token}
use Rattle.bridge.specs.TokenShares.{token_ranges_from}
use Rattle.bridge.proofs.RangeLemmas.{text_ranges, total}
use Rattle.bridge.proofs.printing.token_ranges.token_ranges.Goals as goal

pub returns : goal.returns
returns c =
    ap (token_ranges_from 0) c.tokenize.ensures ∙ text_ranges c.args.text.now (c.token_lengths.ensures.whole c.args.text.now c.utf8.text)

pub invariant_of-result : goal.invariant_of-result
invariant_of-result c =
    let text = c.args.text.now in
    let whole : total (tokens_of (chars text)) ≡ length text = c.token_lengths.ensures.whole text c.utf8.text in
    let same : total (tokens_left c.tokenize.result) ≡ total (tokens_of (chars text)) = ap total c.tokenize.ensures in (
      tt,
      omega arith,
      omega (arith, same, whole, c.requires),
      subst (All (λ (t : Token). 1 ≤ t.len)) (sym c.tokenize.ensures) (c.token_lengths.ensures.positive text c.utf8.text),
    )
