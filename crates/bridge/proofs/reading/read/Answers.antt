-- All tokens are a part of the text.
use Rattle.std.proofs.Common.{sym, subst}
use Rattle.std.specs.Prelude.{IfErr, IfOk}
use Rattle.rustc_lexer.specs.TokensAt.{AreTokensFrom}
use Rattle.bridge.specs.ReadText.{IsRead, IsReadRefusal}
use Rattle.bridge.proofs.PartLemmas.{whole_text}
use Rattle.bridge.proofs.reading.read.Goals as goal

pub read_first-requires-clause-tokens : goal.read_first-requires-clause-tokens
read_first-requires-clause-tokens c =
    subst (AreTokensFrom c.args.text.now 0) (sym c.requires.tokens) (c.tokens_begin.ensures c.args.text.now c.utf8.text)

pub returns-clause-read : goal.returns-clause-read
returns-clause-read c =
    subst (λ steps. IfOk c.read_first.result (IsRead steps)) (whole_text c.args.text.now c.args.tokens.now c.requires.tokens) c.read_first.ensures.read

pub returns-clause-refused : goal.returns-clause-refused
returns-clause-refused c =
    subst (λ steps. IfErr c.read_first.result (IsReadRefusal steps)) (whole_text c.args.text.now c.args.tokens.now c.requires.tokens) c.read_first.ensures.refused
