use Rattle.std.proofs.Common.{ap, chars, drop, ◌∙◌}
use Rattle.std.proofs.lemmas.List.{drop-drop}
use Rattle.rustc_lexer.specs.Character.{identifier_len}
use Rattle.rustc_lexer.specs.declared.token.TokenKind.TheVariants.{Literal}
use Rattle.rustc_lexer.proofs.ReadLemmas.{bytes_read}
use Rattle.rustc_lexer.proofs.literal.with_suffix.Goals as goal

pub returns : goal.returns
returns c = λ n e.
    let cs = chars c.args.text.now in
    record {
      value = ap (Literal c.args.kind) (bytes_read _ _ n _ c.utf8.text c.utf8.rest e c.bytes_before-suffix_start.ensures);
      rest = c.skip_identifier.ensures ∙ ap (λ xs. drop (identifier_len xs) xs) e ∙ drop-drop (identifier_len (drop n cs)) n cs;
      utf8 = c.skip_identifier.utf8;
    }
