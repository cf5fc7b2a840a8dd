use Rattle.std.proofs.Common.{◌<◌, ◌^◌, ◌≡◌, chars, length, refl, rules, sym, true, ◌∙◌, IsUtf8, Some}
use Rattle.tt_data.specs.Lent.{ident_lent}
use Rattle.rustc_lexer.specs.Character.{is_ident}
use Rattle.bridge.specs.Spelling.{root_name}
use Rattle.bridge.proofs.FastSpellingLemmas.{root_spelled}
use Rattle.bridge.proofs.printing.fast_spelling.root_text.Goals as goal

pub returns-then-is_ident : goal.returns-then-is_ident
returns-then-is_ident c =
    let i = ident_lent c.args.ident in
    let name = c.in_ok-name.name.now in
    let named : Some name ≡ root_name i = search rules in
    let utf8 : IsUtf8 name = search rules in
    let is : is_ident (chars name) ≡ true = sym c.is_ident.ensures ∙ c.if-is_ident.true in
    let short : length name < 2 ^ 32 = c.if-is_short.ensures.0 refl in
    root_spelled i name named utf8 short is (c.token_lengths.ensures.whole name utf8) (c.one_identifier.ensures (chars name) is)
