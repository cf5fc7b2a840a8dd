use Rattle.std.proofs.Common.{◌<◌, ◌^◌, ◌≡◌, ap, chars, length, refl, subst, sym, true, ◌∙◌, IsUtf8, Some}
use Rattle.std.proofs.lemmas.Bool.{and_parts}
use Rattle.tt_data.specs.Lent.{ident_lent}
use Rattle.rustc_lexer.specs.Ascii.{are_ascii}
use Rattle.rustc_lexer.specs.Character.{is_ident}
use Rattle.bridge.proofs.FastSpellingLemmas.{name_spelled}
use Rattle.bridge.proofs.printing.fast_spelling.ascii_name.Goals as goal

pub returns-then-is_ascii_ident : goal.returns-then-is_ascii_ident
returns-then-is_ascii_ident c =
    let i = ident_lent c.args.ident in
    let same = c.as_str-name.ensures in
    let utf8 : IsUtf8 i.sym = subst IsUtf8 same c.as_str-name.utf8 in
    let named : is_ident (chars c.as_str-name.result.now) ≡ true = (and_parts _ (are_ascii c.as_str-name.result.now) (sym c.if-is_ascii_ident.ensures)).0 in
    let is : is_ident (chars i.sym) ≡ true = ap (λ t. is_ident (chars t)) (sym same) ∙ named in
    let short : length i.sym < 2 ^ 32 = subst (λ t. length t < 2 ^ 32) same (c.if-is_short.ensures.0 refl) in
    name_spelled i (c.if-no.ensures.0 refl) utf8 short is (c.token_lengths.ensures.whole i.sym utf8) (c.one_identifier.ensures (chars i.sym) is) ∙ ap Some (sym same)
