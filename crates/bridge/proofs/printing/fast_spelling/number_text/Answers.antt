use Rattle.std.proofs.Common.{◌<◌, ◌^◌, ◌≡◌, ◌≢◌, [], ap, length, refl, rules, subst, sym, true, ◌∙◌, Some}
use Rattle.std.proofs.lemmas.List.{nil_from_length}
use Rattle.std.specs.List.{list_all}
use Rattle.rustc_lexer.specs.Character.{is_digit}
use Rattle.tt_data.specs.Lent.{literal_lent}
use Rattle.tt_data.specs.declared.leaf.LitKind.TheVariants as form
use Rattle.bridge.proofs.FastSpellingLemmas.{number_spelled}
use Rattle.bridge.proofs.printing.fast_spelling.number_text.Goals as goal

pub returns-then-has_digits_alone : goal.returns-then-has_digits_alone
returns-then-has_digits_alone c =
    let l = literal_lent c.args.literal in
    let same = c.text_and_suffix.ensures.text in
    let number : l.kind ≡ form.Integer = search rules in
    let none : l.suffix ≡ [] = sym c.text_and_suffix.ensures.suffix ∙ nil_from_length c.text_and_suffix.result.1.now (search rules) in
    let some : l.text ≢ [] = search rules in
    let short : length l.text < 2 ^ 32 = subst (λ t. length t < 2 ^ 32) same (c.if-is_short.ensures.0 refl) in
    let digits : list_all is_digit l.text ≡ true = subst (λ t. list_all is_digit t ≡ true) same (c.if-has_digits_alone.ensures refl) in
    number_spelled l number none short some digits c.token_lengths.ensures.whole c.one_number.ensures ∙ ap Some (sym same)
