use Rattle.std.proofs.Common.{◌+◌, ◌<◌, ◌^◌, ◌≡◌, [], ap, arith, length, rules, subst, sym, true, ◌∙◌}
use Rattle.std.proofs.lemmas.List.{nil_from_length}
use Rattle.std.specs.List.{list_all}
use Rattle.tt_data.specs.Lent.{literal_lent}
use Rattle.tt_data.specs.declared.leaf.LitKind.TheVariants as form
use Rattle.bridge.proofs.FastSpellingLemmas.{string_spelled}
use Rattle.bridge.specs.FastSpellings.{is_plain_byte}
use Rattle.bridge.proofs.printing.fast_spelling.is_plain_string.Goals as goal

pub returns-then-text : goal.returns-then-text
returns-then-text c = λ told.
    let l = literal_lent c.args.literal in
    let same = c.text_and_suffix.ensures.text in
    let string : l.kind ≡ form.Str = search rules in
    let none : l.suffix ≡ [] = sym c.text_and_suffix.ensures.suffix ∙ nil_from_length c.text_and_suffix.result.1.now (search rules) in
    let short : length l.text + 2 < 2 ^ 32 = omega (arith, ap length same, c.if-text.true) in
    let plain : list_all is_plain_byte l.text ≡ true = subst (λ t. list_all is_plain_byte t ≡ true) same (c.stands_for_itself.ensures told) in
    string_spelled l string none short plain c.token_lengths.ensures.whole c.one_string.ensures
