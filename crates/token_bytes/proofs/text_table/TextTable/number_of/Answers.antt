-- A text whose class was not met is new, and one that stands where the class was met last has its place.
use Rattle.std.proofs.Common.{◌≡◌, ◌∙◌, ◌-◌, ◌%◌, ◌<◌, ℕ, [], ap, sym, arith, length, get_or}
use Rattle.std.proofs.lemmas.List.{get_or_read}
use Rattle.std.specs.Cmp.Lexicographic.{bytes_decides}
use Rattle.token_bytes.specs.Numbers.{class_at, class_of}
use Rattle.token_bytes.proofs.TableLemmas.{number_absent, number_there}
use Rattle.token_bytes.proofs.text_table.TextTable.number_of.Goals as goal

pub returns-then-count-eq0 : goal.returns-then-count-eq0
returns-then-count-eq0 c =
    let text = c.args.text.now in
    let table = c.args.self.now.texts.items in
    let recent = c.args.self.now.recent in
    let class : c.recent_class.result ≡ class_of 64 text = c.recent_class.ensures.class ∙ ap (λ m. m % 64) c.requires.mix in
    let none : (i : ℕ) → get_or table i [] ≡ text → get_or recent (class_at 64 table i) 0 ≡ 0 =
    λ i is. ap (λ k. get_or recent k 0) (ap (class_of 64) is ∙ sym class) ∙ c.if-count-eq0.true in
    ap length c.as_slice-texts.ensures.value
    ∙ sym (number_absent text table (λ i below is. omega (arith, c.requires.numbered.met i below, none i is)))

pub returns-then-eq : goal.returns-then-eq
returns-then-eq c =
    let text = c.args.text.now in
    let table = c.args.self.now.texts.items in
    let texts = c.as_slice-texts.result.now in
    let x = c.index-texts-count.result in
    let at : ℕ = get_or c.args.self.now.recent c.recent_class.result 0 - 1 in
    let below : at < length texts = omega (arith, c.if-count-eq0.false, c.if-count-texts.true) in
    let found : text ≡ x = (bytes_decides text x).0 (sym c.eq.ensures ∙ c.if-eq.true) in
    let is : get_or table at [] ≡ text =
    sym (get_or_read texts at x below c.index-texts-count.is [] ∙ ap (λ l. get_or l at []) c.as_slice-texts.ensures.value) ∙ sym found in
    sym (number_there text table at c.requires.numbered.distinct (omega (arith, below, ap length c.as_slice-texts.ensures.value)) is)
