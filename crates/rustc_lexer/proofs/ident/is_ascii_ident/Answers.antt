use Rattle.std.proofs.Common.{◌≡◌, ◌==◌, ◌&&◌, ◌∙◌, ℕ, Bool, ap, length, refl, sym, true, false}
use Rattle.std.specs.List.{list_all}
use Rattle.std.proofs.lemmas.Bool.{eq-eqb, eqb-true}
use Rattle.rustc_lexer.specs.Character.{ascii_part, is_id_continue}
use Rattle.rustc_lexer.specs.FirstCharacter.{start_of}
use Rattle.rustc_lexer.proofs.AsciiIdentLemmas.{ascii_ident, nothing_left}
use Rattle.rustc_lexer.proofs.ident.is_ascii_ident.Goals as goal

pub returns-then-start_of-eq97 : goal.returns-then-start_of-eq97
returns-then-start_of-eq97 c =
    let text = c.args.string.now in
    let first = c.first_byte.result in
    let letter : (start_of first == 0x61) ≡ true = eq-eqb (start_of first) 0x61 (sym c.start_of.ensures ∙ c.if-start_of-eq97.true) in
    c.is_empty.ensures
    ∙ ap (λ rest. length rest == 0) c.skip_ascii.ensures.bytes
    ∙ nothing_left (ascii_part is_id_continue) text
    ∙ ap (λ t. t && list_all (ascii_part is_id_continue) text) (sym letter)
    ∙ ascii_ident text c.utf8.string first c.first_byte.ensures.ascii c.first_byte.ensures.beyond

other : (a b : ℕ) → (a ≡ b → ⊥) → (a == b) ≡ false
other a b differ = go (a == b) refl
  where
    go : (t : Bool) → (a == b) ≡ t → t ≡ false
    go false e = refl
    go true e = absurd (differ (eqb-true a b e))

pub returns-else-start_of-eq97 : goal.returns-else-start_of-eq97
returns-else-start_of-eq97 c =
    let text = c.args.string.now in
    let first = c.first_byte.result in
    let none : (start_of first == 0x61) ≡ false = other (start_of first) 0x61 (λ e. c.if-start_of-eq97.false (c.start_of.ensures ∙ e)) in
    ap (λ n. n == 0x61) c.start_of.ensures
    ∙ none
    ∙ ap (λ t. t && list_all (ascii_part is_id_continue) text) (sym none)
    ∙ ascii_ident text c.utf8.string first c.first_byte.ensures.ascii c.first_byte.ensures.beyond
