use Rattle.std.proofs.Common.{◌≡◌, ◌∙◌, ap, sym, subst, chars, refl}
use Rattle.std.specs.List.{prefix_len}
use Rattle.rustc_lexer.specs.Character.{is, is_digit, is_hex_digit}
use Rattle.rustc_lexer.specs.Numbers.{digit_of, run}
use Rattle.rustc_lexer.specs.Scanned.{IsRead}
use Rattle.rustc_lexer.specs.declared.token.Base.{Base}
use Rattle.rustc_lexer.specs.declared.token.Base.TheVariants.{Binary, Octal, Decimal, Hexadecimal}
use Rattle.rustc_lexer.proofs.RunLemmas.{first_of_drop}
use Rattle.rustc_lexer.proofs.ReadLemmas.{digit_in_run}
use Rattle.rustc_lexer.proofs.number.run.Goals as goal

decimal_digit : (base : Base) → (base ≡ Hexadecimal → ⊥) → digit_of base ≡ is_digit
decimal_digit Binary other = refl
decimal_digit Octal other = refl
decimal_digit Decimal other = refl
decimal_digit Hexadecimal other = absurd (other refl)

pub returns-in-Hexadecimal : goal.returns-in-Hexadecimal
returns-in-Hexadecimal c =
    let cs = chars c.args.text.now in
    let first = c.first-next.ensures ∙ first_of_drop cs _ (prefix_len (is "_") cs) c.skip_while.ensures in
    let is_read : IsRead (run is_hex_digit cs) c.args.text.now c.is_hex_digit.result c.skip_while-in-Hexadecimal.result.now = record {
      value = c.is_hex_digit.ensures ∙ ap is_hex_digit first ∙ digit_in_run is_hex_digit cs refl refl;
      rest = c.skip_while-in-Hexadecimal.ensures;
      utf8 = c.skip_while-in-Hexadecimal.utf8;
    } in
    subst (λ base. IsRead (run (digit_of base) cs) c.args.text.now c.is_hex_digit.result c.skip_while-in-Hexadecimal.result.now) (sym c.in-Hexadecimal.is) is_read

pub returns-in_default : goal.returns-in_default
returns-in_default c =
    let cs = chars c.args.text.now in
    let first = c.first-next.ensures ∙ first_of_drop cs _ (prefix_len (is "_") cs) c.skip_while.ensures in
    let is_read : IsRead (run is_digit cs) c.args.text.now c.is_digit.result c.skip_while-in_default.result.now = record {
      value = c.is_digit.ensures ∙ ap is_digit first ∙ digit_in_run is_digit cs refl refl;
      rest = c.skip_while-in_default.ensures;
      utf8 = c.skip_while-in_default.utf8;
    } in
    subst (λ digit. IsRead (run digit cs) c.args.text.now c.is_digit.result c.skip_while-in_default.result.now) (sym (decimal_digit c.args.base c.in_default.not-Hexadecimal)) is_read
