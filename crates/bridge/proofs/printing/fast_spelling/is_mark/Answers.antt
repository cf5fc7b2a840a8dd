use Rattle.std.proofs.Common.{◌≡◌, ◌<◌, ◌==◌, ℕ, Bool, true, false, not, cond, map, get_or, refl, sym, ap, ◌∙◌, arith}
use Rattle.std.proofs.lemmas.Bool.Decides.{nat_tests}
use Rattle.std.proofs.lemmas.List.FromFn.{get_or-map-range_with_len}
use Rattle.std.specs.List.{range_with_len}
use Rattle.bridge.specs.FastSpellings.{is_mark_char}
use Rattle.bridge.specs.declared.printing.fast_spelling.TheConstants.{MARKS}
use Rattle.bridge.proofs.printing.fast_spelling.is_mark.Goals as goal

abbrev mark : ℕ → ℕ
mark c = cond (is_mark_char c) c 32

-- the table has each punct
table_is : MARKS ≡ map mark (range_with_len 0 128)
table_is = refl

told : (t : Bool) (c : ℕ) → not (cond t c 32 == 32) ≡ true → t ≡ true
told true c h = refl
told false c h = h

read : (c : ℕ) → c < 128 → not (get_or MARKS c 0 == 32) ≡ true → is_mark_char c ≡ true
read c low h =
    told (is_mark_char c) c
    (sym (ap (λ t. not (get_or t c 0 == 32)) table_is ∙ ap (λ n. not (n == 32)) (get_or-map-range_with_len mark 0 128 c c 0 low (omega arith))) ∙ h)

pub returns-then-is_ascii : goal.returns-then-is_ascii
returns-then-is_ascii c =
    let low : c.args.char < 128 = grind (arith, nat_tests) in
    read c.args.char low
