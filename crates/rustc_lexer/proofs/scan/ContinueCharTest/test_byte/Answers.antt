use Rattle.std.proofs.Common.{◌≡◌, ◌<◌, ◌==◌, ◌&&◌, ◌||◌, ℕ, Bool, true, false, not, cond, map, get_or, refl, sym, ap, ◌∙◌, arith, nat_lt}
use Rattle.std.proofs.lemmas.Bool.Decides.{nat_tests}
use Rattle.std.proofs.lemmas.List.FromFn.{get_or-map-range_with_len}
use Rattle.std.specs.Char.{is_ascii_alphanumeric}
use Rattle.std.specs.List.{range_with_len}
use Rattle.unicode_ident.proofs.IdentLemmas.{is_xid_continue-ascii}
use Rattle.rustc_lexer.specs.Character.{ascii_part, is_id_continue}
use Rattle.rustc_lexer.specs.declared.scan.TheConstants.{CONTINUES}
use Rattle.rustc_lexer.proofs.scan.ContinueCharTest.test_byte.Goals as goal

abbrev is_letter : ℕ → Bool
is_letter b = nat_lt b 128 && (is_ascii_alphanumeric b || b == 95)

abbrev mark : ℕ → ℕ
mark b = cond (is_letter b) b 44

-- the table has the mark of each byte
table_is : CONTINUES ≡ map mark (range_with_len 0 256)
table_is = refl

marked : (t : Bool) (b : ℕ) → (t ≡ true → (b == 44) ≡ false) → not (cond t b 44 == 44) ≡ t
marked true b other = rw (other refl) refl
marked false b other = refl

no_comma : (b : ℕ) → is_letter b ≡ true → (b == 44) ≡ false
no_comma b h = by_test (b == 44) refl
  where
    by_test : (t : Bool) → (b == 44) ≡ t → t ≡ false
    by_test false e = refl
    by_test true e = (let same : b ≡ 44 = grind (arith, nat_tests) in sym h ∙ ap is_letter same)

same_letter : (b : ℕ) → is_letter b ≡ ascii_part is_id_continue b
same_letter b = by_test (nat_lt b 128) refl
  where
    by_test : (t : Bool) → nat_lt b 128 ≡ t → (t && (is_ascii_alphanumeric b || b == 95)) ≡ (t && is_id_continue b)
    by_test true e = (let low : b < 128 = grind (arith, nat_tests) in sym (is_xid_continue-ascii b low))
    by_test false e = refl

read : (b : ℕ) → b < 256 → not (get_or CONTINUES b 0 == 44) ≡ ascii_part is_id_continue b
read b h =
    ap (λ t. not (get_or t b 0 == 44)) table_is ∙ ap (λ n. not (n == 44)) (get_or-map-range_with_len mark 0 256 b b 0 h (omega arith))
    ∙ marked (is_letter b) b (no_comma b) ∙ same_letter b

pub returns : goal.returns
returns c = read c.args.b (omega arith)
