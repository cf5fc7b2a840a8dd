use Rattle.std.proofs.Common.{◌≡◌, ◌<◌, ◌==◌, ◌||◌, ℕ, Bool, true, false, map, get_or, refl, sym, ap, ◌∙◌, arith, nat_lt}
use Rattle.std.proofs.lemmas.Bool.Decides.{nat_tests}
use Rattle.std.proofs.lemmas.List.FromFn.{get_or-map-range_with_len}
use Rattle.std.specs.Char.{is_ascii_alphabetic}
use Rattle.std.specs.List.{range_with_len}
use Rattle.unicode_ident.proofs.IdentLemmas.{is_xid_start-ascii}
use Rattle.rustc_lexer.specs.Character.{is_id_start, is_whitespace}
use Rattle.rustc_lexer.specs.FirstCharacter.{start_of, start_told}
use Rattle.rustc_lexer.specs.declared.scan.TheConstants.{STARTS}
use Rattle.rustc_lexer.proofs.scan.start_of.Goals as goal

-- what the table says of a byte
abbrev by_table : ℕ → ℕ
by_table b = start_told (nat_lt b 128) (is_whitespace b) (b == 95 || is_ascii_alphabetic b) b

table_is : STARTS ≡ map by_table (range_with_len 0 256)
table_is = refl

same_start : (b : ℕ) → by_table b ≡ start_of b
same_start b = by_test (nat_lt b 128) refl
  where
    by_test : (t : Bool) → nat_lt b 128 ≡ t → start_told t (is_whitespace b) (b == 95 || is_ascii_alphabetic b) b ≡ start_told t (is_whitespace b) (is_id_start b) b
    by_test true e =
        let low : b < 128 = grind (arith, nat_tests) in
        ap (λ s. start_told true (is_whitespace b) (b == 95 || s) b) (sym (is_xid_start-ascii b low))
    by_test false e = refl

read : (b : ℕ) → b < 256 → get_or STARTS b 0 ≡ start_of b
read b h = ap (λ t. get_or t b 0) table_is ∙ get_or-map-range_with_len by_table 0 256 b b 0 h (omega arith) ∙ same_start b

pub returns : goal.returns
returns c = read c.args.b (omega arith)
