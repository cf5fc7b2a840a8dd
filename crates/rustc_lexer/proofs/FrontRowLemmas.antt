-- The first lexeme, by the first character.
use Rattle.std.proofs.Common.{◌≡◌, ℕ, ◌==◌, true, false, List, refl, sym, subst, arith}
use Rattle.unicode_ident.proofs.IdentLemmas.{is_xid_start-ascii}
use Rattle.rustc_lexer.specs.Character.{char_at, is_whitespace, is_id_start, is_digit}
use Rattle.rustc_lexer.specs.Comments.{line_comment, block_comment}
use Rattle.rustc_lexer.specs.Lexeme.{lexeme, lexeme_of, white_space, word, numeral}
use Rattle.rustc_lexer.specs.Scanned.{Scanned, IsRead}
use Rattle.rustc_lexer.specs.FirstCharacter.{hash, sign, uncommented}
use Rattle.rustc_lexer.specs.declared.token.TokenKind.TheVariants.{Slash}

-- what was read is what equals it
pub read_as : {A : Type 0} {s t : Scanned A} {text left : List ℕ} {told : A} → t ≡ s → IsRead s text told left → IsRead t text told left
read_as {A} {s} {t} {text} {left} {told} e r = subst (λ x. IsRead x text told left) (sym e) r

pub by_white : (cs : List ℕ) (c : ℕ) → char_at cs 0 ≡ c → is_whitespace c ≡ true → uncommented cs ≡ white_space cs
by_white cs c e h = rw (e, h) refl

pub by_letter : (cs : List ℕ) (c : ℕ) → char_at cs 0 ≡ c → is_whitespace c ≡ false → is_id_start c ≡ true → uncommented cs ≡ word cs
by_letter cs c e w h = rw (e, w, h) refl

pub by_digit : (cs : List ℕ) (c : ℕ) → char_at cs 0 ≡ c → is_whitespace c ≡ false → is_id_start c ≡ false → is_digit c ≡ true →
    uncommented cs ≡ numeral cs
by_digit cs c e w s h = rw (e, w, s, h) refl

pub by_sign : (cs : List ℕ) (c : ℕ) → char_at cs 0 ≡ c → is_whitespace c ≡ false → is_id_start c ≡ false → is_digit c ≡ false →
    uncommented cs ≡ sign cs
by_sign cs c e w s h = rw (e, w, s, h) refl

pub no_comment : (cs : List ℕ) → (char_at cs 0 == 47) ≡ false → (char_at cs 0 == 35) ≡ false → lexeme cs ≡ uncommented cs
no_comment cs other hash = rw (other, hash) refl

pub slash_line : (cs : List ℕ) → char_at cs 0 ≡ 47 → char_at cs 1 ≡ 47 → lexeme cs ≡ line_comment cs
slash_line cs e f = rw (e, f) refl

pub slash_block : (cs : List ℕ) → char_at cs 0 ≡ 47 → char_at cs 1 ≡ 42 → lexeme cs ≡ block_comment cs
slash_block cs e f = rw (e, f) refl

pub no_start : is_id_start 47 ≡ false
no_start = rw (is_xid_start-ascii 47 (omega arith)) refl

pub slash_alone : (cs : List ℕ) → char_at cs 0 ≡ 47 → (char_at cs 1 == 47) ≡ false → (char_at cs 1 == 42) ≡ false → lexeme cs ≡ lexeme_of Slash 1
slash_alone cs e f g = rw (e, f, g, no_start) refl

pub hash_no_start : is_id_start 35 ≡ false
hash_no_start = rw (is_xid_start-ascii 35 (omega arith)) refl

pub by_hash : (cs : List ℕ) → char_at cs 0 ≡ 35 → lexeme cs ≡ hash cs
by_hash cs e = rw (e, hash_no_start) refl
