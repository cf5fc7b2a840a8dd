use Rattle.std.proofs.Common.{rules, ◌≡◌, ◌==◌, false, sym, subst, chars}
use Rattle.rustc_lexer.specs.Character.{char_at}
use Rattle.rustc_lexer.specs.Scanned.{IsRead}
use Rattle.rustc_lexer.proofs.WordLemmas.{begins_r, begins_b, begins_c, begins_k, begins_other}
use Rattle.rustc_lexer.proofs.ident.word_by_letter.Goals as goal

pub returns-in-r : goal.returns-in-r
returns-in-r c =
    let cs = chars c.args.text.now in
    let first : char_at cs 0 ≡ 0x72 = search rules in
    subst (λ w. IsRead w c.args.text.now c.r_word.result.0 c.r_word.result.1.now) (sym (begins_r cs first)) c.r_word.ensures

pub returns-in-b : goal.returns-in-b
returns-in-b c =
    let cs = chars c.args.text.now in
    let first : char_at cs 0 ≡ 0x62 = search rules in
    subst (λ w. IsRead w c.args.text.now c.b_word.result.0 c.b_word.result.1.now) (sym (begins_b cs first)) c.b_word.ensures

pub returns-in-c : goal.returns-in-c
returns-in-c c =
    let cs = chars c.args.text.now in
    let first : char_at cs 0 ≡ 0x63 = search rules in
    subst (λ w. IsRead w c.args.text.now c.c_word.result.0 c.c_word.result.1.now) (sym (begins_c cs first)) c.c_word.ensures

pub returns-in-k : goal.returns-in-k
returns-in-k c =
    let cs = chars c.args.text.now in
    let first : char_at cs 0 ≡ 0x6b = search rules in
    subst (λ w. IsRead w c.args.text.now c.k_word.result.0 c.k_word.result.1.now) (sym (begins_k cs first)) c.k_word.ensures

pub returns-in_default : goal.returns-in_default
returns-in_default c =
    let cs = chars c.args.text.now in
    let r : (char_at cs 0 == 0x72) ≡ false = search rules in
    let b : (char_at cs 0 == 0x62) ≡ false = search rules in
    let c_too : (char_at cs 0 == 0x63) ≡ false = search rules in
    let k : (char_at cs 0 == 0x6b) ≡ false = search rules in
    subst (λ w. IsRead w c.args.text.now c.plain_word.result.0 c.plain_word.result.1.now) (sym (begins_other cs r b c_too k)) c.plain_word.ensures
