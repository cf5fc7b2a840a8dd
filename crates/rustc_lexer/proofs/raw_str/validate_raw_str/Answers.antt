use Rattle.std.proofs.Common.{arith, sym, ◌∙◌}
use Rattle.rustc_lexer.proofs.RawFormLemmas.{form_fits, body_fits}
use Rattle.rustc_lexer.proofs.raw_str.validate_raw_str.Goals as goal

pub read_hashes-n-requires : goal.read_hashes-n-requires
read_hashes-n-requires c =
    let form = form_fits _ _ _ c.utf8.input c.skip_chars.utf8 c.requires.positive c.requires.prefix c.skip_chars.ensures in
    omega (arith, form, c.requires.small)

pub overflow_add-prefix_len : goal.overflow_add-prefix_len
overflow_add-prefix_len c =
    let form = form_fits _ _ _ c.utf8.input c.skip_chars.utf8 c.requires.positive c.requires.prefix c.skip_chars.ensures in
    let body = body_fits _ _ _ _ c.skip_chars.utf8 c.behind.utf8 c.read_hashes-n.ensures (sym c.first-bad_char.ensures ∙ c.if-bad_char-ne34.false) c.behind.ensures in
    omega (arith, form, body, c.requires.small)

pub overflow_add-prefix_len-2 : goal.overflow_add-prefix_len-2
overflow_add-prefix_len-2 c =
    let form = form_fits _ _ _ c.utf8.input c.skip_chars.utf8 c.requires.positive c.requires.prefix c.skip_chars.ensures in
    let body = body_fits _ _ _ _ c.skip_chars.utf8 c.behind.utf8 c.read_hashes-n.ensures (sym c.first-bad_char.ensures ∙ c.if-bad_char-ne34.false) c.behind.ensures in
    omega (arith, form, body, c.requires.small)

pub check_body-requires : goal.check_body-requires
check_body-requires c =
    let form = form_fits _ _ _ c.utf8.input c.skip_chars.utf8 c.requires.positive c.requires.prefix c.skip_chars.ensures in
    let body = body_fits _ _ _ _ c.skip_chars.utf8 c.behind.utf8 c.read_hashes-n.ensures (sym c.first-bad_char.ensures ∙ c.if-bad_char-ne34.false) c.behind.ensures in
    omega (arith, form, body, c.requires.small)
