use Rattle.std.proofs.Common.{◌≡◌, ◌+◌, true, false, ◌&&◌, ◌∙◌, sym, ap, subst, chars, drop, rules}
use Rattle.std.proofs.lemmas.List.{drop-drop}
use Rattle.rustc_lexer.specs.Character.{char_at, begins, is_id_start, continues}
use Rattle.rustc_lexer.specs.Scanned.{IsRead}
use Rattle.rustc_lexer.specs.declared.token.TokenKind.TheVariants.{Lifetime}
use Rattle.rustc_lexer.proofs.ReadLemmas.{two_behind, three_behind, retold}
use Rattle.rustc_lexer.proofs.LifetimeLemmas.{raw_lifetime, one_letter, name_rest, unknown_prefix, plain_lifetime, is_numbered, mark_of}
use Rattle.rustc_lexer.proofs.quote.lifetime.Goals as goal

pub returns-then-begins_raw_lifetime : goal.returns-then-begins_raw_lifetime
returns-then-begins_raw_lifetime c =
    let raw : (begins "'r#" (chars c.args.text.now) && is_id_start (char_at (chars c.args.text.now) 3)) ≡ true = search rules in
    raw_lifetime _ _ _ raw (three_behind c.args.text.now _ _ _ c.behind-name.ensures c.behind.ensures c.behind-then-begins_raw_lifetime.ensures)
    c.skip_while-rest.ensures c.skip_while-rest.utf8

pub returns-then-next-eq39 : goal.returns-then-next-eq39
returns-then-next-eq39 c =
    let cs = chars c.args.text.now in
    let raw : (begins "'r#" cs && is_id_start (char_at cs 3)) ≡ false = search rules in
    let from = two_behind c.args.text.now _ _ c.behind-name.ensures c.behind-2.ensures in
    let same = one_letter _ _ _ raw from c.skip_while-rest-2.ensures (sym c.first-next.ensures ∙ c.if-next-eq39.true) in
    let rest = c.behind-then-next-eq39.ensures ∙ ap (drop 1) (name_rest _ _ _ raw from c.skip_while-rest-2.ensures) ∙ drop-drop 1 (2 + continues (drop 2 cs)) cs in
    subst (λ w. IsRead w c.args.text.now c.bare.result.0 c.bare.result.1.now) (sym same) (c.bare.ensures _ rest)

pub returns-then-is_unknown_prefix : goal.returns-then-is_unknown_prefix
returns-then-is_unknown_prefix c =
    let cs = chars c.args.text.now in
    let raw : (begins "'r#" cs && is_id_start (char_at cs 3)) ≡ false = search rules in
    let from = two_behind c.args.text.now _ _ c.behind-name.ensures c.behind-2.ensures in
    let numbered = is_numbered _ _ _ cs c.is_digit-starts_with_number.ensures c.first.ensures c.behind-name.ensures in
    unknown_prefix _ _ _ raw from c.skip_while-rest-2.ensures _ c.first-next.ensures c.if-next-eq39.false
    (mark_of _ _ _ _ _ c.is_unknown_prefix.ensures c.first-next.ensures numbered c.if-is_unknown_prefix.true) c.skip_while-rest-2.utf8

pub returns : goal.returns
returns c =
    let cs = chars c.args.text.now in
    let raw : (begins "'r#" cs && is_id_start (char_at cs 3)) ≡ false = search rules in
    let from = two_behind c.args.text.now _ _ c.behind-name.ensures c.behind-2.ensures in
    let numbered = is_numbered _ _ _ cs c.is_digit-starts_with_number.ensures c.first.ensures c.behind-name.ensures in
    retold (ap Lifetime numbered)
    (plain_lifetime _ _ _ raw from c.skip_while-rest-2.ensures _ c.first-next.ensures c.if-next-eq39.false
    (mark_of _ _ _ _ _ c.is_unknown_prefix.ensures c.first-next.ensures numbered c.if-is_unknown_prefix.false) c.skip_while-rest-2.utf8)
