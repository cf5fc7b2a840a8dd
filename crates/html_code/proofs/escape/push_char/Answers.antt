use Rattle.std.proofs.Common.{◌≡◌, ◌∙◌, ap, sym}
use Rattle.std.proofs.lemmas.List.{append-nil}
use Rattle.std.specs.Prelude.{encode_utf8, encode_utf8_all}
use Rattle.hidden_marks.proofs.MarkLemmas.{hidden_is_small}
use Rattle.html_code.proofs.SafeLemmas.{plain_form}
use Rattle.html_code.specs.Escaping.{escape_of}
use Rattle.html_code.proofs.escape.push_char.Goals as goal

pub push_mark-requires : goal.push_mark-requires
push_mark-requires c = hidden_is_small c.args.c (sym c.is_hidden.ensures ∙ c.if-is_hidden.true)

pub returns-in_ok-push : goal.returns-in_ok-push
returns-in_ok-push c =
    let plain : encode_utf8_all (escape_of c.args.c) ≡ encode_utf8 c.args.c =
    ap encode_utf8_all (plain_form c.args.c (sym c.is_markup.ensures ∙ c.if-is_markup.false) (sym c.is_hidden.ensures ∙ c.if-is_hidden.false))
    ∙ append-nil (encode_utf8 c.args.c) in
    rw (plain) c.in_ok-push.ensures.bytes
