use Rattle.std.proofs.Common.{◌≡◌, ◌++◌, length, encode_utf8}
use Rattle.std.proofs.lemmas.Str.{chars_past_char, chars-nil}
use Rattle.std.proofs.lemmas.List.{nil_from_length}
use Rattle.rustc_lexer.proofs.scan.split_first.Goals as goal

pub returns-in-Some-clause-chars : goal.returns-in-Some-clause-chars
returns-in-Some-clause-chars c =
    let front : c.args.text.now ≡ encode_utf8 c.in-Some.c ++ c.as_str.result.now =
    cc (c.chars-chars.ensures.rest, c.in-Some.ensures.steps.0, c.as_str.ensures) in
    chars_past_char c.args.text.now c.as_str.result.now c.in-Some.c c.utf8.text front

pub returns-in-None-clause-chars : goal.returns-in-None-clause-chars
returns-in-None-clause-chars c =
    let none : length c.args.text.now ≡ 0 = cc (c.chars-chars.ensures.rest, c.in-None.ensures.steps.0.0) in
    rw (nil_from_length c.args.text.now none, chars-nil)
