use Rattle.std.proofs.Common.{rules, ◌≡◌, ◌<◌, length}
use Rattle.rustc_lexer.proofs.AsciiLemmas.{first_none, first_ascii, first_beyond}
use Rattle.rustc_lexer.proofs.scan.first_byte.Goals as goal

pub returns-then-is_empty-clause-ascii : goal.returns-then-is_empty-clause-ascii
returns-then-is_empty-clause-ascii c l =
    let none : length c.as_bytes-bytes.result.now ≡ 0 = search rules in
    first_none c.args.text.now _ c.as_bytes-bytes.ensures.value none

pub returns-clause-ascii : goal.returns-clause-ascii
returns-clause-ascii c =
    let some : 0 < length c.as_bytes-bytes.result.now = search rules in
    first_ascii c.args.text.now _ c.as_bytes-bytes.ensures.value c.utf8.text some

pub returns-clause-beyond : goal.returns-clause-beyond
returns-clause-beyond c =
    let some : 0 < length c.as_bytes-bytes.result.now = search rules in
    first_beyond c.args.text.now _ c.as_bytes-bytes.ensures.value c.utf8.text some
