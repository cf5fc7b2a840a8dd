use Rattle.std.proofs.Common.{string_bytes}
use Rattle.std.specs.Prelude.{codes, decimal, map}
use Rattle.html_code.specs.Origins.{title_of}
use Rattle.html_code.specs.Parts.{content_of}
use Rattle.html_code.proofs.PartLemmas.{grouped_more}
use Rattle.html_code.proofs.expansion.push_numbered.Goals as goal

pub returns : goal.returns
returns c =
    grouped_more (string_bytes c.args.page.now) (string_bytes c.push_str.new.self) (string_bytes c.push_number.new.page)
    (string_bytes c.push_title.new.page) (string_bytes c.push_content.new.page) (codes "<bdi") (codes " o=") (decimal c.args.number)
    (title_of (map string_bytes c.args.names.now) c.args.origin) (content_of c.args.text.now) c.in_ok-push_str.ensures.bytes
    c.in_ok-push_number.ensures c.in_ok-push_title.ensures c.in_ok-push_content.ensures
