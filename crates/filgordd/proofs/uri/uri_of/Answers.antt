use Rattle.std.proofs.Common.{◌≡◌, ◌++◌, arith, codes, refl, string_bytes}
use Rattle.std.proofs.lemmas.List.Elements.{All-from_get_or}
use Rattle.percent_encoding.proofs.PercentLemmas.{IsByte, round_trip}
use Rattle.percent_encoding.specs.Percent.{percent_encode}
use Rattle.filgordd.proofs.uri.uri_of.Goals as goal

pub returns : goal.returns
returns c =
    let small = All-from_get_or IsByte c.args.path.now 0
    (λ i within. omega (arith, c.type_inv.path i)) in
    let text : string_bytes c.append_to.new.out
    ≡ codes "file://" ++ percent_encode c.escaped_in_paths.result c.args.path.now =
    rw (
      c.in_ok-append_to.ensures.ok,
      c.in_ok-uri.ensures.ok,
      c.utf8_percent_encode.ensures.text,
    ) refl in (
      percent_encode c.escaped_in_paths.result c.args.path.now,
      text,
      round_trip c.escaped_in_paths.result c.args.path.now c.escaped_in_paths.ensures small,
    )
