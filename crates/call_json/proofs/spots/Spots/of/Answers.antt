use Rattle.std.proofs.Common.{All, List, subst, sym}
use Rattle.std.proofs.lemmas.List.Elements.{All-push}
use Rattle.line_index.specs.Lines.{IsSpot}
use Rattle.line_index.specs.declared.spots.Spot.{Spot}
use Rattle.call_json.proofs.spots.Spots.of.Goals as goal

pub loop-preserved : goal.loop-preserved
loop-preserved c =
    let spot = c.spot_at-last.ensures.spot in (
      spot,
      subst (λ (spots : List Spot). All (IsSpot c.args.text.now) spots)
          (sym c.in_ok-push.ensures.items)
          (All-push (IsSpot c.args.text.now) c.loop.list.items c.spot_at-last.result c.loop.invariant.1 spot),
    )
