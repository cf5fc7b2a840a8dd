use Rattle.std.proofs.Common.{◌≡◌, ◌∙◌, sym}
use Rattle.std.specs.Prelude.{Ok}
use Rattle.std.specs.List.{list_any}
use Rattle.call_messages.specs.Unfits.{nearest_unfit}
use Rattle.call_json.proofs.WhyLemmas.{named, numbered, ruled, within}
use Rattle.call_json.proofs.why.why_of.Goals as goal

pub returns : goal.returns
returns c =
    let nearest : nearest_unfit c.args.explained.now ≡ Ok c.in-Ok.nearest =
    sym c.nearest_unfit.ensures ∙ c.in-Ok.is in
    record {
      definition = named c.args.text.now _ c.args.known.now _ c.known.view_is c.in_ok-name.ensures;
      place = c.in-Ok.nearest;
      is_nearest = nearest;
      nearest = numbered c.args.explained.now.rules.items c.in-Ok.nearest _ _
          (within c.args.explained.now.rules.items c.args.explained.now.nearest
          (list_any (λ s. s.fits) c.args.explained.now.rules.items) c.in-Ok.nearest c.requires.nearest nearest)
          c.index.ensures c.number_of.ensures;
      all = ruled c.args.text.now _ c.args.known.now _ c.args.explained.now.rules.items _
          c.known.view_is c.deref.ensures.value c.in_ok-all_rules.ensures;
    }
