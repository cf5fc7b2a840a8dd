-- Where a number stands first is an index of the list, which is as long as the definitions are many.
use Rattle.std.proofs.Common.{◌≡◌, ℕ, ◌<◌, Option, length, sym, ap, ◌∙◌, subst}
use Rattle.std.specs.Prelude.{IfSome}
use Rattle.std.proofs.lemmas.List.{length-map}
use Rattle.crate_picks.proofs.FirstLemmas.{first_is_within}
use Rattle.crate_picks.specs.First.{first_of}
use Rattle.crate_picks.specs.Picks.{start_of, starts}
use Rattle.expander_sources.specs.Sources.{Source}
use Rattle.crate_picks.proofs.definitions.Definitions.index_at.Goals as goal

pub returns-clause-within : goal.returns-clause-within
returns-clause-within c =
    let is : c.get.result ≡ first_of (starts c.self.inside.source.items) c.args.start = c.get.ensures (starts c.self.inside.source.items) c.self.invariant in
    let count : length (starts c.self.inside.source.items) ≡ length c.args.self.now.items =
    length-map c.self.inside.source.items start_of ∙ ap (λ (s : Source). length s.items) c.self.view_is in
    subst (λ (n : ℕ). IfSome c.get.result (λ k. k < n)) count
    (subst (λ (o : Option ℕ). IfSome o (λ k. k < length (starts c.self.inside.source.items))) (sym is)
    (first_is_within (starts c.self.inside.source.items) c.args.start))
