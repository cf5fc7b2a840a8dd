use Rattle.std.proofs.Common.{subst}
use Rattle.mbe_matcher.specs.Bound.{map_of}
use Rattle.mbe_transcriber.specs.Filling.{fragment_in, variable_in}
use Rattle.mbe_transcriber.specs.Limits.{most_rounds}
use Rattle.mbe_transcriber.specs.Given.{Fills, IsBurstBy}
use Rattle.mbe_transcriber.specs.Markers.{is_name}
use Rattle.mbe_transcriber.specs.Output.{size_of}
use Rattle.mbe_transcriber.proofs.LoneLemmas.{never-fails}
use Rattle.mbe_transcriber.proofs.metavar_expr.put_variable.Goals as goal

pub returns-in-Some-clause-filled : goal.returns-in-Some-clause-filled
returns-in-Some-clause-filled c = λ mark.
    let map = map_of c.args.bindings.now in
    subst (λ o. Fills c.put_value.result c.args.out.now.tree c.put_value.new.out.tree (variable_in is_name most_rounds mark map c.args.rounds.now c.args.name.now c.args.span o))
    c.in-Some.ensures
    (subst (λ v. Fills c.put_value.result c.args.out.now.tree c.put_value.new.out.tree (fragment_in is_name most_rounds mark map c.args.span v))
    c.value_in.ensures (c.put_value.ensures.filled mark map))

pub returns-in-Some-clause-tokens : goal.returns-in-Some-clause-tokens
returns-in-Some-clause-tokens c = λ mark.
    let map = map_of c.args.bindings.now in
    subst (λ o. IsBurstBy c.put_value.result c.args.out.now.tree (size_of (variable_in is_name most_rounds mark map c.args.rounds.now c.args.name.now c.args.span o)))
    c.in-Some.ensures
    (subst (λ v. IsBurstBy c.put_value.result c.args.out.now.tree (size_of (fragment_in is_name most_rounds mark map c.args.span v)))
    c.value_in.ensures (c.put_value.ensures.tokens mark map))

pub returns-in-None-clause-filled : goal.returns-in-None-clause-filled
returns-in-None-clause-filled c = λ mark.
    let map = map_of c.args.bindings.now in
    subst (λ o. Fills c.put_unbound.result c.args.out.now.tree c.put_unbound.new.out.tree (variable_in is_name most_rounds mark map c.args.rounds.now c.args.name.now c.args.span o))
    c.in-None.ensures (c.put_unbound.ensures.filled mark map)

pub returns-in-None-clause-same : goal.returns-in-None-clause-same
returns-in-None-clause-same c =
    never-fails c.put_unbound.result c.args.out.now.tree c.put_unbound.new.out.tree c.args.out.now.tree c.put_unbound.new.out.tree _
    (c.put_unbound.ensures.filled (λ s. s) (map_of c.args.bindings.now))
