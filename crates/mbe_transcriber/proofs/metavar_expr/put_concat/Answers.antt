use Rattle.std.proofs.Common.{◌∙◌, sym, ap, subst, option_map, option_and_then}
use Rattle.std.specs.Prelude.{string_bytes}
use Rattle.tt.specs.Building.{extended}
use Rattle.mbe_matcher.specs.Bound.{map_of}
use Rattle.mbe_transcriber.specs.Filling.{identifier}
use Rattle.mbe_transcriber.specs.Limits.{most_rounds}
use Rattle.mbe_transcriber.specs.Given.{Fills, IsBurstBy}
use Rattle.mbe_transcriber.specs.Markers.{is_name}
use Rattle.mbe_transcriber.specs.Output.{size_of}
use Rattle.mbe_transcriber.proofs.metavar_expr.put_concat.Goals as goal

pub returns-in-Some-clause-filled : goal.returns-in-Some-clause-filled
returns-in-Some-clause-filled c = λ mark.
    let made = identifier is_name most_rounds mark (map_of c.args.bindings.now) c.args.span in
    subst (λ o. Fills c.put_name.result c.args.out.now.tree c.put_name.new.out.tree (option_and_then made o))
    (sym (ap (option_map string_bytes) c.in-Some.is) ∙ c.in_ok-text.ensures mark)
    (subst (λ t. Fills c.put_name.result c.args.out.now.tree c.put_name.new.out.tree (made t)) c.deref.ensures
    (c.put_name.ensures.filled mark (map_of c.args.bindings.now)))

pub returns-in-Some-clause-tokens : goal.returns-in-Some-clause-tokens
returns-in-Some-clause-tokens c = λ mark.
    let made = identifier is_name most_rounds mark (map_of c.args.bindings.now) c.args.span in
    subst (λ o. IsBurstBy c.put_name.result c.args.out.now.tree (size_of (option_and_then made o)))
    (sym (ap (option_map string_bytes) c.in-Some.is) ∙ c.in_ok-text.ensures mark)
    (subst (λ t. IsBurstBy c.put_name.result c.args.out.now.tree (size_of (made t))) c.deref.ensures
    (c.put_name.ensures.tokens mark (map_of c.args.bindings.now)))

pub returns-in-None-clause-filled : goal.returns-in-None-clause-filled
returns-in-None-clause-filled c = λ mark.
    let made = identifier is_name most_rounds mark (map_of c.args.bindings.now) c.args.span in
    ap (λ o. option_map (extended c.args.out.now.tree) (option_and_then made o))
    (sym (ap (option_map string_bytes) c.in-None.is) ∙ c.in_ok-text.ensures mark)
