use Rattle.std.proofs.Common.{refl, true, sym, ap, ◌∙◌, arith}
use Rattle.small_grammar.specs.declared.types.Level.TheVariants.{Args}
use Rattle.small_grammar.specs.Levels.{after, left, closing, gone, outside, within}
use Rattle.small_grammar.specs.SmallGrammar.{takes, single}
use Rattle.small_grammar.proofs.LevelLemmas.{after_size, no_args, no_begun, enter_fail, enter_part, enter_end, pushed, part_is, end_is, part_weight, end_weight, size_weight}
use Rattle.small_grammar.proofs.TakingLemmas.{shorter}
use Rattle.small_grammar.proofs.types.enter_args.Goals as goal

pub returns-in_default-clause-what : goal.returns-in_default-clause-what
returns-in_default-clause-what c =
    ap (within (outside true) c.args.levels.now.items)
    (sym (no_args c.args.follow c.args.trees (after (single "::") c.args.trees) refl (sym c.open_angle.ensures ∙ c.in_default.is)))

pub returns-in_err-begun-clause-what : goal.returns-in_err-begun-clause-what
returns-in_err-begun-clause-what c =
    no_begun _ c.from_residual.result c.from_residual.ensures
    ∙ enter_fail c.args.levels.now.items c.args.follow c.args.trees (after (single "::") c.args.trees) c.in-Some.open refl (sym c.open_angle.ensures ∙ c.in-Some.is)
    (sym c.first_arg.ensures.what ∙ ap (gone (takes closing)) c.in_err-begun.was)

pub returns-in-Part-clause-what : goal.returns-in-Part-clause-what
returns-in-Part-clause-what c =
    pushed (outside true) c.args.levels.now.items c.push.new.self.items (Args c.args.follow) (left c.in-Part.begun) c.push.ensures.items
    ∙ enter_part c.args.levels.now.items c.args.follow c.args.trees (after (single "::") c.args.trees) c.in-Some.open refl (sym c.open_angle.ensures ∙ c.in-Some.is)
    (left c.in-Part.begun)
    (sym (part_is c.first_arg.result c.in_ok-begun.field-0 c.in-Part.begun c.in_ok-begun.was c.in-Part.is) ∙ c.first_arg.ensures.what)

pub returns-in-Part-clause-further : goal.returns-in-Part-clause-further
returns-in-Part-clause-further c =
    let s = shorter (single "<") (after (single "::") c.args.trees) c.in-Some.open (sym c.open_angle.ensures ∙ c.in-Some.is) in
    let f = after_size (single "::") c.args.trees in
    let w = part_weight c.first_arg.result c.in_ok-begun.field-0 c.in-Part.begun _ c.in_ok-begun.was c.in-Part.is c.first_arg.ensures.further in
    let z = size_weight c.in-Part.begun in
    omega (arith, s, f, w, z)

pub returns-in-Part-clause-falls : goal.returns-in-Part-clause-falls
returns-in-Part-clause-falls c =
    let s = shorter (single "<") (after (single "::") c.args.trees) c.in-Some.open (sym c.open_angle.ensures ∙ c.in-Some.is) in
    let f = after_size (single "::") c.args.trees in
    let w = part_weight c.first_arg.result c.in_ok-begun.field-0 c.in-Part.begun _ c.in_ok-begun.was c.in-Part.is c.first_arg.ensures.further in
    let l = c.push.ensures.len in
    omega (arith, s, f, w, l)

pub returns-in-End-clause-what : goal.returns-in-End-clause-what
returns-in-End-clause-what c =
    ap (within (outside true) c.args.levels.now.items) c.behind_segment.ensures.what
    ∙ enter_end c.args.levels.now.items c.args.follow c.args.trees (after (single "::") c.args.trees) c.in-Some.open refl (sym c.open_angle.ensures ∙ c.in-Some.is)
    c.in-End.rest
    (sym c.first_arg.ensures.what ∙ end_is c.first_arg.result c.in_ok-begun.field-0 c.in-End.rest c.in_ok-begun.was c.in-End.is)

pub returns-in-End-clause-further : goal.returns-in-End-clause-further
returns-in-End-clause-further c =
    let s = shorter (single "<") (after (single "::") c.args.trees) c.in-Some.open (sym c.open_angle.ensures ∙ c.in-Some.is) in
    let f = after_size (single "::") c.args.trees in
    let w = end_weight c.first_arg.result c.in_ok-begun.field-0 c.in-End.rest _ c.in_ok-begun.was c.in-End.is c.first_arg.ensures.further in
    let b = c.behind_segment.ensures.further in
    let z = size_weight c.behind_segment.result in
    omega (arith, s, f, w, b, z)

pub returns-in-End-clause-falls : goal.returns-in-End-clause-falls
returns-in-End-clause-falls c =
    let s = shorter (single "<") (after (single "::") c.args.trees) c.in-Some.open (sym c.open_angle.ensures ∙ c.in-Some.is) in
    let f = after_size (single "::") c.args.trees in
    let w = end_weight c.first_arg.result c.in_ok-begun.field-0 c.in-End.rest _ c.in_ok-begun.was c.in-End.is c.first_arg.ensures.further in
    let b = c.behind_segment.ensures.further in
    omega (arith, s, f, w, b)
