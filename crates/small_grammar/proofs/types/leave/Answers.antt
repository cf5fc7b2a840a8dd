use Rattle.std.proofs.Common.{sym, ap, ◌∙◌, Some}
use Rattle.small_grammar.specs.declared.types.Level.TheVariants.{Args, Result}
use Rattle.small_grammar.specs.Levels.{left, closing, gone, outside, within}
use Rattle.small_grammar.specs.SmallGrammar.{takes}
use Rattle.small_grammar.proofs.LevelLemmas.{pushed, popped, args_part, args_end, args_fail, part_is, end_is}
use Rattle.small_grammar.proofs.types.leave.Goals as goal

pub returns-in_err-begun-in-Some-Args-clause-what : goal.returns-in_err-begun-in-Some-Args-clause-what
returns-in_err-begun-in-Some-Args-clause-what c =
    ap (gone (within (outside c.args.is_arg) c.pop.new.self.items)) c.from_residual.ensures
    ∙ args_fail (within (outside c.args.is_arg) c.pop.new.self.items) c.in-Some-Args.follow c.args.trees
    (sym c.next_arg.ensures.what ∙ ap (gone (takes closing)) c.in_err-begun-in-Some-Args.was)
    ∙ popped (outside c.args.is_arg) c.args.levels.now.items c.pop.new.self.items c.pop.result (Args c.in-Some-Args.follow) c.args.trees c.pop.ensures.items
    (c.in-Some-Args.is ∙ ap Some c.in-Some-Args.field-0-is)

pub returns-in-Some-Result-clause-what : goal.returns-in-Some-Result-clause-what
returns-in-Some-Result-clause-what c =
    ap (within (outside c.args.is_arg) c.pop.new.self.items) c.behind_result.ensures.what
    ∙ popped (outside c.args.is_arg) c.args.levels.now.items c.pop.new.self.items c.pop.result (Result c.in-Some-Result.follow) c.args.trees c.pop.ensures.items
    (c.in-Some-Result.is ∙ ap Some c.in-Some-Result.field-0-is)

pub returns-in-Part-clause-what : goal.returns-in-Part-clause-what
returns-in-Part-clause-what c =
    pushed (outside c.args.is_arg) c.pop.new.self.items c.push.new.self.items (Args c.in-Some-Args.follow) (left c.in-Part.begun) c.push.ensures.items
    ∙ args_part (within (outside c.args.is_arg) c.pop.new.self.items) c.in-Some-Args.follow c.args.trees (left c.in-Part.begun)
    (sym (part_is c.next_arg.result c.in_ok-begun-in-Some-Args.field-0 c.in-Part.begun c.in_ok-begun-in-Some-Args.was c.in-Part.is) ∙ c.next_arg.ensures.what)
    ∙ popped (outside c.args.is_arg) c.args.levels.now.items c.pop.new.self.items c.pop.result (Args c.in-Some-Args.follow) c.args.trees c.pop.ensures.items
    (c.in-Some-Args.is ∙ ap Some c.in-Some-Args.field-0-is)

pub returns-in-End-clause-what : goal.returns-in-End-clause-what
returns-in-End-clause-what c =
    ap (within (outside c.args.is_arg) c.pop.new.self.items) c.behind_segment.ensures.what
    ∙ args_end (within (outside c.args.is_arg) c.pop.new.self.items) c.in-Some-Args.follow c.args.trees c.in-End.rest
    (sym c.next_arg.ensures.what ∙ end_is c.next_arg.result c.in_ok-begun-in-Some-Args.field-0 c.in-End.rest c.in_ok-begun-in-Some-Args.was c.in-End.is)
    ∙ popped (outside c.args.is_arg) c.args.levels.now.items c.pop.new.self.items c.pop.result (Args c.in-Some-Args.follow) c.args.trees c.pop.ensures.items
    (c.in-Some-Args.is ∙ ap Some c.in-Some-Args.field-0-is)
