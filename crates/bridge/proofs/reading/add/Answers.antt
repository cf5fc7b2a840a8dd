-- One token: delimiters, trees, or a reading fault.
use Rattle.std.proofs.Common.{refl}
use Rattle.bridge.proofs.AddingLemmas.{handed_on, no_value}
use Rattle.bridge.proofs.ReadStepLemmas.{faults_bad, plain_at, refuses_opening, refuses_trees, takes_trees}
use Rattle.bridge.proofs.reading.add.Goals as goal

pub returns-in_err-open_group-in-Opening-clause-refused : goal.returns-in_err-open_group-in-Opening-clause-refused
returns-in_err-open_group-in-Opening-clause-refused c =
    handed_on c.from_residual.result _ _ c.from_residual.ensures.1
    (λ t after same at follows. rw c.in-Opening.is (refuses_opening c.args.builder.now.tree _ c.in-Opening.kind _ c.in_err-open_group-in-Opening.ensures.refused))

pub returns-in-Closing-clause-takes : goal.returns-in-Closing-clause-takes
returns-in-Closing-clause-takes c = rw c.in-Closing.is (λ t after same at follows. c.close.ensures t after at)

pub returns-in-Neither-clause-takes : goal.returns-in-Neither-clause-takes
returns-in-Neither-clause-takes c = λ t after same at follows.
    rw (c.in-Neither.is, at) (faults_bad c.args.builder.now.tree c.args.builder.now.tree c.args.range _ refl)

pub returns-in_err-add_trees-in_default : goal.returns-in_err-add_trees-in_default
returns-in_err-add_trees-in_default c = record {
  takes = no_value c.from_residual-in_err-add_trees-in_default.result _ _ c.from_residual-in_err-add_trees-in_default.ensures.1;
  refused =
      handed_on c.from_residual-in_err-add_trees-in_default.result _ _ c.from_residual-in_err-add_trees-in_default.ensures.1
      (λ t after same at follows.
      let plain = plain_at c.args.class t after _ _ _ same at follows c.in_default.not-Opening c.in_default.not-Closing c.in_default.not-Neither in
      refuses_trees c.args.builder.now.tree _ _ _ plain c.in_err-add_trees-in_default.ensures.refused);
}

pub returns-in_ok-add_trees-in_default : goal.returns-in_ok-add_trees-in_default
returns-in_ok-add_trees-in_default c = record {
  takes = λ t after same at follows.
      let plain = plain_at c.args.class t after _ _ _ same at follows c.in_default.not-Opening c.in_default.not-Closing c.in_default.not-Neither in
      takes_trees c.args.builder.now.tree c.add_trees.new.builder.tree _ _ plain c.in_ok-add_trees-in_default.ensures.ok;
  refused = tt;
}
