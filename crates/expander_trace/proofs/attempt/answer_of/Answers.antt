use Rattle.std.proofs.Common.{◌≡◌, ◌<◌, false, rules}
use Rattle.std.specs.Prelude.{is_some, option_map}
use Rattle.mbe.specs.Macros.{rules_of}
use Rattle.expander_model.specs.Held.{anchored_definition}
use Rattle.expander_model.specs.World.{rules_in}
use Rattle.expander_scope.specs.Outcomes.{numbered_of_known}
use Rattle.expander_trace.specs.Trying.{tree_in}
use Rattle.expander_trace.proofs.AttemptLemmas.{given_deep}
use Rattle.expander_trace.proofs.attempt.answer_of.Goals as goal

pub returns-clause-given : goal.returns-clause-given
returns-clause-given g c = λ edition read.
    let whole : is_some (rules_of c.args.known.now.rules).err ≡ false = search rules in
    let deep : 0 < c.args.by.now.depth = search rules in
    given_deep (g.G.FragmentGrammar.answer c.args.by.now.grammar.now) (rules_of c.args.known.now.rules) (rules_in edition (anchored_definition (numbered_of_known c.args.known.now))) c.args.by.now.depth
    c.args.argument.now _ (option_map tree_in c.in-Some.field-0.given) read whole deep (rw c.in-Some.is at c.in_ok-tried.ensures.given) c.in_ok-given.ensures.given
