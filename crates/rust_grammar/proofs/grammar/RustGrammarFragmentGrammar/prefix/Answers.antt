use Rattle.std.proofs.Common.{sym, ap, ◌∙◌}
use Rattle.tt.specs.Views.{forest}
use Rattle.tt_data.specs.Forest.{joined}
use Rattle.rust_grammar.specs.Answer.{comes_of}
use Rattle.rust_grammar.specs.Laws.{answer-passed, answer-misses, answer-faults, comes_of-takes}
use Rattle.rust_grammar.proofs.grammar.RustGrammarFragmentGrammar.prefix.Goals as goal

pub passed_since-requires : goal.passed_since-requires
passed_since-requires c =
    let ed = c.args.self.now.edition in
    let w = comes_of-takes ed c.args.entry (forest c.args.input) c.in-Fits.rest (ap (comes_of ed c.args.entry) (sym c.iter.ensures) ∙ sym c.come_of_entry.ensures ∙ c.in-Fits.is) in
    (w.0, w.1 ∙ ap (joined w.0) (sym c.trees.ensures))

pub returns-in-Fits : goal.returns-in-Fits
returns-in-Fits c =
    let ed = c.args.self.now.edition in
    answer-passed ed c.args.entry (forest c.args.input) (forest c.passed_since.result) c.in-Fits.rest c.steps.result
    (ap (comes_of ed c.args.entry) (sym c.iter.ensures) ∙ sym c.come_of_entry.ensures ∙ c.in-Fits.is) (c.passed_since.ensures ∙ ap (joined (forest c.passed_since.result)) c.trees.ensures) c.steps.ensures

pub returns-in-Misses : goal.returns-in-Misses
returns-in-Misses c =
    let ed = c.args.self.now.edition in
    answer-misses ed c.args.entry (forest c.args.input)
    (ap (comes_of ed c.args.entry) (sym c.iter.ensures) ∙ sym c.come_of_entry.ensures ∙ c.in-Misses.is)

pub returns-in-Faults : goal.returns-in-Faults
returns-in-Faults c =
    let ed = c.args.self.now.edition in
    answer-faults ed c.args.entry (forest c.args.input)
    (ap (comes_of ed c.args.entry) (sym c.iter.ensures) ∙ sym c.come_of_entry.ensures ∙ c.in-Faults.is)
