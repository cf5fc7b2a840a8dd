-- What the first rule that fits gives is passed on.
use Rattle.std.proofs.Common.{◌≡◌, sym, ap, ◌∙◌, ℕ, Option, option_map}
use Rattle.tt.specs.Tops.{Top}
use Rattle.tt.specs.Views.{forest}
use Rattle.tt_data.specs.Forest.{Forest}
use Rattle.mbe.specs.Answers.{within}
use Rattle.mbe.specs.Fit.{fit}
use Rattle.mbe.specs.Macros.{rules_of}
use Rattle.mbe_transcriber.specs.Markers.{is_name}
use Rattle.mbe.proofs.declarative_macro.DeclarativeMacro.fit_within.Goals as goal
use Rattle.mbe.proofs.declarative_macro.DeclarativeMacro.fit_within.Goals.{in-Some-given, in-None}

pub returns-clause-fit : goal.returns-clause-fit
returns-clause-fit g c = λ mark marked.
    let top : Option (ℕ × Forest) → Option (ℕ × Top) = option_map (λ r. (r.0, within c.args.bounds.top r.1)) in
    let fits : c.in-Some.field-0.given ≡ top (fit is_name (g.G.FragmentGrammar.answer c.args.grammar.now) mark (rules_of c.args.self.now).list c.args.call_style (forest c.args.argument)) =
    (rw c.in-Some.is at c.in_ok-tried.ensures.fit) mark marked
    ∙ ap (λ rules. top (fit is_name (g.G.FragmentGrammar.answer c.args.grammar.now) mark rules c.args.call_style (forest c.args.argument))) c.list-list.ensures.rules in
    elim c.match-given.branch [
      | in-Some-given w ↦ w.given-is ∙ sym w.in-Some-given.is ∙ fits
      | in-None w ↦ w.given-is ∙ sym w.in-None.is ∙ fits
    ]
