use Rattle.std.proofs.Common.{◌∙◌, ◌++◌, List, ℕ, ap, drop, map, subst, take}
use Rattle.std.specs.List.{AllZip}
use Rattle.serde_json.specs.View.{view}
use Rattle.expander_model.specs.declared.fault.Fault.{Fault}
use Rattle.reply_json.specs.Explanations.{Explains, most}
use Rattle.reply_json.specs.Lines.{fault}
use Rattle.reply_json.proofs.ExplainedLemmas.{first_are, rest_are}
use Rattle.reply_json.proofs.explained.explained_faults.Goals as goal

pub returns : goal.returns
returns g c =
    let text = c.args.question.now.text.now in
    let all = c.args.faults.now in
    let first = map view c.in_ok-list.list.items in (
      first,
      subst (λ (fs : List Fault). AllZip (Explains (g.G.FragmentGrammar.answer c.args.question.now.grammar.now) text) fs first)
          (c.split_at.ensures.front ∙ ap (λ (n : ℕ). take n all) c.min.ensures ∙ first_are all most)
          c.in_ok-list.ensures,
      c.in_ok-push_faults.ensures ∙ ap (λ (fs : List Fault). first ++ map (fault text) fs)
          (c.split_at.ensures.back ∙ ap (λ (n : ℕ). drop n all) c.min.ensures ∙ rest_are all most),
    )
