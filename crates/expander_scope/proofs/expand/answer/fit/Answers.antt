-- What a rule gives is inside brackets; what is put out is charged.
use Rattle.std.proofs.Common.{◌≡◌, ℕ, refl, sym, ap, ◌∙◌}
use Rattle.std.specs.Prelude.{Option, Some, None, option_map}
use Rattle.tt.specs.Tops.{Top}
use Rattle.tt_data.specs.Forest.{Forest}
use Rattle.tt_data.specs.declared.delimiter.Delimiter.{Delimiter}
use Rattle.expander_model.specs.mbe.Answers.{within}
use Rattle.expander_model.specs.mbe.PutOut as output
use Rattle.expander_model.specs.mbe.Macros.{rules_of}
use Rattle.expander_model.specs.mbe.Markers.{is_name}
use Rattle.mbe_rules.specs.declared.macro_call_style.MacroCallStyle.TheVariants.{FnLike}
use Rattle.expander_model.specs.Limits.{calls_of, sized}
use Rattle.expander_model.specs.World.{fit_of, made}
use Rattle.expander_scope.specs.Spending.{left_behind}
use Rattle.expander_scope.proofs.expand.answer.fit.Goals as goal

-- the trees of what a rule gives
inner_of : (top : Delimiter) (o : Option (ℕ × Forest)) (given : Option (ℕ × Top)) → given ≡ option_map (λ (r : ℕ × Forest). (r.0, within top r.1)) o
    → option_map (λ (t : Top). t.inner) (option_map (λ (r : ℕ × Top). r.1) given) ≡ option_map (λ (r : ℕ × Forest). r.1) o
inner_of top o given e = ap (λ (x : Option (ℕ × Top)). option_map (λ (t : Top). t.inner) (option_map (λ (r : ℕ × Top). r.1) x)) e ∙ go o
  where
    go : (o : Option (ℕ × Forest)) → option_map (λ (t : Top). t.inner) (option_map (λ (r : ℕ × Top). r.1) (option_map (λ (r : ℕ × Forest). (r.0, within top r.1)) o)) ≡ option_map (λ (r : ℕ × Forest). r.1) o
    go None = refl
    go (Some r) = refl

pub returns-clause-fit : goal.returns-clause-fit
returns-clause-fit g c =
    ap (option_map (λ (t : Top). t.inner)) c.without_number-given.ensures
    ∙ inner_of c.invisible_spanned-top.result _ c.in-Some.field-0.given ((rw (c.in-Some.is, c.remaining-argument.ensures) at c.in_ok-tried.ensures.fit) made (λ s t w. w.1))

pub returns-clause-left : goal.returns-clause-left
returns-clause-left g c =
    let gr = g.G.FragmentGrammar.answer c.args.grammar.now in
    let rules = rules_of c.args.rules.now in
    let n = output.put_out is_name gr made rules.list FnLike c.args.argument.now in
    let given : option_map (λ (t : Top). t.inner) c.without_number-given.result ≡ fit_of gr rules c.args.argument.now =
    ap (option_map (λ (t : Top). t.inner)) c.without_number-given.ensures
    ∙ inner_of c.invisible_spanned-top.result _ c.in-Some.field-0.given ((rw (c.in-Some.is, c.remaining-argument.ensures) at c.in_ok-tried.ensures.fit) made (λ s t w. w.1)) in
    sym c.in-Some-charge.is
    ∙ c.charge.ensures n (sym ((rw (c.in-Some.is, c.remaining-argument.ensures, c.most_tokens.ensures) at c.in_ok-tried.ensures.left) made (λ s t w. w.1)))
    ∙ ap (λ k. left_behind c.args.limits (sized k n)) (c.calls_of.ensures ∙ ap calls_of given)

pub returns-in_default-charge-clause-left : goal.returns-in_default-charge-clause-left
returns-in_default-charge-clause-left g c =
    let gr = g.G.FragmentGrammar.answer c.args.grammar.now in
    let rules = rules_of c.args.rules.now in
    let n = output.put_out is_name gr made rules.list FnLike c.args.argument.now in
    let given : option_map (λ (t : Top). t.inner) c.without_number-given.result ≡ fit_of gr rules c.args.argument.now =
    ap (option_map (λ (t : Top). t.inner)) c.without_number-given.ensures
    ∙ inner_of c.invisible_spanned-top.result _ c.in-Some.field-0.given ((rw (c.in-Some.is, c.remaining-argument.ensures) at c.in_ok-tried.ensures.fit) made (λ s t w. w.1)) in
    sym c.in_default-charge.is
    ∙ c.charge.ensures n (sym ((rw (c.in-Some.is, c.remaining-argument.ensures, c.most_tokens.ensures) at c.in_ok-tried.ensures.left) made (λ s t w. w.1)))
    ∙ ap (λ k. left_behind c.args.limits (sized k n)) (c.calls_of.ensures ∙ ap calls_of given)
