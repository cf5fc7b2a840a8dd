use Rattle.std.proofs.Common.{◌≡◌, ◌∙◌, ◌∷◌, ap, map, rules, subst, sym, true, false}
use Rattle.expander_model.specs.Scoping.{is_out}
use Rattle.expander_model.specs.declared.scope_rules.Standing.TheVariants.{Top}
use Rattle.expander_scope.specs.Editions.{IsRead}
use Rattle.expander_scope.specs.MacroDefs.{definition_in}
use Rattle.expander_scope.specs.Outcomes.{numbered_of_known}
use Rattle.expander_scope.specs.declared.macro_def.MacroDef.{MacroDef}
use Rattle.call_expansion.specs.InScope.{HasInScope, met_alone}
use Rattle.call_expansion.proofs.ScopeLemmas.{entered, piece_in}
use Rattle.call_expansion.proofs.definitions.enter.Goals as goal

pub define-requires-clause-rules : goal.define-requires-clause-rules
define-requires-clause-rules c = subst (IsRead c.args.scope.now.edition) (sym c.in-Ok.ensures.ok) c.requires.rules

pub returns-then-branch-clause-met : goal.returns-then-branch-clause-met
returns-then-branch-clause-met c = λ before has.
    let says : c.in_ok-is_out.field-0 ≡ true = search rules in
    let out : is_out c.args.dialect.now.cfg Top (definition_in c.args.known.tree.inner).piece ≡ true =
    ap (is_out c.args.dialect.now.cfg Top) (piece_in c.args.known.tree.inner ∙ sym c.iter.ensures) ∙ sym c.in_ok-is_out.ensures ∙ says in
    entered c.args.dialect.now c.pass.new.self c.args.known before c.requires.number (c.in_ok-pass.ensures.met c.args.dialect.now (map met_alone before) out has)

pub returns-clause-met : goal.returns-clause-met
returns-clause-met c = λ before has.
    let says : c.in_ok-is_out.field-0 ≡ false = search rules in
    let k : MacroDef = c.in-Ok.known.value in
    let same : k ≡ c.args.known = c.in-Ok.ensures.ok in
    let kept : is_out c.args.dialect.now.cfg Top (definition_in k.tree.inner).piece ≡ false =
    ap (is_out c.args.dialect.now.cfg Top) (piece_in k.tree.inner ∙ ap (λ (x : MacroDef). x.tree.inner) same ∙ sym c.iter.ensures) ∙ sym c.in_ok-is_out.ensures ∙ says in
    subst (λ (x : MacroDef). HasInScope c.args.dialect.now c.define.new.self ((numbered_of_known x).definition ∷ before)) same
    (entered c.args.dialect.now c.define.new.self k before (ap (λ (x : MacroDef). x.number) same ∙ c.requires.number)
    (c.in_ok-define.ensures.met c.args.dialect.now (map met_alone before) kept has))
