-- What is bound in a call, by the rules that are parsed of its definition.
use Rattle.std.proofs.Common.{◌≡◌, ◌∙◌, ap, Option, Some, None, option_and_then, refl, true}
use Rattle.std.specs.Prelude.{is_some, unwrap_or}
use Rattle.mbe_matcher.specs.Grammar.{Grammar}
use Rattle.mbe_rules.specs.Items.{Rules}
use Rattle.tt_data.specs.Forest.{Forest}
use Rattle.tt_data.specs.declared.edition.Edition.{Edition}
use Rattle.expander_trace.specs.Steps.{Attempt}
use Rattle.rule_bindings.specs.BoundRules.{BoundRule}
use Rattle.step_report.specs.Bound.{attempt_bound, bound_in, context_by, piece_rules}
use Rattle.step_report.specs.Texts.{Named}

pub told-rule : (t : Named) (gr : Grammar) (e : Edition) (a : Attempt Forest) (rules : Rules)
    (tree : Forest) (o : Option BoundRule)
    → Some rules ≡ piece_rules e tree → tree ≡ a.definition
    → o ≡ bound_in gr rules a.call a.given → o ≡ attempt_bound (context_by t gr e) a
told-rule t gr e a rules tree o parsed same bound =
    bound ∙ ap (option_and_then (λ r. bound_in gr r a.call a.given))
    (parsed ∙ ap (piece_rules e) same)

-- a definition that is there is the one that is there or else another
pub there : {A : Type 0} → (o : Option A) (d : A) → is_some o ≡ true → Some (unwrap_or o d) ≡ o
there (Some x) d is = refl
there None d is = absurd (cc is)
