-- The rules that are parsed from a definition.
use Rattle.std.proofs.Common.{◌≡◌, sym, ap, ◌∙◌, true, if◌then◌else◌}
use Rattle.std.specs.Prelude.{Option}
use Rattle.tt_data.specs.Forest.{Forest}
use Rattle.tt_data.specs.declared.edition.Edition.{Edition}
use Rattle.mbe_rules.specs.Parsing.{macro_of, macro_rules_of}
use Rattle.expander_model.specs.Definitions.{Definition}
use Rattle.expander_model.specs.World.{rules_by}

-- of a `macro`
pub rules_of_macro : (edition : Edition) (d : Definition) (arguments : Option Forest) (body : Forest) → d.is_macro ≡ true → arguments ≡ d.arguments → body ≡ d.body
    → macro_of (λ context. edition) arguments body ≡ rules_by edition d
rules_of_macro edition d arguments body is_so of_arguments of_body =
    ap (λ a. macro_of (λ context. edition) a body) of_arguments
    ∙ ap (macro_of (λ context. edition) d.arguments) of_body
    ∙ sym (ap (λ b. if b then macro_of (λ context. edition) d.arguments d.body else macro_rules_of (λ context. edition) d.body) is_so)
