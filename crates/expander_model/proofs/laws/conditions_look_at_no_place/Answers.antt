use Rattle.std.proofs.Common.{refl}
use Rattle.cfg_options.specs.Strings.{string_text}
use Rattle.expander_model.proofs.ConditionPlaceLemmas.{left_out-with}
use Rattle.expander_model.proofs.laws.conditions_look_at_no_place.Goals as goal

pub returns : goal.returns
returns c = λ options. left_out-with options string_text (λ s l. refl)
