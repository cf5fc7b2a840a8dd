-- How the rules of the definition of a call take its argument. (Of this project.)
use Rattle.std.specs.Prelude.{List}
use Rattle.tt_data.specs.Forest.{Forest}
use Rattle.mbe_rules.specs.Items.{Rule}
use Rattle.mbe_rules.specs.declared.macro_call_style.MacroCallStyle.TheVariants.{FnLike}
use Rattle.mbe_explain.specs.mbe.Grammar.{Grammar}
use Rattle.mbe_explain.specs.mbe.mbe_transcriber.Markers.{is_name}
use Rattle.mbe_explain.specs.Rules.{AreTold, IsNearest, of_style}
use Rattle.mbe_explain.specs.declared.rules.Explanation.{Explanation}

-- each of these rules for calls like a function is told of, by this grammar and for this argument,
-- and which is nearest to a match
pub record IsExplained (gr : Grammar) (rules : List Rule) (argument : Forest) (e : Explanation)
    : Type 0 where
  pub told : AreTold is_name gr argument (of_style FnLike 0 rules) e.rules.items
  pub nearest : IsNearest e.rules.items e.nearest
