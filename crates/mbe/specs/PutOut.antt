-- How many tokens the rules put out for a call: those that are tried, up to the first that fits.
-- What a transcriber puts out before a fault counts. (Of this project.)
use Rattle.std.specs.Prelude.{ℕ, ◌+◌, ◌-◌, Bool, true, false, nat_lt, List, [], ◌∷◌, Option, Some, None, if◌then◌else◌}
use Rattle.tt_data.specs.Forest.{Forest}
use Rattle.tt_data.specs.declared.span.Span.{Span}
use Rattle.mbe_rules.specs.Items.{Rule}
use Rattle.mbe_rules.specs.declared.macro_call_style.MacroCallStyle.{MacroCallStyle}
use Rattle.mbe_transcriber.specs.mbe_matcher.Bindings.{bindings}
use Rattle.mbe_transcriber.specs.mbe_matcher.Grammar.{Grammar}
use Rattle.mbe_transcriber.specs.mbe_matcher.Readings.{Move, the_reading}
use Rattle.mbe_transcriber.specs.Limits.{most_rounds}
use Rattle.mbe_transcriber.specs.Output.{output}
use Rattle.mbe.specs.Fit.{same_style, styled_fit}

-- nothing where a rule fits, and else so many tokens of later ones
abbrev pub if_unfit : Option Forest → ℕ → ℕ
if_unfit (Some f) later = 0
if_unfit None later = later

module _ (is_identifier : List ℕ → Bool) (grammar : Grammar) (mark : Span → Span) where
  -- what a transcriber puts out after a reading, if there is one
  abbrev pub template_output : Rule → Option (List Move) → ℕ
  template_output r None = 0
  template_output r (Some ms) = output is_identifier most_rounds mark (bindings ms) r.template

  -- what a rule puts out, if it has this style
  abbrev pub rule_output : MacroCallStyle → Rule → Forest → ℕ
  rule_output style r argument =
      elim (same_style style r.style) [
        | true ↦ template_output r (the_reading grammar r.pattern argument)
        | false ↦ 0
      ]

  -- what these rules put out, up to the first that fits
  abbrev pub put_out : List Rule → MacroCallStyle → Forest → ℕ
  put_out [] style argument = 0
  put_out (r ∷ rs) style argument =
      rule_output style r argument
      + if_unfit (styled_fit is_identifier grammar mark style r argument)
      (put_out rs style argument)

-- what is left of a limit of tokens, or of none, behind so many; none where these are more
abbrev pub left_of : Option ℕ → ℕ → Option (Option ℕ)
left_of None n = Some None
left_of (Some most) n = if nat_lt most n then None else Some (Some (most - n))
