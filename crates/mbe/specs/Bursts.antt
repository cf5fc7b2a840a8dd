-- Calls with too much output: a rule tried gives too many tokens for a tree, even before a fault.
use Rattle.std.specs.Prelude.{ℕ, Bool, true, false, ◌||◌, nat_lt, List, [], ◌∷◌, Option, Some, None}
use Rattle.tt.specs.Building.{most_tokens}
use Rattle.tt_data.specs.Forest.{Forest}
use Rattle.tt_data.specs.declared.span.Span.{Span}
use Rattle.mbe_rules.specs.Items.{Rule}
use Rattle.mbe_rules.specs.declared.macro_call_style.MacroCallStyle.{MacroCallStyle}
use Rattle.mbe_transcriber.specs.mbe_matcher.Bindings.{bindings}
use Rattle.mbe.specs.Fit.{same_style, styled_fit}
use Rattle.mbe_transcriber.specs.Limits.{most_rounds}
use Rattle.mbe_transcriber.specs.mbe_matcher.Grammar.{Grammar}
use Rattle.mbe_transcriber.specs.Output.{output}
use Rattle.mbe_transcriber.specs.mbe_matcher.Readings.{Move, the_reading}

-- false where a rule fits, and else what holds of later ones
abbrev pub unless_fit : Option Forest → Bool → Bool
unless_fit (Some f) later = false
unless_fit None later = later

module _ (is_identifier : List ℕ → Bool) (grammar : Grammar) (mark : Span → Span) where
  -- after a reading, if there is one, a transcriber gives more tokens than a tree may have
  abbrev pub template_bursts : Rule → Option (List Move) → Bool
  template_bursts r None = false
  template_bursts r (Some ms) = nat_lt most_tokens (output is_identifier most_rounds mark (bindings ms) r.template)

  -- a rule of this style does so
  abbrev pub rule_bursts : MacroCallStyle → Rule → Forest → Bool
  rule_bursts style r argument =
      elim (same_style style r.style) [ true ↦ template_bursts r (the_reading grammar r.pattern argument) | false ↦ false ]

  -- one of these rules does so, up to the first that fits
  abbrev pub bursts : List Rule → MacroCallStyle → Forest → Bool
  bursts [] style argument = false
  bursts (r ∷ rs) style argument =
      rule_bursts style r argument || unless_fit (styled_fit is_identifier grammar mark style r argument) (bursts rs style argument)
