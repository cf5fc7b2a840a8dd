-- Fit: the first rule that matches a call, and its result. (The Rust Reference, "Macros By
-- Example".)
use Rattle.std.specs.Prelude.{ℕ, suc, Bool, true, false, List, [], ◌∷◌, Option, Some, None, option_map, option_and_then}
use Rattle.tt_data.specs.Forest.{Forest, map_spans}
use Rattle.tt_data.specs.declared.span.Span.{Span}
use Rattle.mbe_rules.specs.Items.{Rule}
use Rattle.mbe_rules.specs.declared.macro_call_style.MacroCallStyle.{MacroCallStyle}
use Rattle.mbe_rules.specs.declared.macro_call_style.MacroCallStyle.TheVariants.{FnLike, Attr, Derive}
use Rattle.mbe_transcriber.specs.mbe_matcher.Bindings.{bindings}
use Rattle.mbe_transcriber.specs.Filling.{filled}
use Rattle.mbe_transcriber.specs.Limits.{most_rounds}
use Rattle.mbe_transcriber.specs.mbe_matcher.Grammar.{Grammar}
use Rattle.mbe_transcriber.specs.mbe_matcher.Readings.{the_reading}

-- the two styles of calls are the same
abbrev pub same_style : MacroCallStyle → MacroCallStyle → Bool
same_style FnLike FnLike = true
same_style Attr Attr = true
same_style Derive Derive = true
same_style _ _ = false

-- the forest of rule n, or else what a later rule gives
abbrev pub or_later : ℕ → Option Forest → Option (ℕ × Forest) → Option (ℕ × Forest)
or_later n (Some f) later = Some (n, f)
or_later n None later = later

module _ (is_identifier : List ℕ → Bool) (grammar : Grammar) (mark : Span → Span) where
  -- what one rule gives for an argument
  abbrev pub rule_fit : Rule → Forest → Option Forest
  rule_fit r argument =
      option_and_then (λ ms. filled is_identifier most_rounds mark (bindings ms) r.template) (the_reading grammar r.pattern argument)

  -- what one rule gives for an argument, if the rule has this style
  abbrev pub styled_fit : MacroCallStyle → Rule → Forest → Option Forest
  styled_fit style r argument = elim (same_style style r.style) [ true ↦ rule_fit r argument | false ↦ None ]

  -- the first of these rules that fits, where the first of them has index n
  abbrev pub fit_from : MacroCallStyle → Forest → ℕ → List Rule → Option (ℕ × Forest)
  fit_from style argument n [] = None
  fit_from style argument n (r ∷ rs) = or_later n (styled_fit style r argument) (fit_from style argument (suc n) rs)

  -- the first of the rules that fits, by its index from 0, and what it gives
  abbrev pub fit : List Rule → MacroCallStyle → Forest → Option (ℕ × Forest)
  fit rules style argument = fit_from style argument 0 rules

-- a fit under a span map: the same rule, with its forest mapped
abbrev pub fit_with : (Span → Span) → Option (ℕ × Forest) → Option (ℕ × Forest)
fit_with f = option_map (λ (r : ℕ × Forest). (r.0, map_spans f r.1))
