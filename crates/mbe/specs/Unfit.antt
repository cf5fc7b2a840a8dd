-- The answer for a call that no rule fits.
use Rattle.std.specs.Prelude.{◌≡◌, ℕ, zero, suc, Bool, true, false, ◌||◌, List, [], ◌∷◌, Option, Some, None, IsSome}
use Rattle.tt.specs.Tops.{Top}
use Rattle.tt_data.specs.Forest.{empty}
use Rattle.tt_data.specs.declared.span.Span.{Span}
use Rattle.mbe_rules.specs.Items.{Rule}
use Rattle.mbe_rules.specs.declared.errors.ExpandErrorKind.{ExpandErrorKind}
use Rattle.mbe_rules.specs.declared.errors.ExpandErrorKind.TheVariants.{NoMatchingRule}
use Rattle.mbe_rules.specs.declared.macro_call_style.MacroCallStyle.{MacroCallStyle}
use Rattle.mbe.specs.Answers.{within, no_brackets}
use Rattle.mbe.specs.Fit.{same_style}

-- one of the rules has this style
abbrev pub has_style : MacroCallStyle → List Rule → Bool
has_style style [] = false
has_style style (r ∷ rs) = same_style style r.style || has_style style rs

-- the rule of this index has this style
abbrev pub has_style_at : MacroCallStyle → List Rule → ℕ → Bool
has_style_at style [] n = false
has_style_at style (r ∷ rs) zero = same_style style r.style
has_style_at style (r ∷ rs) (suc n) = has_style_at style rs n

-- the index of a rule of this style, or none if no rule has it
abbrev pub IsOfStyle : MacroCallStyle → List Rule → Option ℕ → Type 0
IsOfStyle style rules None = has_style style rules ≡ false
IsOfStyle style rules (Some n) = has_style_at style rules n ≡ true

-- an error, and trees in no brackets; without a rule, `NoMatchingRule` and no trees
abbrev pub IsTold : Span → Option ℕ → Top → Option (Span × ExpandErrorKind) → Type 0
IsTold place None tree err = (tree ≡ within (no_brackets place) empty) × (err ≡ Some (place, NoMatchingRule))
IsTold place (Some n) tree err = (tree.delimiter ≡ no_brackets place) × IsSome err

-- the answer names a rule of the call's style, if there is one, and an error
abbrev pub IsUnfit : MacroCallStyle → List Rule → Span → Option ℕ → Top → Option (Span × ExpandErrorKind) → Type 0
IsUnfit style rules place number tree err = IsOfStyle style rules number × IsTold place number tree err
