-- The styles of calls as bits of a set.
use Rattle.std.specs.Prelude.{ℕ, List, [], ◌∷◌, codes}
use Rattle.mbe_rules.specs.declared.macro_call_style.MacroCallStyle.{MacroCallStyle}
use Rattle.mbe_rules.specs.declared.macro_call_style.MacroCallStyle.TheVariants.{FnLike, Attr, Derive}
use Rattle.mbe_rules.specs.declared.macro_call_style.MacroCallStyles.{MacroCallStyles}

-- the bits of a set
abbrev pub bits_of : MacroCallStyles → ℕ
bits_of styles = styles.0

-- the set of only one style
abbrev pub style_bit : MacroCallStyle → ℕ
style_bit FnLike = 1
style_bit Attr = 2
style_bit Derive = 4

-- the styles by their names in a set
abbrev pub style_names : List (List ℕ × ℕ)
style_names = (codes "FN_LIKE", style_bit FnLike) ∷ (codes "ATTR", style_bit Attr) ∷ (codes "DERIVE", style_bit Derive) ∷ []
