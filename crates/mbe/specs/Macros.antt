-- Macros: their rules, and the styles of these.
use Rattle.std.specs.Prelude.{ℕ, List, [], ◌∷◌, bit_or}
use Rattle.tt_data.specs.declared.edition.Edition.{Edition}
use Rattle.tt_data.specs.declared.span.SyntaxContext.{SyntaxContext}
use Rattle.tt_data.specs.declared.span.SyntaxContext.TheVariants.{Written, Made}
use Rattle.mbe_rules.specs.Items.{Rule, Rules}
use Rattle.mbe_rules.specs.Styles.{style_bit}
use Rattle.mbe.specs.Kept.{kept_rules}
use Rattle.mbe.specs.declared.declarative_macro.DeclarativeMacro.{DeclarativeMacro}

-- what is parsed of a macro's definition: its rules, and the first fault
abbrev pub rules_of : DeclarativeMacro → Rules
rules_of m = kept_rules m.kept

-- some styles together with those of these rules, as bits
abbrev pub styles_in : ℕ → List Rule → ℕ
styles_in bits [] = bits
styles_in bits (r ∷ rs) = styles_in (bit_or bits (style_bit r.style)) rs

-- the styles of rules; that of calls by name and `!` if there are no rules
abbrev pub styles_of : List Rule → ℕ
styles_of [] = 1
styles_of (r ∷ rs) = styles_in (style_bit r.style) rs

-- the edition of each of the two contexts
abbrev pub edition_of : Edition → Edition → SyntaxContext → Edition
edition_of written made Written = written
edition_of written made Made = made
