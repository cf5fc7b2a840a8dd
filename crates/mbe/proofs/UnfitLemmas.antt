-- The search through rules for one with a given style of call.
use Rattle.std.proofs.Common.{◌≡◌, sym, ap, ◌∙◌, ℕ, zero, suc, ◌+◌, ◌<◌, true, false, ◌||◌, List, [], ◌∷◌, map, length, get_or, drop, drop-cons, Option, Some, None, option_map, IfSome, arith, rules}
use Rattle.mbe_rules.specs.Ops.{rule_of}
use Rattle.mbe_rules.specs.declared.macro_call_style.MacroCallStyle.{MacroCallStyle}
use Rattle.mbe_rules.specs.declared.rules.Rule.{Rule}
use Rattle.mbe.specs.Fit.{same_style}
use Rattle.mbe.specs.declared.recovery.Candidate.{Candidate}
use Rattle.mbe.specs.Unfit.{has_style, has_style_at, IsOfStyle}

-- a rule of this style was found, or none is among the rules that were passed
abbrev pub FoundUpTo : MacroCallStyle → List Rule → ℕ → Option ℕ → Type 0
FoundUpTo style rs i None = has_style style (map rule_of (drop i rs)) ≡ has_style style (map rule_of rs)
FoundUpTo style rs i (Some n) = has_style_at style (map rule_of rs) n ≡ true

-- the rule at a place has the style that it has
pub style-there : (style : MacroCallStyle) (rs : List Rule) (i : ℕ) (x : Rule) → i < length rs → x ≡ get_or rs i x → same_style style x.style ≡ true →
    has_style_at style (map rule_of rs) i ≡ true
style-there style [] i x h e s = absurd (omega arith)
style-there style (y ∷ ys) zero x h e s = sym (ap (λ (z : Rule). same_style style z.style) e) ∙ s
style-there style (y ∷ ys) (suc i) x h e s = style-there style ys i x (omega arith) e s

-- a rule of another style is passed
pub found-past : (style : MacroCallStyle) (rs : List Rule) (i : ℕ) (x : Rule) (o : Option ℕ) → i < length rs → x ≡ get_or rs i x →
    same_style style x.style ≡ false → FoundUpTo style rs i o → FoundUpTo style rs (i + 1) o
found-past style rs i x (Some n) h e s was = was
found-past style rs i x None h e s was =
    let next : i + 1 ≡ suc i = omega arith in
    let d : drop i rs ≡ x ∷ drop (suc i) rs = drop-cons rs i x h ∙ ap (λ y. y ∷ drop (suc i) rs) (sym e) in
    ap (λ n. has_style style (map rule_of (drop n rs))) next
    ∙ sym (ap (λ b. b || has_style style (map rule_of (drop (suc i) rs))) s) ∙ sym (ap (λ l. has_style style (map rule_of l)) d) ∙ was

-- what was found has the style
pub found-before : (style : MacroCallStyle) (rs : List Rule) (i : ℕ) (o : Option Candidate) → FoundUpTo style rs i (option_map (λ x. x.index) o) →
    IfSome o (λ x. has_style_at style (map rule_of rs) x.index ≡ true)
found-before style rs i None was = search rules
found-before style rs i (Some x) was = was

-- all are passed
pub found-all : (style : MacroCallStyle) (rs : List Rule) (i : ℕ) (o : Option ℕ) → drop i rs ≡ [] → FoundUpTo style rs i o → IsOfStyle style (map rule_of rs) o
found-all style rs i (Some n) e was = was
found-all style rs i None e was = sym was ∙ ap (λ l. has_style style (map rule_of l)) e
