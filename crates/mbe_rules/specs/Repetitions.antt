-- Repetitions: what comes after `$(..)`, a separator and an operator.
-- (The Rust Reference, "Macros By Example": MacroRepSep, MacroRepOp.)
use Rattle.std.specs.Prelude.{ℕ, List, ◌∷◌, if◌then◌else◌, Option, Some, None, option_map, Err}
use Rattle.tt_data.specs.Forest.{Forest, leaf}
use Rattle.tt_data.specs.declared.leaf.Leaf.TheVariants as as_leaf
use Rattle.mbe_rules.specs.declared.errors.ParseError.TheVariants.{InvalidRepeat}
use Rattle.mbe_rules.specs.declared.parser.RepeatKind.{RepeatKind}
use Rattle.mbe_rules.specs.declared.parser.RepeatKind.TheVariants.{ZeroOrMore, OneOrMore, ZeroOrOne}
use Rattle.mbe_rules.specs.Text.{is_character}
use Rattle.mbe_rules.specs.Trees.{first_puncts, Sign, name, literal, punct, signs}
use Rattle.mbe_rules.specs.Items.{Separator, literal_between, ident_between, lifetime_between, puncts_between}
use Rattle.mbe_rules.specs.Parsed.{Parsed, or_fault}

-- the operator that a character is
abbrev pub operator_of : ℕ → Option RepeatKind
operator_of c =
    if is_character "*" c then Some ZeroOrMore
    else if is_character "+" c then Some OneOrMore
    else if is_character "?" c then Some ZeroOrOne else None

-- the forms of a separator
pub data Between : Type 0 where
  nothing : Between
  a_literal : Between
  an_ident : Between
  a_lifetime : Between
  some_puncts : ℕ → Between

-- the number of its trees
abbrev pub trees_between : Between → ℕ
trees_between nothing = 0
trees_between a_literal = 1
trees_between an_ident = 1
trees_between a_lifetime = 2
trees_between (some_puncts n) = n

-- after a separator of this form an operator must come
abbrev pub then_operator : Between → List Sign → Option (Between × RepeatKind)
then_operator between (punct c ∷ more) = option_map (λ op. (between, op)) (operator_of c)
then_operator between _ = None

-- after two puncts: the operator, or a third
abbrev pub after_two : List Sign → Option (Between × RepeatKind)
after_two (punct c ∷ more) =
    elim (operator_of c) [ Some op ↦ Some (some_puncts 2, op) | None ↦ then_operator (some_puncts 3) more ]
after_two _ = None

-- after one punct: the operator, a second punct, or a quote's name; a lone quote is no separator
abbrev pub after_one : ℕ → List Sign → Option (Between × RepeatKind)
after_one first (name n ∷ more) = if is_character "'" first then then_operator a_lifetime more else None
after_one first (punct c ∷ more) =
    elim (operator_of c) [
      | Some op ↦ if is_character "'" first then None else Some (some_puncts 1, op)
      | None ↦ after_two more
    ]
after_one first _ = None

-- a separator's form and the operator: the first of `*`, `+`, `?` is no part of a separator
abbrev pub between_and_operator : List Sign → Option (Between × RepeatKind)
between_and_operator (literal t s ∷ more) = then_operator a_literal more
between_and_operator (name n ∷ more) = then_operator an_ident more
between_and_operator (punct c ∷ more) =
    elim (operator_of c) [ Some op ↦ Some (nothing, op) | None ↦ after_one c more ]
between_and_operator _ = None

-- the separator and the operator in the trees after a repetition's parentheses, or the fault
abbrev pub repeated : Forest → Parsed (Between × RepeatKind)
repeated rest = or_fault (between_and_operator (signs rest)) (Err InvalidRepeat)

-- the separator of this form with which a list begins
abbrev pub separator_in : Between → Forest → Option Separator
separator_in a_literal (leaf (as_leaf.Literal l) rest) = Some (literal_between l)
separator_in an_ident (leaf (as_leaf.Ident i) rest) = Some (ident_between i)
separator_in a_lifetime (leaf (as_leaf.Punct p) (leaf (as_leaf.Ident i) rest)) = Some (lifetime_between p i)
separator_in (some_puncts n) f = Some (puncts_between (first_puncts n f))
separator_in _ f = None
