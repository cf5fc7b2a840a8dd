-- What is parsed of a definition: its rules, and the first fault. (The Rust Reference, "Macros By
-- Example": MacroRules. RFCs 3697 and 3698: rules for attributes and for derives. Rust's unstable
-- book, `decl_macro`: definitions by `macro`.)
use Rattle.std.specs.Prelude.{ℕ, zero, suc, ◌+◌, Bool, ◌||◌, List, [], ◌∷◌, codes, if◌then◌else◌, Option, Some, None, Ok, Err}
use Rattle.std.specs.List.{list_any}
use Rattle.tt_data.specs.Forest.{Forest, empty, leaf, group}
use Rattle.tt_data.specs.declared.edition.Edition.{Edition}
use Rattle.tt_data.specs.declared.span.SyntaxContext.{SyntaxContext}
use Rattle.mbe_rules.specs.declared.errors.ParseError.{ParseError}
use Rattle.mbe_rules.specs.declared.errors.ParseError.TheVariants.{Expected, RepetitionEmptyTokenTree}
use Rattle.mbe_rules.specs.declared.macro_call_style.MacroCallStyle.{MacroCallStyle}
use Rattle.mbe_rules.specs.declared.macro_call_style.MacroCallStyle.TheVariants.{FnLike, Attr, Derive}
use Rattle.mbe_rules.specs.Text.{is, is_character}
use Rattle.mbe_rules.specs.Trees.{past, inside, Sign, name, punct, bracketed, signs}
use Rattle.mbe_rules.specs.Items.{Rule, Rules, has_empty_round}
use Rattle.mbe_rules.specs.Parsed.{Parsed, ◌>>=◌, expected}
use Rattle.mbe_rules.specs.Patterns.{in_pattern, in_template, items_of}

-- ---- the shape of a rule

-- the trees after a group
abbrev pub a_group : List Sign → Parsed (List Sign)
a_group (bracketed ∷ more) = Ok more
a_group _ = expected "expected subtree"

-- the trees after `=`
abbrev pub an_equals : List Sign → Parsed (List Sign)
an_equals (punct c ∷ more) = if is_character "=" c then Ok more else expected "expected `=`"
an_equals _ = expected "expected `=`"

-- the trees after `>`
abbrev pub a_greater : List Sign → Parsed (List Sign)
a_greater (punct c ∷ more) = if is_character ">" c then Ok more else expected "expected `>`"
a_greater _ = expected "expected `>`"

-- a matcher, `=>` and a transcriber, the first and the last a group, with n trees before them
abbrev pub arms : MacroCallStyle → ℕ → List Sign → Parsed (MacroCallStyle × ℕ)
arms style n ts = do
  after_pattern ← a_group ts
  after_equals ← an_equals after_pattern
  after_arrow ← a_greater after_equals
  rest ← a_group after_arrow
  Ok (style, n)

-- after the keyword for a style a group must come; what is in it doesn't count
abbrev pub with_parentheses : MacroCallStyle → ℕ → List Sign → Parsed (MacroCallStyle × ℕ)
with_parentheses style n (bracketed ∷ more) = arms style (suc n) more
with_parentheses style n _ = expected "expected `()`"

-- a rule of one of the styles, with n trees before it
abbrev pub styled : ℕ → List Sign → Parsed (MacroCallStyle × ℕ)
styled n (name w ∷ more) =
    if is "attr" w then with_parentheses Attr (suc n) more
    else if is "derive" w then with_parentheses Derive (suc n) more
    else arms FnLike n (name w ∷ more)
styled n ts = arms FnLike n ts

-- the shape of the rule at the front of a list: its style, and how many trees come before its
-- matcher; an `unsafe` before it all changes nothing
abbrev pub rule_shape : List Sign → Parsed (MacroCallStyle × ℕ)
rule_shape (name w ∷ more) = if is "unsafe" w then styled 1 more else styled 0 (name w ∷ more)
rule_shape ts = styled 0 ts

-- ---- definitions

-- what may separate rules, and the fault if something else does
pub record Delimiting : Type 0 where
  pub is_between : ℕ → Bool
  pub fault : ParseError

-- in `macro_rules!`
abbrev pub by_semicolon : Delimiting
by_semicolon = record { is_between = is_character ";"; fault = Expected (codes "expected `;`") }

-- in `macro`
abbrev pub by_semicolon_or_comma : Delimiting
by_semicolon_or_comma = record {
  is_between = λ c. is_character ";" c || is_character "," c;
  fault = Expected (codes "expected `;` or `,` to delimit rules");
}

-- no rule, and the fault for it, if any
abbrev pub no_rules : Option ParseError → Rules
no_rules err = record { list = []; err = err }

-- a rule before others
abbrev pub with_rule : Rule → Rules → Rules
with_rule r rules = record { list = r ∷ rules.list; err = rules.err }

-- the rules after one: none at the end, and those after a delimiter
abbrev pub delimited : Delimiting → List Sign → Rules → Rules
delimited between [] more = no_rules None
delimited between (punct c ∷ ts) more = if between.is_between c then more else no_rules (Some between.fault)
delimited between _ more = no_rules (Some between.fault)

-- a rule and those after it, or its fault
abbrev pub rule_then : Parsed Rule → Rules → Rules
rule_then (Err e) more = no_rules (Some e)
rule_then (Ok r) more = with_rule r more

-- if a rule can iterate without end, that fault replaces any other
abbrev pub ending : Rules → Rules
ending rules =
    if list_any (λ r. has_empty_round r.pattern) rules.list
    then record rules { err = Some RepetitionEmptyTokenTree } else rules

module _ (edition : SyntaxContext → Edition) where
  -- the rule of a matcher and a transcriber
  abbrev pub rule_of : MacroCallStyle → Forest → Forest → Parsed Rule
  rule_of style pattern template =
      items_of edition in_pattern pattern >>= λ p. items_of edition in_template template >>= λ t.
      Ok (record { style = style; pattern = p; template = t })

  -- the rule at the front of a list, given its style and how many trees come before its matcher
  abbrev pub rule_at : Forest → MacroCallStyle × ℕ → Parsed Rule
  rule_at f shape = rule_of shape.0 (inside (past shape.1 f)) (inside (past (shape.1 + 3) f))

  -- the rules at the front of a list, given the first one's shape; `after` are those further on
  abbrev pub rules_with : Delimiting → Forest → (ℕ → Rules) → Parsed (MacroCallStyle × ℕ) → Rules
  rules_with between f after (Err e) = no_rules (Some e)
  rules_with between f after (Ok shape) =
      rule_then (rule_at f shape) (delimited between (signs (past (shape.1 + 4) f)) (after (shape.1 + 4)))

  -- the rules of the trees that are left after `skip` more
  abbrev pub rules_after : Delimiting → ℕ → Forest → Rules
  rules_after between skip empty = no_rules None
  rules_after between (suc skip) (leaf l rest) = rules_after between skip rest
  rules_after between (suc skip) (group d inner rest) = rules_after between skip rest
  rules_after between zero (leaf l rest) =
      rules_with between (leaf l rest) (λ n. rules_after between n rest) (rule_shape (signs (leaf l rest)))
  rules_after between zero (group d inner rest) =
      rules_with between (group d inner rest) (λ n. rules_after between n rest) (rule_shape (signs (group d inner rest)))

  -- `macro_rules! name { .. }`
  abbrev pub macro_rules_of : Forest → Rules
  macro_rules_of body = ending (rules_after by_semicolon 0 body)

  -- `macro name { .. }`, and `macro name(..) { .. }`, which is one rule
  abbrev pub macro_of : Option Forest → Forest → Rules
  macro_of None body = ending (rules_after by_semicolon_or_comma 0 body)
  macro_of (Some arguments) body = ending (rule_then (rule_of FnLike arguments body) (no_rules None))
