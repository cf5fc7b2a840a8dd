-- What the parser's functions answer, in terms of the definitions.
use Rattle.std.specs.Prelude.{ℕ, ◌+◌, ◌&&◌, not, nat_eq, if◌then◌else◌, List, ◌++◌, Option, Some, None, option_map, Result, Ok, Err}
use Rattle.std.specs.declared.vec.Vec.{Vec}
use Rattle.std.specs.declared.alloc.Global.{Global}
use Rattle.tt_data.specs.Forest.{Forest, empty, leaf, group}
use Rattle.tt_data.specs.declared.edition.Edition.{Edition}
use Rattle.tt_data.specs.declared.leaf.Ident.{Ident}
use Rattle.tt_data.specs.declared.leaf.Leaf.TheVariants as as_leaf
use Rattle.tt_data.specs.declared.leaf.Punct.{Punct}
use Rattle.tt_data.specs.declared.span.Span.{Span}
use Rattle.tt_data.specs.declared.span.SyntaxContext.{SyntaxContext}
use Rattle.tt_data.specs.declared.span.SyntaxContext.TheVariants.{Written, Made}
use Rattle.mbe_rules.specs.Expressions.{expression_in}
use Rattle.mbe_rules.specs.Items as spec
use Rattle.mbe_rules.specs.Items.{variable, dollar, Items, done, item, group_of, repetition}
use Rattle.mbe_rules.specs.Ops as ops
use Rattle.mbe_rules.specs.Ops.{put_op, items_of, separator_of}
use Rattle.mbe_rules.specs.Parsed.{Parsed, ◌>>=◌, unexpected, or_fault}
use Rattle.mbe_rules.specs.Parsing.{Delimiting, by_semicolon, by_semicolon_or_comma, rule_of}
use Rattle.mbe_rules.specs.Patterns as patterns
use Rattle.mbe_rules.specs.Patterns.{Mode, in_pattern, in_template, Head, trees_of, item_of, kind_of, is_repetition}
use Rattle.mbe_rules.specs.Repetitions.{Between, trees_between, separator_in, operator_of}
use Rattle.mbe_rules.specs.Text.{is_char, is_word}
use Rattle.mbe_rules.specs.Trees.{past, inside}
use Rattle.mbe_rules.specs.declared.parse.definition.Delimiting as definition
use Rattle.mbe_rules.specs.declared.parse.definition.Delimiting.TheVariants.{Semicolon, SemicolonOrComma}
use Rattle.mbe_rules.specs.declared.parse.editions.Editions.{Editions}
use Rattle.mbe_rules.specs.declared.errors.ParseError.{ParseError}
use Rattle.mbe_rules.specs.declared.parse.dollar.Mode as parse_mode
use Rattle.mbe_rules.specs.declared.parse.dollar.Mode.TheVariants.{Pattern, Template}
use Rattle.mbe_rules.specs.declared.macro_call_style.MacroCallStyle.{MacroCallStyle}
use Rattle.mbe_rules.specs.declared.parser.Op.{Op}
use Rattle.mbe_rules.specs.declared.parser.RepeatKind.{RepeatKind}
use Rattle.mbe_rules.specs.declared.parser.Separator.{Separator}
use Rattle.mbe_rules.specs.declared.rules.Rule.{Rule}
use Rattle.mbe_rules.specs.declared.parse.rule.RuleParts.{RuleParts}

-- ---- what the parser is told

-- the edition of a context
abbrev pub edition_in : Editions → SyntaxContext → Edition
edition_in e Written = e.written
edition_in e Made = e.made

-- whether a matcher or a transcriber is parsed
abbrev pub mode_of : parse_mode.Mode → Mode
mode_of Pattern = in_pattern
mode_of Template = in_template

-- ---- separators and operators

-- a separator, an operator, and the trees after them
abbrev pub repeat_of : Option (Option Separator × RepeatKind × Forest) → Option (Option spec.Separator × RepeatKind × Forest)
repeat_of r = option_map (λ (x : Option Separator × RepeatKind × Forest). (option_map separator_of x.0, x.1, x.2)) r

-- the separator of this form and the operator at the front of a list, and the trees after them
abbrev pub taken_from : Forest → Option (Between × RepeatKind) → Option (Option spec.Separator × RepeatKind × Forest)
taken_from f b = option_map (λ (x : Between × RepeatKind). (separator_in x.0 f, x.1, past (trees_between x.0 + 1) f)) b

-- the operator at the front of a list, and the trees after it
abbrev pub operator_next : Forest → Option (RepeatKind × Forest)
operator_next (leaf (as_leaf.Punct p) rest) = option_map (λ op. (op, rest)) (operator_of p.char)
operator_next _ = None

-- ---- ops

-- an op as a list of one, and the trees after it
abbrev pub Read : Type 0
Read = Items × Forest

-- an op of the code
abbrev pub op_read : Result (Op × Forest) ParseError → Parsed Read
op_read (Ok r) = Ok (put_op r.0 done, r.1)
op_read (Err e) = Err e

-- a list of ops of the code
abbrev pub ops_read : Result (Vec Op Global) ParseError → Parsed Items
ops_read (Ok v) = Ok (items_of v.items)
ops_read (Err e) = Err e

-- the op that a punct begins, given the form of what it begins
abbrev pub head_read : Punct → Forest → Parsed Head → Parsed Read
head_read p f h = h >>= λ x. Ok (item (item_of x p f) done, past (trees_of x) f)

-- the fragment specifier after a colon, and the trees after it
abbrev pub typing : Forest → Option (Ident × Forest)
typing (leaf (as_leaf.Punct c) (leaf (as_leaf.Ident k) rest)) = if is_char ":" c && not (is_word "_" k) then Some (k, rest) else None
typing _ = None

-- a metavariable with this name and span, by the trees after the name
abbrev pub variable_read : (SyntaxContext → Edition) → Mode → Span → List ℕ → Forest → Parsed Read
variable_read edition in_template s n f = Ok (item (dollar (variable n None) s) done, f)
variable_read edition in_pattern s n (leaf (as_leaf.Punct c) (leaf (as_leaf.Ident k) rest)) =
    if is_char ":" c && not (is_word "_" k)
    then Ok (item (dollar (variable n (kind_of edition k)) s) done, rest)
    else unexpected "missing fragment specifier"
variable_read edition in_pattern s n _ = unexpected "missing fragment specifier"

-- the metavariable expression that a `$` and braces are, and the trees after it
abbrev pub expression_read : Punct → Forest → Forest → Parsed Read
expression_read p inner rest =
    or_fault (option_map (λ x. (item (dollar x p.span) done, rest)) (expression_in inner)) (unexpected "invalid metavariable expression")

-- ops before others
abbrev pub joined_items : Items → Items → Items
joined_items done js = js
joined_items (item i rest) js = item i (joined_items rest js)
joined_items (group_of d inner rest) js = group_of d inner (joined_items rest js)
joined_items (repetition body sep op rest) js = repetition body sep op (joined_items rest js)

-- ops before what is parsed after them
abbrev pub behind : Items → Parsed Items → Parsed Items
behind is (Ok js) = Ok (joined_items is js)
behind is (Err e) = Err e

-- an op before those of the trees after it
abbrev pub continued : (SyntaxContext → Edition) → Mode → Parsed Read → Parsed Items
continued edition m (Ok r) = behind r.0 (patterns.items_of edition m r.1)
continued edition m (Err f) = Err f

-- the trees inside a repetition that begins with a punct, and the trees after its parentheses
abbrev pub repetition_parts : Punct → Forest → Option (Forest × Forest)
repetition_parts p (group d inner rest) = if is_repetition p d then Some (inner, rest) else None
repetition_parts p _ = None

-- ---- rules

-- the trees inside the group at the front of a list, and the trees after it
abbrev pub group_next : Forest → Option (Forest × Forest)
group_next (group d inner rest) = Some (inner, rest)
group_next _ = None

-- the trees after this character
abbrev pub after_char : ℕ → Forest → Option Forest
after_char c (leaf (as_leaf.Punct p) rest) = if nat_eq p.char c then Some rest else None
after_char c _ = None

-- the parts of the rule at the front of a list, given its style and where its matcher is
abbrev pub parts_read : Forest → Parsed (MacroCallStyle × ℕ) → Parsed RuleParts
parts_read f shape =
    shape >>= λ s. Ok (record { style = s.0; pattern = inside (past s.1 f); template = inside (past (s.1 + 3) f); rest = past (s.1 + 4) f })

-- a rule of the code
abbrev pub rule_read : Result Rule ParseError → Parsed spec.Rule
rule_read (Ok r) = Ok (ops.rule_of r)
rule_read (Err e) = Err e

-- a rule of the code, and the trees after it
abbrev pub rule_and_rest : Result (Rule × Forest) ParseError → Parsed (spec.Rule × Forest)
rule_and_rest (Ok r) = Ok (ops.rule_of r.0, r.1)
rule_and_rest (Err e) = Err e

-- the rule of these parts, and the trees after it
abbrev pub rule_in : (SyntaxContext → Edition) → Parsed RuleParts → Parsed (spec.Rule × Forest)
rule_in edition parts = parts >>= λ p. rule_of edition p.style p.pattern p.template >>= λ r. Ok (r, p.rest)

-- rules before others
abbrev pub rules_before : List spec.Rule → spec.Rules → spec.Rules
rules_before rs more = record { list = rs ++ more.list; err = more.err }

-- what may separate rules
abbrev pub delimiting_of : definition.Delimiting → Delimiting
delimiting_of Semicolon = by_semicolon
delimiting_of SemicolonOrComma = by_semicolon_or_comma

-- the trees after the delimiter between rules; none is needed if no trees are left
abbrev pub after_delimiter : Delimiting → Forest → Option Forest
after_delimiter between empty = Some empty
after_delimiter between (leaf (as_leaf.Punct p) rest) = if between.is_between p.char then Some rest else None
after_delimiter between _ = None
