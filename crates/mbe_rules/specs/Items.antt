-- The rules of a definition. (The Rust Reference, "Macros By Example".)
use Rattle.std.specs.Prelude.{ℕ, Bool, true, false, ◌&&◌, ◌||◌, List, [], ◌∷◌, ◌++◌, Option, Some, None}
use Rattle.tt_data.specs.declared.delimiter.Delimiter.{Delimiter}
use Rattle.tt_data.specs.declared.leaf.Ident.{Ident}
use Rattle.tt_data.specs.declared.leaf.Leaf.{Leaf}
use Rattle.tt_data.specs.declared.leaf.Literal.{Literal}
use Rattle.tt_data.specs.declared.leaf.Punct.{Punct}
use Rattle.tt_data.specs.declared.span.Span.{Span}
use Rattle.mbe_rules.specs.declared.errors.ParseError.{ParseError}
use Rattle.mbe_rules.specs.declared.parser.MetaVarKind.{MetaVarKind}
use Rattle.mbe_rules.specs.declared.parser.MetaVarKind.TheVariants.{Vis}
use Rattle.mbe_rules.specs.declared.parser.RepeatKind.{RepeatKind}
use Rattle.mbe_rules.specs.declared.parser.RepeatKind.TheVariants.{OneOrMore}
use Rattle.mbe_rules.specs.declared.macro_call_style.MacroCallStyle.{MacroCallStyle}

-- a part of `${concat(..)}`: a text that means itself, or a metavariable
pub data Part : Type 0 where
  itself : List ℕ → Part
  value_of : List ℕ → Part

-- what a `$` begins that has no ops inside
pub data Dollar : Type 0 where
  -- `$name:kind`, with none if the word is no specifier; in a transcriber `$name`, with none
  variable : (name : List ℕ) → Option MetaVarKind → Dollar
  -- `${count($name, depth)}` and so on
  count_of : (name : List ℕ) → (depth : ℕ) → Dollar
  index_of : (depth : ℕ) → Dollar
  len_of : (depth : ℕ) → Dollar
  ignore_of : (name : List ℕ) → Dollar
  concat_of : List Part → Dollar

-- an op without ops inside
pub data Item : Type 0 where
  -- an identifier or a literal
  word : Leaf → Item
  -- one to three puncts that are glued to one operator
  puncts : List Punct → Item
  -- in a matcher, a quote and its name
  lifetime : Punct → Ident → Item
  -- what a `$` begins, with the span of the `$`
  dollar : Dollar → Span → Item

-- what separates the iterations of a repetition
pub data Separator : Type 0 where
  literal_between : Literal → Separator
  ident_between : Ident → Separator
  lifetime_between : Punct → Ident → Separator
  puncts_between : List Punct → Separator

-- a matcher or a transcriber: a list of ops, of groups with ops inside, and of repetitions
pub data Items : Type 0 where
  done : Items
  item : Item → Items → Items
  group_of : Delimiter → Items → Items → Items
  repetition : (body : Items) → Option Separator → RepeatKind → Items → Items

-- a rule: the style of the calls it is for, its matcher and its transcriber
pub record Rule : Type 0 where
  pub style : MacroCallStyle
  pub pattern : Items
  pub template : Items

-- what is parsed of a definition: its rules, and the first fault, which makes it invalid
pub record Rules : Type 0 where
  pub list : List Rule
  pub err : Option ParseError

-- the names of all metavariables that a matcher binds, in order
abbrev pub variables : Items → List (List ℕ)
variables done = []
variables (item (dollar (variable n k) s) rest) = n ∷ variables rest
variables (item _ rest) = variables rest
variables (group_of d inner rest) = variables inner ++ variables rest
variables (repetition body sep op rest) = variables body ++ variables rest

-- a repetition that may have no iteration
abbrev pub may_skip : RepeatKind → Bool
may_skip OneOrMore = false
may_skip _ = true

-- whether a matcher can match nothing
abbrev pub can_match_nothing : Items → Bool
can_match_nothing done = true
can_match_nothing (item (dollar (variable n (Some Vis)) s) rest) = can_match_nothing rest
can_match_nothing (repetition body sep op rest) = (may_skip op || can_match_nothing body) && can_match_nothing rest
can_match_nothing _ = false

-- whether a repetition without separator, anywhere in a matcher, can have an empty iteration
abbrev pub has_empty_round : Items → Bool
has_empty_round done = false
has_empty_round (item i rest) = has_empty_round rest
has_empty_round (group_of d inner rest) = has_empty_round inner || has_empty_round rest
has_empty_round (repetition body None op rest) = can_match_nothing body || (has_empty_round body || has_empty_round rest)
has_empty_round (repetition body (Some sep) op rest) = has_empty_round body || has_empty_round rest
