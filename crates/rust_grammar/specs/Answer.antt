-- The answers of the grammar.
use Rattle.std.specs.Prelude.{ℕ, suc, zero, ◌-◌, true, false}
use Rattle.tt_data.specs.Forest.{Forest}
use Rattle.tt_data.specs.declared.edition.Edition.{Edition}
use Rattle.fragment_grammar.specs.Steps.{steps}
use Rattle.fragment_grammar.specs.declared.fragment.Prefix.{Prefix}
use Rattle.fragment_grammar.specs.declared.fragment.PrefixEntryPoint.{PrefixEntryPoint}
use Rattle.fragment_grammar.specs.declared.fragment.PrefixEntryPoint.TheVariants.{Vis, Block, Stmt, Pat, PatTop, Ty, Expr, Path, Item, MetaItem}
use Rattle.rust_grammar.specs.Expressions.{Taking, taken}
use Rattle.rust_grammar.specs.Names.{Name, entry_visibility, entry_block, entry_statement, entry_pattern, entry_patterns, entry_type, entry_expression, entry_path, entry_item, entry_attribute}
use Rattle.rust_grammar.specs.Rules.{says}
use Rattle.rust_grammar.specs.declared.outcome.Outcome.{Outcome}
use Rattle.rust_grammar.specs.declared.outcome.Outcome.TheVariants.{Fits, Misses, Faults}

-- what comes of a rule that may refer to rules this many levels deep: deeper, the fragment is a fault
abbrev pub rules_to : Edition → ℕ → Name → Taking
rules_to edition zero k f = Faults
rules_to edition (suc depth) k f = taken edition (rules_to edition depth) (says k) f

-- the most rules that may stand in one another
unfoldable pub most_levels : ℕ
most_levels = 4096

-- the rule of an entry point
abbrev pub entry_rule : PrefixEntryPoint → Name
entry_rule Vis = entry_visibility
entry_rule Block = entry_block
entry_rule Stmt = entry_statement
entry_rule Pat = entry_pattern
entry_rule PatTop = entry_patterns
entry_rule Ty = entry_type
entry_rule Expr = entry_expression
entry_rule Path = entry_path
entry_rule Item = entry_item
entry_rule MetaItem = entry_attribute

-- what comes of an entry point's rule
unfoldable pub comes_of : Edition → PrefixEntryPoint → Taking
comes_of edition entry f = rules_to edition most_levels (entry_rule entry) f

-- the answer, by what comes of the rule
abbrev pub answer_of : Forest → Outcome → Prefix
answer_of f (Fits rest) = record { tokens = steps f - steps rest; fault = false }
answer_of f Misses = record { tokens = 0; fault = true }
answer_of f Faults = record { tokens = 0; fault = true }

-- the steps that an entry's rule takes, or a fault
abbrev pub answer : Edition → PrefixEntryPoint → Forest → Prefix
answer edition entry f = answer_of f (comes_of edition entry f)
