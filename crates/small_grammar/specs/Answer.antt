-- The answers of the grammar.
use Rattle.std.specs.Prelude.{◌-◌, true, false, Option, Some, None}
use Rattle.tt_data.specs.Forest.{Forest}
use Rattle.fragment_grammar.specs.declared.fragment.Prefix.{Prefix}
use Rattle.fragment_grammar.specs.declared.fragment.PrefixEntryPoint.{PrefixEntryPoint}
use Rattle.fragment_grammar.specs.declared.fragment.PrefixEntryPoint.TheVariants.{Vis, Block, Stmt, Pat, PatTop, Ty, Expr, Path, Item, MetaItem}
use Rattle.small_grammar.specs.Expressions.{Expression, never}
use Rattle.fragment_grammar.specs.Steps.{steps}
use Rattle.small_grammar.specs.SmallGrammar.{takes, vis, brace, pat, pat_top, type, expr, tpath, meta_item}

-- the rule of an entry point: statements and items have none
abbrev pub entry_rule : PrefixEntryPoint → Expression
entry_rule Vis = vis
entry_rule Block = brace
entry_rule Stmt = never
entry_rule Pat = pat
entry_rule PatTop = pat_top
entry_rule Ty = type
entry_rule Expr = expr
entry_rule Path = tpath
entry_rule Item = never
entry_rule MetaItem = meta_item

-- the answer if these trees of a list are left
abbrev pub answer_of : Forest → Option Forest → Prefix
answer_of f None = record { tokens = 0; fault = true }
answer_of f (Some rest) = record { tokens = steps f - steps rest; fault = false }

-- the steps that an entry's rule takes, or a fault
abbrev pub answer : PrefixEntryPoint → Forest → Prefix
answer entry f = answer_of f (takes (entry_rule entry) f)
