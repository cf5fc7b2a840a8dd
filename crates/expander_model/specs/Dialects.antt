-- The dialect in which no option is set, and the one of Rust's rules. (Of this project.)
use Rattle.std.specs.Prelude.{true, false, None}
use Rattle.expander_model.specs.declared.dialect.Dialect.{Dialect}
use Rattle.expander_model.specs.declared.scope_rules.ScopeRules.{ScopeRules}
use Rattle.expander_model.specs.declared.scope_rules.ScopeRules.TheVariants as rules

-- a name finds pieces of texts alone, each `;` stays, conditions leave nothing out, nothing limits
-- what a call makes, and each call that fits no rule has a fault
abbrev pub top_level : Dialect
top_level =
    record { scope = rules.TopLevel; items = false; cfg = None; limits = None; excuses = false }

-- a name finds definitions of lists too, the `;` of an item's call goes with it, and a call in the
-- argument of one that stays has no fault if it fits no rule
abbrev pub rust : Dialect
rust = record { scope = rules.Rust; items = true; cfg = None; limits = None; excuses = true }

-- the one of these for scope rules
abbrev pub dialect_by : ScopeRules → Dialect
dialect_by rules.TopLevel = top_level
dialect_by rules.Rust = rust
