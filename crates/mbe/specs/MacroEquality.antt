-- Equality by `==` of macros.
use Rattle.std.specs.Prelude.{Bool, ◌&&◌}
use Rattle.std.specs.Option.{option_eq}
use Rattle.std.specs.Cmp.{IsEquivalence, and_equiv, on_equiv}
use Rattle.std.specs.Cmp.Lexicographic.{pointwise, lists_equiv, options_equiv}
use Rattle.mbe_rules.specs.contracts.errors.ParseErrorPartialEq.TheImpl as of_fault
use Rattle.mbe_rules.specs.contracts.errors.ParseErrorEq.TheImpl.Laws as fault_laws
use Rattle.mbe_rules.specs.contracts.rules.RulePartialEq.TheImpl as of_rule
use Rattle.mbe_rules.specs.contracts.rules.RuleEq.TheImpl.Laws as rule_laws
use Rattle.mbe.specs.Kept.{kept_fault, kept_list}
use Rattle.mbe.specs.declared.declarative_macro.DeclarativeMacro.{DeclarativeMacro}

-- two are equal if their faults are, and their rules, one by one
abbrev pub same_macro : DeclarativeMacro → DeclarativeMacro → Bool
same_macro a b =
    option_eq of_fault.ghosts.eq (kept_fault a.kept) (kept_fault b.kept)
    && pointwise of_rule.ghosts.eq (kept_list a.kept) (kept_list b.kept)

-- this is an equivalence
pub same_macro_equiv : IsEquivalence same_macro
same_macro_equiv =
    and_equiv (on_equiv (λ m. kept_fault m.kept) (options_equiv fault_laws.laws-law)) (on_equiv (λ m. kept_list m.kept) (lists_equiv rule_laws.laws-law))
