-- A grammar of fragments, as a function: its answers at trees without their spans.
use Rattle.std.specs.Prelude.{ℕ, zero, suc, ◌-◌, Bool, true, false, ◌||◌, Option, Some, None, nat_le, if◌then◌else◌}
use Rattle.tt_data.specs.Forest.{Forest, empty, leaf, group, shape}
use Rattle.fragment_grammar.specs.Steps.{steps}
use Rattle.fragment_grammar.specs.declared.fragment.Prefix.{Prefix}
use Rattle.fragment_grammar.specs.declared.fragment.PrefixEntryPoint.{PrefixEntryPoint}

-- the answer for each entry point, at trees without their spans
abbrev pub Grammar : Type 0
Grammar = PrefixEntryPoint → Forest → Prefix

-- one tree further
abbrev pub one_further : ℕ × Bool → ℕ × Bool
one_further r = (suc r.0, r.1)

-- how many trees n tokens reach, and whether they stop inside the last, or are too many
abbrev pub reach : Forest → ℕ → ℕ × Bool
reach f zero = (0, false)
reach empty (suc n) = (0, true)
reach (leaf l rest) (suc n) = one_further (reach rest n)
reach (group d inner rest) (suc n) =
    if nat_le (suc (steps inner)) n then one_further (reach rest (n - suc (steps inner))) else (1, true)

-- what the grammar consumes is no fragment: it is faulty, or stops inside a group
abbrev pub is_no_fragment : Forest → Prefix → Bool
is_no_fragment f p = p.fault || (reach f p.tokens).1

-- how many trees a prefix has; none if it is no fragment
abbrev pub trees_of_prefix : Forest → Prefix → Option ℕ
trees_of_prefix f p = if is_no_fragment f p then None else Some (reach f p.tokens).0

-- how many trees the grammar consumes at the front of a list, if any: it sees no spans
abbrev pub asked : Grammar → PrefixEntryPoint → Forest → Option ℕ
asked grammar entry f = trees_of_prefix f (grammar entry (shape f))
