-- How many tokens a transcriber puts out, up to its first fault if it has one.
use Rattle.std.specs.Prelude.{ℕ, suc, zero, ◌+◌, ◌-◌, Bool, true, false, List, [], ◌∷◌, ◌++◌, Option, Some, None}
use Rattle.tt_data.specs.Forest.{Forest, size}
use Rattle.tt_data.specs.declared.span.Span.{Span}
use Rattle.mbe_rules.specs.Items.{Items, done, item, group_of, repetition}
use Rattle.mbe_rules.specs.declared.parser.RepeatKind.{RepeatKind}
use Rattle.mbe_rules.specs.declared.parser.RepeatKind.TheVariants.{ZeroOrOne}
use Rattle.mbe_matcher.specs.Bindings.{Map}
use Rattle.mbe_transcriber.specs.Filling.{item_in, round_stands, filled_in, rounds_of, separator_leaves}

-- so many tokens of a first part and then others: only those of the part if it is a fault
abbrev pub and_then : Option Forest → (first others : ℕ) → ℕ
and_then None first others = first
and_then (Some f) first others = first + others

-- the number of tokens of trees, and 0 for a fault
abbrev pub size_of : Option Forest → ℕ
size_of None = 0
size_of (Some f) = size f

-- iterations r, r + 1, .. while they take place, each after a separator of so many tokens
abbrev pub output_from : (ℕ → Bool) → (ℕ → Option Forest) → (ℕ → ℕ) → (separator most r : ℕ) → ℕ
output_from stands_at round_at output_at separator zero r = 0
output_from stands_at round_at output_at separator (suc most) r =
    elim (stands_at r) [
      | true ↦ separator + and_then (round_at r) (output_at r) (output_from stands_at round_at output_at separator most (suc r))
      | false ↦ 0
    ]

-- the iterations of a repetition: the first has no separator before it
abbrev pub output_of_rounds : (ℕ → Bool) → (ℕ → Option Forest) → (ℕ → ℕ) → ℕ → ℕ → RepeatKind → ℕ
output_of_rounds stands_at round_at output_at separator most ZeroOrOne = elim (stands_at 0) [ true ↦ output_at 0 | false ↦ 0 ]
output_of_rounds stands_at round_at output_at separator most _ =
    elim (stands_at 0) [
      | true ↦ and_then (round_at 0) (output_at 0) (output_from stands_at round_at output_at separator (most - 1) 1)
      | false ↦ 0
    ]

module _ (is_identifier : List ℕ → Bool) (most : ℕ) (mark : Span → Span) (bound : Map) where
  -- how many tokens a transcriber puts out in these iterations
  abbrev pub output_in : List ℕ → Items → ℕ
  output_in ns done = 0
  output_in ns (item i rest) =
      and_then (item_in is_identifier most mark bound ns i) (size_of (item_in is_identifier most mark bound ns i)) (output_in ns rest)
  output_in ns (group_of d inner rest) = suc (and_then (filled_in is_identifier most mark bound ns inner) (output_in ns inner) (output_in ns rest))
  output_in ns (repetition body sep op rest) =
      and_then
      (rounds_of
      (λ r. round_stands is_identifier most mark bound body (ns ++ (r ∷ [])))
      (λ r. filled_in is_identifier most mark bound (ns ++ (r ∷ [])) body)
      (separator_leaves sep) most op)
      (output_of_rounds
      (λ r. round_stands is_identifier most mark bound body (ns ++ (r ∷ [])))
      (λ r. filled_in is_identifier most mark bound (ns ++ (r ∷ [])) body)
      (λ r. output_in (ns ++ (r ∷ [])) body)
      (size (separator_leaves sep)) most op)
      (output_in ns rest)

  -- how many tokens a transcriber puts out in all
  abbrev pub output : Items → ℕ
  output template = output_in [] template
