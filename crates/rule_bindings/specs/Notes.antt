-- Notes: where rustc refuses a call that a rule gives something for. (Of this project.)
use Rattle.std.specs.Prelude.{ℕ, zero, suc, Bool, true, false, ◌||◌, ◌&&◌, List, [], ◌∷◌, ◌++◌}
use Rattle.std.specs.Prelude.{Option, Some, None, option_and_then, option_map, if◌then◌else◌}
use Rattle.std.specs.Prelude.{fold, is_some, length, min, nat_eq, nat_le, take}
use Rattle.std.specs.Option.{option_or}
use Rattle.tt_data.specs.Forest.{Forest}
use Rattle.mbe_rules.specs.Items.{Items, Rule, done, group_of, item, repetition}
use Rattle.mbe_rules.specs.Text.{is_one_of}
use Rattle.mbe_rules.specs.declared.macro_call_style.MacroCallStyle.{MacroCallStyle}
use Rattle.mbe_rules.specs.declared.parser.RepeatKind.{RepeatKind}
use Rattle.mbe_rules.specs.declared.parser.RepeatKind.TheVariants.{ZeroOrOne}
use Rattle.mbe_matcher.specs.Bindings.{Binding, Map, binding_of, rounds, skipped}
use Rattle.mbe_matcher.specs.Grammar.{Grammar}
use Rattle.mbe_matcher.specs.Paths.{has_clash}
use Rattle.mbe_matcher.specs.Readings.{readings, takings}
use Rattle.mbe_transcriber.specs.Filling.{count_values, names, value_in}
use Rattle.mbe_transcriber.specs.Limits.{most_rounds}
use Rattle.mbe.specs.Fit.{same_style}

-- ---- a rule that is passed over

-- there are two
abbrev pub has_two : {A : Type 0} → List A → Bool
has_two (a ∷ b ∷ others) = true
has_two _ = false

-- a rule is ambiguous for an argument: its matcher may consume a fragment where it may consume
-- something else too, or two readings use the argument up
abbrev pub is_ambiguous : Grammar → Forest → Rule → Bool
is_ambiguous gr argument r =
    has_clash (takings gr r.pattern argument) || has_two (readings gr r.pattern argument)

-- the number of the first rule of a style that is ambiguous, where the first of all has number n
abbrev pub first_ambiguous : Grammar → Forest → MacroCallStyle → ℕ → List Rule → Option ℕ
first_ambiguous gr argument style n [] = None
first_ambiguous gr argument style n (r ∷ rs) =
    if same_style style r.style && is_ambiguous gr argument r then Some n
    else first_ambiguous gr argument style (suc n) rs

-- the one that is passed over before a rule of this style and number
abbrev pub passed_over : Grammar → Forest → List Rule → MacroCallStyle → ℕ → Option ℕ
passed_over gr argument list style number =
    first_ambiguous gr argument style 0 (take number list)

-- ---- names that nothing binds

-- so many of them are told of at most
abbrev pub most_names : ℕ
most_names = 8

-- a name is told of behind these, unless it is bound, is one of them, or they are enough
abbrev pub with_unbound : Map → List (List ℕ) → List ℕ → List (List ℕ)
with_unbound m told n =
    if is_some (binding_of n m) || (is_one_of told n || nat_le most_names (length told)) then told
    else told ++ (n ∷ [])

-- the metavariables of a transcriber that nothing binds, each once
abbrev pub unbound_names : Map → Items → List (List ℕ)
unbound_names m template = fold (with_unbound m) [] (names template)

-- ---- repetitions of unequal length

-- a metavariable, and how many iterations it has
pub record Counted : Type 0 where
  pub name : List ℕ
  pub count : ℕ

-- two metavariables of a repetition that have not as many iterations
pub record Unequal : Type 0 where
  pub one : Counted
  pub other : Counted

-- how many iterations a value has, if it is a list
abbrev pub iterations_of : Option Binding → Option ℕ
iterations_of (Some (rounds vs)) = Some (count_values 0 vs)
iterations_of (Some skipped) = Some 0
iterations_of _ = None

-- one that has another count
abbrev pub other_than : ℕ → Option Counted → Option Counted
other_than k None = None
other_than k (Some c) = if nat_eq k c.count then None else Some c

-- how many iterations a transcriber makes of a repetition whose metavariables have as many
abbrev pub rounds_made : RepeatKind → ℕ → ℕ
rounds_made ZeroOrOne count = min count 1
rounds_made op count = min count most_rounds

-- the first in these iterations, of which so many are left
abbrev pub in_rounds : {A : Type 0} → (ℕ → Option A) → (left r : ℕ) → Option A
in_rounds at zero r = None
in_rounds at (suc left) r = option_or (at r) (in_rounds at left (suc r))

module _ (m : Map) where
  -- a metavariable with its iterations inside these, if it has some there
  abbrev pub counted : List ℕ → List ℕ → Option Counted
  counted ns n =
      option_map (λ k. record { name = n; count = k })
      (option_and_then (λ b. iterations_of (value_in ns b)) (binding_of n m))

  -- the first of these that has some
  abbrev pub first_counted : List ℕ → List (List ℕ) → Option Counted
  first_counted ns [] = None
  first_counted ns (n ∷ all) = option_or (counted ns n) (first_counted ns all)

  -- the first that has another number of them
  abbrev pub other_counted : List ℕ → ℕ → List (List ℕ) → Option Counted
  other_counted ns k [] = None
  other_counted ns k (n ∷ all) =
      option_or (other_than k (counted ns n)) (other_counted ns k all)

  -- the first that has some, beside the first that has another number
  abbrev pub unequal_to : List ℕ → List (List ℕ) → Counted → Option Unequal
  unequal_to ns all c =
      option_map (λ d. record { one = c; other = d }) (other_counted ns c.count all)

  -- that in a repetition in which this metavariable is the first that has some, or the first in
  -- one of its iterations
  abbrev pub unequal_rounds : (ℕ → Option Unequal) → List ℕ → List (List ℕ) → RepeatKind
      → Counted → Option Unequal
  unequal_rounds at ns all op c =
      option_or (unequal_to ns all c) (in_rounds at (rounds_made op c.count) 0)

  -- the first repetition in ops of a transcriber, inside these iterations, whose metavariables
  -- have not as many
  abbrev pub unequal_in : List ℕ → Items → Option Unequal
  unequal_in ns done = None
  unequal_in ns (item i rest) = unequal_in ns rest
  unequal_in ns (group_of d inner rest) = option_or (unequal_in ns inner) (unequal_in ns rest)
  unequal_in ns (repetition body sep op rest) =
      option_or (option_and_then
      (unequal_rounds (λ r. unequal_in (ns ++ (r ∷ [])) body) ns (names body) op)
      (first_counted ns (names body)))
      (unequal_in ns rest)

  -- the first in a transcriber
  abbrev pub first_unequal : Items → Option Unequal
  first_unequal template = unequal_in [] template

-- ---- notes

-- where rustc refuses what a rule gives for a call: it stops at a rule before, by its number from
-- 0; it refuses a repetition; it may refuse names that nothing binds
pub record Notes : Type 0 where
  pub passed_over : Option ℕ
  pub unequal : Option Unequal
  pub unbound : List (List ℕ)
