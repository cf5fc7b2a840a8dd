-- How transcription changes a tree under construction, op by op
use Rattle.std.specs.Prelude.{◌≡◌, ◌<◌, ◌≤◌, ◌+◌, ℕ, suc, nat_lt, Bool, true, false, List, [], ◌∷◌, ◌++◌, Option, Some, None, option_map, Result, Ok, Err, IfOk}
use Rattle.tt.specs.Building.{Building, extended, count_of, most_tokens}
use Rattle.tt_data.specs.Forest.{Forest, empty, group, size}
use Rattle.tt_data.specs.Spans.{delimiter_with}
use Rattle.tt_data.specs.declared.delimiter.Delimiter.{Delimiter}
use Rattle.tt_data.specs.declared.span.Span.{Span}
use Rattle.tt_data.specs.fault.TtFault.{TtFault}
use Rattle.tt_data.specs.fault.TtFault.TheVariants.{Tokens}
use Rattle.mbe_rules.specs.Items.{Item, dollar, Separator, Items, done, item, group_of, repetition}
use Rattle.mbe_rules.specs.declared.parser.RepeatKind.{RepeatKind}
use Rattle.mbe_rules.specs.declared.parser.RepeatKind.TheVariants.{ZeroOrOne}
use Rattle.mbe_matcher.specs.Bindings.{Values, value_at, Map}
use Rattle.mbe_transcriber.specs.Filling.{fragment_in, dollar_in, item_in, round_stands, filled_in, rounds_from, rounds_of, separator_leaves}
use Rattle.mbe_transcriber.specs.Limits.{most_rounds}
use Rattle.mbe_transcriber.specs.Markers.{is_name}
use Rattle.mbe_transcriber.specs.Output.{output_in, output_from, output_of_rounds, size_of}
use Rattle.mbe_transcriber.specs.declared.transcriber.Transcribed.{Transcribed}
use Rattle.mbe_transcriber.specs.declared.transcriber.Transcribed.TheVariants.{Whole, Fault, Passed}

-- a tree under construction after transcription; none after a fault
abbrev pub ended : Bool → Building → Option Building
ended true b = Some b
ended false b = None

-- unless refused, these trees are added, or the answer says that there is a fault
abbrev pub Fills : Result Bool TtFault → (old new : Building) → Option Forest → Type 0
Fills r old new o = IfOk r (λ b. ended b new ≡ option_map (extended old) o)

-- at a fault the tree is as it was
abbrev pub KeepsAtFault : Result Bool TtFault → (old new : Building) → Type 0
KeepsAtFault r old new = r ≡ Ok false → new ≡ old

-- at a fault n tokens were put out
abbrev pub FailsAfter : Result Bool TtFault → (old new : Building) → ℕ → Type 0
FailsAfter r old new n = r ≡ Ok false → count_of new ≡ count_of old + n

-- n tokens were put out, and the tree has at most `most`
abbrev pub PutsOutWithin : (old new : Building) → (n most : ℕ) → Type 0
PutsOutWithin old new n most = (count_of new ≡ count_of old + n) × (count_of new ≤ most)

-- how a transcription ends that puts out n tokens, where a tree may have `most`: these trees are
-- added, or there is a fault; or the tree would have more
abbrev pub Ends : Transcribed → (old new : Building) → Option Forest → (n most : ℕ) → Type 0
Ends Whole old new o n most =
    (option_map (extended old) o ≡ Some new) × PutsOutWithin old new n most
Ends Fault old new o n most = (o ≡ None) × PutsOutWithin old new n most
Ends Passed old new o n most = most < count_of old + n

-- it is refused for too many tokens only if so many more would be too many for a tree
abbrev pub IsBurstBy : {A : Type 0} → Result A TtFault → Building → ℕ → Type 0
IsBurstBy r b n = r ≡ Err Tokens → most_tokens < count_of b + n

-- a repetition has at most one iteration
abbrev pub is_single : RepeatKind → Bool
is_single ZeroOrOne = true
is_single _ = false

-- the first op has no ops inside
abbrev pub is_plain : Items → Bool
is_plain (item i rest) = true
is_plain _ = false

-- the span of the `$` that begins the first op, if one does
abbrev pub dollar_place : Items → Option Span
dollar_place (item (dollar d s) rest) = Some s
dollar_place _ = None

module _ (mark : Span → Span) (bound : Map) where
  -- what a transcriber gives, and how many tokens it puts out
  abbrev pub gives : List ℕ → Items → Option Forest
  gives = filled_in is_name most_rounds mark bound

  abbrev pub puts_out : List ℕ → Items → ℕ
  puts_out = output_in is_name most_rounds mark bound

  abbrev pub item_gives : List ℕ → Item → Option Forest
  item_gives = item_in is_name most_rounds mark bound

  -- whether an iteration takes place
  abbrev pub stands_in : List ℕ → Items → ℕ → Bool
  stands_in ns body r = round_stands is_name most_rounds mark bound body (ns ++ (r ∷ []))

  -- what a repetition gives, and how many tokens it puts out
  abbrev pub repetition_gives : List ℕ → Items → Option Separator → RepeatKind → Option Forest
  repetition_gives ns body sep op =
      rounds_of (stands_in ns body) (λ r. gives (ns ++ (r ∷ [])) body) (separator_leaves sep) most_rounds op

  abbrev pub repetition_puts_out : List ℕ → Items → Option Separator → RepeatKind → ℕ
  repetition_puts_out ns body sep op =
      output_of_rounds (stands_in ns body) (λ r. gives (ns ++ (r ∷ [])) body) (λ r. puts_out (ns ++ (r ∷ [])) body)
      (size (separator_leaves sep)) most_rounds op

  -- what a repetition's iterations from index r on give, those below `count`, and how many tokens they put out
  abbrev pub later_gives : List ℕ → Items → Option Separator → (count most r : ℕ) → Option Forest
  later_gives ns body sep count = rounds_from (λ r. nat_lt r count) (λ r. gives (ns ++ (r ∷ [])) body) (separator_leaves sep)

  abbrev pub later_puts_out : List ℕ → Items → Option Separator → (count most r : ℕ) → ℕ
  later_puts_out ns body sep count =
      output_from (λ r. nat_lt r count) (λ r. gives (ns ++ (r ∷ [])) body) (λ r. puts_out (ns ++ (r ∷ [])) body) (size (separator_leaves sep))

  -- so many iterations take place
  abbrev pub HasRounds : List ℕ → Items → (count : ℕ) → Type 0
  HasRounds ns body count = (r : ℕ) → r ≤ most_rounds → nat_lt r count ≡ stands_in ns body r

  -- so many iterations take place, and each gives its value of these, and no token more
  abbrev pub HasValues : List ℕ → Items → Span → (count : ℕ) → Values → Type 0
  HasValues ns body place count vs =
      HasRounds ns body count
      × ((r : ℕ) → (gives (ns ++ (r ∷ [])) body ≡ fragment_in is_name most_rounds mark bound place (value_at r vs))
      × (puts_out (ns ++ (r ∷ [])) body ≡ size_of (fragment_in is_name most_rounds mark bound place (value_at r vs))))

  -- what a group gives
  abbrev pub group_gives : Delimiter → Option Forest → Option Forest
  group_gives d = option_map (λ f. group (delimiter_with mark d) f empty)

  -- what the first of some ops gives, and how many tokens it puts out
  abbrev pub first_gives : List ℕ → Items → Option Forest
  first_gives ns done = Some empty
  first_gives ns (item i rest) = item_gives ns i
  first_gives ns (group_of d inner rest) = group_gives d (gives ns inner)
  first_gives ns (repetition body sep op rest) = repetition_gives ns body sep op

  abbrev pub first_puts_out : List ℕ → Items → ℕ
  first_puts_out ns done = 0
  first_puts_out ns (item i rest) = size_of (item_gives ns i)
  first_puts_out ns (group_of d inner rest) = suc (puts_out ns inner)
  first_puts_out ns (repetition body sep op rest) = repetition_puts_out ns body sep op

  -- what the first op gives, if it has no ops inside
  abbrev pub plain_gives : List ℕ → Items → Option Forest
  plain_gives ns (item i rest) = item_gives ns i
  plain_gives ns _ = None

  -- what the first op gives, if it begins with a `$` that has this marked span
  abbrev pub dollar_gives : List ℕ → Items → Span → Option Forest
  dollar_gives ns (item (dollar d s) rest) place = dollar_in is_name most_rounds mark bound ns d place
  dollar_gives ns _ place = None
