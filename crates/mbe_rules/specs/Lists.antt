-- What is parsed of nested lists up to a point, in terms of the definitions.
use Rattle.std.specs.Prelude.{◌≡◌, ℕ, suc, ◌+◌, ◌*◌, ◌<◌, List, [], ◌∷◌, option_map, Result, Ok, Err}
use Rattle.tt_data.specs.Forest.{Forest, empty, size}
use Rattle.tt_data.specs.declared.edition.Edition.{Edition}
use Rattle.tt_data.specs.declared.span.SyntaxContext.{SyntaxContext}
use Rattle.mbe_rules.specs.Items.{Items, done, group_of, repetition}
use Rattle.mbe_rules.specs.Ops as ops
use Rattle.mbe_rules.specs.Ops.{put_op, separator_of}
use Rattle.mbe_rules.specs.Parsed.{Parsed, ◌>>=◌}
use Rattle.mbe_rules.specs.Patterns.{Mode, items_of}
use Rattle.mbe_rules.specs.Reading.{behind, ops_read}
use Rattle.mbe_rules.specs.declared.errors.ParseError.{ParseError}
use Rattle.mbe_rules.specs.declared.parse.items.Around.{Around}
use Rattle.mbe_rules.specs.declared.parse.items.Enclosing.{Enclosing}
use Rattle.mbe_rules.specs.declared.parse.items.Enclosing.TheVariants.{Group, Repetition}
use Rattle.mbe_rules.specs.declared.parse.items.Found.{Found}
use Rattle.mbe_rules.specs.declared.parse.items.Found.TheVariants as found
use Rattle.mbe_rules.specs.declared.parse.items.Nest.{Nest}
use Rattle.mbe_rules.specs.declared.parse.items.Step.{Step}
use Rattle.mbe_rules.specs.declared.parse.items.Step.TheVariants.{More, Last}

-- the op that has these ops inside, as a list of one
abbrev pub enclosed : Enclosing → Items → Items
enclosed (Group d) is = group_of d is done
enclosed (Repetition sep op) is = repetition is (option_map separator_of sep) op done

-- the list around one inside it, with these trees after that one
abbrev pub left_for : Nest → Enclosing → Forest → Around
left_for o e rest = record { before = o.before; enclosing = e; rest = rest }

-- how much is left to parse around a list: two for each token, and one for leaving each list
abbrev pub weight_around : List Around → ℕ
weight_around [] = 0
weight_around (a ∷ outer) = suc (2 * size a.rest) + weight_around outer

-- how much is left to parse
abbrev pub weight : Nest → ℕ
weight o = 2 * size o.rest + weight_around o.around.items

-- after a step less than this is left to parse
abbrev pub IsLess : ℕ → Step → Type 0
IsLess n (More o) = weight o < n
IsLess n (Last r) = Unit {0}

-- nothing is at the front of a list without trees; else fewer trees are left, those inside included
abbrev pub Leaves : Forest → Result Found ParseError → Type 0
Leaves f (Ok found.Nothing) = f ≡ empty
Leaves f (Ok (found.Item o rest)) = size rest < size f
Leaves f (Ok (found.List e inner rest)) = size inner + size rest < size f
Leaves f (Err e) = Unit {0}

module _ (edition : SyntaxContext → Edition) (m : Mode) where
  -- the ops of a list, by what is at its front: faults in a list inside come before those after it
  abbrev pub found_read : Result Found ParseError → Parsed Items
  found_read (Ok found.Nothing) = Ok done
  found_read (Ok (found.Item o rest)) = behind (put_op o done) (items_of edition m rest)
  found_read (Ok (found.List e inner rest)) = items_of edition m inner >>= λ is. behind (enclosed e is) (items_of edition m rest)
  found_read (Err e) = Err e

  -- the ops of a list around one inside it, by what that one gives
  abbrev pub left_read : Around → Parsed Items → Parsed Items
  left_read a inner = inner >>= λ is. behind (ops.items_of a.before.items) (behind (enclosed a.enclosing is) (items_of edition m a.rest))

  -- the ops of the outermost of these lists, by what the list inside the innermost gives
  abbrev pub around_read : List Around → Parsed Items → Parsed Items
  around_read [] r = r
  around_read (a ∷ outer) r = left_read a (around_read outer r)

  -- the ops of the outermost list
  abbrev pub whole : Nest → Parsed Items
  whole o = around_read o.around.items (behind (ops.items_of o.before.items) (items_of edition m o.rest))

  -- the ops of the outermost list, after a step
  abbrev pub step_read : Step → Parsed Items
  step_read (More o) = whole o
  step_read (Last r) = ops_read r
