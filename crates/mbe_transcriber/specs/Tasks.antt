-- The tasks that are left of a transcription, and its outcome
use Rattle.std.specs.Prelude.{◌≡◌, ◌<◌, ℕ, ◌+◌, ◌-◌, ◌*◌, Bool, true, false, List, [], ◌∷◌, length, take, sum_by, Option, Some, None, option_map, Result, Err, IfOk}
use Rattle.tt.specs.Building.{Building, Opened, extended, closed, count_of, most_tokens}
use Rattle.tt_data.specs.Forest.{Forest}
use Rattle.tt_data.specs.declared.span.Span.{Span}
use Rattle.tt_data.specs.fault.TtFault.{TtFault}
use Rattle.tt_data.specs.fault.TtFault.TheVariants.{Tokens}
use Rattle.mbe_rules.specs.Items.{Items, done, item, group_of, repetition}
use Rattle.mbe_rules.specs.Ops.{items_of, separator_of}
use Rattle.mbe_matcher.specs.Bindings.{Map}
use Rattle.mbe_transcriber.specs.Limits.{most_rounds}
use Rattle.mbe_transcriber.specs.Given.{gives, puts_out, later_gives, later_puts_out}
use Rattle.mbe_transcriber.specs.declared.repetition.Iterations.{Iterations}
use Rattle.mbe_transcriber.specs.declared.transcriber.TranscribeTask.{TranscribeTask}
use Rattle.mbe_transcriber.specs.declared.transcriber.TranscribeTask.TheVariants.{Items as items_task, Close, Leave, Later}

-- the outcome of a transcription: a tree under construction, or a fault after so many tokens
pub data Outcome : Type 0 where
  filled_up : Building → Outcome
  faulty : ℕ → Outcome

-- the number of tokens in the end
abbrev pub reached : Outcome → ℕ
reached (filled_up b) = count_of b
reached (faulty n) = n

-- a fault, before which this tree has all tokens
abbrev pub IsFaulty : Building → Outcome → Type 0
IsFaulty b o = o ≡ faulty (count_of b)

-- these trees are added and `more` follows; if there is a fault, n tokens come before it
abbrev pub put_and : Option Forest → ℕ → Building → (Building → Outcome) → Outcome
put_and None n b more = faulty (count_of b + n)
put_and (Some f) n b more = more (extended b f)

-- the innermost of these open groups is closed; a fault if none is open
abbrev pub close_in : List Opened → Building → Span → (Building → Outcome) → Outcome
close_in [] b s more = faulty (count_of b)
close_in (o ∷ outer) b s more = more (closed b s)

-- the indices of the iterations around the innermost one, the outermost first
abbrev pub around : List ℕ → List ℕ
around ns = take (length ns - 1) ns

module _ (mark : Span → Span) (bound : Map) where
  -- the outcome of these ops in these iterations, and then of `more`
  abbrev pub items_and : List ℕ → Items → Building → (Building → Outcome) → Outcome
  items_and ns i = put_and (gives mark bound ns i) (puts_out mark bound ns i)

  -- the outcome of the iterations of a repetition from one on, and then of `more`
  abbrev pub rounds_and : List ℕ → Iterations → Building → (Building → Outcome) → Outcome
  rounds_and ns x =
      put_and
      (later_gives mark bound ns (items_of x.body.now) (option_map (λ s. separator_of s.now) x.separator) x.count (most_rounds - x.number) x.number)
      (later_puts_out mark bound ns (items_of x.body.now) (option_map (λ s. separator_of s.now) x.separator) x.count (most_rounds - x.number) x.number)

  -- the outcome of these tasks, the next one first, in these iterations
  abbrev pub outcome : List TranscribeTask → List ℕ → Building → Outcome
  outcome [] ns b = filled_up b
  outcome (items_task ops ∷ ts) ns b = items_and ns (items_of ops.now) b (outcome ts ns)
  outcome (Close s ∷ ts) ns b = close_in b.groups b (mark s) (outcome ts ns)
  outcome (Leave ∷ ts) ns b = outcome ts (around ns) b
  outcome (Later x ∷ ts) ns b = rounds_and (around ns) x b (outcome ts (around ns))

-- a step without a fault leaves the outcome as it was; a step with one, which left this tree, had
-- that fault as outcome
abbrev pub GoesOn : Bool → (left : Building) → (before after : Outcome) → Type 0
GoesOn true left before after = before ≡ after
GoesOn false left before after = IsFaulty left before

-- a step does so unless it is refused
abbrev pub Steps : Result Bool TtFault → (left : Building) → (before after : Outcome) → Type 0
Steps r left before after = IfOk r (λ b. GoesOn b left before after)

-- it is refused for too many tokens only if the outcome has more than a tree may have
abbrev pub IsBurstIn : Result Bool TtFault → Outcome → Type 0
IsBurstIn r o = r ≡ Err Tokens → most_tokens < reached o

-- ---- how many tasks there are

-- the most tasks that come of ops
abbrev pub work_of : Items → ℕ
work_of done = 0
work_of (item i rest) = 1 + work_of rest
work_of (group_of d inner rest) = 3 + work_of inner + work_of rest
work_of (repetition body sep op rest) = 65536 * (work_of body + 3) + work_of rest

-- the most tasks that come of a task, itself included
abbrev pub tasks_of : TranscribeTask → ℕ
tasks_of (items_task ops) = 1 + work_of (items_of ops.now)
tasks_of (Close s) = 1
tasks_of Leave = 1
tasks_of (Later x) = 1 + (65536 - x.number) * (work_of (items_of x.body.now) + 3)

-- the most tasks that come of these tasks
abbrev pub tasks_of_all : List TranscribeTask → ℕ
tasks_of_all ts = sum_by tasks_of ts
