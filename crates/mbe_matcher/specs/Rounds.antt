-- Iterations of one metavariable, where there is no other way on
use Rattle.std.specs.Prelude.{◌≡◌, ℕ, true, List, [], ◌∷◌, map, Some, None}
use Rattle.tt_data.specs.Forest.{Forest, empty, joined}
use Rattle.tt_data.specs.declared.span.Span.{Span}
use Rattle.mbe_rules.specs.Items.{dollar, variable, Items, done, item}
use Rattle.mbe_rules.specs.declared.parser.MetaVarKind.{MetaVarKind}
use Rattle.mbe_rules.specs.declared.parser.RepeatKind.{RepeatKind}
use Rattle.mbe_rules.specs.Trees.{before, past}
use Rattle.mbe_matcher.specs.Fragments.{taken}
use Rattle.mbe_matcher.specs.Grammar.{Grammar}
use Rattle.mbe_matcher.specs.Readings as r
use Rattle.mbe_matcher.specs.Readings.{Frame, State, in_group, in_round, parted, may_repeat}
use Rattle.mbe_matcher.specs.Threads.{Waits, frame_of, moves_of, state_of, waiting_of}
use Rattle.mbe_matcher.specs.Units as u
use Rattle.mbe_matcher.specs.Waiting.{Good, prefixed, settled_at}
use Rattle.mbe_matcher.specs.declared.step.Waiting as d
use Rattle.mbe_matcher.specs.declared.thread.Frame.TheVariants.{InRound}
use Rattle.mbe_matcher.specs.declared.thread.Round.{Round}
use Rattle.mbe_matcher.specs.declared.thread.Thread.{Thread}

-- in an iteration of one metavariable, without separator, with no ops after the repetition
abbrev pub lone : List ℕ → MetaVarKind → Span → RepeatKind → Frame
lone n k s op = in_round (item (dollar (variable n (Some k)) s) done) None op done

-- such an iteration may be followed by another
abbrev pub IsLone : Round → List ℕ → MetaVarKind → Type 0
IsLone x n k = (s : Span) × (frame_of (InRound x) ≡ lone n k s x.kind) × (may_repeat x.kind ≡ true)

-- what comes after a list of ops is an end, of a group or of the argument
abbrev pub IsShut : List Frame → Type 0
IsShut [] = Unit {0}
IsShut (in_group after ∷ fs) = Unit {0}
IsShut (in_round body sep op after ∷ fs) = ⊥
IsShut (parted body sep op after ∷ fs) = ⊥

-- such an iteration has ended, and only another leads on, unless an end is here
abbrev pub HasLone : Items → List Frame → List ℕ → MetaVarKind → Type 0
HasLone items frames n k =
    (items ≡ done) × ((s : Span) × (op : RepeatKind) × (fs : List Frame) × (frames ≡ lone n k s op ∷ fs) × (may_repeat op ≡ true) × IsShut fs)

-- exactly this path waits once the moves that lead to this state go on
abbrev pub WaitsAfter : Grammar → List r.Move → State → Waits → Type 0
WaitsAfter gr ms s w = (N : ℕ) → Good N s → map (prefixed ms) (settled_at gr s) ≡ w ∷ []

-- exactly this path waits after a thread is settled
abbrev pub WaitsAlone : Grammar → u.Place → Thread → d.Waiting → Type 0
WaitsAlone gr p t w = WaitsAfter gr (moves_of t.moves) (state_of t p) (waiting_of p w)

-- at the front of a list, these trees are each a fragment, one after another; then come the trees
-- after them
pub data AreSingle (gr : Grammar) (k : MetaVarKind) (f : Forest) : Forest → Forest → Type 0 where
  single : (f ≡ empty → ⊥) → taken gr k f ≡ Some 1 → AreSingle gr k f (before 1 f) (past 1 f)
  one_more : {ts rest : Forest} → AreSingle gr k f ts rest → (rest ≡ empty → ⊥) → taken gr k rest ≡ Some 1 →
      AreSingle gr k f (joined ts (before 1 rest)) (past 1 rest)
