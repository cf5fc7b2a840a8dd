-- What the threads of the code stand for
use Rattle.std.specs.Prelude.{◌==◌, ◌&&◌, length, Bool, true, false, ℕ, List, [], ◌∷◌, ◌++◌, map, Option, Some, None}
use Rattle.std.specs.Borrow.{Bor}
use Rattle.tt_data.specs.Forest.{Forest, empty, leaf, group}
use Rattle.tt.specs.Views.{forest}
use Rattle.mbe_rules.specs.Items as i
use Rattle.mbe_rules.specs.Items.{variables}
use Rattle.mbe_rules.specs.declared.parser.MetaVarKind.{MetaVarKind}
use Rattle.mbe_rules.specs.declared.parser.Separator.{Separator}
use Rattle.mbe_rules.specs.Ops.{items_of, separator_of}
use Rattle.mbe_matcher.specs.Grammar.{Grammar}
pub use Rattle.mbe_matcher.specs.Frames.{frames_in}
use Rattle.mbe_matcher.specs.Places.{place_after}
use Rattle.mbe_matcher.specs.Readings as r
use Rattle.mbe_matcher.specs.Units as u
use Rattle.mbe_matcher.specs.Waiting as w
use Rattle.mbe_matcher.specs.declared.position.Consumed.{Consumed}
use Rattle.mbe_matcher.specs.declared.position.Consumed.TheVariants.{Fragment as takes_trees}
use Rattle.mbe_matcher.specs.declared.thread.IterationStart.{IterationStart}
use Rattle.mbe_matcher.specs.declared.thread.IterationStart.TheVariants as begun
use Rattle.mbe_matcher.specs.declared.thread.Entry.{Entry, Entry', Held-Entry-before, None', Some'}
use Rattle.mbe_matcher.specs.declared.thread.Frame.{Frame}
use Rattle.mbe_matcher.specs.declared.thread.Frame.TheVariants.{InGroup, InRound, Parted}
use Rattle.mbe_matcher.specs.declared.thread.Move.{Move}
use Rattle.mbe_matcher.specs.declared.thread.Move.TheVariants.{Unit as unit, Fragment, Nothing, Enter, Skip, Leave, Separator as separator, NextRound}
use Rattle.mbe_matcher.specs.declared.thread.Round.{Round}
use Rattle.mbe_matcher.specs.declared.thread.Thread.{Thread}
use Rattle.mbe_matcher.specs.declared.step.Choice.{Choice}
use Rattle.mbe_matcher.specs.declared.step.Waiting.{Waiting}
use Rattle.mbe_matcher.specs.declared.step.Waiting.TheVariants.{Ended, Pending}

-- a separator, if there is one
abbrev pub between_of : Option (Bor Separator) → Option i.Separator
between_of None = None
between_of (Some s) = Some (separator_of s.now)

-- what a frame goes on with
abbrev pub frame_of : Frame → r.Frame
frame_of (InGroup after) = r.in_group (items_of after.now)
frame_of (InRound x) = r.in_round (items_of x.body.now) (between_of x.separator) x.kind (items_of x.after.now)
frame_of (Parted x) = r.parted (items_of x.body.now) (between_of x.separator) x.kind (items_of x.after.now)

-- a repetition before what comes after it
abbrev pub repetition_of : Round → i.Items
repetition_of x = i.repetition (items_of x.body.now) (between_of x.separator) x.kind (items_of x.after.now)

-- the move that a move of the code stands for
abbrev pub move_of : Move → r.Move
move_of unit = r.unit_move
move_of (Fragment n k trees) = r.fragment_move n.now k (forest trees)
move_of (Nothing n) = r.nothing_move n.now
move_of Enter = r.enter
move_of (Skip body) = r.skip (variables (items_of body.now))
move_of Leave = r.leave
move_of separator = r.separator_move
move_of NextRound = r.next_round

-- iterations of one metavariable, one for each of these trees
abbrev pub rounds_of : List ℕ → MetaVarKind → Forest → List r.Move
rounds_of n k empty = []
rounds_of n k (leaf l rest) = r.next_round ∷ r.fragment_move n k (leaf l empty) ∷ rounds_of n k rest
rounds_of n k (group d inner rest) = r.next_round ∷ r.fragment_move n k (group d inner empty) ∷ rounds_of n k rest

-- a log entry's moves: its own, perhaps after one into another iteration, or many iterations
abbrev pub steps : IterationStart → Move → List r.Move
steps begun.Nothing m = move_of m ∷ []
steps begun.RoundForEach (Fragment n k trees) = rounds_of n.now k (forest trees)
steps _ m = r.next_round ∷ move_of m ∷ []

-- the moves of an entry
abbrev pub steps_in : Entry → List r.Move
steps_in (Entry' begun made before) = steps begun made

-- the moves of a borrowed entry
abbrev pub steps_of : Bor Entry → List r.Move
steps_of e = steps_in e.now

-- what the frames of a thread go on with
abbrev pub frames_of : Option (Bor (Frame × List Frame)) → List r.Frame
frames_of fs = map frame_of (frames_in fs)

-- the moves up to an entry of the log
abbrev mutual
  pub moves_to : Entry → List r.Move
  moves_to (Entry' begun made before) = moves_before before ++ steps begun made

  pub moves_before : Held-Entry-before → List r.Move
  moves_before None' = []
  moves_before (Some' p e) = moves_to e

-- the moves up to the last entry
abbrev pub moves_of : Option (Bor Entry) → List r.Move
moves_of None = []
moves_of (Some e) = moves_to e.now

-- the state that a thread is in at a place
abbrev pub state_of : Thread → u.Place → r.State
state_of t p = r.at (items_of t.items.now) (frames_of t.frames) p

-- the moves so far, whether the last consumes, whether a fragment, and the state after it
abbrev pub Made : Type 0
Made = List r.Move × Bool × Bool × r.State

-- something is consumed
abbrev pub is_some_taken : Option Consumed → Bool
is_some_taken None = false
is_some_taken (Some t) = true

-- a fragment is consumed
abbrev pub is_trees : Option Consumed → Bool
is_trees (Some (takes_trees n)) = true
is_trees _ = false

-- what a thread's choice has made
abbrev pub made_of : u.Place → Choice → Made
made_of p c = (moves_of c.thread.moves, is_some_taken c.taken, is_trees c.taken, state_of c.thread (place_after p c.taken))

-- what a choice has made, if there is one
abbrev pub given : u.Place → Option Choice → List Made
given p None = []
given p (Some c) = made_of p c ∷ []

-- a move after others
abbrev pub extended : List r.Move → r.Choice → Made
extended ms d = (ms ++ (d.0 ∷ []), r.takes d.0, r.is_fragment d.0, d.1)

-- a path that waits at a position
abbrev pub Waits : Type 0
Waits = w.Waiting r.Move r.State

-- the waiting paths that a choice leads to
abbrev pub contributes : Grammar → Made → List Waits
contributes g m = elim m.1 [ true ↦ w.pending m.0 m.2 m.3 ∷ [] | false ↦ map (w.prefixed m.0) (w.settled_at g m.3) ]

-- the path that a waiting thread stands for, whose last move was made at p
abbrev pub waiting_of : u.Place → Waiting → Waits
waiting_of p (Ended ms) = w.ended (moves_of ms)
waiting_of p (Pending t k) = w.pending (moves_of t.moves) (is_trees (Some k)) (state_of t (place_after p (Some k)))

-- the paths that waiting threads stand for, whose last moves were made at p
abbrev pub waits : u.Place → List Waiting → List Waits
waits p xs = map (waiting_of p) xs

-- the path that a waiting thread stands for, whose last move leads to p
abbrev pub waiting_at : u.Place → Waiting → Waits
waiting_at p (Ended ms) = w.ended (moves_of ms)
waiting_at p (Pending t k) = w.pending (moves_of t.moves) (is_trees (Some k)) (state_of t p)

-- the paths that waiting threads stand for, whose last moves lead to p
abbrev pub waits_at : u.Place → List Waiting → List Waits
waits_at p xs = map (waiting_at p) xs

-- whether its last move consumes a fragment
abbrev pub takings_of : Waiting → List Bool
takings_of (Ended ms) = []
takings_of (Pending t k) = is_trees (Some k) ∷ []

-- what the first waiting path consumes
abbrev pub head_taken : List Waiting → Option Consumed
head_taken [] = None
head_taken (Ended ms ∷ ws) = head_taken ws
head_taken (Pending t k ∷ ws) = Some k

-- two frames are of one sort, and as many ops come after them
abbrev pub same_mark : Frame → Frame → Bool
same_mark (InGroup a) (InGroup b) = length a.now == length b.now
same_mark (InRound x) (InRound y) = length x.after.now == length y.after.now
same_mark (Parted x) (Parted y) = length x.after.now == length y.after.now
same_mark _ _ = false

-- the frames of two threads are so, one by one
abbrev pub same_marks : List Frame → List Frame → Bool
same_marks [] [] = true
same_marks (f ∷ fs) (g ∷ gs) = same_mark f g && same_marks fs gs
same_marks _ _ = false

-- two threads are in one state of a matcher, by the same numbers
abbrev pub same_state : Thread → Thread → Bool
same_state t u = (length t.items.now == length u.items.now) && same_marks (frames_in t.frames) (frames_in u.frames)
