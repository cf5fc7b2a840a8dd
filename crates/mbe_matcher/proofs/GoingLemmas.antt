-- A thread that goes on by one iteration, or by iterations of one tree each.
use Rattle.std.proofs.Common.{◌≡◌, sym, subst, ℕ, List, ◌∷◌, ◌++◌, [], Option, Some, reverse}
use Rattle.std.specs.Borrow.{Bor}
use Rattle.tt_data.specs.Forest.{Forest, empty}
use Rattle.mbe_rules.specs.Ops.{items_of}
use Rattle.mbe_rules.specs.Trees.{before, past}
use Rattle.mbe_rules.specs.declared.parser.MetaVarKind.{MetaVarKind}
use Rattle.mbe_matcher.specs.Fragments.{taken}
use Rattle.mbe_matcher.specs.Going.{Goes}
use Rattle.mbe_matcher.specs.Grammar.{Grammar}
use Rattle.mbe_matcher.specs.Readings as r
use Rattle.mbe_matcher.specs.Rounds.{AreSingle}
use Rattle.mbe_matcher.specs.Threads.{frames_of, moves_of, rounds_of}
use Rattle.mbe_matcher.specs.Units as u
use Rattle.mbe_matcher.specs.Ways.{Follows}
use Rattle.mbe_matcher.specs.declared.position.Place.{Place}
use Rattle.mbe_matcher.specs.declared.thread.Entry.{Entry}
use Rattle.mbe_matcher.specs.declared.thread.Thread.{Thread}
use Rattle.mbe_matcher.proofs.RoundLemmas.{follows-round, follows-singles}

-- a round more
pub goes-round : (gr : Grammar) (n : List ℕ) (k : MetaVarKind) (ms : List r.Move) (s : r.State) (t : Thread) (place : Place) (next : ℕ) (m : Option (Bor Entry)) (behind : Forest) →
    Goes gr n k ms s t place → (place.rest ≡ empty → ⊥) → taken gr k place.rest ≡ Some next → (next ≡ 0 → ⊥) →
    moves_of m ≡ moves_of t.moves ++ (r.next_round ∷ r.fragment_move n k (before next place.rest) ∷ []) → behind ≡ past next place.rest →
    Goes gr n k ms s (record t { moves = m }) (record place { rest = behind })
goes-round gr n k ms s t place next m behind (lone, h) left some more f g =
    let outer = reverse place.outer.items in
    let items = items_of t.items.now in
    let frames = frames_of t.frames in
    let now = follows-round gr ms s outer place.rest next n k items frames (moves_of t.moves) h lone left some more in (
      lone,
      subst (λ y. Follows gr ms s (moves_of m) (r.at items frames (u.place y outer))) (sym g)
          (subst (λ y. Follows gr ms s y (r.at items frames (u.place (past next place.rest) outer))) (sym f) now),
    )

-- rounds more of one tree each
pub goes-singles : (gr : Grammar) (n : List ℕ) (k : MetaVarKind) (ms : List r.Move) (s : r.State) (t : Thread) (place : Place) (ts rest : Forest) (m : Option (Bor Entry)) →
    Goes gr n k ms s t place → AreSingle gr k place.rest ts rest → moves_of m ≡ moves_of t.moves ++ rounds_of n k ts →
    Goes gr n k ms s (record t { moves = m }) (record place { rest = rest })
goes-singles gr n k ms s t place ts rest m (lone, h) x f =
    let outer = reverse place.outer.items in
    let items = items_of t.items.now in
    let frames = frames_of t.frames in (
      lone,
      subst (λ y. Follows gr ms s y (r.at items frames (u.place rest outer))) (sym f)
          (follows-singles gr ms s outer place.rest n k items frames (moves_of t.moves) h lone ts rest x),
    )
