-- Threads whose states were entered at a position, and an index by which a state is found.
use Rattle.std.specs.Prelude.{◌≡◌, ◌<◌, ◌+◌, ◌%◌, ◌^◌, ◌&&◌, ℕ, zero, suc, Bool, true, false, List, length, map, get_or, nat_eq, if◌then◌else◌, unwrap_or}
use Rattle.std.specs.HashMap.{get_by}
use Rattle.mbe_matcher.specs.Frames.{frames_in}
use Rattle.mbe_matcher.specs.Numbers.{number_of}
use Rattle.mbe_matcher.specs.Threads.{same_state}
use Rattle.mbe_matcher.specs.declared.seen_states.LastCounts.{LastCounts}
use Rattle.mbe_matcher.specs.declared.seen_states.StateIndex.{StateIndex}
use Rattle.mbe_matcher.specs.declared.same_state.Seen.{Seen}
use Rattle.mbe_matcher.specs.declared.thread.Thread.{Thread}

-- a thread was in the state of this one, or two were
abbrev pub is_like : Bool → Thread → Seen → Bool
is_like false t x = same_state x.thread t
is_like true t x = x.twice && same_state x.thread t

-- the number of a state
abbrev pub number_of_state : Thread → ℕ
number_of_state t = (number_of (frames_in t.frames) + length t.items.now) % 2 ^ 64

-- the numbers of the states
abbrev pub numbers_of : List Seen → List ℕ
numbers_of xs = map (λ x. number_of_state x.thread) xs

-- how many of the first k there are up to the last n among them, or 0 if there is none
abbrev pub last_at : List ℕ → ℕ → ℕ → ℕ
last_at ns n zero = 0
last_at ns n (suc k) = if nat_eq (get_or ns k 0) n then suc k else last_at ns n k

-- the count that the table has for a number
unfoldable pub last_in : LastCounts → ℕ → ℕ
last_in counts n = unwrap_or (get_by (λ k. nat_eq n k) counts.map) 0

-- the index is of these numbers
pub record IsIndex (index : StateIndex) (ns : List ℕ) : Type 0 where
  pub last : (n : ℕ) → last_in index.last n ≡ last_at ns n (length ns)
  pub count : length index.before.items ≡ length ns
  pub before : (i : ℕ) → i < length ns → get_or index.before.items i 0 ≡ last_at ns (get_or ns i 0) i
