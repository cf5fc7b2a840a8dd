-- A number of frames: where two numbers differ, so do the frames.
use Rattle.std.specs.Prelude.{ℕ, ◌+◌, ◌*◌, ◌%◌, ◌^◌, List, [], ◌∷◌, length}
use Rattle.mbe_matcher.specs.declared.thread.Frame.{Frame}
use Rattle.mbe_matcher.specs.declared.thread.Frame.TheVariants.{InGroup, InRound, Parted}

-- a number that mixes a sort, how many ops come after, and the number of what is around
abbrev pub mixed : ℕ → ℕ → ℕ → ℕ
mixed sort count around = ((((around + count) % 2 ^ 64) + 1) % 2 ^ 64 * sort) % 2 ^ 64

-- the number of some frames with one more inside
abbrev pub number_after : Frame → ℕ → ℕ
number_after (InGroup a) n = mixed 11400714819323198485 (length a.now) n
number_after (InRound x) n = mixed 14029467366897019727 (length x.after.now) n
number_after (Parted x) n = mixed 1609587929392839161 (length x.after.now) n

-- the number of frames
abbrev pub number_of : List Frame → ℕ
number_of [] = 0
number_of (f ∷ fs) = number_after f (number_of fs)
