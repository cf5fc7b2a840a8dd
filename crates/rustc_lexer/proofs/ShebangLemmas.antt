-- The first line that an iterator of lines gives.
use Rattle.std.proofs.Common.{◌≡◌, ℕ, Option, Some, List, [], ◌∷◌, slice_get}
use Rattle.std.specs.Iterator.{AlwaysYields}
use Rattle.std.specs.Option.{unwrap_or}
use Rattle.std.specs.Str.Iter.{lines_steps, lines_rest}
use Rattle.std.specs.Str.Lines.{lines}
use Rattle.std.proofs.lemmas.Iterator.Splits.{YieldsList-from_lines}
use Rattle.rustc_lexer.specs.Shebang.{first_line}

first_yielded : {S A : Type 0} (steps : S → Option A → S → Type 0) (v : A → List ℕ) (s t : S) (x : A) (ys : List (List ℕ)) →
    AlwaysYields steps v s ys → steps s (Some x) t → v x ≡ unwrap_or (slice_get ys 0) []
first_yielded steps v s t x [] all step = absurd (all x t step)
first_yielded steps v s t x (y ∷ ys) all step = (all.1 x t step).0

pub is_first_line : (s t x : _) (text : List ℕ) → lines_rest s ≡ text → lines_steps s (Some x) t → x.now ≡ first_line text
is_first_line s t x text e step = first_yielded lines_steps (λ y. y.now) s t x (lines text) (YieldsList-from_lines text e).runs step
