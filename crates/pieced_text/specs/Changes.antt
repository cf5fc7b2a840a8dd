-- A change that makes one text another.
use Rattle.std.specs.Prelude.{◌≡◌, ◌≤◌, ℕ, List, IsCharBoundary, drop, take}
use Rattle.pieced_text.specs.declared.difference.Change.{Change}

-- up to a start, and from two ends on, two texts are the same
pub record Changes (old new : List ℕ) (c : Change) : Type 0 where
  pub old_start : IsCharBoundary old c.start
  pub new_start : IsCharBoundary new c.start
  pub old_end : IsCharBoundary old c.old_end
  pub new_end : IsCharBoundary new c.new_end
  pub old_order : c.start ≤ c.old_end
  pub new_order : c.start ≤ c.new_end
  pub front : take c.start old ≡ take c.start new
  pub back : drop c.old_end old ≡ drop c.new_end new
