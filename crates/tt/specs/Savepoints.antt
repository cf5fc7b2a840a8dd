-- Savepoints of an iterator.
use Rattle.tt_data.specs.Forest.{Forest}
use Rattle.tt.specs.Views.{forest}
use Rattle.tt.specs.declared.iter.savepoint.TtIterSavepoint.{TtIterSavepoint}

-- the trees that were left at a savepoint
abbrev pub left_at : TtIterSavepoint → Forest
left_at s = forest s.trees
