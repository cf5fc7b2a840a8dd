use Rattle.std.proofs.Common.{◌≡◌, length}
use Rattle.tt.specs.Tops.{tokens_of}
use Rattle.expander_model.specs.Splitting.{put_all}
use Rattle.expander_model.proofs.split.set_apart.Given as goal

abbrev pub invariant-loop-put : goal.invariant-loop-put
invariant-loop-put l = put_all l.puts.items (tokens_of l.tree) ≡ put_all l.initial.puts.items (tokens_of l.initial.tree)

abbrev pub decreases-loop-put : goal.decreases-loop-put
decreases-loop-put l = length l.puts.items
