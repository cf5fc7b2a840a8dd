use Rattle.std.proofs.Common.{◌-◌, arith}
use Rattle.bridge.proofs.PieceLemmas.{last_set}
use Rattle.bridge.proofs.piece_tree.set_last_alone.Goals as goal

pub returns : goal.returns
returns c =
    last_set c.args.tokens.now.items (c.len-last.result - 1) c.index_mut.result.now c.set_alone.new.token c.requires (omega arith) c.index_mut.ensures.value c.set_alone.ensures
