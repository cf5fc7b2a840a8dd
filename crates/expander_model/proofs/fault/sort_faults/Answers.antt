use Rattle.std.proofs.Common.{rules}
use Rattle.std.proofs.lemmas.Result.{on_ok_weaker}
use Rattle.expander_model.proofs.SortLemmas.{sorted_by_key}
use Rattle.expander_model.proofs.fault.sort_faults.Goals as goal

pub returns : goal.returns
returns c =
    on_ok_weaker c.sort_by_key.result
    (λ sorted. sorted_by_key c.args.faults.now.items c.sort_by_key.new.self.items c.sort_by_key.ensures.permutation sorted (λ a r q k. search rules))
    c.sort_by_key.ensures.sorted
