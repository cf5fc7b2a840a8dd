use Rattle.std.proofs.Common.{arith}
use Rattle.tt.specs.Views.{forest}
use Rattle.tt.proofs.Steps.{passed_of}
use Rattle.tt.proofs.iter.TtIter.passed_since.Goals as goal

pub overflow_sub-count : goal.overflow_sub-count
unfolding forest
overflow_sub-count c =
    omega (arith, (passed_of _ _ _ c.args.then.whole c.self.invariant c.self.view_is c.requires).fits, c.len.ensures.len, c.len-2.ensures.len)

pub front-passed-requires : goal.front-passed-requires
front-passed-requires c = omega (arith, c.len.ensures.len, c.len-2.ensures.len)

pub invariant_of-result : goal.invariant_of-result
unfolding forest
invariant_of-result c =
    rw (c.front-passed.ensures, c.len.ensures.len, c.len-2.ensures.len)
    (record { whole = (passed_of _ _ _ c.args.then.whole c.self.invariant c.self.view_is c.requires).whole })

pub returns : goal.returns
unfolding forest
returns c =
    rw (c.front-passed.ensures, c.len.ensures.len, c.len-2.ensures.len) (passed_of _ _ _ c.args.then.whole c.self.invariant c.self.view_is c.requires).all_is
