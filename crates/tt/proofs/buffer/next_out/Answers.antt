use Rattle.std.proofs.Common.{◌≡◌, All, subst, sym, arith}
use Rattle.std.proofs.lemmas.List.Elements.{All-take}
use Rattle.tt.specs.CursorTokens.{IsKept}
use Rattle.token_bytes.specs.Items.{items}
use Rattle.tt.proofs.KeptLemmas.{holds_at}
use Rattle.tt.proofs.buffer.next_out.Goals as goal
use Rattle.tt.proofs.buffer.next_out.Goals.{After-pop}

-- what holds of the last list around
last : (c : After-pop) → IsKept (items c.args.tokens) c.in-Some.list.now
last c =
    let all = subst (All (IsKept (items c.args.tokens))) (sym c.as_slice.ensures.value) c.requires.kept in
    holds_at (IsKept (items c.args.tokens)) _ _ _ c.in-Some.ensures.value all

pub returns-clause-begins : goal.returns-clause-begins
returns-clause-begins c =
    let same : c.args.inside.count ≡ c.in-Some.list.now.inside.count = omega (arith, c.count.ensures, c.count-2.ensures, c.if-count.false) in
    rw same (last c).begins

pub returns-clause-marked : goal.returns-clause-marked
returns-clause-marked c = (last c).marked

pub returns-clause-kept : goal.returns-clause-kept
returns-clause-kept c = rw c.pop.ensures.rest (All-take (IsKept (items c.args.tokens)) _ c.args.kept.now.items c.requires.kept)
