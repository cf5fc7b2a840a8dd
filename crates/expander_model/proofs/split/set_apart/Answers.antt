use Rattle.std.proofs.Common.{◌≡◌, arith, length}
use Rattle.tt.specs.Tops.{tokens_of}
use Rattle.expander_model.proofs.ApartLemmas.{put_last, put_done, top_done}
use Rattle.expander_model.proofs.split.set_apart.Goals as goal

pub loop-put-preserved : goal.loop-put-preserved
loop-put-preserved c =
    put_last c.loop-put.puts.items c.pop.new.self.items c.in-Some.put (tokens_of c.loop-put.tree) (tokens_of c.set_token.new.self) (tokens_of c.args.tree.now)
    c.in_ok-puts.puts.items c.in-Some.ensures.items c.in_ok-set_token.ensures.ok c.loop-put.invariant

pub returns-clause-apart : goal.returns-clause-apart
returns-clause-apart c =
    let none : length c.loop-put.puts.items ≡ 0 = omega (arith, c.in_default.ensures.cases.0, c.loop-put.puts.ok) in
    put_done c.args.tree.now c.loop-put.tree c.in_ok-puts.puts.items c.loop-put.puts.items none c.in_ok-puts.ensures c.loop-put.invariant

pub returns-clause-top : goal.returns-clause-top
returns-clause-top c =
    let none : length c.loop-put.puts.items ≡ 0 = omega (arith, c.in_default.ensures.cases.0, c.loop-put.puts.ok) in
    top_done c.args.tree.now c.loop-put.tree c.in_ok-puts.puts.items c.loop-put.puts.items none c.in_ok-puts.ensures c.loop-put.invariant
