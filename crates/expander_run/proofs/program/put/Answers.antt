use Rattle.std.proofs.Common.{rules, ℕ, List, subst}
use Rattle.std.specs.Io.KnownBytes.{Appends}
use Rattle.expander_run.proofs.KnownByteLemmas.{appends_more, chunk, still_fresh}
use Rattle.expander_run.proofs.program.put.Goals as goal

pub loop-at-preserved : goal.loop-at-preserved
loop-at-preserved g c = record {
  within = search rules;
  fresh = still_fresh _ _ _ _ c.loop-at.invariant.fresh c.in-Ok.n-test.1 c.in-Ok.ensures.failed;
  written =
      subst (λ (xs : List ℕ). Appends (g.W.Write.contents c.args.writer.now.inner) (g.W.Write.contents c.write.new.self.inner) xs)
      (chunk c.args.bytes.now c.loop-at.at c.in-Ok.n)
      (appends_more _ _ _ _ _ c.loop-at.invariant.written c.in-Ok.ensures.bytes);
}
