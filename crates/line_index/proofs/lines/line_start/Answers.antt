use Rattle.std.proofs.Common.{◌≡◌, ◌∙◌, ◌+◌, ◌-◌, arith, ap, drop, sym, ℕ}
use Rattle.line_index.specs.Lines.{line_start}
use Rattle.line_index.proofs.EndLemmas.{next_line, no_line}
use Rattle.line_index.proofs.lines.line_start.Goals as goal

pub returns-in-None-clause-start : goal.returns-in-None-clause-start
returns-in-None-clause-start c =
    sym (no_line c.args.text.now c.loop.start (c.args.line - c.loop.counter) (omega (arith, c.loop-test.true)) c.loop.invariant.within
    (rw c.in-None.is at c.line_end.ensures))
    ∙ c.loop.invariant.so_far

pub loop-preserved : goal.loop-preserved
loop-preserved c =
    let found = rw c.in-Some.is at c.line_end.ensures in
    let left : c.args.line - c.loop.counter - 1 ≡ c.args.line - (c.loop.counter + 1) = omega arith in
    record {
      within = omega (arith, found.within);
      so_far =
          ap (λ (n : ℕ). c.in-Some.at + 1 + line_start (drop (c.in-Some.at + 1) c.args.text.now) n) (sym left)
          ∙ sym (next_line c.args.text.now c.loop.start c.in-Some.at (c.args.line - c.loop.counter) (omega (arith, c.loop-test.true)) found)
          ∙ c.loop.invariant.so_far;
    }
