use Rattle.std.proofs.Common.{◌≡◌, ◌∙◌, ◌+◌, ◌-◌, arith, drop, length, length-drop, sym, subst}
use Rattle.memchr.specs.Find.{Nowhere, Passes, is_byte2}
use Rattle.line_index.specs.LineEnds.{NoneEnds}
use Rattle.line_index.proofs.EndLemmas.{none_both, none_here, none_passed}
use Rattle.line_index.proofs.lines.line_end.Goals as goal

pub returns-then-ends_line : goal.returns-then-ends_line
returns-then-ends_line c =
    let found = rw (c.in-Some.is, c.behind.ensures) at c.memchr2.ensures in
    record {
      behind = omega (arith, c.loop-passed.invariant.order);
      within = omega (arith, length-drop c.loop-passed.from c.args.text.now, found.0.high);
      none = none_both c.args.text.now _ c.loop-passed.from _ c.loop-passed.invariant.none (none_passed c.args.text.now c.loop-passed.from c.in-Some.passed found.0.before);
      ends = sym c.ends_line.ensures ∙ c.if-ends_line.true;
    }

pub loop-passed-preserved : goal.loop-passed-preserved
loop-passed-preserved c =
    let found = rw (c.in-Some.is, c.behind.ensures) at c.memchr2.ensures in
    let here = c.loop-passed.from + c.in-Some.passed in
    record {
      order = omega (arith, c.loop-passed.invariant.order);
      within = omega (arith, length-drop c.loop-passed.from c.args.text.now, found.0.high);
      none = none_both c.args.text.now _ here _ (none_both c.args.text.now _ c.loop-passed.from _ c.loop-passed.invariant.none (none_passed c.args.text.now c.loop-passed.from c.in-Some.passed found.0.before))
          (none_here c.args.text.now here (sym c.ends_line.ensures ∙ c.if-ends_line.false));
    }

pub returns : goal.returns
returns c =
    let found = rw (c.in_default.is, c.behind.ensures) at c.memchr2.ensures in
    let all : c.loop-passed.from + (length c.args.text.now - c.loop-passed.from) ≡ length c.args.text.now =
    omega (arith, c.loop-passed.invariant.within) in
    none_both c.args.text.now _ c.loop-passed.from _ c.loop-passed.invariant.none
    (subst (NoneEnds c.args.text.now c.loop-passed.from) all
    (none_passed c.args.text.now c.loop-passed.from (length c.args.text.now - c.loop-passed.from)
    (subst (Nowhere (Passes (is_byte2 10 13) (drop c.loop-passed.from c.args.text.now)) 0) (length-drop c.loop-passed.from c.args.text.now) found)))
