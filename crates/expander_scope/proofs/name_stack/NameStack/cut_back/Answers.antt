use Rattle.std.proofs.Common.{◌≡◌, ◌∙◌, ◌+◌, ◌-◌, ap, arith, drop, length, length-append}
use Rattle.std.proofs.lemmas.List.{drop-drop}
use Rattle.expander_scope.specs.NameStacks.{entries_of}
use Rattle.expander_scope.proofs.NameStackLemmas.{count_shown, second_part}
use Rattle.expander_scope.proofs.name_stack.NameStack.cut_back.Goals as goal

pub loop-preserved : goal.loop-preserved
loop-preserved g c =
    let more : c.loop.counter - c.args.len + 1 ≡ c.loop.counter + 1 - c.args.len = omega arith in
    record {
      popped = c.pop.ensures ∙ ap (drop 1) c.loop.invariant.popped ∙ drop-drop 1 (c.loop.counter - c.args.len) (entries_of c.args.self.now)
          ∙ ap (λ n. drop n (entries_of c.args.self.now)) more;
      none_popped = λ short. absurd (omega arith);
    }

pub returns-clause-short : goal.returns-clause-short
returns-clause-short g c = λ short.
    let none : c.loop.counter - c.args.len ≡ 0 = omega (arith, c.loop.invariant.none_popped, count_shown c.args.self.now.entries.items) in
    c.loop.invariant.popped ∙ ap (λ n. drop n (entries_of c.args.self.now)) none

pub returns-clause-split : goal.returns-clause-split
returns-clause-split g c = λ front back parts counted.
    let popped : c.loop.counter - c.args.len + length back ≡ length (entries_of c.args.self.now) =
    omega (arith, ap length parts, length-append front back, count_shown c.args.self.now.entries.items) in
    c.loop.invariant.popped ∙ second_part (entries_of c.args.self.now) front back (c.loop.counter - c.args.len) parts popped
