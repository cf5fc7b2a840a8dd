use Rattle.std.proofs.Common.{◌≡◌, ◌∷◌, [], ◌++◌, sym, subst, rules}
use Rattle.bridge.specs.SpanLists.{AreRuns}
use Rattle.bridge.proofs.SpanListLemmas.{one_more}
use Rattle.bridge.proofs.printing.span_list.push_shifted.Goals as goal

pub returns-clause-right : goal.returns-clause-right
returns-clause-right c =
    let old = c.settle.new.inner in
    let r = c.in_ok-run.run' in
    let pushed : c.push.new.self.items ≡ old.runs.items ++ r ∷ [] = search rules in
    record {
      runs = subst (λ l. AreRuns 0 l c.in-Some.«end») (sym pushed)
          (subst (AreRuns 0 (old.runs.items ++ r ∷ [])) c.in_ok-run.ensures.2 (one_more old.runs.items 0 old.shared r c.settle.ensures.right.runs c.in_ok-run.ensures.0));
      few = c.in-Some.ensures.1;
    }
