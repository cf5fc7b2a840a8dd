use Rattle.std.proofs.Common.{Option, sym, subst, ap, ◌∙◌, ◌+◌, ◌≤◌, arith, IfSome}
use Rattle.tt_data.specs.Forest.{Forest, size}
use Rattle.cfg_options.specs.Attributes.{and_also, found_at, found_in, found_in_all, found_inside, nothing_found, tokens_in}
use Rattle.cfg_options.proofs.FindingLemmas.{innermost_found, one_on, tokens_with}
use Rattle.cfg_options.proofs.PartLemmas.{less_after, part_sizes}
use Rattle.cfg_options.proofs.StepLemmas.{some_trees}
use Rattle.cfg_options.proofs.attributes.read_next.Goals as goal

pub returns-then-is_empty-clause-found : goal.returns-then-is_empty-clause-found
returns-then-is_empty-clause-found c = c.end_list.ensures.found c.args.options.now

pub returns-then-is_empty-clause-less : goal.returns-then-is_empty-clause-less
returns-then-is_empty-clause-less c = c.end_list.ensures.less

pub returns-in-None-clause-found : goal.returns-in-None-clause-found
returns-in-None-clause-found c =
    let o = c.args.options.now in
    let r = found_in_all o c.args.waiting.around.items in
    ap (λ x. and_also x (and_also (found_in o c.split_part-part.result.1) r)) c.and_also-found.ensures
    ∙ ap (λ f. and_also (and_also c.args.found c.in_ok-here.here) (and_also (found_in o f) r)) c.split_part-part.ensures.rest
    ∙ one_on o c.args.found c.in_ok-here.here nothing_found r c.args.waiting.list (some_trees c.args.waiting.list c.if-is_empty.ensures.1)
    (sym (ap (λ i. and_also c.in_ok-here.here (found_inside o i)) c.in-None.is) ∙ c.in_ok-here.ensures.found ∙ ap (found_at o) c.split_part-part.ensures.part)

pub returns-in-None-clause-less : goal.returns-in-None-clause-less
returns-in-None-clause-less c =
    let sr = ap size c.split_part-part.ensures.rest in
    omega (arith, sr, less_after c.args.waiting.list (some_trees c.args.waiting.list c.if-is_empty.ensures.1))

pub returns-in_ok-push-in-Some-clause-found : goal.returns-in_ok-push-in-Some-clause-found
returns-in_ok-push-in-Some-clause-found c =
    let o = c.args.options.now in
    let r = found_in_all o c.args.waiting.around.items in
    let here = c.in_ok-here.here in
    let l = c.in-Some.list in
    ap (λ x. and_also x (and_also (found_in o l) (found_in_all o c.push.new.self.items))) c.and_also-found.ensures
    ∙ ap (λ x. and_also (and_also c.args.found here) (and_also (found_in o l) x))
    (ap (found_in_all o) c.in_ok-push-in-Some.ensures.items ∙ innermost_found o c.args.waiting.around.items c.split_part-part.result.1 ∙ ap (λ f. and_also (found_in o f) r) c.split_part-part.ensures.rest)
    ∙ one_on o c.args.found here (found_in o l) r c.args.waiting.list (some_trees c.args.waiting.list c.if-is_empty.ensures.1)
    (sym (ap (λ i. and_also here (found_inside o i)) c.in-Some.is) ∙ c.in_ok-here.ensures.found ∙ ap (found_at o) c.split_part-part.ensures.part)

pub returns-in_ok-push-in-Some-clause-less : goal.returns-in_ok-push-in-Some-clause-less
returns-in_ok-push-in-Some-clause-less c =
    let IsIn : Option Forest → Type 0 = λ i. IfSome i (λ l. size l + 2 ≤ size c.split_part-part.result.0) in
    let inside = subst IsIn c.in-Some.is c.in_ok-here.ensures.less in
    let sp = ap size c.split_part-part.ensures.part in
    let sr = ap size c.split_part-part.ensures.rest in
    let all = ap tokens_in c.in_ok-push-in-Some.ensures.items ∙ tokens_with c.args.waiting.around.items c.split_part-part.result.1 in
    omega (arith, inside, sp, sr, all, part_sizes c.args.waiting.list)
