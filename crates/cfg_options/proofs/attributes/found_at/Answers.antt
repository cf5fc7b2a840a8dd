use Rattle.std.proofs.Common.{sym, subst, ap, ◌∙◌}
use Rattle.cfg_options.specs.Attributes.{IsLater, and_also, found_in, found_in_all, found_inside, found_next, tokens_waiting}
use Rattle.cfg_options.specs.declared.attributes.Next.{Next}
use Rattle.cfg_options.proofs.FindingLemmas.{nothing_more}
use Rattle.cfg_options.proofs.attributes.found_at.Goals as goal

pub returns-in_default : goal.returns-in_default
returns-in_default c =
    sym (nothing_more c.in_ok-first.first)
    ∙ sym (ap (λ i. and_also c.in_ok-first.first (found_inside c.args.options.now i)) c.in_default.is)
    ∙ c.in_ok-first.ensures.found

pub loop-so_far-init : goal.loop-so_far-init
loop-so_far-init c =
    let o = c.args.options.now in
    ap (λ ls. and_also c.in_ok-first.first (and_also (found_in o c.in-Some.list) (found_in_all o ls))) c.new.ensures.items
    ∙ ap (and_also c.in_ok-first.first) (nothing_more (found_in o c.in-Some.list))
    ∙ sym (ap (λ i. and_also c.in_ok-first.first (found_inside o i)) c.in-Some.is)
    ∙ c.in_ok-first.ensures.found

pub loop-so_far-smaller : goal.loop-so_far-smaller
loop-so_far-smaller c =
    let IsIt : Next → Type 0 = λ n. IsLater (tokens_waiting c.loop-so_far.waiting) n in
    subst IsIt c.in-More.is c.in_ok-so_far.ensures.less

pub loop-so_far-preserved : goal.loop-so_far-preserved
loop-so_far-preserved c =
    sym (ap (found_next c.args.options.now) c.in-More.is) ∙ c.in_ok-so_far.ensures.found ∙ c.loop-so_far.invariant

pub returns-in-Last : goal.returns-in-Last
returns-in-Last c =
    sym (ap (found_next c.args.options.now) c.in-Last.is) ∙ c.in_ok-so_far.ensures.found ∙ c.loop-so_far.invariant
