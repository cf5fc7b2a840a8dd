use Rattle.std.proofs.Common.{sym, ap, ◌∙◌, arith}
use Rattle.tt_data.specs.Forest.{size}
use Rattle.cfg_options.specs.Attributes.{and_also, found_in, found_in_all, tokens_in}
use Rattle.cfg_options.proofs.FindingLemmas.{innermost_found, tokens_with}
use Rattle.cfg_options.proofs.attributes.end_list.Goals as goal

pub returns-in-Some-clause-found : goal.returns-in-Some-clause-found
returns-in-Some-clause-found c =
    λ options.
    ap (and_also c.args.found)
    (sym (innermost_found options c.pop.new.self.items c.in-Some.list)
    ∙ ap (found_in_all options) (sym c.in-Some.ensures.items)
    ∙ sym (ap (λ f. and_also (found_in options f) (found_in_all options c.args.waiting.around.items)) c.requires))

pub returns-in-Some-clause-less : goal.returns-in-Some-clause-less
returns-in-Some-clause-less c =
    let all = ap tokens_in c.in-Some.ensures.items ∙ tokens_with c.pop.new.self.items c.in-Some.list in
    let none = ap size c.requires in
    omega (arith, all, none)
