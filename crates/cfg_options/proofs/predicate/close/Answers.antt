use Rattle.std.proofs.Common.{sym, ap, ◌∙◌, arith}
use Rattle.cfg_options.specs.Conditions.{cut_at_commas}
use Rattle.tt_data.specs.Forest.{empty, size}
use Rattle.cfg_options.specs.OpenLists.{left_in, value_around, weight, whole_value}
use Rattle.cfg_options.specs.Parts.{ended, value_of_rest}
use Rattle.cfg_options.proofs.OpenListLemmas.{innermost, left_with, less_than}
use Rattle.cfg_options.proofs.predicate.close.Goals as goal

pub returns-in-Some-clause-value : goal.returns-in-Some-clause-value
returns-in-Some-clause-value c =
    λ f.
    c.given.ensures.value f
    ∙ ap (λ o. whole_value f c.pop.new.self.items (value_around f c.in-Some.list o)) c.ended-value.ensures
    ∙ sym (innermost f c.pop.new.self.items c.in-Some.list (ended c.args.lists.list.so_far))
    ∙ ap (λ ls. whole_value f ls (ended c.args.lists.list.so_far)) (sym c.in-Some.ensures.items)
    ∙ sym (ap (λ g. whole_value f c.args.lists.around.items (value_of_rest f c.args.lists.list.so_far (cut_at_commas g empty))) c.requires)

pub returns-in-Some-clause-less : goal.returns-in-Some-clause-less
returns-in-Some-clause-less c =
    let all = ap left_in c.in-Some.ensures.items ∙ left_with c.pop.new.self.items c.in-Some.list in
    let none = ap size c.requires in
    less_than _ (weight c.args.lists) c.given.result (omega (arith, all, none)) c.given.ensures.less
