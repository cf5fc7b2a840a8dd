use Rattle.std.proofs.Common.{◌≡◌, sym, ap, ◌∙◌, codes}
use Rattle.std.proofs.lemmas.Result.{IfOk-weaker}
use Rattle.cfg_options.specs.Attributes.{and_also, first_value, found_inside, found_of_cfg_attr, nothing_found}
use Rattle.cfg_options.specs.Misread.{span_of_name}
use Rattle.cfg_options.specs.Conditions.{after_part}
use Rattle.cfg_options.proofs.FindingLemmas.{attr_less, read_attr_is, read_cfg_is, read_other_is}
use Rattle.cfg_options.proofs.attributes.read.Goals as goal

pub returns-in-Some-clause-found : goal.returns-in-Some-clause-found
returns-in-Some-clause-found c =
    ap (λ x. and_also x nothing_found) c.in_ok-found.ensures
    ∙ read_cfg_is c.args.options.now c.args.attribute.now c.in-Some.list (sym c.in-Some.ensures)

pub returns-in-Some-list_behind-clause-found : goal.returns-in-Some-list_behind-clause-found
returns-in-Some-list_behind-clause-found c =
    IfOk-weaker c.read_cfg_attr.result
    (λ r. r ≡ found_of_cfg_attr (first_value c.args.options.now c.in-Some-list_behind.list) (span_of_name (codes "cfg_attr") c.args.attribute.now) (after_part c.in-Some-list_behind.list)) _
    (λ r h.
    ap (λ x. and_also x.0 (found_inside c.args.options.now x.1)) h
    ∙ read_attr_is c.args.options.now c.args.attribute.now c.in-Some-list_behind.list (sym c.in-Some-list_behind.ensures))
    c.read_cfg_attr.ensures

pub returns-in-Some-list_behind-clause-less : goal.returns-in-Some-list_behind-clause-less
returns-in-Some-list_behind-clause-less c =
    IfOk-weaker c.read_cfg_attr.result
    (λ r. r ≡ found_of_cfg_attr (first_value c.args.options.now c.in-Some-list_behind.list) (span_of_name (codes "cfg_attr") c.args.attribute.now) (after_part c.in-Some-list_behind.list)) _
    (λ r h. attr_less c.args.attribute.now c.in-Some-list_behind.list (first_value c.args.options.now c.in-Some-list_behind.list) _ r.1 (sym c.in-Some-list_behind.ensures) (ap (λ x. x.1) h))
    c.read_cfg_attr.ensures

pub returns-clause-found : goal.returns-clause-found
returns-clause-found c =
    ap (λ x. and_also x nothing_found) c.read_other.ensures
    ∙ read_other_is c.args.options.now c.args.attribute.now (sym c.in_default.ensures) (sym c.in_default-list_behind.ensures)
