use Rattle.std.proofs.Common.{sym, ap, ◌∙◌}
use Rattle.cfg_options.specs.Attributes.{and_also, found_at, found_before}
use Rattle.cfg_options.proofs.FindingLemmas.{less_behind, more_found, none_before, nothing_more, one_before}
use Rattle.cfg_options.proofs.attributes.found_before.Goals as goal

pub loop-inner-init : goal.loop-inner-init
loop-inner-init c = ap (found_before c.args.options.now) (sym c.copied-rest.ensures)

pub loop-inner-smaller : goal.loop-inner-smaller
loop-inner-smaller c = less_behind c.loop-inner.rest c.in-Some.inner c.in-Some.after (sym c.in-Some.ensures)

pub loop-inner-preserved : goal.loop-inner-preserved
loop-inner-preserved c =
    let o = c.args.options.now in
    let found = c.loop-inner.found in
    let after = found_before o c.in-Some.after in
    c.loop-inner.invariant
    ∙ ap (and_also found) (one_before o c.loop-inner.rest c.in-Some.inner c.in-Some.after (sym c.in-Some.ensures))
    ∙ sym (more_found found (found_at o c.in-Some.inner) after)
    ∙ ap (λ x. and_also x after) (ap (and_also found) (sym c.in_ok-here.ensures) ∙ sym c.and_also-found.ensures)

pub returns : goal.returns
returns c =
    sym (c.loop-inner.invariant
    ∙ ap (and_also c.loop-inner.found) (none_before c.args.options.now c.loop-inner.rest (sym c.in_default.ensures))
    ∙ nothing_more c.loop-inner.found)
