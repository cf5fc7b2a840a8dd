-- What comes next at an inline module.
use Rattle.crate_walk.proofs.next.next_at.Goals as goal

pub returns-in_ok-inner-in-Inline-clause-next : goal.returns-in_ok-inner-in-Inline-clause-next
returns-in_ok-inner-in-Inline-clause-next g c =
    (c.in-Inline.item, c.in-Inline.is, (cc (c.in_ok-inner-in-Inline.ensures, c.as_str.ensures.value, c.path_of.ensures)))
