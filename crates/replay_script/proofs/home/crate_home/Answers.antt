use Rattle.std.proofs.Common.{sym, ◌∙◌}
use Rattle.replay_script.proofs.HomeLemmas.{is_home, no_at, no_edition, no_root}
use Rattle.replay_script.proofs.home.crate_home.Goals as goal

pub returns-in_default : goal.returns-in_default
returns-in_default c = no_at c.args.word.now c.requires c.in_default.ensures

pub returns-in_default-edition_of : goal.returns-in_default-edition_of
returns-in_default-edition_of c =
    no_edition c.args.word.now c.in-Some.root.now c.in-Some.year.now c.requires c.in-Some.ensures.0 c.in-Some.ensures.1 c.in_default-edition_of.ensures

pub returns-in-Some-2 : goal.returns-in-Some-2
returns-in-Some-2 c =
    is_home c.args.word.now c.in-Some.root.now c.in-Some.year.now c.in-Some-edition_of.edition c.in-Some-2.home c.in-Some.ensures.0 c.in-Some.ensures.1
    c.in-Some-edition_of.ensures (sym c.in_ok-home.ensures ∙ c.in-Some-2.is)

pub returns-in-None : goal.returns-in-None
returns-in-None c =
    no_root c.args.word.now c.in-Some.root.now c.in-Some.year.now c.in-Some-edition_of.edition c.requires c.in-Some.ensures.0 c.in-Some.ensures.1
    c.in-Some-edition_of.ensures (sym c.in_ok-home.ensures ∙ c.in-None.is)
