use Rattle.std.proofs.Common.{◌≡◌, ◌++◌, drop}
use Rattle.expansion_page.specs.Pages.{shown_origins}
use Rattle.expansion_page.proofs.told.origins_of.Given as goal

abbrev pub invariant-loop-i : goal.invariant-loop-i
invariant-loop-i l =
    l.origins.items ++ shown_origins (drop l.i l.expansion.origins) (drop l.i l.expansion.texts)
    ≡ shown_origins l.expansion.origins l.expansion.texts
