-- The pane of steps of a page.
use Rattle.std.specs.Prelude.{ℕ, List, [], ◌∷◌}
use Rattle.expansion_page.specs.declared.steps.TheConstants.{STEPS, STEPS_END}
use Rattle.html_code.specs.Parts.{html_of, shown, tag}

-- the lines between constants of this crate
abbrev pub steps_html : List ℕ → List ℕ
steps_html lines = html_of (tag STEPS.now ∷ shown lines ∷ tag STEPS_END.now ∷ [])
