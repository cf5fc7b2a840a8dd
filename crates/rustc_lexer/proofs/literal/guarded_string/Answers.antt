use Rattle.std.proofs.Common.{◌∙◌, sym}
use Rattle.rustc_lexer.proofs.CursorLemmas.{guarded_whole, no_guarded}
use Rattle.rustc_lexer.proofs.literal.guarded_string.Goals as goal

pub returns-then-first-ne34 : goal.returns-then-first-ne34
returns-then-first-ne34 c text counted = no_guarded _ _ _ counted (λ e. c.if-first-ne34.true (c.first.ensures ∙ e))

pub returns : goal.returns
returns c text counted =
    guarded_whole _ _ _ _ _ counted (sym c.first.ensures ∙ c.if-first-ne34.false) c.guarded_body-terminated.ensures
