use Rattle.std.proofs.Common.{◌∙◌, sym, ap, if◌then◌else◌}
use Rattle.std.specs.List.{list_any}
use Rattle.mbe_rules.specs.Text.{same_text}
use Rattle.tt_data.specs.declared.leaf.IdentIsRaw.TheVariants.{No, Yes}
use Rattle.mbe_transcriber.proofs.metavar_expr.rawness_of.Goals as goal

pub returns-else-is_one_of : goal.returns-else-is_one_of
returns-else-is_one_of c =
    ap (λ b. if b then Yes else No)
    (sym c.if-is_one_of.false ∙ c.is_one_of.ensures ∙ ap (list_any (λ w. same_text c.args.text.now w.now)) c.as_slice.ensures)
