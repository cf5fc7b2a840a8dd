use Rattle.std.proofs.Common.{◌∙◌, ap, subst}
use Rattle.tt_data.specs.Forest.{empty}
use Rattle.tt_data.specs.declared.delimiter.DelimiterKind.TheVariants.{Invisible}
use Rattle.tt_data.specs.declared.edition.Edition.{Edition}
use Rattle.tt_data.specs.declared.span.Span.{Span}
use Rattle.expander_model.specs.Definitions.{Definition}
use Rattle.expander_sources.specs.Builds.{Adds}
use Rattle.expander_sources.specs.Picks.{first_span, marked_with}
use Rattle.expander_sources.proofs.AddingLemmas.{home_built}
use Rattle.expander_sources.proofs.rooting.home_tree.Goals as goal

pub returns-in-Ok-clause-tree : goal.returns-in-Ok-clause-tree
returns-in-Ok-clause-tree c =
    home_built c.args.home.now c.args.key c.args.definition.now c.in_ok-root.root (c.in_ok-root.ensures.text ∙ c.as_str.ensures.value ∙ c.in_ok-mark.ensures)
    c.first_span-at.result (c.first_span-at.ensures ∙ ap (λ (d : Definition). first_span d.piece) c.definition.view_is)
    c.invisible_spanned.result
    (c.invisible_spanned.ensures ∙ ap (λ (s : Span). record { open_span = s; close_span = s; kind = Invisible }) c.no_span.ensures)
    c.in_ok-tree.tree c.in_ok-tree.ensures.ok _ _ _
    (subst (λ (e : Edition). Adds c.in_ok-tree.tree.tree c.push_mark.new.tree.tree (marked_with e c.first_span-at.result empty)) c.edition.ensures c.in_ok-push_mark.ensures.ok)
    c.in_ok-push_head.ensures.ok c.in_ok-push_groups.ensures.ok
    c.in-Ok.tree c.in-Ok.ensures.ok
