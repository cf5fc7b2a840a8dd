use Rattle.std.proofs.Common.{◌≡◌, ◌∙◌, ap, sym, rules}
use Rattle.expander_model.specs.Definitions.{Definition, definition_of}
use Rattle.expander_model.specs.Held.{anchored_definition}
use Rattle.expander_scope.specs.MacroDefs.{numbered_in}
use Rattle.expander_model.specs.World.{rules_in}
use Rattle.expander_scope.proofs.AnchoredLemmas.{anchored_is, anchored_some}
use Rattle.expander_scope.proofs.macro_def.MacroDef.new.Goals as goal

pub unreachable-requires : goal.unreachable-requires
unreachable-requires c =
    anchored_some c.args.number c.args.tree.inner c.requires
    (sym c.in_default.is ∙ c.definition_of.ensures ∙ ap definition_of (c.iter.ensures ∙ c.in_ok-anchored.ensures.tree))

pub invariant_of-result : goal.invariant_of-result
invariant_of-result c =
    let is : c.in-Some.definition ≡ anchored_definition (numbered_in c.args.number c.args.tree.inner) =
    anchored_is c.args.number c.args.tree.inner c.in-Some.definition c.requires
    (sym c.in-Some.is ∙ c.definition_of.ensures ∙ ap definition_of (c.iter.ensures ∙ c.in_ok-anchored.ensures.tree)) in
    let name_is : c.in-Ok.name ≡ c.in-Some.definition.name.sym = search rules in
    record { is_definition = c.requires; named = name_is ∙ ap (λ (d : Definition). d.name.sym) is; placed = ap (λ (d : Definition). d.name.span.range) (c.definition.view_is ∙ is) }

pub returns-clause-read : goal.returns-clause-read
returns-clause-read c =
    let is : c.in-Some.definition ≡ anchored_definition (numbered_in c.args.number c.args.tree.inner) =
    anchored_is c.args.number c.args.tree.inner c.in-Some.definition c.requires
    (sym c.in-Some.is ∙ c.definition_of.ensures ∙ ap definition_of (c.iter.ensures ∙ c.in_ok-anchored.ensures.tree)) in
    c.in_ok-rules.ensures.rules ∙ ap (rules_in c.args.edition) is
