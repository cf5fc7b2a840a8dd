use Rattle.std.proofs.Common.{◌≡◌, ◌∙◌, ap, refl, subst, sym, if◌then◌else◌, []}
use Rattle.std.specs.Prelude.{is_some, unwrap_or}
use Rattle.tt_data.specs.Walk.{walk}
use Rattle.expander_model.specs.mbe.Macros.{rules_of}
use Rattle.expander_model.specs.Definitions.{Definition}
use Rattle.expander_model.specs.Held.{anchored_definition, unnumbered}
use Rattle.expander_model.specs.Scoping.{is_left_out}
use Rattle.expander_model.specs.World.{rules_in}
use Rattle.expander_scope.specs.Editions.{IsRead}
use Rattle.expander_scope.specs.Outcomes.{numbered_of_known}
use Rattle.expander_scope.proofs.CallResultLemmas.{adds_defined}
use Rattle.expander_scope.proofs.HeldLemmas.{some_is}
use Rattle.expander_scope.proofs.LocalLemmas.{known_as}
use Rattle.expander_scope.proofs.expand.passing.define.Goals as goal

pub returns-clause-adds : goal.returns-clause-adds
returns-clause-adds g c = λ d locals is.
    let k = c.in_ok-known.known in
    let same : c.in-Some.definition ≡ d = some_is _ _ (c.in-Some.ensures ∙ is) in
    let numbered : numbered_of_known k ≡ unnumbered d = known_as k c.args.piece.now d c.in_ok-known.ensures.number c.in_ok-known.ensures.tree is in
    let read : rules_of k.rules ≡ rules_in c.args.env.now.scope.now.edition (anchored_definition (unnumbered d)) =
    c.in_ok-known.ensures.read ∙ ap (λ n. rules_in c.args.env.now.scope.now.edition (anchored_definition n)) numbered in
    let own : c.definition.inside.name.span ≡ d.name.span = ap (λ (x : Definition). x.name.span) (c.definition.view_is ∙ same) in
    let there : c.unwrap_or.result ≡ unwrap_or c.args.outer d.name.span = c.unwrap_or.ensures ∙ ap (unwrap_or c.args.outer) own in
    let told = record c.args.search.now.out { faults = c.tell_broken.new.faults } in
    let all = adds_defined g.S.EventSink.has_taken (is_some (rules_of k.rules).err) c.args.search.now.out told _ c.args.outer c.unwrap_or.result
    (if is_left_out c.args.standing then [] else walk c.definition.inside.piece) refl c.in_ok-tell_broken.ensures refl refl refl c.in_ok-show_definition.ensures in
    rw (sym read, sym there, sym (ap (λ (x : Definition). x.piece) (c.definition.view_is ∙ same))) all

pub returns-clause-read : goal.returns-clause-read
returns-clause-read g c = λ read.
    c.in_ok-push-in-Ok.ensures.read c.args.env.now.scope.now.edition
    (subst (IsRead c.args.env.now.scope.now.edition) (sym c.in-Ok.ensures.ok) c.in_ok-known.ensures.read) read
