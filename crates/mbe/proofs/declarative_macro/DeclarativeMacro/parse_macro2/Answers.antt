-- What is read was read of a definition, in the editions that were asked for.
use Rattle.std.proofs.Common.{rules, ap, ◌∙◌, map, ◌<◌, ◌^◌, option_map}
use Rattle.tt_data.specs.Forest.{size}
use Rattle.mbe_rules.specs.Ops.{rule_of, rules_of}
use Rattle.mbe.specs.Keys.{keys_of}
use Rattle.mbe.specs.Macros.{edition_of}
use Rattle.mbe.proofs.MacroLemmas.{macro-sound}
use Rattle.mbe.proofs.declarative_macro.DeclarativeMacro.parse_macro2.Goals as goal

pub invariant_of-result : goal.invariant_of-result
invariant_of-result g c =
    let e = edition_of c.ctx_edition-written.result c.ctx_edition-made.result in
    let read = c.in_ok-rules.ensures.ok e (λ context x p. search rules) in
    let head = c.top_subtree-head.type_inv in
    let count = ap (λ s. s.len) c.top_subtree-head.ensures in
    let few : size c.args.body.now.inner < 2 ^ 32 = search rules in
    record { sound = macro-sound e (option_map (λ t. t.now.inner) c.args.args) c.args.body.now.inner (rules_of c.in_ok-rules.rules) read few; keyed = c.in_ok-keys.ensures ∙ ap (λ rs. keys_of (map rule_of rs)) c.deref.ensures.value }
