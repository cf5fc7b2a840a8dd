use Rattle.std.proofs.Common.{◌≡◌, Global, List, get_or, rules, subst}
use Rattle.std.specs.Prelude.{IfSome}
use Rattle.std.specs.declared.rc.Rc.{Rc}
use Rattle.expander_scope.specs.declared.macro_def.MacroDef.{MacroDef}
use Rattle.expander_session.proofs.ScopePieceLemmas.{listed_got}
use Rattle.expander_session.proofs.cache.Cache.definition_at.Goals as goal

pub returns-in-Some-Definition : goal.returns-in-Some-Definition
returns-in-Some-Definition c = λ t leads.
    let items : c.deref.result.now ≡ c.args.self.now.definitions.items = search rules in
    let which = rw c.in-Some-Definition.is at c.in-Some-Definition.field-0-is in
    listed_got c.args.self.now.by_tree c.args.self.now.definitions.items c.in-Some-Definition.i t c.requires.listed
    (rw which at (rw c.in-Some-Definition.is at leads)) c.get.result
    (subst (λ (ks : List (Rc MacroDef Global)). IfSome c.get.result (λ k. k.now ≡ get_or ks c.in-Some-Definition.i k.now)) items c.get.ensures.lookup.1)
