use Rattle.std.proofs.Common.{arith, ◌≡◌, subst, false, true, List}
use Rattle.std.proofs.lemmas.List.{take_all}
use Rattle.session_workspace.specs.OpenTexts.{HaveNone, is_named}
use Rattle.session_workspace.specs.declared.open_text.OpenText.{OpenText}
use Rattle.session_workspace.proofs.TextLemmas.{first_at, none_more}
use Rattle.session_workspace.proofs.workspace.find.Goals as goal

pub returns-then-is_it : goal.returns-then-is_it
returns-then-is_it c =
    let named : is_named c.args.uri.now c.index-texts-i.result ≡ true = cc in
    first_at c.args.uri.now c.args.texts.now c.loop-i.i c.index-texts-i.result (omega arith)
    c.index-texts-i.is c.loop-i.invariant named

pub loop-i-preserved : goal.loop-i-preserved
loop-i-preserved c =
    let other : is_named c.args.uri.now c.index-texts-i.result ≡ false = cc in
    none_more c.args.uri.now c.args.texts.now c.loop-i.i c.index-texts-i.result (omega arith)
    c.index-texts-i.is c.loop-i.invariant other

pub returns : goal.returns
returns c =
    subst (λ (ts : List OpenText). HaveNone c.args.uri.now ts)
    (take_all c.loop-i.i c.args.texts.now (omega arith)) c.loop-i.invariant
