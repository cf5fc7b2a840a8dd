use Rattle.std.proofs.Common.{◌≡◌, ◌&&◌, rules, ◌∙◌, true, false, Some}
use Rattle.bridge.specs.Text.{is_char}
use Rattle.tt.specs.FirstTrees.{first_punct}
use Rattle.tt_data.specs.Lent.{ident_lent}
use Rattle.expander_model.specs.Calls.{is_root}
use Rattle.expander_model.proofs.CallAfterLemmas.{at_bang, at_none}
use Rattle.expander_model.proofs.call.call_after.Goals as goal

pub returns-then-mark-eq33 : goal.returns-then-mark-eq33
returns-then-mark-eq33 c =
    let name = ident_lent c.args.name in
    let at : first_punct c.args.trees.now ≡ Some (c.in_ok-mark.mark, c.in_ok-mark.after_mark) = search rules in
    let bang : is_char "!" c.in_ok-mark.mark ≡ true = search rules in
    c.group_call.ensures ∙ at_bang name c.in_ok-mark.mark c.in_ok-mark.after_mark c.args.trees.now at bang

pub returns : goal.returns
returns c =
    let name = ident_lent c.args.name in
    let at : first_punct c.args.trees.now ≡ Some (c.in_ok-mark.mark, c.in_ok-mark.after_mark) = search rules in
    let other : is_char "!" c.in_ok-mark.mark ≡ false = search rules in
    let test : (is_char ":" c.in_ok-mark.mark && is_root name) ≡ false = search rules in
    at_none name c.in_ok-mark.mark c.in_ok-mark.after_mark c.args.trees.now at other test
