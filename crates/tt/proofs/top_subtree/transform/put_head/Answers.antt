use Rattle.std.proofs.Common.{arith, refl, None, Some}
use Rattle.std.proofs.lemmas.Fn.{called_at}
use Rattle.tt_data.proofs.ForestLemmas.{size-joined}
use Rattle.tt_data.specs.declared.tree.TokenTree.TheVariants as token
use Rattle.tt.specs.Rewriting.{Call, IsAnswered}
use Rattle.tt.specs.Views.{forest}
use Rattle.tt.specs.declared.top_subtree.transform.TransformTtAction.TheVariants.{Keep, ReplaceWith}
use Rattle.tt.proofs.RewritingLemmas.{handed}
use Rattle.tt.proofs.top_subtree.transform.put_head.Goals as goal

pub returns-in-Keep-clause-ok : goal.returns-in-Keep-clause-ok
returns-in-Keep-clause-ok g c =
    let call : Call = record { token = token.Subtree c.args.head; put = None } in
    let asked : IsAnswered g.F.FnMut c.args.callback.now call c.callback.new.self = (Keep, called_at g.F.FnMut c.callback.ensures c.in-Keep.is, refl) in
    (call, refl, refl, asked, c.in_ok-open-in-Keep.ensures.ok)

pub returns-in_err-open-in-Keep-clause-tokens : goal.returns-in_err-open-in-Keep-clause-tokens
returns-in_err-open-in-Keep-clause-tokens g c = λ e.
    let call : Call = record { token = token.Subtree c.args.head; put = None } in
    let asked : IsAnswered g.F.FnMut c.args.callback.now call c.callback.new.self = (Keep, called_at g.F.FnMut c.callback.ensures c.in-Keep.is, refl) in
    let full = c.in_err-open-in-Keep.ensures.tokens.0 (handed c.from_residual.result _ c.from_residual.ensures.1 e) in
    (call, refl, asked, omega (arith, full))

pub returns-clause-ok : goal.returns-clause-ok
returns-clause-ok g c =
    let v = c.in-ReplaceWith.trees in
    let call : Call = record { token = token.Subtree c.args.head; put = Some (forest v) } in
    let asked : IsAnswered g.F.FnMut c.args.callback.now call c.callback.new.self = (ReplaceWith v, called_at g.F.FnMut c.callback.ensures c.in-ReplaceWith.is, refl) in
    (call, refl, refl, asked, c.in_ok-extend_with_tt-in-ReplaceWith.ensures.ok)

pub returns-in_err-extend_with_tt-in-ReplaceWith-clause-tokens : goal.returns-in_err-extend_with_tt-in-ReplaceWith-clause-tokens
returns-in_err-extend_with_tt-in-ReplaceWith-clause-tokens g c = λ e.
    let v = c.in-ReplaceWith.trees in
    let call : Call = record { token = token.Subtree c.args.head; put = Some (forest v) } in
    let asked : IsAnswered g.F.FnMut c.args.callback.now call c.callback.new.self = (ReplaceWith v, called_at g.F.FnMut c.callback.ensures c.in-ReplaceWith.is, refl) in
    let full = c.in_err-extend_with_tt-in-ReplaceWith.ensures.tokens.0 (handed c.from_residual-in_err-extend_with_tt-in-ReplaceWith.result _ c.from_residual-in_err-extend_with_tt-in-ReplaceWith.ensures.1 e) in
    (call, refl, asked, omega (arith, full, size-joined c.args.tree.now.tree.here (forest v)))
