use Rattle.std.proofs.Common.{◌≡◌, refl, arith, rules}
use Rattle.std.proofs.lemmas.Fn.{called_at}
use Rattle.tt_data.proofs.ForestLemmas.{size-joined}
use Rattle.tt_data.specs.Forest.{empty, leaf}
use Rattle.tt.specs.Rewriting.{IsAnswered}
use Rattle.tt.specs.Views.{forest}
use Rattle.tt.specs.declared.top_subtree.transform.TransformTtAction.TheVariants.{Keep, ReplaceWith}
use Rattle.tt.proofs.RewritingLemmas.{kept_leaf, put_leaf, followed}
use Rattle.tt.proofs.top_subtree.transform.put_leaf.Goals as goal

pub returns-in-Leaf-clause-ok : goal.returns-in-Leaf-clause-ok
returns-in-Leaf-clause-ok g c =
    let l = c.args.leaf in
    let asked : IsAnswered g.F.FnMut c.args.callback.now (kept_leaf l) c.callback.new.self =
    (Keep, called_at g.F.FnMut c.callback.ensures c.in-Keep.is, refl) in
    let same : c.in-Leaf.leaf ≡ l = search rules in
    followed _ _ c.push.result (λ _ is. (kept_leaf l, refl, asked, is)) (rw same at c.push.ensures.ok)

pub returns-in-Leaf-clause-tokens : goal.returns-in-Leaf-clause-tokens
returns-in-Leaf-clause-tokens g c = λ e.
    let l = c.args.leaf in
    let asked : IsAnswered g.F.FnMut c.args.callback.now (kept_leaf l) c.callback.new.self =
    (Keep, called_at g.F.FnMut c.callback.ensures c.in-Keep.is, refl) in
    (kept_leaf l, refl, asked, omega (arith, c.push.ensures.tokens.0 e, size-joined c.args.tree.now.tree.here (leaf l empty)))

pub returns-in-ReplaceWith-clause-ok : goal.returns-in-ReplaceWith-clause-ok
returns-in-ReplaceWith-clause-ok g c =
    let l = c.args.leaf in
    let v = c.in-ReplaceWith.trees in
    let asked : IsAnswered g.F.FnMut c.args.callback.now (put_leaf l (forest v)) c.callback.new.self =
    (ReplaceWith v, called_at g.F.FnMut c.callback.ensures c.in-ReplaceWith.is, refl) in
    followed _ _ c.extend_with_tt.result (λ _ is. (put_leaf l (forest v), refl, asked, is)) c.extend_with_tt.ensures.ok

pub returns-in-ReplaceWith-clause-tokens : goal.returns-in-ReplaceWith-clause-tokens
returns-in-ReplaceWith-clause-tokens g c = λ e.
    let l = c.args.leaf in
    let v = c.in-ReplaceWith.trees in
    let asked : IsAnswered g.F.FnMut c.args.callback.now (put_leaf l (forest v)) c.callback.new.self =
    (ReplaceWith v, called_at g.F.FnMut c.callback.ensures c.in-ReplaceWith.is, refl) in
    (put_leaf l (forest v), refl, asked, omega (arith, c.extend_with_tt.ensures.tokens.0 e, size-joined c.args.tree.now.tree.here (forest v)))
