use Rattle.std.proofs.Common.{◌≡◌, [], ◌∷◌, ap, refl, sym, subst, ◌∙◌, inl, inr, Some}
use Rattle.std.proofs.lemmas.Fn.{called_at}
use Rattle.tt.specs.Rewriting.{IsStarted, IsRewritten}
use Rattle.tt.specs.Tops.{forest_of_top}
use Rattle.tt.specs.Views.{forest, top_of}
use Rattle.tt.proofs.RewritingLemmas.{kept_group, put_group, top_kept, top_begun, top_put, only_is_top, followed, at_errors, asked_kept, asked_put}
use Rattle.tt.proofs.top_subtree.transform.transformed.Goals as goal

pub returns-in-Keep-clause-ok : goal.returns-in-Keep-clause-ok
returns-in-Keep-clause-ok g c =
    let t = c.args.tt.now in
    let asked = asked_kept g.F.FnMut _ _ t _ c.top_subtree-head.ensures (called_at g.F.FnMut c.callback.ensures c.in-Keep.is) in
    followed _ _ c.rewritten.result
    (λ tree (calls, last, made, all, top).
    let inside = subst (λ f. IsRewritten f calls tree.inner) c.token_trees.ensures all in
    let same = subst (λ d. IsRewritten (forest_of_top t) (kept_group t.delimiter t.inner ∷ calls) (forest_of_top (record { delimiter = d; inner = tree.inner })))
    (sym (top ∙ ap (λ h. h.delimiter) c.top_subtree-head.ensures)) (top_kept t calls tree.inner inside) in
    (kept_group t.delimiter t.inner ∷ calls, last, (c.callback.new.self, asked, made), same))
    c.rewritten.ensures.ok

pub returns-in-Keep-clause-one_group : goal.returns-in-Keep-clause-one_group
returns-in-Keep-clause-one_group g c =
    let t = c.args.tt.now in
    let asked = asked_kept g.F.FnMut _ _ t _ c.top_subtree-head.ensures (called_at g.F.FnMut c.callback.ensures c.in-Keep.is) in
    at_errors _ _ c.rewritten.result (kept_group t.delimiter t.inner, c.callback.new.self, asked, (refl, inl refl))

pub returns-in-Keep-clause-tokens : goal.returns-in-Keep-clause-tokens
returns-in-Keep-clause-tokens g c = λ e.
    let t = c.args.tt.now in
    let asked = asked_kept g.F.FnMut _ _ t _ c.top_subtree-head.ensures (called_at g.F.FnMut c.callback.ensures c.in-Keep.is) in
    let (calls, last, f, made, left, much) = c.rewritten.ensures.tokens e in (
      kept_group t.delimiter t.inner ∷ calls,
      last,
      record { delimiter = t.delimiter; inner = f },
      (c.callback.new.self, asked, made),
      top_begun t calls f (subst (λ h. IsStarted h calls f) c.token_trees.ensures left),
      much,
    )

pub returns-in-Some-clause-ok : goal.returns-in-Some-clause-ok
returns-in-Some-clause-ok g c =
    let t = c.args.tt.now in
    let v = c.in-ReplaceWith.trees in
    let asked = asked_put g.F.FnMut _ _ t _ v c.top_subtree-head.ensures (called_at g.F.FnMut c.callback.ensures c.in-ReplaceWith.is) in
    let one : forest v ≡ forest_of_top (top_of c.in-Some.group) = only_is_top (forest v) (top_of c.in-Some.group) c.in-Some.ensures in
    followed _ _ c.from_subtree.result
    (λ tree is. (
      put_group t.delimiter t.inner (forest v) ∷ [],
      c.callback.new.self,
      (c.callback.new.self, asked, refl),
      subst (IsRewritten (forest_of_top t) (put_group t.delimiter t.inner (forest v) ∷ [])) (one ∙ ap forest_of_top (sym is)) (top_put t (forest v)),
    ))
    c.from_subtree.ensures.ok

pub returns-in-Some-clause-one_group : goal.returns-in-Some-clause-one_group
returns-in-Some-clause-one_group g c =
    let t = c.args.tt.now in
    let v = c.in-ReplaceWith.trees in
    let asked = asked_put g.F.FnMut _ _ t _ v c.top_subtree-head.ensures (called_at g.F.FnMut c.callback.ensures c.in-ReplaceWith.is) in
    let one : forest v ≡ forest_of_top (top_of c.in-Some.group) = only_is_top (forest v) (top_of c.in-Some.group) c.in-Some.ensures in
    at_errors _ _ c.from_subtree.result
    (put_group t.delimiter t.inner (forest v), c.callback.new.self, asked, (refl, inr (top_of c.in-Some.group, ap Some one)))

pub returns-clause-malformed : goal.returns-clause-malformed
returns-clause-malformed g c = λ e.
    let t = c.args.tt.now in
    let v = c.in-ReplaceWith.trees in
    let asked = asked_put g.F.FnMut _ _ t _ v c.top_subtree-head.ensures (called_at g.F.FnMut c.callback.ensures c.in-ReplaceWith.is) in
    (put_group t.delimiter t.inner (forest v) ∷ [], c.callback.new.self, forest v, (c.callback.new.self, asked, refl), top_put t (forest v), sym c.in-None.ensures)
