-- A leaf that equals the one that is there changes nothing.
use Rattle.std.proofs.Common.{◌≡◌, ◌∙◌, ap, sym, drop, Some}
use Rattle.std.specs.Prelude.{slice_get}
use Rattle.tt_data.specs.declared.tree.TokenTree.TheVariants as token
use Rattle.tt_data.proofs.EqualityLemmas.{leaves}
use Rattle.token_bytes.specs.Items.{items}
use Rattle.tt.proofs.Replacing.{set_same}
use Rattle.tt.proofs.top_subtree.has_leaf.Goals as goal

pub returns-in-Some-Leaf : goal.returns-in-Some-Leaf
returns-in-Some-Leaf c = λ same.
    let equal : c.in-Some-Leaf.there ≡ c.args.leaf.now = (leaves _ _).0 (sym c.eq.ensures ∙ same) in
    let first : slice_get (drop c.args.at (items c.args.tokens)) 0 ≡ Some (token.Leaf c.args.leaf.now) =
    ap (λ ts. slice_get ts 0) (sym c.split_at.ensures.back) ∙ sym c.in-Some-Leaf.ensures ∙ ap Some c.in-Some-Leaf.field-0-is ∙ ap (λ l. Some (token.Leaf l)) equal in
    set_same (items c.args.tokens) c.args.at (token.Leaf c.args.leaf.now) first
