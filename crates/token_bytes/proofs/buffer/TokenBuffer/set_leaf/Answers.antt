use Rattle.std.proofs.Common.{◌∙◌, ◌++◌, ◌∷◌, ap, sym, take}
use Rattle.std.proofs.lemmas.List.{set_split}
use Rattle.tt_data.specs.declared.tree.TokenTree.TheVariants as token
use Rattle.token_bytes.specs.Items.{items}
use Rattle.token_bytes.proofs.TokensLemmas.{leaf_below}
use Rattle.token_bytes.proofs.buffer.TokenBuffer.set_leaf.Goals as goal

pub returns-clause-ok : goal.returns-clause-ok
returns-clause-ok c =
    let leaf = token.Leaf c.args.leaf in
    c.drop.view_is ∙ c.in_ok-replaced.ensures
    ∙ ap (λ l. l ++ leaf ∷ items c.around.result.1) c.around.ensures.before
    ∙ ap (λ l. take c.args.at c.args.self.now ++ leaf ∷ l) c.around.ensures.after
    ∙ sym (set_split c.args.self.now c.args.at leaf (leaf_below c.args.at c.args.self.now c.requires.leaf))
