use Rattle.std.proofs.Common.{◌≡◌, ap, ◌∙◌, sym}
use Rattle.std.proofs.lemmas.Result.{IfOk-weaker}
use Rattle.tt_data.specs.Forest.{leaf, group}
use Rattle.tt_data.specs.declared.leaf.Leaf.TheVariants as as_leaf
use Rattle.mbe_rules.specs.Patterns.{dollar_head}
use Rattle.mbe_rules.specs.Reading.{edition_in, mode_of, head_read}
use Rattle.mbe_rules.proofs.parse.dollar.dollar.Goals as goal

pub returns-in-Some-Leaf-Punct : goal.returns-in-Some-Leaf-Punct
returns-in-Some-Leaf-Punct c =
    let a_leaf : c.copied-rest.result ≡ leaf c.in-Some-Leaf-Punct.field-0-0 c.next.new.self
    = rw c.in-Some-Leaf-Punct.field-0-is at c.in-Some-Leaf-Punct.ensures.steps in
    let trees : c.args.trees.now ≡ leaf (as_leaf.Punct c.in-Some-Leaf-Punct.second) c.next.new.self
    = sym c.copied-rest.ensures ∙ a_leaf ∙ ap (λ l. leaf l c.next.new.self) c.in-Some-Leaf-Punct.field-0-0-is in
    IfOk-weaker c.dollar_punct.result _ _
    (λ r known.
    known (edition_in c.args.editions)
    ∙ ap (λ f. head_read c.args.sign f (dollar_head (edition_in c.args.editions) (mode_of c.args.mode) f)) (sym trees))
    c.dollar_punct.ensures

pub returns-in-Some-Subtree : goal.returns-in-Some-Subtree
returns-in-Some-Subtree c =
    let a_group : (c.copied-rest.result ≡ group c.in-Some-Subtree.subtree.delimiter c.in-Some-Subtree.inner c.next.new.self) × _
    = rw c.in-Some-Subtree.field-0-is at c.in-Some-Subtree.ensures.steps in
    let trees = sym c.copied-rest.ensures ∙ a_group.0 in
    IfOk-weaker c.dollar_group.result _ _
    (λ r known.
    known (edition_in c.args.editions)
    ∙ ap (λ f. head_read c.args.sign f (dollar_head (edition_in c.args.editions) (mode_of c.args.mode) f)) (sym trees))
    c.dollar_group.ensures
