use Rattle.std.proofs.Common.{◌∙◌, ap, arith, is_some, sym}
use Rattle.tt_data.specs.Lent.{leaf_lent}
use Rattle.token_bytes.specs.TokenLists.{leaf_in}
use Rattle.token_bytes.specs.Items.{items}
use Rattle.token_bytes.proofs.TokensLemmas.{leaf_drop, length-items, no_leaf, some_first}
use Rattle.token_bytes.proofs.tokens.Tokens.is_leaf_at.Goals as goal

pub returns-then-self-at-clause-leaf : goal.returns-then-self-at-clause-leaf
returns-then-self-at-clause-leaf c =
    sym (no_leaf c.args.at (items c.args.self) (omega (arith, c.if-self-at.true, length-items c.args.self)))

pub behind-requires : goal.behind-requires
behind-requires c = omega (arith, c.if-self-at.false, length-items c.args.self)

pub returns-clause-leaf : goal.returns-clause-leaf
returns-clause-leaf c =
    c.is_some.ensures ∙ some_first (λ p. (leaf_lent p.0, items p.1)) _ _ c.lent_leaf.ensures ∙ ap (λ l. is_some (leaf_in l)) c.behind.ensures
    ∙ leaf_drop c.args.at (items c.args.self)
