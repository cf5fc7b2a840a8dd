use Rattle.std.proofs.Common.{◌∙◌, ◌-◌, ap, arith, slice_get, sym}
use Rattle.token_bytes.specs.Items.{items}
use Rattle.token_bytes.proofs.TokensLemmas.{get_drop, length-items, no_last}
use Rattle.token_bytes.proofs.tokens.Tokens.last.Goals as goal

pub returns-then-self-eq0 : goal.returns-then-self-eq0
returns-then-self-eq0 c = sym (no_last (items c.args.self) (omega (arith, length-items c.args.self, c.if-self-eq0.true)))

pub behind-requires : goal.behind-requires
behind-requires c = omega (arith, length-items c.args.self)

pub returns : goal.returns
returns c =
    c.first.ensures ∙ ap (λ l. slice_get l 0) c.behind.ensures ∙ get_drop (c.args.self.count - 1) (items c.args.self)
    ∙ ap (λ n. slice_get (items c.args.self) (n - 1)) (sym (length-items c.args.self))
