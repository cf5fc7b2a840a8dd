use Rattle.std.proofs.Common.{◌≡◌, ◌∙◌, ◌-◌, ◌+◌, ◌<◌, ap, arith}
use Rattle.token_bytes.specs.TokenLists.{head_at}
use Rattle.token_bytes.specs.Items.{items}
use Rattle.token_bytes.proofs.MarkLemmas.{head_at-drop}
use Rattle.token_bytes.proofs.TokensLemmas.{before_head}
use Rattle.token_bytes.proofs.tokens.Tokens.head_before.Goals as goal

pub overflow_sub-before-2 : goal.overflow_sub-before-2
overflow_sub-before-2 c =
    let some : 0 < c.args.place.count = omega (arith, c.if-place-eq0.false) in
    (before_head c.args.place (items c.args.self) c.requires.marked some (c.requires.head some)).0

pub after-requires : goal.after-requires
after-requires c =
    let some : 0 < c.args.place.count = omega (arith, c.if-place-eq0.false) in
    (before_head c.args.place (items c.args.self) c.requires.marked some (c.requires.head some)).1

pub returns-clause-some : goal.returns-clause-some
returns-clause-some c = λ some.
    let at : c.args.place.count - 1 + 0 ≡ c.args.place.count - 1 = omega arith in
    c.first_head.ensures ∙ ap (λ l. head_at l 0) c.after.ensures
    ∙ head_at-drop (c.args.place.count - 1) (items c.args.self) 0 ∙ ap (head_at (items c.args.self)) at
