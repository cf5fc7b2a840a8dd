use Rattle.std.proofs.Common.{◌≡◌, ◌∙◌, ◌+◌, ◌-◌, ◌<◌, ◌≤◌, ◌++◌, ◌∷◌, ℕ, List, ap, arith, drop, get_or, length, refl, subst, take}
use Rattle.expander_reparse.specs.declared.piece.Piece.{Piece}
use Rattle.call_expansion.proofs.LastLemmas.{parts, same_at}
use Rattle.call_expansion.proofs.piece_call.last_at.Goals as goal

pub returns-then-pieces-last-clause-some : goal.returns-then-pieces-last-clause-some
returns-then-pieces-last-clause-some c =
    let own : List Piece = c.args.pieces.now in
    let i : ℕ = c.loop-count.count - 1 in
    let on : i + 1 ≡ c.loop-count.count = omega (arith, c.loop-count-test.true) in
    let inside : i < length own = omega (arith, c.loop-count-test.true, c.loop-count.invariant.within) in
    let here : Piece = c.index-pieces-last-then-pieces-last.result in (
      drop c.loop-count.count own,
      parts own i here _ inside c.index-pieces-last-then-pieces-last.is
          ∙ ap (λ (n : ℕ). take i own ++ here ∷ drop n own) on,
      subst (λ (o : Piece). o.start ≤ c.args.at)
          (same_at own i (get_or own i c.index-pieces-last.result) here c.index-pieces-last.result _ inside refl c.index-pieces-last-then-pieces-last.is)
          c.if-pieces-last.true,
      c.loop-count.invariant.behind,
    )
