use Rattle.std.proofs.Common.{◌≡◌, length, arith, ap, rules}
use Rattle.rustc_lexer.proofs.TokenLemmas.{reads, no_tokens}
use Rattle.rustc_lexer.proofs.tokens.TokensIterator.next.Goals as goal

pub overflow_sub-len : goal.overflow_sub-len
overflow_sub-len c =
    let some : length c.args.self.now.rest.now ≡ 0 → ⊥ = search rules in
    (reads _ _ _ c.first_lexeme-kind.ensures.utf8 some c.first_lexeme-kind.ensures.read).shorter

pub invariant_of-self : goal.invariant_of-self
invariant_of-self c =
    let some : length c.args.self.now.rest.now ≡ 0 → ⊥ = search rules in
    let r = reads _ _ _ c.first_lexeme-kind.ensures.utf8 some c.first_lexeme-kind.ensures.read in
    record { small = omega (arith, r.shorter); plain = c.first_lexeme-kind.ensures.plain }

pub returns-then-is_empty-clause-steps : goal.returns-then-is_empty-clause-steps
returns-then-is_empty-clause-steps c =
    let none : length c.args.self.now.rest.now ≡ 0 = search rules in
    (no_tokens _ none, no_tokens _ none)

pub returns-clause-steps : goal.returns-clause-steps
returns-clause-steps c =
    let some : length c.args.self.now.rest.now ≡ 0 → ⊥ = search rules in
    (reads _ _ _ c.first_lexeme-kind.ensures.utf8 some c.first_lexeme-kind.ensures.read).tokens

pub returns-clause-goes : goal.returns-clause-goes
returns-clause-goes c =
    let some : length c.args.self.now.rest.now ≡ 0 → ⊥ = search rules in
    let r = reads _ _ _ c.first_lexeme-kind.ensures.utf8 some c.first_lexeme-kind.ensures.read in
    record { on = λ _. (tt, tt, omega (arith, ap length r.tokens)); keeps = tt; rests = λ _. tt }
