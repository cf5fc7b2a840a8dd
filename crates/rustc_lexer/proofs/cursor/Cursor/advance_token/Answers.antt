use Rattle.std.proofs.Common.{◌≡◌, ◌∙◌, sym, ap, length, arith, rules}
use Rattle.rustc_lexer.specs.Cursors.{next_token, past_token}
use Rattle.rustc_lexer.proofs.CursorLemmas.{advances}
use Rattle.rustc_lexer.proofs.cursor.Cursor.advance_token.Goals as goal

pub overflow_sub-len : goal.overflow_sub-len
overflow_sub-len c =
    let some : length c.self.inside.rest.now ≡ 0 → ⊥ = search rules in
    (advances _ _ c.self.inside.pending _ c.first_lexeme-kind.ensures.utf8 some c.first_lexeme-kind.ensures.read).shorter

pub invariant_of-self-inside : goal.invariant_of-self-inside
invariant_of-self-inside c =
    let some : length c.self.inside.rest.now ≡ 0 → ⊥ = search rules in
    let a = advances _ _ c.self.inside.pending _ c.first_lexeme-kind.ensures.utf8 some c.first_lexeme-kind.ensures.read in
    (omega (arith, a.shorter, c.self.inside.small), (c.first_lexeme-kind.ensures.plain, tt))

pub later_suffix-requires : goal.later_suffix-requires
later_suffix-requires c =
    let some : length c.self.inside.rest.now ≡ 0 → ⊥ = search rules in
    let a = advances _ _ c.self.inside.pending _ c.first_lexeme-kind.ensures.utf8 some c.first_lexeme-kind.ensures.read in
    omega (arith, a.suffix, c.self.inside.small)

pub returns-clause-token : goal.returns-clause-token
returns-clause-token c =
    let some : length c.self.inside.rest.now ≡ 0 → ⊥ = search rules in
    let a = advances _ _ c.self.inside.pending _ c.first_lexeme-kind.ensures.utf8 some c.first_lexeme-kind.ensures.read in
    rw c.later_suffix.ensures (sym a.token ∙ ap next_token c.self.view_is)

pub returns-clause-rest : goal.returns-clause-rest
returns-clause-rest c =
    let some : length c.self.inside.rest.now ≡ 0 → ⊥ = search rules in
    let a = advances _ _ c.self.inside.pending _ c.first_lexeme-kind.ensures.utf8 some c.first_lexeme-kind.ensures.read in
    sym a.past ∙ ap past_token c.self.view_is
