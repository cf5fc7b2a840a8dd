use Rattle.std.proofs.Common.{◌∙◌, sym, ap, arith}
use Rattle.rustc_lexer.specs.Cursors.{next_guarded, past_guarded}
use Rattle.rustc_lexer.proofs.CursorLemmas.{guards}
use Rattle.rustc_lexer.proofs.HashReadLemmas.{plain_short}
use Rattle.rustc_lexer.proofs.ReadLemmas.{retold}
use Rattle.rustc_lexer.proofs.cursor.Cursor.guarded_double_quoted_string.Goals as goal

pub overflow_sub-token_len : goal.overflow_sub-token_len
overflow_sub-token_len c =
    let g = guards _ _ _ c.self.inside.pending _ _ c.count_hashes-n_hashes.ensures.utf8 c.count_hashes-n_hashes.ensures.read (c.guarded_string-found.ensures _ c.count_hashes-n_hashes.ensures.read) in
    g.shorter

pub overflow_cast-result : goal.overflow_cast-result
overflow_cast-result c =
    let g = guards _ _ _ c.self.inside.pending _ _ c.count_hashes-n_hashes.ensures.utf8 c.count_hashes-n_hashes.ensures.read (c.guarded_string-found.ensures _ c.count_hashes-n_hashes.ensures.read) in
    omega (arith, g.few, c.self.inside.small)

pub invariant_of-self-inside : goal.invariant_of-self-inside
invariant_of-self-inside c =
    let g = guards _ _ _ c.self.inside.pending _ _ c.count_hashes-n_hashes.ensures.utf8 c.count_hashes-n_hashes.ensures.read (c.guarded_string-found.ensures _ c.count_hashes-n_hashes.ensures.read) in
    (omega (arith, g.shorter, c.self.inside.small), (plain_short _ _ (omega arith), tt))

pub invariant_of-self-inside-in-None : goal.invariant_of-self-inside-in-None
invariant_of-self-inside-in-None c =
    let g = guards _ _ _ c.self.inside.pending _ _ c.count_hashes-n_hashes.ensures.utf8 c.count_hashes-n_hashes.ensures.read (c.guarded_string-found.ensures _ c.count_hashes-n_hashes.ensures.read) in
    (omega (arith, g.shorter, c.self.inside.small), (plain_short _ _ (omega arith), tt))

pub returns-in-Some-clause-guarded : goal.returns-in-Some-clause-guarded
returns-in-Some-clause-guarded c =
    let g = guards _ _ _ c.self.inside.pending _ _ c.count_hashes-n_hashes.ensures.utf8 c.count_hashes-n_hashes.ensures.read (retold (sym c.in-Some.is) (c.guarded_string-found.ensures _ c.count_hashes-n_hashes.ensures.read)) in
    sym g.guarded ∙ ap next_guarded c.self.view_is

pub returns-in-Some-clause-rest : goal.returns-in-Some-clause-rest
returns-in-Some-clause-rest c =
    let g = guards _ _ _ c.self.inside.pending _ _ c.count_hashes-n_hashes.ensures.utf8 c.count_hashes-n_hashes.ensures.read (retold (sym c.in-Some.is) (c.guarded_string-found.ensures _ c.count_hashes-n_hashes.ensures.read)) in
    sym g.past ∙ ap past_guarded c.self.view_is

pub returns-in-None-clause-rest : goal.returns-in-None-clause-rest
returns-in-None-clause-rest c =
    let g = guards _ _ _ c.self.inside.pending _ _ c.count_hashes-n_hashes.ensures.utf8 c.count_hashes-n_hashes.ensures.read (retold (sym c.in-None.is) (c.guarded_string-found.ensures _ c.count_hashes-n_hashes.ensures.read)) in
    sym g.past ∙ ap past_guarded c.self.view_is
