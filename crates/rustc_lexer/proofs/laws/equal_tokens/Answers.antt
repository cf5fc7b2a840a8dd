use Rattle.rustc_lexer.proofs.EqualityLemmas.{guarded, kept, kinds, literals, tokens}
use Rattle.rustc_lexer.proofs.laws.equal_tokens.Goals as goal

pub returns-clause-kinds : goal.returns-clause-kinds
returns-clause-kinds c = kinds

pub returns-clause-literals : goal.returns-clause-literals
returns-clause-literals c = literals

pub returns-clause-tokens : goal.returns-clause-tokens
returns-clause-tokens c = tokens

pub returns-clause-guarded : goal.returns-clause-guarded
returns-clause-guarded c = guarded

pub returns-clause-kept : goal.returns-clause-kept
returns-clause-kept c = kept
