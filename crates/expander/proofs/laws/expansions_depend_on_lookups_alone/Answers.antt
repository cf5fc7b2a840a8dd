use Rattle.expander_session.proofs.AgreementLemmas.{same_expansion}
use Rattle.expander_session.proofs.FindsLemmas.{expansion_by_finds, expansion_found}
use Rattle.expander.proofs.laws.expansions_depend_on_lookups_alone.Goals as goal

pub returns-clause-agreed : goal.returns-clause-agreed
returns-clause-agreed c = same_expansion

pub returns-clause-found : goal.returns-clause-found
returns-clause-found c = expansion_found

pub returns-clause-kept : goal.returns-clause-kept
returns-clause-kept c = expansion_by_finds
