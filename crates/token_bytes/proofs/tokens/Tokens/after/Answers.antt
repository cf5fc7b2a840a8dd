use Rattle.token_bytes.proofs.TokensLemmas.{after_place}
use Rattle.token_bytes.proofs.tokens.Tokens.after.Goals as goal

pub past-requires-clause-count : goal.past-requires-clause-count
past-requires-clause-count c = (after_place c.args.place c.args.self c.requires).0

pub past-requires-clause-bytes : goal.past-requires-clause-bytes
past-requires-clause-bytes c = (after_place c.args.place c.args.self c.requires).1
